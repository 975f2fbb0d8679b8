use Rattle.std.proofs.Common.{rules, ◌≡◌, ◌∙◌, sym, ap, subst}
use Rattle.std.specs.Slots.{slots_items}
use Rattle.slot_cache.specs.SlotCache.{SlotState}
use Rattle.slot_share.specs.Shares.{ShareState}
use Rattle.slot_share.specs.Closing.{Closes}
use Rattle.slot_share.proofs.ClosesAs.{closes}
use Rattle.slot_share.proofs.shared.Shared.close.Goals as goal

pub returns : goal.returns
returns g c =
    let s = c.self.inside in
    let seats_are : c.join_all-chair.result.me.0.rank.parts ≡ s.table.shared.key.seats = c.join_all-chair.ensures.parts ∙ (c.requires.seats.count ∙ ap (λ v. v.start.seats) (sym c.self.view_is)) in
    subst (λ (x : ShareState g.row.P.Denot × SlotState g.row.P.Denot). Closes g.M.Marker.is_true x.0 c.args.seats.items c.args.now x.1) (λ i. (c.self.view_is i, sym c.from_parts.ensures.state i))
    (closes g.M.Marker.is_true s.table.shared.key s.table.shared.table_id s.rest.slots s.rest.hold_off s.rest.greatest c.args.seats.items c.join_all-chair.result.me.0
    c.join_all-chair.result.id c.args.now c.word.result c.word-2.result (slots_items c.close_with-closed.result.words) (slots_items c.close_with-closed.result.slots) _ c.take_rows.new.parts
    c.close_with-closed.ensures.values.2 seats_are c.join_all-chair.ensures.carries.1 c.join_all-chair.ensures.gathers c.self.invariant.0.slots_are c.self.invariant.0.size_is
    c.word.ensures c.word-2.ensures c.take_rows.ensures.taken (search rules) (search rules) (search rules) (search rules) (search rules))
