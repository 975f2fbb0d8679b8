use Rattle.std.proofs.Common.{rules, ℕ, ◌≡◌, ◌+◌, ◌<◌, ◌≤◌, length, ap, subst}
use Rattle.atomic_table.specs.Table.{Me}
use Rattle.slot_cache.specs.Slots.{slot_of}
use Rattle.wan_value.specs.AsModel.{ask_of}
use Rattle.slot_share.specs.declared.view.Rank.{Rank}
use Rattle.slot_share.specs.declared.view.View.{View}
use Rattle.slot_share.specs.Values.{Row}
use Rattle.slot_share.specs.Calls.{Looks, IsTrueAnswer, IsMetAnswer}
use Rattle.slot_share.proofs.Truths.{look_tells, busy_tells, never_busy}
use Rattle.slot_share.proofs.shared.Shared.look.Given.{Over}
use Rattle.slot_share.proofs.shared.Shared.look.Goals as goal

told : (g : Over) (c : goal.After-look_claimed g) → Looks g.M.Marker.is_true c.args.seat.now.view c.look_claimed.new.chair.me.0 (slot_of c.args.key.now c.args.self.now.slots) c.args.self.now.hold_off c.args.now (ask_of c.args.ask.now) c.args.key.now c.look_claimed.result
    × IsTrueAnswer g.M.Marker.is_true c.args.key.now c.look_claimed.result × IsMetAnswer c.look_claimed.new.chair.me.0 c.args.self.now.slots c.args.key.now c.look_claimed.result
told g c =
    let long : length c.seat.inside.chair.me.0.marks.seen ≡ c.self.inside.rest.slots + 3 = search rules in
    look_tells g.M.Marker.is_true c.args.seat.now.view c.seat.inside.chair.me.0 c.load_marks-loaded.new.chair.me.0 c.look_claimed.new.chair.me.0
    c.args.self.now.slots c.self.inside.rest.slots c.claim_for-at.result.slot c.args.self.now.hold_off c.self.inside.rest.hold_off c.args.now
    c.load_marks-loaded.result c.times-times.result (ask_of c.args.ask.now) c.args.key.now c.look_claimed.result
    (ap (λ s. s.view) c.seat.view_is) (ap (λ s. s.slots) c.self.view_is) (ap (λ s. s.hold_off) c.self.view_is)
    c.claim_for-at.ensures.slot c.claim_for-at.ensures.below long (ap (λ (m : Me (Row g.row.P.Denot) (View g.row.P.Denot)). m.0) c.load_marks-loaded.ensures.seat) c.times-times.ensures c.load_marks-loaded.ensures.least c.look_claimed.ensures.answers

pub returns-clause-looks : goal.returns-clause-looks
returns-clause-looks g c = (told g c).0

pub returns-clause-truth : goal.returns-clause-truth
returns-clause-truth g c = (told g c).1

pub returns-clause-met : goal.returns-clause-met
returns-clause-met g c = (told g c).2

pub returns-clause-busy : goal.returns-clause-busy
returns-clause-busy g c = busy_tells g.M.Marker.is_true c.args.seat.now.view c.seat.inside.chair.me.0 c.load_marks-loaded.new.chair.me.0 c.look_claimed.new.chair.me.0
    c.args.self.now.slots c.self.inside.rest.slots c.claim_for-at.result.slot c.self.inside.rest.hold_off c.args.now
    c.load_marks-loaded.result c.times-times.result (ask_of c.args.ask.now) c.args.key.now c.look_claimed.result
    (ap (λ s. s.view) c.seat.view_is) (ap (λ s. s.slots) c.self.view_is) c.claim_for-at.ensures.slot (ap (λ (m : Me (Row g.row.P.Denot) (View g.row.P.Denot)). m.0) c.load_marks-loaded.ensures.seat) c.look_claimed.ensures.answers

pub returns-clause-alone : goal.returns-clause-alone
returns-clause-alone g c one holder is =
    let s = c.seat.invariant in
    let rank : c.seat.inside.chair.me.0.rank ≡ c.args.seat.now.view.rank = ap (λ s. s.view.rank) c.seat.view_is in
    never_busy c.args.seat.now.view c.look_claimed.new.chair.me.0 (slot_of c.args.key.now c.args.self.now.slots) holder one
    (subst (λ (r : Rank). 0 < r.number) rank (subst (λ (n : ℕ). 0 < n) s.number_is s.positive))
    (subst (λ (r : Rank). r.number ≤ r.seats) rank (subst (λ (n : ℕ). n ≤ c.seat.inside.chair.me.0.rank.seats) s.number_is s.within))
    (returns-clause-busy g c holder is)
