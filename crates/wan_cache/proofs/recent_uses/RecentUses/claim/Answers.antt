use Rattle.std.proofs.Common.{◌+◌, refl, subst}
use Rattle.wan_cache.specs.RecentUses.{UseOrder, AddsUse}
use Rattle.wan_cache.proofs.Orders.{below_next, next_free}
use Rattle.wan_cache.proofs.recent_uses.RecentUses.claim.Goals as goal

pub invariant_of-self-2 : goal.invariant_of-self-2
invariant_of-self-2 c =
    let i = c.self.inside in
    below_next i.keys.entries c.add_use.new.keys.entries i.next c.self.invariant c.in_ok-add_use.ensures.others

pub returns-clause-ok : goal.returns-clause-ok
returns-clause-ok c =
    let i = c.self.inside in
    let e = c.in_ok-add_use.ensures in
    let new : UseOrder = record { keys = c.add_use.new.keys.entries; next = i.next + 1 } in
    subst (λ (o : UseOrder). AddsUse o new c.args.key.now) c.self.view_is
    (record { free = next_free i.keys.entries i.next c.self.invariant; newest = e.newest; others = e.others; next = refl })
