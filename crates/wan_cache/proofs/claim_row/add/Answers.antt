use Rattle.std.proofs.Common.{ℕ, subst}
use Rattle.wan_cache.specs.RecentUses.{ForgetsUse}
use Rattle.wan_cache.proofs.Orders.{forgotten}
use Rattle.wan_cache.proofs.claim_row.add.Goals as goal

pub returns-in-Err-clause-err_uses : goal.returns-in-Err-clause-err_uses
returns-in-Err-clause-err_uses g c =
    let e = c.in_ok-used.ensures in
    let f = subst (λ (n : ℕ). ForgetsUse c.claim.new.self c.forget.new.self n) e.number c.forget.ensures.gone in
    forgotten c.args.uses.now.keys c.claim.new.self.keys c.forget.new.self.keys c.args.uses.now.next e.ok.free e.ok.others f.left f.others
