use Rattle.std.proofs.Common.{ℕ, sym, subst, ◌∙◌}
use Rattle.wan_cache.specs.RecentUses.{key_in}
use Rattle.wan_cache.specs.CacheRow.{IsRenewed}
use Rattle.wan_cache.specs.MapCache.{row_at}
use Rattle.wan_cache.proofs.Claimed.{known_old}
use Rattle.wan_cache.proofs.claim_row.claim_old.Goals as goal

pub returns-clause-known : goal.returns-clause-known
returns-clause-known g c =
    let e = c.in_ok-used.ensures.ok in
    let key = subst (λ (n : ℕ). IsRenewed (row_at c.args.rows.now c.args.key.now) (row_at c.renew.new.rows c.args.key.now) n) c.in_ok-used.ensures.number c.renew.ensures.key in
    let f = c.forget.ensures.gone in
    let keys = key_in c.args.uses.now.keys in
    let new_keys = key_in c.forget.new.self.keys in
    known_old (row_at c.args.rows.now) (row_at c.renew.new.rows) keys new_keys c.args.uses.now.next c.args.key.now c.requires.known e.free
    key c.renew.ensures.others c.args.before c.requires.there
    (λ apart. f.others c.args.uses.now.next (λ s. apart (sym s)) ∙ e.newest)
    (λ p fresh other. f.others p other ∙ e.others p fresh)
    f.left
