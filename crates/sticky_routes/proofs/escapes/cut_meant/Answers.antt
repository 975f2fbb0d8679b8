use Rattle.std.proofs.Common.{ℕ, List, subst}
use Rattle.sticky_routes.specs.Escapes.{HasFirst}
use Rattle.sticky_routes.proofs.Marks.{skipped_none, skipped_more}
use Rattle.sticky_routes.proofs.escapes.cut_meant.Goals as goal

pub loop-at-init : goal.loop-at-init
loop-at-init c = skipped_none c.args.mark c.args.text.now

pub loop-at-preserved : goal.loop-at-preserved
loop-at-preserved c =
    let byte = c.first_meant-byte.result.0 in
    let width = c.first_meant-byte.result.1 in
    skipped_more c.args.mark c.args.text.now c.loop-at.at byte width c.loop-at.invariant
    (subst (λ (t : List ℕ). HasFirst t byte width) c.split_at.ensures.back c.first_meant-byte.ensures) c.if-byte-mark.false
