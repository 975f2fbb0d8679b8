use Rattle.std.proofs.Common.{◌≡◌, ◌≤◌, length, take, subst, sym, ◌∙◌}
use Rattle.http_head.specs.Window.{first_lines}
use Rattle.wiki_model.specs.Limits.{head_max}
use Rattle.http_head.specs.Input.{window, line_limit}
use Rattle.http_head.proofs.Windows.{seen_is, limit_within}
use Rattle.http_head.proofs.window.window.Goals as goal

pub returns-clause-within : goal.returns-clause-within
returns-clause-within c =
    limit_within c.first_lines-lines.result.length head_max c.args.bytes.now (subst (λ z. c.first_lines-lines.result.length ≤ length z) c.limited-seen.ensures c.first_lines-lines.ensures.within)

pub returns-clause-bytes : goal.returns-clause-bytes
unfolding window
returns-clause-bytes c =
    let k = c.first_lines-lines.result.length in
    let small = subst (λ z. k ≤ length z) c.limited-seen.ensures c.first_lines-lines.ensures.within in
    sym (seen_is k head_max c.args.bytes.now small)
    ∙ subst (λ z. take k z ≡ first_lines line_limit z) c.limited-seen.ensures c.first_lines-lines.ensures.bytes
