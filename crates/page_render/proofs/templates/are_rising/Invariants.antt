use Rattle.std.proofs.Common.{◌≡◌, ◌<◌, ◌+◌, ℕ, List, get_or}
use Rattle.std.specs.declared.cmp.Ordering.TheVariants.{Less}
use Rattle.wiki_titles.specs.Order.{bytes_cmp}
use Rattle.page_render.proofs.templates.are_rising.Given as goal

abbrev pub invariant-loop-at : goal.invariant-loop-at
invariant-loop-at l = (i : ℕ) (d : List ℕ × List ℕ) → i + 1 < l.at → bytes_cmp (get_or l.pages i d).0 (get_or l.pages (i + 1) d).0 ≡ Less
