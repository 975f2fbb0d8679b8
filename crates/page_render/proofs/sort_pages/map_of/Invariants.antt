use Rattle.std.proofs.Common.{◌≡◌, ◌≤◌, ℕ, List, length, drop}
use Rattle.std.specs.BTreeMap.{get}
use Rattle.wiki_titles.specs.Order.{bytes_cmp}
use Rattle.page_render.specs.AsModel.{template_text}
use Rattle.page_render.proofs.sort_pages.map_of.Given as goal

abbrev pub invariant-loop-place : goal.invariant-loop-place
invariant-loop-place l = (l.place ≤ length l.pages) × ((title : List ℕ) → get bytes_cmp l.map title ≡ template_text (drop l.place l.pages) title)

abbrev pub decreases-loop-place : goal.decreases-loop-place
decreases-loop-place l = l.place
