use Rattle.std.proofs.Common.{◌≡◌, ◌∙◌, ◌+◌, ◌-◌, ap, arith, ℕ, List, drop}
use Rattle.std.specs.BTreeMap.{get}
use Rattle.wiki_titles.specs.Order.{bytes_cmp}
use Rattle.page_render.specs.AsModel.{template_text}
use Rattle.page_render.proofs.Sorting.{entered}
use Rattle.page_render.proofs.sort_pages.map_of.Goals as goal

pub loop-place-preserved : goal.loop-place-preserved
loop-place-preserved c =
    let place = c.loop-place.place - 1 in
    let pairs = c.args.pages.now in
    let back : (t : List ℕ) → get bytes_cmp c.loop-place.map t ≡ template_text (drop (place + 1) pairs) t =
    λ t. c.loop-place.invariant.1 t ∙ ap (λ k. template_text (drop k pairs) t) (let z : c.loop-place.place ≡ place + 1 = omega (arith, c.loop-place-test.true) in z) in (
      omega (arith, c.loop-place.invariant.0),
      λ title. entered c.loop-place.map c.enter.new.map pairs place title c.index-pages-place.result c.index-pages-place-in-loop-place.result (omega (arith, c.loop-place.invariant.0, c.loop-place-test.true)) back c.in_ok-enter.ensures,
    )
