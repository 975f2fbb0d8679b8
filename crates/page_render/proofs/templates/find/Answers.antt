use Rattle.std.proofs.Common.{◌∙◌, ◌<◌, ◌+◌, ◌-◌, ◌/◌, ap, sym, arith, Some}
use Rattle.std.specs.declared.cmp.Ordering.TheVariants.{Less, Equal, Greater}
use Rattle.page_render.specs.Templates.{title_wanted}
use Rattle.page_render.proofs.Lookups.{below_on, above_on, found_there, none_between, at_middle}
use Rattle.page_render.proofs.templates.find.Goals as goal

pub loop-low-preserved-in-Less : goal.loop-low-preserved-in-Less
loop-low-preserved-in-Less c =
    let low = c.loop-low.low in
    let high = c.loop-low.high in
    let middle = low + (high - low) / 2 in
    let inside : middle < high = omega (arith, c.loop-low-test.true) in
    record {
      order = omega (arith, inside);
      within = c.loop-low.invariant.within;
      below = below_on c.args.pages.now (title_wanted c.args.wanted) middle c.index-pages-middle.result c.requires (omega (arith, inside, c.loop-low.invariant.within))
          (at_middle c.args.pages.now (title_wanted c.args.wanted) middle c.index-pages-middle.result c.text.result.now Less c.index-pages-middle.is c.text.ensures.value (sym c.order_of.ensures ∙ c.in-Less.is));
      above = c.loop-low.invariant.above;
    }

pub loop-low-preserved : goal.loop-low-preserved
loop-low-preserved c =
    let low = c.loop-low.low in
    let high = c.loop-low.high in
    let middle = low + (high - low) / 2 in
    let inside : middle < high = omega (arith, c.loop-low-test.true) in
    record {
      order = omega arith;
      within = omega (arith, inside, c.loop-low.invariant.within);
      below = c.loop-low.invariant.below;
      above = above_on c.args.pages.now (title_wanted c.args.wanted) middle c.index-pages-middle.result c.requires
          (at_middle c.args.pages.now (title_wanted c.args.wanted) middle c.index-pages-middle.result c.text.result.now Greater c.index-pages-middle.is c.text.ensures.value (sym c.order_of.ensures ∙ c.in-Greater.is));
    }

pub returns-in-Equal : goal.returns-in-Equal
returns-in-Equal c =
    let low = c.loop-low.low in
    let high = c.loop-low.high in
    let middle = low + (high - low) / 2 in
    let inside : middle < high = omega (arith, c.loop-low-test.true) in
    sym (found_there c.args.pages.now (title_wanted c.args.wanted) middle c.index-pages-middle.result c.requires (omega (arith, inside, c.loop-low.invariant.within))
    (at_middle c.args.pages.now (title_wanted c.args.wanted) middle c.index-pages-middle.result c.text.result.now Equal c.index-pages-middle.is c.text.ensures.value (sym c.order_of.ensures ∙ c.in-Equal.is))
    ∙ ap (λ p. Some p.1) (sym c.index-pages-middle.is))

pub returns : goal.returns
returns c =
    sym (none_between c.args.pages.now (title_wanted c.args.wanted) c.loop-low.low c.loop-low.high (omega (arith, c.loop-low-test.false)) c.loop-low.invariant.below c.loop-low.invariant.above)
