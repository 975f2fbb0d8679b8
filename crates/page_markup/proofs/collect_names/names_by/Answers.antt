use Rattle.std.proofs.Common.{◌<◌, ◌+◌, arith, length, sym, subst}
use Rattle.std.specs.Prelude.{codes}
use Rattle.std.proofs.lemmas.List.{length-replicate}
use Rattle.page_markup.specs.Names.{AreRecent, nothing}
use Rattle.page_markup.proofs.Named.{HasNames, begins_named, begins_recent, if_named, name_more}
use Rattle.page_markup.proofs.Places.{remembers_past}
use Rattle.page_markup.proofs.collect_names.names_by.Goals as goal

pub loop-at-init : goal.loop-at-init
loop-at-init c = (
  subst (HasNames c.args.lines c.args.text.now 0) (sym c.new.ensures.items) (begins_named c.args.lines c.args.text.now),
  subst (λ spans. 0 < length spans) (sym c.in_ok-nowhere.ensures) (subst (λ n. 0 < n) (sym (length-replicate 64 nothing)) (omega arith)),
  subst (AreRecent c.args.lines c.args.text.now c.new.result.items) (sym c.in_ok-nowhere.ensures) (begins_recent c.args.lines c.args.text.now c.new.result.items 64),
  (λ wrong. let none : ⊥ = omega (arith, wrong) in absurd none),
)

pub loop-at-preserved : goal.loop-at-preserved
loop-at-preserved c = (
  name_more c.args.lines c.args.text.now c.loop-at.found.titles.items c.read_name.new.found.titles.items c.loop-at.at c.loop-at-test.true c.in_ok-known.ensures.names c.loop-at.invariant.0,
  c.in_ok-known.ensures.some,
  c.in_ok-known.ensures.recent,
  remembers_past (codes "}}") c.args.text.now (c.loop-at.at + 2) (c.loop-at.at + 1 + 2) c.in_ok-known.known c.in_ok-known.ensures.remembers (omega arith),
)

pub returns : goal.returns
returns c =
    if_named c.in_order.result (λ names. names.items) c.args.lines c.args.text.now c.loop-at.found.titles.items c.loop-at.at (let end = c.loop-at-test.false in omega (arith, end)) c.loop-at.invariant.0 c.in_order.ensures
