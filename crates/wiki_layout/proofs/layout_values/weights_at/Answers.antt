use Rattle.std.proofs.Common.{◌≡◌, ◌<◌, ◌≤◌, ◌∙◌, true, length, codes, subst, sym, ap}
use Rattle.std.specs.Prelude.{IfSome}
use Rattle.toml.specs.View.{table_view}
use Rattle.wiki_model.specs.Limits.{replicas_max}
use Rattle.wiki_layout.specs.Layout.{value_at, weights_or_one, are_weights}
use Rattle.wiki_layout.proofs.KeptRanges.{weights_kept}
use Rattle.wiki_layout.proofs.Weights.{weights_counted}
use Rattle.wiki_layout.proofs.layout_values.weights_at.Goals as goal

pub weights_or_one-requires : goal.weights_or_one-requires
weights_or_one-requires c = subst (λ o. IfSome o (λ v. are_weights v ≡ true)) (sym c.value_at.ensures)
    (weights_kept (table_view c.args.document.now) c.args.name.now c.requires.kept c.requires.kind)

pub returns-clause-some : goal.returns-clause-some
returns-clause-some c =
    let value = value_at c.args.name.now (codes "weights") (table_view c.args.document.now) in
    let is =
    weights_counted value
    (weights_kept (table_view c.args.document.now) c.args.name.now c.requires.kept c.requires.kind) in
    subst (λ w. 0 < length w)
    (sym (c.new.ensures ∙ (c.in_ok-weights.ensures ∙ ap weights_or_one c.value_at.ensures))) is.0

pub returns-clause-few : goal.returns-clause-few
returns-clause-few c =
    let value = value_at c.args.name.now (codes "weights") (table_view c.args.document.now) in
    let is =
    weights_counted value
    (weights_kept (table_view c.args.document.now) c.args.name.now c.requires.kept c.requires.kind) in
    subst (λ w. length w ≤ replicas_max)
    (sym (c.new.ensures ∙ (c.in_ok-weights.ensures ∙ ap weights_or_one c.value_at.ensures))) is.1
