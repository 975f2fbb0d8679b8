use Rattle.std.proofs.Common.{◌∙◌, ◌+◌, ap, sym, drop}
use Rattle.wiki_model.specs.Bytes.{begins}
use Rattle.page_markup.specs.Mark.{next_place}
use Rattle.page_markup.proofs.Cuts.{opening_cut, closing_cut}
use Rattle.page_markup.proofs.closing_places.brackets_within.Goals as goal

pub returns-clause-cuts : goal.returns-clause-cuts
returns-clause-cuts c =
    let text = c.args.text.now in (
      opening_cut c.args.names text c.args.at c.utf8.text (ap (λ m. begins m (drop c.args.at text)) (sym c.opening.ensures) ∙ sym c.stands_at.ensures.value ∙ c.if-not-stands_at.false),
      closing_cut c.args.names text (c.args.at + 2) c.next_place-close.result (c.next_place-close.ensures.place ∙ ap (λ m. next_place m (c.args.at + 2) text) c.closing.ensures) c.next_place-close.ensures.end,
    )
