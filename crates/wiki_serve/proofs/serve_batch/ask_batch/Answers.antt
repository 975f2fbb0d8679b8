use Rattle.std.proofs.Common.{List, map, Some, sym, ap, ◌∙◌}
use Rattle.wiki_model.specs.Bytes.{first_of_list}
use Rattle.region_state.specs.declared.ask.ViewAsk.{ViewAsk}
use Rattle.wiki_serve.specs.declared.serve_batch.Drawn.{Drawn}
use Rattle.wiki_serve.specs.Callers.{view_by}
use Rattle.wiki_serve.specs.BatchSteps.{word_of}
use Rattle.wiki_serve.proofs.serve_batch.ask_batch.Goals as goal

pub returns-clause-word : goal.returns-clause-word
returns-clause-word g c =
    sym (ap (λ (ds : List Drawn). first_of_list (map word_of ds)) c.deref.ensures.value) ∙ c.first_word.ensures
    ∙ ap (λ (v : ViewAsk). Some v.word) (sym c.view_by-view.ensures)

pub returns-clause-title : goal.returns-clause-title
returns-clause-title g c = c.requires.room.first ∙ ap (λ (v : ViewAsk). Some v.title) (sym c.view_by-view.ensures)

pub returns-clause-view : goal.returns-clause-view
returns-clause-view g c =
    c.view_by-view.ensures ∙ ap (λ (v : ViewAsk). view_by c.args.caller v.word v.title) (sym c.view_by-view.ensures)
