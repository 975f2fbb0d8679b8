use Rattle.std.proofs.Common.{subst}
use Rattle.wiki_model.specs.Bytes.{replaced, line_feed, space}
use Rattle.page_markup.specs.Names.{AreNames, names_from}
use Rattle.page_markup.proofs.template_names_spaced.Goals as goal

pub returns-in-Ok : goal.returns-in-Ok
returns-in-Ok c = subst (λ t. AreNames (names_from (replaced line_feed space t)) c.in-Ok.names.items) c.text.ensures.value c.in-Ok.ensures
