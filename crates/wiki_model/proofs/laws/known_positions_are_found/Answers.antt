use Rattle.wiki_model.proofs.KnownLaws.{known-found}
use Rattle.wiki_model.proofs.laws.known_positions_are_found.Goals as goal

pub returns : goal.returns
returns c = known-found
