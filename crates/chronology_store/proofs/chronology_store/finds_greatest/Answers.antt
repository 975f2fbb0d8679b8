use Rattle.chronology_store.proofs.Greatest.{finds}
use Rattle.chronology_store.proofs.chronology_store.finds_greatest.Goals as goal

pub returns : goal.returns
returns c = finds
