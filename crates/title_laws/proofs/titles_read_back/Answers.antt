use Rattle.title_laws.proofs.ReadBack.{titles-read-back}
use Rattle.title_laws.proofs.titles_read_back.Goals as goal

pub returns : goal.returns
returns c = titles-read-back
