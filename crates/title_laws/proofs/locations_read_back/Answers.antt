use Rattle.title_laws.proofs.Locations.{locations-read-back}
use Rattle.title_laws.proofs.locations_read_back.Goals as goal

pub returns : goal.returns
returns c = locations-read-back
