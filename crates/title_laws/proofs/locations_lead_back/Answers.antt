use Rattle.title_laws.proofs.Requests.{locations-lead-back}
use Rattle.title_laws.proofs.locations_lead_back.Goals as goal

pub returns : goal.returns
returns c = locations-lead-back
