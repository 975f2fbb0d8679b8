use Rattle.http_head.proofs.WindowLaws.{refusals_stay}
use Rattle.http_head.proofs.laws.refusals_stay.Goals as goal

pub returns : goal.returns
returns c = refusals_stay
