use Rattle.http_head.proofs.WindowLaws.{refusals_are_one}
use Rattle.http_head.proofs.laws.refusals_are_one.Goals as goal

pub returns : goal.returns
returns c = refusals_are_one
