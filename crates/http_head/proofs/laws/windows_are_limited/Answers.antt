use Rattle.http_head.proofs.WindowLaws.{windows_are_limited}
use Rattle.http_head.proofs.laws.windows_are_limited.Goals as goal

pub returns : goal.returns
returns c = windows_are_limited
