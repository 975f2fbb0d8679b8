use Rattle.http_head.proofs.HeadsInWindows.{heads_are_found}
use Rattle.http_head.proofs.laws.heads_are_found.Goals as goal

pub returns : goal.returns
returns c = heads_are_found
