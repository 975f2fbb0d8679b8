use Rattle.http_head.proofs.WindowLaws.{malformed_lines_are_seen}
use Rattle.http_head.proofs.laws.malformed_lines_are_seen.Goals as goal

pub returns : goal.returns
returns c = malformed_lines_are_seen
