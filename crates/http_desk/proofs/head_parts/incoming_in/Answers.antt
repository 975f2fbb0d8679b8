use Rattle.std.proofs.Common.{ap}
use Rattle.http_desk.specs.Incoming.{Ready}
use Rattle.http_desk.proofs.head_parts.incoming_in.Goals as goal

pub returns-in-Ok-clause-shown : goal.returns-in-Ok-clause-shown
returns-in-Ok-clause-shown c = rw c.in-Call.ensures (ap Ready c.in-Ok.ensures)
