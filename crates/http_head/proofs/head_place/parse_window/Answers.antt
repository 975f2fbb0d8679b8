use Rattle.std.proofs.Common.{length, ap, arith}
use Rattle.std.specs.Prelude.{Err}
use Rattle.http_head.proofs.Counts.{never_many}
use Rattle.http_head.proofs.head_place.parse_window.Goals as goal

pub returns-in-Err-clause-never : goal.returns-in-Err-clause-never
returns-in-Err-clause-never c = λ same. c.in-Err.ensures.invalid (λ is. never_many (length c.args.fields.now) c.args.buf.now (omega (arith, c.requires, c.told-fields)) (c.in-Err.ensures.too_many (ap Err is)))
