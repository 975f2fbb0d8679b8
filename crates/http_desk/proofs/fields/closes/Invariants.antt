use Rattle.std.proofs.Common.{◌≡◌, ◌≤◌, ◌-◌, length}
use Rattle.std.specs.Prelude.{codes}
use Rattle.http_desk.specs.Heads.{values_from, closes}
use Rattle.http_desk.proofs.fields.closes.Given as goal

abbrev pub invariant-loop-found : goal.invariant-loop-found
invariant-loop-found l = record {
  within : l.at ≤ length l.fields;
  same : closes (values_from l.buf l.fields l.at (codes "connection")) ≡ closes (values_from l.buf l.fields 0 (codes "connection"));
}

abbrev pub decreases-loop-found : goal.decreases-loop-found
decreases-loop-found l = length l.fields - l.at
