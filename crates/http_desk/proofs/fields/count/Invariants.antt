use Rattle.std.proofs.Common.{◌≡◌, ◌≤◌, ◌-◌, ◌+◌, length}
use Rattle.http_desk.specs.Heads.{values_from}
use Rattle.http_desk.proofs.fields.count.Given as goal

abbrev pub invariant-loop-found : goal.invariant-loop-found
invariant-loop-found l = record {
  within : l.at ≤ length l.fields;
  few : l.count ≤ l.at;
  same : l.count + length (values_from l.buf l.fields l.at l.name) ≡ length (values_from l.buf l.fields 0 l.name);
}

abbrev pub decreases-loop-found : goal.decreases-loop-found
decreases-loop-found l = length l.fields - l.at
