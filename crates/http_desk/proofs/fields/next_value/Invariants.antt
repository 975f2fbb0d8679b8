use Rattle.std.proofs.Common.{◌≡◌, ◌≤◌, ◌-◌, length}
use Rattle.http_desk.specs.Heads.{values_from}
use Rattle.http_desk.proofs.fields.next_value.Given as goal

abbrev pub invariant-loop-at : goal.invariant-loop-at
invariant-loop-at l = record {
  within : l.at ≤ length l.fields;
  later : l.from ≤ l.at;
  same : values_from l.buf l.fields l.at l.name ≡ values_from l.buf l.fields l.from l.name;
}

abbrev pub decreases-loop-at : goal.decreases-loop-at
decreases-loop-at l = length l.fields - l.at
