use Rattle.std.proofs.Common.{◌≡◌, ◌≤◌, ◌-◌, length}
use Rattle.std.specs.List.{list_all}
use Rattle.http_desk.specs.Heads.{values_from, is_length, length_name}
use Rattle.http_desk.proofs.fields.are_length.Given as goal

abbrev pub invariant-loop-found : goal.invariant-loop-found
invariant-loop-found l = record {
  within : l.at ≤ length l.fields;
  same : list_all (is_length l.number) (values_from l.buf l.fields l.at length_name) ≡ list_all (is_length l.number) (values_from l.buf l.fields 0 length_name);
}

abbrev pub decreases-loop-found : goal.decreases-loop-found
decreases-loop-found l = length l.fields - l.at
