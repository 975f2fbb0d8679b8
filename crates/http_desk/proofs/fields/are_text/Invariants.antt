use Rattle.std.proofs.Common.{◌≡◌, ◌≤◌, ◌-◌, length}
use Rattle.std.specs.List.{list_all}
use Rattle.std.specs.Str.{is_utf8}
use Rattle.http_desk.specs.Heads.{values_from}
use Rattle.http_desk.proofs.fields.are_text.Given as goal

abbrev pub invariant-loop-found : goal.invariant-loop-found
invariant-loop-found l = record {
  within : l.at ≤ length l.fields;
  same : list_all is_utf8 (values_from l.buf l.fields l.at l.name) ≡ list_all is_utf8 (values_from l.buf l.fields 0 l.name);
}

abbrev pub decreases-loop-found : goal.decreases-loop-found
decreases-loop-found l = length l.fields - l.at
