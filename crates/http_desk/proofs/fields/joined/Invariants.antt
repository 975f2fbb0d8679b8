use Rattle.std.proofs.Common.{◌≡◌, ◌≤◌, ◌-◌, ◌++◌, length}
use Rattle.std.specs.Prelude.{codes, string_bytes}
use Rattle.http_desk.specs.Heads.{values_from, after_first, joined}
use Rattle.http_desk.proofs.fields.joined.Given as goal

abbrev pub invariant-loop-found : goal.invariant-loop-found
invariant-loop-found l = record {
  within : l.at ≤ length l.fields;
  same : string_bytes l.text ++ after_first (values_from l.buf l.fields l.at (codes "cookie")) ≡ joined (values_from l.buf l.fields 0 (codes "cookie"));
}

abbrev pub decreases-loop-found : goal.decreases-loop-found
decreases-loop-found l = length l.fields - l.at
