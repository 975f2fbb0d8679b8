use Rattle.std.proofs.Common.{◌≡◌, ◌<◌, ◌^◌, drop}
use Rattle.std.specs.Str.Parse.{digits_value, digits_value_after}
use Rattle.farm_base.proofs.bytes.number_of.Given as goal

abbrev pub invariant-loop-i : goal.invariant-loop-i
invariant-loop-i l = record {
  read : digits_value 10 l.digits ≡ digits_value_after 10 l.number (drop l.i l.digits);
  small : l.number < 10 ^ l.i;
}
