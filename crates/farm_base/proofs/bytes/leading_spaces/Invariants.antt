use Rattle.std.proofs.Common.{◌≡◌, drop}
use Rattle.wiki_model.specs.Bytes.{skip_spaces}
use Rattle.farm_base.proofs.bytes.leading_spaces.Given as goal

abbrev pub invariant-loop-i : goal.invariant-loop-i
invariant-loop-i l = skip_spaces l.bytes ≡ skip_spaces (drop l.i l.bytes)
