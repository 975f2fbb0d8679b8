use Rattle.std.proofs.Common.{◌≡◌, ◌≤◌, length, take}
use Rattle.farm_base.proofs.Places.{ended}
use Rattle.farm_base.proofs.bytes.length_without_spaces.Given as goal

abbrev pub invariant-loop-end : goal.invariant-loop-end
invariant-loop-end l = record {
  within : l.end ≤ length l.bytes;
  same : ended l.bytes ≡ ended (take l.end l.bytes);
}

abbrev pub decreases-loop-end : goal.decreases-loop-end
decreases-loop-end l = l.end
