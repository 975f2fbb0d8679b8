use Rattle.std.proofs.Common.{◌≡◌, ◌++◌, take}
use Rattle.slot_share.proofs.share_cache.push_floors.Given as goal

abbrev pub invariant-loop-floor : goal.invariant-loop-floor
invariant-loop-floor l = l.words.items ≡ l.initial.words.items ++ take l.floor-index l.floors
