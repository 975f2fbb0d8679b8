use Rattle.std.proofs.Common.{take}
use Rattle.chronology_store.specs.ChronologyStore.{TellsAll}
use Rattle.chronology_store.proofs.chronology_store.ChronologyStore.rebuild.Given as goal

abbrev pub invariant-loop-written : goal.invariant-loop-written
invariant-loop-written l = TellsAll (take l.written-index l.rows) l.fn.self l.self
