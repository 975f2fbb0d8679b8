use Rattle.std.specs.Vec.Iter.{into_iter_items, into_iter_len}
use Rattle.std.proofs.Common.{◌≡◌, length}
use Rattle.script_runner.specs.RunScript.{IsTelling}
use Rattle.script_runner.proofs.run_script.report_script.Given as goal

abbrev pub invariant-loop-line : goal.invariant-loop-line
invariant-loop-line g l =
    (goal.iterator-loop-line g).can_next l.line-iterator
    × (goal.iterator-loop-line g).is_finite l.line-iterator
    × (into_iter_len l.line-iterator ≡ length (into_iter_items l.line-iterator))
    × IsTelling g.K.Keeper.content g.K.Keeper.faults g.S.RegionStore.cache l.fn.farm l.farm l.at l.fn.lines l.yielded (into_iter_items l.line-iterator) l.number l.told
    (g.O.Sink.written l.fn.sink) (g.O.Sink.written l.sink) (g.O.Sink.faults l.fn.sink) (g.O.Sink.faults l.sink)
