use Rattle.std.proofs.Common.{take, []}
use Rattle.replica_apply.specs.Replica.{page_at}
use Rattle.replica_apply.specs.Gather.{Gathers, IsNamedBy}
use Rattle.replica_apply.proofs.gather.next_stage.Given as goal

abbrev pub invariant-loop-text : goal.invariant-loop-text
invariant-loop-text l = Gathers (page_at l.pages) (page_at l.fn.taken) (page_at l.taken) [] l.unread.items (IsNamedBy (take l.text-index l.texts))
