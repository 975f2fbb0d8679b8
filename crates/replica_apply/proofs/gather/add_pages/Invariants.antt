use Rattle.std.proofs.Common.{take}
use Rattle.std.specs.List.{Contains}
use Rattle.replica_apply.specs.Replica.{page_at}
use Rattle.replica_apply.specs.Gather.{Gathers}
use Rattle.replica_apply.proofs.gather.add_pages.Given as goal

abbrev pub invariant-loop-title : goal.invariant-loop-title
invariant-loop-title l = Gathers (page_at l.pages) (page_at l.fn.taken) (page_at l.taken) l.fn.unread.items l.unread.items (Contains (take l.title-index l.titles))
