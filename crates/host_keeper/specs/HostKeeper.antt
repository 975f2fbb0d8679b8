-- What contracts see of a process's keeper: of one in memory all, of one in a database its count alone.
use Rattle.std.specs.Prelude.{ℕ, List, Option, Some, None}
use Rattle.wiki_model.specs.History.{Entry}
use Rattle.host_keeper.specs.declared.host_keeper.HostKeeper.{HostKeeper}
use Rattle.host_keeper.specs.declared.host_keeper.HostKeeper.TheVariants.{Memory, Stored}

abbrev pub content_of : {S : Type 0} → HostKeeper S → Option (List Entry)
content_of (Memory keeper) = Some keeper.history
content_of (Stored keeper) = None

abbrev pub faults_of : {S : Type 0} → HostKeeper S → ℕ
faults_of (Memory keeper) = keeper.faults
faults_of (Stored keeper) = keeper.faults
