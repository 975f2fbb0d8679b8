-- What an entry that is handed to a replica does to it.
use Rattle.std.specs.Prelude.{ℕ, ◌≡◌, ◌+◌, ◌≤◌, ◌<◌, ◌++◌, ◌∷◌, [], List, Option, Some, if◌then◌else◌, bytes_eq, Result, Ok, Err}
use Rattle.wiki_model.specs.Titles.{Title, Text}
use Rattle.wiki_model.specs.History.{Entry, Beat, Committed, stamp_of, entry_at}
use Rattle.farm_base.specs.declared.memory.Memory.{Memory}
use Rattle.replica_apply.specs.declared.replica.Applied.{Applied}
use Rattle.replica_apply.specs.declared.replica.Applied.TheVariants.{Applied as Done, Repeat, Gap}
use Rattle.replica_apply.specs.Replica.{ReplicaState, page_in, IsPrefix, IsPrefixOf}

-- the page of a title after an entry; a beat changes none
abbrev pub page_after : Entry → Title → (old : Option Text) → Option Text
page_after (Beat stamp) title old = old
page_after (Committed commit) title old = if bytes_eq commit.edit.title title then Some commit.edit.text else old

abbrev pub IsCommit : Entry → Type 0
IsCommit (Beat stamp) = ⊥
IsCommit (Committed commit) = Unit {0}

pub record Takes (old new : ReplicaState) (entry : Entry) : Type 0 where
  pub applied : new.applied ≡ old.applied + 1
  pub stamp : new.stamp ≡ stamp_of entry
  pub pages : (title : Title) → page_in new title ≡ page_after entry title (page_in old title)

-- The next entry is taken, and no other. Memory may be refused for the next one only, and for no beat.
abbrev pub Applies : (old new : ReplicaState) → (n : ℕ) → Entry → Result Applied Memory → Type 0
Applies old new n entry (Ok Done) = (n ≡ old.applied + 1) × Takes old new entry
Applies old new n entry (Ok (Repeat have)) = (n ≤ old.applied) × (have ≡ old.applied) × (new ≡ old)
Applies old new n entry (Ok (Gap have got)) = (old.applied + 1 < n) × (have ≡ old.applied) × (got ≡ n) × (new ≡ old)
Applies old new n entry (Err want) = (n ≡ old.applied + 1) × IsCommit entry × (new ≡ old)

-- the replica of a history is that of one entry more
abbrev pub Follows : (old new : ReplicaState) → Entry → Result Applied Memory → Type 0
Follows old new entry (Ok Done) = (history : List Entry) → IsPrefix history old → IsPrefix (history ++ entry ∷ []) new
Follows old new entry (Ok (Repeat have)) = Unit {0}
Follows old new entry (Ok (Gap have got)) = Unit {0}
Follows old new entry (Err want) = Unit {0}

-- the replica of a prefix of a history takes the entry after it, and is that of the prefix of one entry more
abbrev pub GoesOn : (old new : ReplicaState) → (n : ℕ) → Entry → Result Applied Memory → Type 0
GoesOn old new n entry (Ok Done) =
    (history : List Entry) → IsPrefixOf history old → entry_at history n ≡ Some entry → IsPrefixOf history new
GoesOn old new n entry (Ok (Repeat have)) = Unit {0}
GoesOn old new n entry (Ok (Gap have got)) = Unit {0}
GoesOn old new n entry (Err want) = Unit {0}
