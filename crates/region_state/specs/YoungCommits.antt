-- The commits of a history whose positions still count, as a store of positions is told of them.
use Rattle.std.specs.Prelude.{ℕ, ◌+◌, ◌≤◌, Bool, false, nat_lt, if◌then◌else◌, List, [], ◌∷◌, map, All, Option, Some, None}
use Rattle.wiki_model.specs.Limits.{greatest_moment, position_life}
use Rattle.wiki_model.specs.History.{Entry, Beat, Committed, Numbered, stamp_of}
use Rattle.chronology_store.specs.declared.ClientCommit.{ClientCommit}

abbrev pub AreSmall : List ClientCommit → Type 0
AreSmall commits = All (λ commit. commit.stamp ≤ greatest_moment) commits

-- a position of this stamp still counts
abbrev pub counts : (now stamp : ℕ) → Bool
counts now stamp = nat_lt now (stamp + position_life)

abbrev pub is_young_at : (now : ℕ) → Option Entry → Bool
is_young_at now None = false
is_young_at now (Some entry) = counts now (stamp_of entry)

abbrev pub commit_of : Numbered → ClientCommit
commit_of n = record { client = n.commit.edit.client; index = n.commit.index; entry = n.number; stamp = n.commit.stamp }

abbrev pub commits_of : List Numbered → List ClientCommit
commits_of ns = map commit_of ns

-- what entry n adds
abbrev pub told_of : (now n : ℕ) → Entry → List ClientCommit
told_of now n (Beat stamp) = []
told_of now n (Committed c) = if counts now c.stamp then commit_of (record { number = n; commit = c }) ∷ [] else []

abbrev pub told_at : (now n : ℕ) → Option Entry → List ClientCommit
told_at now n None = []
told_at now n (Some entry) = told_of now n entry
