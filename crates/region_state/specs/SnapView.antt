-- What a look asks for, which replica is drawn, and its snapshot.
use Rattle.std.specs.Prelude.{ℕ, ◌≡◌, ◌-◌, Bool, List, map, zip, Some, slice_get}
use Rattle.wiki_model.specs.Titles.{Title}
use Rattle.wiki_model.specs.Balance.{Row, IsChoice}
use Rattle.wiki_model.specs.Cache.{Ask}
use Rattle.replica_apply.specs.Replica.{ReplicaState}
use Rattle.replica_apply.specs.Snapshot.{IsSnapshot, IsOfEach}
use Rattle.region_state.specs.declared.snap_view.Snapped.{Snapped}
use Rattle.region_state.specs.AsModel.{choice_of}
use Rattle.region_state.specs.RegionState.{RegionParts}

-- what a view of this region asks of a cached page
abbrev pub ask_for : {S : Type 0} → RegionParts S → (need : ℕ) → Ask
ask_for parts need = record { epoch = parts.config.epoch; version = parts.markup; need = need }

-- a replica as the balancer sees it
abbrev pub seen_row : (now : ℕ) → ℕ × ReplicaState → Row
seen_row now (weight, kept) = record { weight = weight; lag = now - kept.stamp; applied = kept.applied }

abbrev pub seen_rows : (now : ℕ) → (weights : List ℕ) → List ReplicaState → List Row
seen_rows now weights replicas = map (seen_row now) (zip weights replicas)

-- the replica that was drawn, and its snapshot
pub record SnapsIn {S : Type 0} (parts : RegionParts S) (title : Title) (need word : ℕ) (waiting : Bool) (now : ℕ)
    (s : Snapped) : Type 0 where
  pub replica : ReplicaState
  pub there : slice_get parts.replicas s.replica ≡ Some replica
  pub choice : IsChoice (seen_rows now parts.config.weights parts.replicas) need word (choice_of s.replica s.lagged)
  pub snapshot : IsSnapshot replica title now s.snapshot
  pub of : IsOfEach replica title now s.snapshot
  pub pending : s.pending ≡ waiting
