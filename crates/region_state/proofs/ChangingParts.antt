-- A call that changes one field changes one part of the region that contracts see.
use Rattle.std.proofs.Common.{◌≡◌, ℕ, Some, Result, Ok, Err, ap, subst}
use Rattle.std.specs.Prelude.{slice_get, OnOk, OnErr}
use Rattle.replica_apply.specs.Replica.{ReplicaState}
use Rattle.chronology_store.specs.ChronologyStore.{Positions}
use Rattle.region_state.specs.RegionState.{RegionParts, OnPositions, OnReplica, SweepsDoubled, SweepsRegion, with_positions, with_replica, with_swept}

pub changed_positions : {S : Type 0} (inside old : RegionParts S) (after : Positions) (Changes : Positions → Positions → Type 0)
    → inside ≡ old → Changes inside.positions after → OnPositions old (with_positions after inside) Changes
changed_positions {S} inside old after Changes is changes = record {
  after = after;
  rest = ap (with_positions after) is;
  changes = subst (λ (p : RegionParts S). Changes p.positions after) is changes;
}

-- the same if the call is answered so
pub positions_if_ok : {S T E : Type 0} (result : Result T E) (inside old : RegionParts S) (after : Positions) (Changes : Positions → Positions → Type 0)
    → inside ≡ old → OnOk result (Changes inside.positions after) → OnOk result (OnPositions old (with_positions after inside) Changes)
positions_if_ok (Ok x) inside old after Changes is changes = changed_positions inside old after Changes is changes
positions_if_ok (Err e) inside old after Changes is changes = tt

pub positions_if_err : {S T E : Type 0} (result : Result T E) (inside old : RegionParts S) (after : Positions) (Changes : Positions → Positions → Type 0)
    → inside ≡ old → OnErr result (Changes inside.positions after) → OnErr result (OnPositions old (with_positions after inside) Changes)
positions_if_err (Ok x) inside old after Changes is changes = tt
positions_if_err (Err e) inside old after Changes is changes = changed_positions inside old after Changes is changes

pub swept_region : {S : Type 0} (inside old : RegionParts S) (now : ℕ) (after : Positions) (rows : ℕ)
    → inside ≡ old → SweepsDoubled now inside.swept inside.positions rows after → SweepsRegion now old (with_swept after rows inside)
swept_region {S} inside old now after rows is sweeps = record {
  after = after;
  rows = rows;
  rest = ap (with_swept after rows) is;
  sweeps = subst (λ (p : RegionParts S). SweepsDoubled now p.swept p.positions rows after) is sweeps;
}

pub changed_replica : {S : Type 0} (inside old : RegionParts S) (i : ℕ) (before after : ReplicaState) (Changes : ReplicaState → ReplicaState → Type 0)
    → inside ≡ old → slice_get inside.replicas i ≡ Some before → Changes before after → OnReplica i old (with_replica i after inside) Changes
changed_replica {S} inside old i before after Changes is there changes = record {
  before = before;
  after = after;
  there = subst (λ (p : RegionParts S). slice_get p.replicas i ≡ Some before) is there;
  rest = ap (with_replica i after) is;
  changes = changes;
}
