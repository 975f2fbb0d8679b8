-- What a region begins with.
use Rattle.std.specs.Prelude.{ℕ, ◌≡◌, List, [], map, Some, slice_get}
use Rattle.replica_apply.specs.Replica.{ReplicaState, IsPrefix}
use Rattle.region_state.specs.RegionState.{RegionParts, swept_rows_least}

-- replicas that have applied nothing, one for each weight
pub record AreNew (weights : List ℕ) (replicas : List ReplicaState) : Type 0 where
  pub applied : map (λ k. k.applied) replicas ≡ map (λ weight. 0) weights
  pub prefixes : (i : ℕ) (kept : ReplicaState) → slice_get replicas i ≡ Some kept → IsPrefix [] kept

pub record IsNew {S : Type 0} (weights : List ℕ) (epoch read_lag : ℕ) (cache : S) (parts : RegionParts S) : Type 0 where
  pub config : parts.config ≡ record { weights = weights; epoch = epoch; read_lag = read_lag }
  pub markup : parts.markup ≡ 1
  pub replicas : AreNew weights parts.replicas
  pub positions : parts.positions ≡ []
  pub swept : parts.swept ≡ swept_rows_least
  pub cache_is : parts.cache ≡ Some cache
