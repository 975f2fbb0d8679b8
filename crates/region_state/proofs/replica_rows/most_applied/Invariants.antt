use Rattle.std.proofs.Common.{◌≡◌, drop, map, max}
use Rattle.std.specs.Prelude.{fold}
use Rattle.wiki_model.specs.Sessions.{greatest}
use Rattle.region_state.proofs.replica_rows.most_applied.Given as goal

abbrev pub invariant-loop-replica : goal.invariant-loop-replica
invariant-loop-replica l = fold max l.most (map (λ k. k.applied) (drop l.replica-index l.replicas)) ≡ greatest (map (λ k. k.applied) l.replicas)
