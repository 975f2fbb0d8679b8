-- The step that applies the next entries of the history to a replica.
use Rattle.std.specs.Prelude.{ℕ, ◌≡◌, List, Option, Some, None, Result, Ok, Err, slice_get}
use Rattle.wiki_model.specs.declared.Region.{Region}
use Rattle.wiki_model.specs.History.{Entry}
use Rattle.wiki_model.specs.Answers.{Answer}
use Rattle.revision_keeper.specs.declared.keeper.KeepFault.{KeepFault}
use Rattle.revision_keeper.specs.Causes.{HasFault}
use Rattle.replica_apply.specs.Replica.{ReplicaState}
use Rattle.edit_core.specs.AsModel.{refused_of, refusal_of}
use Rattle.region_state.specs.RegionState.{RegionParts, with_replica}
use Rattle.region_state.specs.ApplyEntries.{AppliesTo}
use Rattle.farm_steps.specs.ViewSteps.{region_at, other_region}

abbrev pub apply_answer : Result (Unit {0}) KeepFault → Option Answer
apply_answer (Ok x) = None
apply_answer (Err why) = Some (refused_of (refusal_of why))

pub record AppliesMade {S : Type 0} (told now_told : Option (List Entry)) (before_faults after_faults : ℕ)
    (home west home_after west_after : RegionParts S) (r : Region) (replica count : ℕ)
    (made : Result (Unit {0}) KeepFault) : Type 0 where
  pub same : now_told ≡ told
  pub cause : HasFault before_faults after_faults made
  pub before : ReplicaState
  pub after : ReplicaState
  pub there : slice_get (region_at r home west).replicas replica ≡ Some before
  pub now : region_at r home_after west_after ≡ with_replica replica after (region_at r home west)
  pub other : region_at (other_region r) home_after west_after ≡ region_at (other_region r) home west
  pub applies : (h : List Entry) → told ≡ Some h → AppliesTo h count before after made

abbrev pub AppliesIn : {S : Type 0} → (told now_told : Option (List Entry)) → (before_faults after_faults : ℕ)
    → (home west home_after west_after : RegionParts S) → (r : Region) → (replica count : ℕ) → Option Answer → Type 0
AppliesIn told now_told before_faults after_faults home west home_after west_after r replica count answer =
    (made : Result (Unit {0}) KeepFault) × (answer ≡ apply_answer made)
    × AppliesMade told now_told before_faults after_faults home west home_after west_after r replica count made
