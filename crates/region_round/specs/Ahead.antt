-- What a worker has ready for a job when the caller comes to it.
use Rattle.std.specs.Prelude.{List, Option, None, Some, IfSome, slice_get}
use Rattle.region_state.specs.RegionState.{RegionParts}
use Rattle.region_round.specs.declared.job.Job.{Job}
use Rattle.region_round.specs.declared.job.Job.TheVariants as job
use Rattle.region_round.specs.declared.lent_cache.RoundTerms.{RoundTerms}
use Rattle.region_round.specs.declared.prepare_view.Prepared.{Prepared}
use Rattle.region_round.specs.declared.look_ahead.Place.{Place}
use Rattle.region_round.specs.Jobs.{terms_of}
use Rattle.region_round.specs.Prepared.{IsPrepared}

-- it was prepared for the view
abbrev pub IsReadyFor : {S : Type 0} → RegionParts S → RoundTerms → Job → Prepared → Type 0
IsReadyFor parts terms (job.View view) prepared =
    IsPrepared parts view (terms_of terms prepared.snapped.pending) prepared
IsReadyFor parts terms (job.Receipt number) prepared = Unit {0}

-- what a place has ready is for the job of its number
abbrev pub IsAhead : {S : Type 0} → RegionParts S → RoundTerms → List Job → Place → Type 0
IsAhead parts terms jobs place =
    IfSome (slice_get jobs place.job) (λ job. IfSome place.ready (IsReadyFor parts terms job))

-- what a place has ready
abbrev pub ready_in : Option Place → Option Prepared
ready_in None = None
ready_in (Some place) = place.ready
