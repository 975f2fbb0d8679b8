-- The jobs of a round on the cache itself, in their order.
use Rattle.std.specs.Prelude.{ℕ, ◌≡◌, true, false, not, if◌then◌else◌, All, Bool, List, [], ◌∷◌, Option, None, Some}
use Rattle.wiki_model.specs.declared.Region.{Region}
use Rattle.wiki_model.specs.declared.Region.TheVariants.{Home, West}
use Rattle.wiki_model.specs.Titles.{Title}
use Rattle.wiki_model.specs.Cache.{IsCache}
use Rattle.wiki_model.specs.Answers as model
use Rattle.purge_relay.specs.declared.message.Body.{Body}
use Rattle.purge_relay.specs.declared.message.Body.TheVariants.{Purge, Position}
use Rattle.purge_relay.specs.declared.ledger_row.LedgerRow.{LedgerRow}
use Rattle.purge_relay.specs.Ledger.{row_at}
use Rattle.region_state.specs.RegionState.{RegionParts}
use Rattle.farm_steps.specs.RequestMap.{Entries}
use Rattle.farm_steps.specs.ViewSteps.{IsPendingIn, region_at}
use Rattle.farm_core.specs.FarmParts.{FarmParts}
use Rattle.slot_cache.specs.AsModel.{map_of}
use Rattle.region_round.specs.declared.job.Job.{Job}
use Rattle.region_round.specs.declared.job.Job.TheVariants as job
use Rattle.region_round.specs.declared.job.ViewJob.{ViewJob}
use Rattle.region_round.specs.declared.prepare_view.ViewTerms.{ViewTerms}
use Rattle.region_round.specs.declared.lent_cache.RoundTerms.{RoundTerms}
use Rattle.region_round.specs.Alone.{Kept, LooksAlone, PutsAlone, TakesAlone}
use Rattle.region_round.specs.Views.{DoesView}

-- What a round sees of the farm: its region, the open requests and the messages.
pub record Sight (S : Type 0) : Type 0 where
  pub parts : RegionParts S
  pub requests : Entries
  pub rows : List LedgerRow

abbrev pub sight_of : {K S : Type 0} → Region → FarmParts K S → Sight S
sight_of r farm =
    record { parts = region_at r farm.home farm.west; requests = farm.requests; rows = farm.ledger.rows }

-- what the jobs of a round at this moment go by
abbrev pub terms_at : {K S : Type 0} → (now : ℕ) → FarmParts K S → RoundTerms
terms_at now farm =
    record {
      at = now;
      epoch = farm.plan.epoch;
      rules = record { read_lag = farm.plan.bounds.read_lag; markup = farm.home.markup };
    }

-- what a view goes by
abbrev pub terms_of : RoundTerms → (pending : Bool) → ViewTerms
terms_of terms pending = record { at = terms.at; epoch = terms.epoch; rules = terms.rules; pending = pending }

-- the message of this number is a purge of the title, which was not dropped
pub record IsPurgeAt (rows : List LedgerRow) (number : ℕ) (title : Title) : Type 0 where
  pub row : LedgerRow
  pub issued : ℕ
  pub purge : ℕ
  pub there : row_at rows number ≡ Some row
  pub body : row.message.body ≡ Purge purge title issued
  pub undropped : row.dropped ≡ false

-- a receipt is west's, of a purge that was issued and not dropped
abbrev pub IsProper : Region → List LedgerRow → Job → Type 0
IsProper r rows (job.View view) = Unit {0}
IsProper r rows (job.Receipt number) = (r ≡ West) × (title : Title) × IsPurgeAt rows number title

abbrev pub AreProper : Region → List LedgerRow → List Job → Type 0
AreProper r rows jobs = All (IsProper r rows) jobs

-- the same as a test

abbrev pub is_purge_body : Body → Bool
is_purge_body (Purge purge title issued) = true
is_purge_body (Position client index entry stamp) = false

abbrev pub is_open_purge : Option LedgerRow → Bool
is_open_purge None = false
is_open_purge (Some row) = if is_purge_body row.message.body then not row.dropped else false

abbrev pub is_west_purge : Region → Option LedgerRow → Bool
is_west_purge Home row = false
is_west_purge West row = is_open_purge row

abbrev pub is_proper_job : Region → List LedgerRow → Job → Bool
is_proper_job r rows (job.View view) = true
is_proper_job r rows (job.Receipt number) = is_west_purge r (row_at rows number)

-- the cache takes the purge of this number
abbrev pub Receives : List LedgerRow → (number now : ℕ) → (old new : Kept) → Type 0
Receives rows number now old new = (title : Title) × IsPurgeAt rows number title × TakesAlone old new title now

-- a view on the cache itself
abbrev pub Views : {S : Type 0} → Region → Sight S → RoundTerms → ViewJob → (old new : Kept) → model.Answer → Type 0
Views r sight terms view old new answer =
    (pending : Bool) × IsPendingIn r sight.requests view.title pending × IsCache (map_of new)
    × DoesView LooksAlone PutsAlone sight.parts view (terms_of terms pending) old new answer

-- The jobs in order, with the answers of the views, lead the cache from old to new.
abbrev pub DoesAll : {S : Type 0} → Region → Sight S → RoundTerms → List Job → List model.Answer → (old new : Kept)
    → Type 0
DoesAll r sight terms [] [] old new = new ≡ old
DoesAll r sight terms [] (answer ∷ answers) old new = ⊥
DoesAll r sight terms (job.Receipt number ∷ jobs) answers old new =
    (mid : Kept) × Receives sight.rows number terms.at old mid × DoesAll r sight terms jobs answers mid new
DoesAll r sight terms (job.View view ∷ jobs) [] old new = ⊥
DoesAll r sight terms (job.View view ∷ jobs) (answer ∷ answers) old new =
    (mid : Kept) × Views r sight terms view old mid answer × DoesAll r sight terms jobs answers mid new

-- Only the receipts are given.
abbrev pub ReceivesAll : List LedgerRow → (now : ℕ) → List Job → (old new : Kept) → Type 0
ReceivesAll rows now [] old new = new ≡ old
ReceivesAll rows now (job.View view ∷ jobs) old new = ReceivesAll rows now jobs old new
ReceivesAll rows now (job.Receipt number ∷ jobs) old new =
    (mid : Kept) × Receives rows number now old mid × ReceivesAll rows now jobs mid new
