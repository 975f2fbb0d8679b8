-- What arrives, as a farm keeps it.
use Rattle.std.specs.Prelude.{ℕ, ◌≡◌, if◌then◌else◌, Option, Some, None}
use Rattle.wiki_model.specs.declared.Region.{Region}
use Rattle.wiki_model.specs.declared.Region.TheVariants.{Home}
use Rattle.wiki_model.specs.declared.Readings.{Readings}
use Rattle.wiki_model.specs.Answers.{Answer, NoMemory}
use Rattle.region_state.specs.declared.ask.ViewAsk.{ViewAsk}
use Rattle.region_state.specs.declared.ask.Asked.{Asked}
use Rattle.region_state.specs.declared.ask.Asked.TheVariants as asked
use Rattle.farm_steps.specs.declared.open_request.OpenRequest.{OpenRequest}
use Rattle.farm_steps.specs.declared.open_request.OpenRequest.TheVariants as point
use Rattle.farm_steps.specs.RequestMap.{Entries, Places}
use Rattle.farm_steps.specs.Moments.{moment_of}

abbrev pub region_for : ViewAsk → Region
region_for v = if v.use_master then Home else v.host

abbrev pub open_of : Readings → Asked → OpenRequest
open_of at (asked.Edit ask) = point.EditArrived ask
open_of at (asked.View v) =
    point.ViewArrived (record { ask = v; region = region_for v; arrived = moment_of (region_for v) at })

abbrev pub Arrives : Readings → ℕ → Asked → (old new : Entries) → Option Answer → Type 0
Arrives at id what old new None = Places old new id (Some (open_of at what))
Arrives at id what old new (Some NoMemory) = new ≡ old
Arrives at id what old new (Some _) = ⊥
