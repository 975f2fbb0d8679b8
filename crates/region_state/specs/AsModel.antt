-- What this crate's asks, answers and plan stand for in the model.
use Rattle.std.specs.Prelude.{ℕ, ◌≡◌, if◌then◌else◌, Bool, option_map}
use Rattle.std.specs.Arc.{arc_value}
use Rattle.wiki_model.specs.declared.Choice.{Choice}
use Rattle.wiki_model.specs.declared.Choice.TheVariants as choice
use Rattle.wiki_model.specs.Answers as model
use Rattle.wiki_model.specs.World as world
use Rattle.wiki_model.specs.World.{Setting}
use Rattle.farm_base.specs.AsModel.{bounds_of}
use Rattle.sticky_routes.specs.AsModel.{cookie_of}
use Rattle.edit_core.specs.AsModel.{edit_of, saved_of}
use Rattle.region_state.specs.declared.ask.ViewAsk.{ViewAsk}
use Rattle.region_state.specs.declared.ask.Asked.{Asked}
use Rattle.region_state.specs.declared.ask.Asked.TheVariants as asked
use Rattle.region_state.specs.declared.answer.PageAnswer.{PageAnswer}
use Rattle.region_state.specs.declared.answer.Answer.{Answer}
use Rattle.region_state.specs.declared.answer.Answer.TheVariants as answers
use Rattle.region_state.specs.declared.plan.FarmPlan.{FarmPlan}
use Rattle.region_state.specs.declared.open_view.OpenView.{OpenView}
use Rattle.region_state.specs.declared.snap_view.Snapped.{Snapped}

abbrev pub view_of : ViewAsk → world.View
view_of v =
    record {
      host = v.host;
      client = v.client;
      cookie = option_map cookie_of v.cookie;
      use_master = v.use_master;
      word = v.word;
      title = v.title;
    }

abbrev pub asked_of : Asked → world.Asked
asked_of (asked.View v) = world.AskedView (view_of v)
asked_of (asked.Edit e) = world.AskedEdit (edit_of e)

abbrev pub page_of : PageAnswer → model.PageAnswer
page_of p =
    record {
      title = p.title;
      source = p.source;
      origin = p.origin;
      put = p.put;
      lagged = p.lagged;
      page = arc_value p.page;
    }

abbrev pub answer_of : Answer → model.Answer
answer_of (answers.Ok p) = model.Page (page_of p)
answer_of (answers.Saved s) = model.EditSaved (saved_of s)
answer_of (answers.NoPage source) = model.NoPage source
answer_of (answers.Conflict base current) = model.Conflict base current
answer_of (answers.Token entry) = model.TokenUsed entry
answer_of (answers.Lag by needed reached) = model.Lagging by needed reached
answer_of (answers.Miss cause) = model.Miss cause
answer_of (answers.NotOpen id) = model.NotOpen id
answer_of (answers.Unknown message) = model.Unknown message
answer_of (answers.Gone message) = model.Gone message
answer_of answers.Store = model.StoreFault
answer_of answers.Memory = model.NoMemory

abbrev pub open_view_of : OpenView → world.OpenView
open_view_of v = record { view = view_of v.ask; region = v.region; arrived = v.arrived }

abbrev pub choice_of : (replica : ℕ) (lagged : Bool) → Choice
choice_of replica lagged = if lagged then choice.Lagged replica else choice.At replica

abbrev pub snapshot_of : Snapped → world.Snapshot
snapshot_of s =
    record {
      choice = choice_of s.replica s.lagged;
      upto = s.snapshot.upto;
      since = s.snapshot.since;
      lag = s.snapshot.lag;
      pending = s.pending;
    }

-- a plan is that of a setting
pub record IsPlanOf (setting : Setting) (plan : FarmPlan) : Type 0 where
  pub home : plan.home.weights ≡ setting.home_weights
  pub west : plan.west.weights ≡ setting.west_weights
  pub epoch : plan.epoch ≡ setting.epoch
  pub workers : plan.workers ≡ setting.workers
  pub bounds : bounds_of plan.bounds ≡ setting.bounds
