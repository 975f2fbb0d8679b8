-- What the values of this crate stand for: plans, kinds, values of a document, options.
use Rattle.std.specs.Prelude.{List, map, Option, option_map, String}
use Rattle.std.specs.String.{string_bytes}
use Rattle.std.specs.Borrow.{Bor}
use Rattle.std.specs.declared.alloc.Global.{Global}
use Rattle.toml.specs.declared.value.Value.{Value}
use Rattle.toml.specs.Data.{Data}
use Rattle.toml.specs.View.{view}
use Rattle.wiki_model.specs.Bytes.{Bytes}
use Rattle.wiki_model.specs.Commands as model
use Rattle.farm_base.specs.AsModel.{bounds_of}
use Rattle.region_state.specs.declared.plan.FarmPlan.{FarmPlan}
use Rattle.wiki_layout.specs.Layout as layout
use Rattle.wiki_layout.specs.Options as options
use Rattle.wiki_layout.specs.declared.rules.Kind.{Kind}
use Rattle.wiki_layout.specs.declared.rules.Kind.TheVariants.{Number, Weights}
use Rattle.wiki_layout.specs.declared.options.Options.{Options}
use Rattle.wiki_layout.specs.declared.options.Found.{Found}
use Rattle.wiki_layout.specs.declared.options.Given.{Given}
use Rattle.wiki_layout.specs.declared.options.Given.TheVariants.{Connections, Store, Link}

abbrev pub kind_of : Kind → layout.Kind
kind_of (Number range) = layout.Number range.least range.greatest
kind_of Weights = layout.Weights

-- what a plan says
abbrev pub plan_of : FarmPlan → layout.Plan
plan_of plan =
    record {
      home_weights = plan.home.weights;
      home_slots = plan.home.slots;
      west_weights = plan.west.weights;
      west_slots = plan.west.slots;
      epoch = plan.epoch;
      workers = plan.workers;
      pace = plan.pace;
      bounds = bounds_of plan.bounds;
    }

abbrev pub data_of : Option (Bor Value) → Option Data
data_of = option_map (λ v. view v.now)

abbrev pub given_of : Given → model.Given
given_of (Connections n) = model.Connections n
given_of (Store path) = model.Store path.now
given_of Link = model.Link

abbrev pub found_of : Found → options.Found
found_of f = record { connections = f.connections; store = option_map (λ path. path.now) f.store; link = f.link }

abbrev pub options_of : Options → model.Options
options_of o = record { connections = o.connections; store = option_map (λ path. path.now) o.store; link = o.link }

abbrev pub texts_of : List (String Global) → List Bytes
texts_of texts = map string_bytes texts
