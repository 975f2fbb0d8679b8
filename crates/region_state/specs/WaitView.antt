-- What a region knows of a session, and whether a view of it is behind.
use Rattle.std.specs.Prelude.{ℕ, Bool, List, map, Option, Some, None, unwrap_or, if◌then◌else◌}
use Rattle.wiki_model.specs.Titles.{Client}
use Rattle.wiki_model.specs.Sessions.{Known, Lag, unknown, live_index, lag_behind, greatest}
use Rattle.chronology_store.specs.ChronologyStore.{Positions, find_in}
use Rattle.region_state.specs.declared.ask.ViewAsk.{ViewAsk}
use Rattle.region_state.specs.declared.wait_view.Wait.{Wait}
use Rattle.region_state.specs.declared.wait_view.Wait.TheVariants as wait
use Rattle.region_state.specs.AsModel.{view_of}
use Rattle.region_state.specs.RegionState.{RegionParts}

abbrev pub known_in : Positions → Client → (now : ℕ) → Known
known_in positions client now = unwrap_or (find_in positions client now) unknown

abbrev pub lag_at : Positions → (applied : List ℕ) → ViewAsk → (now : ℕ) → Option Lag
lag_at positions applied ask now =
    lag_behind (live_index now (view_of ask)) (known_in positions ask.client now) (greatest applied)

-- how a view is behind in this region, or not
abbrev pub lag_in : {S : Type 0} → RegionParts S → ViewAsk → (now : ℕ) → Option Lag
lag_in parts ask now = lag_at parts.positions (map (λ k. k.applied) parts.replicas) ask now

abbrev pub lag_of_wait : Lag → Wait
lag_of_wait lag = wait.Lag lag.by lag.needed lag.reached

abbrev pub waits : (gives_up : Bool) → (need : ℕ) → Option Lag → Wait
waits gives_up need None = wait.Go need
waits gives_up need (Some lag) = if gives_up then lag_of_wait lag else wait.Stay
