-- A step that takes a request into its hands and puts another in its place has changed that place once.
use Rattle.std.proofs.Common.{ℕ, ◌∙◌, arith, inl, inr, Option, Some, None}
use Rattle.wiki_model.specs.Bytes.{Bytes}
use Rattle.wiki_model.specs.Cache.{Found, Hit, Interim, Missed}
use Rattle.wiki_model.specs.Answers.{Answer}
use Rattle.region_state.specs.declared.wait_view.Wait.{Wait}
use Rattle.region_state.specs.declared.wait_view.Wait.TheVariants as wait
use Rattle.region_state.specs.declared.open_view.OpenView.{OpenView}
use Rattle.farm_steps.specs.declared.open_request.OpenRequest.TheVariants as point
use Rattle.farm_steps.specs.RequestMap.{Entries, Places}
use Rattle.farm_steps.specs.ViewSteps.{WaitsTo, LooksTo, SnapsView}
use Rattle.farm_base.specs.declared.memory.Memory.{Memory}
use Rattle.region_state.specs.declared.snap_view.Snapped.{Snapped}
use Rattle.farm_steps.specs.declared.open_request.OpenRequest.{OpenRequest}
use Rattle.std.specs.Prelude.{Result, Ok, Err}
use Rattle.wiki_model.specs.Cache.{CacheMap}
use Rattle.purge_relay.specs.Ledger.{LedgerState}
use Rattle.edit_core.specs.declared.edit_ask.EditRefusal.{EditRefusal}
use Rattle.edit_core.specs.declared.begun_edit.Begun.{Begun}
use Rattle.edit_core.specs.declared.begun_edit.Begun.TheVariants.{Started, Already}
use Rattle.region_state.specs.RegionState.{RegionParts}
use Rattle.farm_steps.specs.EditSteps.{EndsBegin}

-- two changes at one id are one
pub placed_twice : (old mid new : Entries) (id : ℕ) (now : Option OpenRequest) → Places old mid id (Some point.Taken) → Places mid new id now → Places old new id now
placed_twice old mid new id now p q = record {
  here = q.here;
  others = λ other e. q.others other e ∙ p.others other e;
  room = let first = p.room in let second = q.room in omega (arith, first, second);
}

pub waits_twice : (outcome : Wait) (id : ℕ) (view : OpenView) (old mid new : Entries) (answer : Option Answer) → Places old mid id (Some point.Taken) → WaitsTo outcome id view mid new answer → WaitsTo outcome id view old new answer
waits_twice (wait.Go need) id view old mid new answer first did = (did.0, placed_twice old mid new id (Some (point.ViewWaited view need)) first did.1)
waits_twice wait.Stay id view old mid new answer first did = (did.0, placed_twice old mid new id (Some (point.ViewArrived view)) first did.1)
waits_twice (wait.Lag by needed reached) id view old mid new answer first did = (did.0, placed_twice old mid new id None first did.1)

pub looks_twice : (id : ℕ) (view : OpenView) (need : ℕ) (old mid new : Entries) (answer : Option Answer) (found : Found Bytes) → Places old mid id (Some point.Taken) → LooksTo id view need mid new answer found → LooksTo id view need old new answer found
looks_twice id view need old mid new answer found first (inl none) = inl (none.0, placed_twice old mid new id None first none.1)
looks_twice id view need old mid new answer (Hit v) first (inr did) = inr (did.0, placed_twice old mid new id None first did.1)
looks_twice id view need old mid new answer (Interim v) first (inr did) = inr (did.0, placed_twice old mid new id None first did.1)
looks_twice id view need old mid new answer (Missed why) first (inr did) = inr (did.0, placed_twice old mid new id (Some (point.ViewLooked view need)) first did.1)

pub ends_twice : {S : Type 0} (cache_of : S → CacheMap Bytes) (before after : RegionParts S) (ledger_now book_after : LedgerState) (now id : ℕ) (old mid new : Entries) (answer : Option Answer) (result : Result Begun EditRefusal) → Places old mid id (Some point.Taken)
    → EndsBegin cache_of before after ledger_now book_after now id mid new answer result → EndsBegin cache_of before after ledger_now book_after now id old new answer result
ends_twice cache_of before after ledger_now book_after now id old mid new answer (Ok (Started begun)) first did = (did.0, did.1, placed_twice old mid new id (Some (point.EditBegun begun)) first did.2)
ends_twice cache_of before after ledger_now book_after now id old mid new answer (Ok (Already note)) first did = (did.0, did.1, did.2, placed_twice old mid new id None first did.3)
ends_twice cache_of before after ledger_now book_after now id old mid new answer (Err why) first did = (did.0, did.1, did.2, placed_twice old mid new id None first did.3)

pub snaps_twice : (id : ℕ) (view : OpenView) (old mid new : Entries) (answer : Option Answer) (made : Result Snapped Memory) → Places old mid id (Some point.Taken) → SnapsView id view mid new answer made → SnapsView id view old new answer made
snaps_twice id view old mid new answer (Ok s) first did = (did.0, placed_twice old mid new id (Some (point.ViewSnapped view s)) first did.1)
snaps_twice id view old mid new answer (Err want) first did = (did.0, placed_twice old mid new id None first did.1)
