-- The steps of a housekeeping, and of a view up to its need, issue no message and drop none. So whoever asks the ledger
-- between them is told what its messages were before.
use Rattle.std.proofs.Common.{◌≡◌, ℕ, ◌+◌, Bool, true, false, List, [], ◌∷◌, ◌++◌, map, Option, Some, None, refl, sym, ap, ◌∙◌}
use Rattle.std.specs.Prelude.{◌&&◌, ◌||◌}
use Rattle.std.specs.List.{list_any}
use Rattle.std.proofs.lemmas.List.Folds.{list_all-append}
use Rattle.wiki_model.specs.declared.Region.{Region}
use Rattle.wiki_model.specs.declared.Region.TheVariants.{Home, West}
use Rattle.wiki_model.specs.declared.Readings.{Readings}
use Rattle.wiki_model.specs.History.{Beat}
use Rattle.wiki_model.specs.Answers.{Answer}
use Rattle.wiki_model.specs.World.{World, Body, Message, OpenView, Floor, moment, request_at, at_readings, with_entry, with_request, with_applied}
use Rattle.wiki_model.specs.World.Body.{Purge, Position}
use Rattle.wiki_model.specs.Sessions.{Lag, lag_of}
use Rattle.wiki_model.specs.Steps.{Step, Allows, AtPoint, IsRefused, IsOutOfMemory, Waits, Applies, Carries, arrived_view, carried, closed_if, gives_up, lag_answer, reach, request_of, waited, waited_view}
use Rattle.wiki_model.specs.Runs.{Turn, Reply, One, Many, Takes, with_faults}
use Rattle.wiki_model.specs.Serving.{GoesBy, AllMade, Taken, Housekeeps, carries, beat_if, is_due, applies, applies_from, is_round}
use Rattle.wiki_serve.specs.BatchSteps.{is_quiet, are_quiet}

-- One step

-- it leaves what x has, and x has these
to : (x w : World) (ms : List Message) → x.messages ≡ ms → w ≡ x → w.messages ≡ ms
to x w ms same e = ap (λ (u : World). u.messages) e ∙ same

refused : (x w : World) (ms : List Message) (a : Answer) → x.messages ≡ ms → IsRefused x w a → w.messages ≡ ms
refused x w ms Answer.NoMemory same e = to x w ms same e
refused x w ms Answer.StoreFault same e = to x w ms same e
refused x w ms _ same e = absurd e

out_of_memory : (x w : World) (ms : List Message) (a : Answer) → x.messages ≡ ms → IsOutOfMemory x w a → w.messages ≡ ms
out_of_memory x w ms Answer.NoMemory same e = to x w ms same e
out_of_memory x w ms _ same e = absurd e

at_point : {A : Type 0} (o : Option A) (id : ℕ) (v : World) (answer : Option Answer) (w : World) (P : A → Type 0) → ((a : A) → P a → w.messages ≡ v.messages) → AtPoint o id v answer w P → w.messages ≡ v.messages
at_point None id v answer w P f row = to v w v.messages refl row.1
at_point (Some a) id v answer w P f row = f a row

wait : (id : ℕ) (last : Bool) (view : OpenView) (v : World) (answer : Option Answer) (w : World) → Waits id last view v answer w → w.messages ≡ v.messages
wait id last view v answer w row = to ((waited id view last v (lag_of v view)).1) w v.messages (by (lag_of v view)) row.1
  where
    choose : (b : Bool) (lag : Lag) → ((Rattle.std.proofs.Common.cond b (let o : Option Answer × World = (Some (lag_answer lag), Rattle.wiki_model.specs.World.without_request id v) in o) (None, v)).1).messages ≡ v.messages
    choose true lag = refl
    choose false lag = refl

    by : (o : Option Lag) → ((waited id view last v o).1).messages ≡ v.messages
    by None = refl
    by (Some lag) = choose (gives_up v view last) lag

apply : (r : Region) (replica count : ℕ) (v : World) (answer : Option Answer) (w : World) → Applies r replica count v answer w → w.messages ≡ v.messages
apply r replica count v None w row = to (with_applied r replica (reach v r replica count) v) w v.messages refl row
apply r replica count v (Some a) w row = refused (with_applied r replica row.0 v) w v.messages a refl row.3

carry : (number : ℕ) (shown : Option Body) (v : World) (answer : Option Answer) (w : World) → Carries number shown v answer w → w.messages ≡ v.messages
carry number shown v None w row = to (carried row.0.body v) w v.messages (by row.0.body) row.3
  where
    by : (b : Body) → (carried b v).messages ≡ v.messages
    by (Purge purge title issued) = refl
    by (Position client index entry stamp) = refl
carry number shown v (Some (Answer.Gone m)) w row = to v w v.messages refl row.2
carry number shown v (Some (Answer.Unknown m)) w row = to v w v.messages refl row.2
carry number shown v (Some Answer.NoMemory) w row = to v w v.messages refl row.1
carry number shown v (Some _) w row = absurd row

quiet_row : (step : Step) (v : World) (answer : Option Answer) (w : World) → is_quiet step ≡ true → Allows step v answer w → w.messages ≡ v.messages
quiet_row Step.MakeBeat v None w quiet row = to (with_entry (Beat (moment Home v)) v) w v.messages refl row
quiet_row Step.MakeBeat v (Some a) w quiet row = refused v w v.messages a refl row
quiet_row (Step.Arrive id asked) v None w quiet row = to (with_request id (request_of v asked) v) w v.messages refl row
quiet_row (Step.Arrive id asked) v (Some a) w quiet row = out_of_memory v w v.messages a refl row
quiet_row (Step.Wait id last) v answer w quiet row = at_point (arrived_view (request_at v id)) id v answer w (λ view. Waits id last view v answer w) (λ view r. wait id last view v answer w r) row
quiet_row (Step.Apply r replica count) v answer w quiet row = apply r replica count v answer w row
quiet_row (Step.Carry number shown) v answer w quiet row = carry number shown v answer w row
quiet_row (Step.Need id) v answer w quiet row = to (closed_if id v (waited_view (request_at v id))) w v.messages (by (waited_view (request_at v id))) row.1
  where
    by : (o : Option (OpenView × Floor)) → (closed_if id v o).messages ≡ v.messages
    by None = refl
    by (Some p) = refl
quiet_row _ v answer w quiet row = let never : ⊥ = cc in absurd never

takes_quiet : (step : Step) (v : World) (reply : Reply) (w : World) → is_quiet step ≡ true → Takes step v reply w → w.messages ≡ v.messages
takes_quiet (Step.Round r jobs) v (Many answers) w quiet row = let never : ⊥ = cc in absurd never
takes_quiet step v (One answer) w quiet row = quiet_row step v answer w quiet row
takes_quiet step v (Many answers) w quiet row = absurd row

-- Several

both : (a b : Bool) → (a && b) ≡ true → (a ≡ true) × (b ≡ true)
both true b e = (refl, e)
both false b e = let never : ⊥ = cc in absurd never

pub quiet_goes : (turns : List Turn) (v w : World) → are_quiet (map (λ (t : Turn). t.step) turns) ≡ true → GoesBy v turns w → w.messages ≡ v.messages
quiet_goes [] v w quiet goes = ap (λ (u : World). u.messages) goes
quiet_goes (turn ∷ turns) v w quiet (u, leads, others) =
    let (first, rest) = both (is_quiet turn.step) (are_quiet (map (λ (t : Turn). t.step) turns)) quiet in
    quiet_goes turns u w rest others ∙ takes_quiet turn.step (at_readings turn.at v) turn.reply (with_faults v.faults u) first leads.takes

-- turns of these steps
pub quiet_made : (at : Readings) (steps : List Step) (turns : List Turn) → are_quiet steps ≡ true → AllMade at steps turns → are_quiet (map (λ (t : Turn). t.step) turns) ≡ true
quiet_made at steps turns quiet made = ap are_quiet made.0 ∙ quiet

pub quiet_carries : (taken : List Taken) → are_quiet (carries taken) ≡ true
quiet_carries [] = refl
quiet_carries (t ∷ taken) = quiet_carries taken

quiet_beat : (due : Bool) → are_quiet (beat_if due) ≡ true
quiet_beat true = refl
quiet_beat false = refl

quiet_applies : (r : Region) (pace i : ℕ) (numbers : List ℕ) → are_quiet (applies_from r pace i numbers) ≡ true
quiet_applies r pace i [] = refl
quiet_applies r pace i (n ∷ numbers) = quiet_applies r pace (i + 1) numbers

quiet_joined : (steps more : List Step) → are_quiet steps ≡ true → are_quiet more ≡ true → are_quiet (steps ++ more) ≡ true
quiet_joined steps more first second =
    list_all-append is_quiet steps more ∙ ap (λ (b : Bool). b && are_quiet more) first ∙ second

-- a housekeeping
pub quiet_house : (at : Readings) (pace : ℕ) (taken : List Taken) (v : World) (turns : List Turn) (w : World) → Housekeeps at pace taken v turns w → w.messages ≡ v.messages
quiet_house at pace taken v turns w h =
    let middle = h.middle in
    let keeping = quiet_joined (beat_if (is_due middle at)) (applies middle pace) (quiet_beat (is_due middle at))
    (quiet_joined (applies_from Home pace 0 middle.home.applied) (applies_from West pace 0 middle.west.applied) (quiet_applies Home pace 0 middle.home.applied) (quiet_applies West pace 0 middle.west.applied)) in
    quiet_goes h.keeping middle w (quiet_made at (beat_if (is_due middle at) ++ applies middle pace) h.keeping keeping h.kept) h.goes_on
    ∙ quiet_goes h.carrying v middle (quiet_made at (carries taken) h.carrying (quiet_carries taken) h.carried) h.goes

-- Rounds

not_round : (step : Step) → is_quiet step ≡ true → is_round step ≡ false
not_round (Step.Round r jobs) quiet = let never : ⊥ = cc in absurd never
not_round _ quiet = refl

-- none of them is a round
pub quiet_no_round : (turns : List Turn) → are_quiet (map (λ (t : Turn). t.step) turns) ≡ true → list_any (λ (t : Turn). is_round t.step) turns ≡ false
quiet_no_round [] quiet = refl
quiet_no_round (turn ∷ turns) quiet =
    let (first, rest) = both (is_quiet turn.step) (are_quiet (map (λ (t : Turn). t.step) turns)) quiet in
    ap (λ (b : Bool). b || list_any (λ (t : Turn). is_round t.step) turns) (not_round turn.step first) ∙ quiet_no_round turns rest

-- the last of them is a round
pub last_is_round : (turns : List Turn) (t : Turn) → is_round t.step ≡ true → list_any (λ (x : Turn). is_round x.step) (turns ++ t ∷ []) ≡ true
last_is_round [] t is = ap (λ (b : Bool). b || false) is
last_is_round (turn ∷ turns) t is = ap (λ (b : Bool). is_round turn.step || b) (last_is_round turns t is) ∙ or_true (is_round turn.step)
  where
    or_true : (b : Bool) → (b || true) ≡ true
    or_true true = refl
    or_true false = refl
