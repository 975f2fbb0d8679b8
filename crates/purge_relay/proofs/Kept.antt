-- Why a wire in memory need not keep what it has given. In order, only the messages after the taken ones are looked at,
-- and taking the first of them leaves those after it. By a script, only the messages that a deal names are looked for,
-- and no deal comes back.
use Rattle.std.proofs.Common.{◌≡◌, ℕ, zero, suc, ◌≤◌, ◌+◌, Bool, true, false, ◌||◌, cond, List, [], ◌∷◌, ◌++◌, length, drop, Option, None, Some, Result, Ok, Err, refl, sym, ap, ◌∙◌, subst, arith}
use Rattle.std.specs.Prelude.{IsSome, find, slice_get, option_map}
use Rattle.std.specs.List.{list_any}
use Rattle.std.specs.Option.{option_or}
use Rattle.std.proofs.lemmas.Bool.{false≢true, eqb-true, eq-eqb}
use Rattle.std.proofs.lemmas.List.{length-append, drop-append-le, drop-drop}
use Rattle.std.proofs.lemmas.List.Folds.{find-append}
use Rattle.std.proofs.lemmas.Option.{slice_get_within}
use Rattle.purge_relay.specs.declared.message.Message.{Message}
use Rattle.purge_relay.specs.declared.farm_wire.Deal.{Deal}
use Rattle.purge_relay.specs.declared.farm_wire.Deal.TheVariants.{Carry, Skip, Fail}
use Rattle.purge_relay.specs.declared.wire.WireFault.{WireFault}
use Rattle.purge_relay.specs.declared.wire.WireFault.TheVariants.{Failed, Memory}
use Rattle.purge_relay.specs.FarmWire.{Next, Gives, GivesNone, Fails, next_by, next_in, next_of, has_number, with_given, TakesFrom, Line, Takes, faults_after}
use Rattle.purge_relay.specs.AsModel.{gives_message}
use Rattle.farm_base.specs.Causes.{counted}
use Rattle.purge_relay.specs.Kept.{ScriptState, plan_of, names, with_kept, with_waiting, Keeps, Answers, DealsOut, Deals, taken_after}

-- in order

get_drop : {X : Type 0} (k : ℕ) (xs : List X) → slice_get (drop k xs) 0 ≡ slice_get xs k
get_drop zero xs = refl
get_drop (suc k) [] = refl
get_drop (suc k) (x ∷ xs) = get_drop k xs

none_left : {X : Type 0} (k : ℕ) (xs : List X) → slice_get xs k ≡ None → drop 1 (drop k xs) ≡ drop k xs
none_left zero [] is = refl
none_left zero (x ∷ xs) is = let no : ⊥ = cc in absurd no
none_left (suc k) [] is = refl
none_left (suc k) (x ∷ xs) is = none_left k xs is

gives_first : (taken : List Message) (o : Option Message) → TakesFrom taken (with_given o taken) None None (next_by o) (Ok o)
gives_first taken None = (refl, refl)
gives_first taken (Some m) = (refl, refl, refl)

keeps_rest : (sent taken : List Message) (o : Option Message) → slice_get sent (length taken) ≡ o → length taken ≤ length sent
    → Keeps None (drop 1 (drop (length taken) sent)) sent (with_given o taken)
keeps_rest sent taken None is few = (few, none_left (length taken) sent is)
keeps_rest sent taken (Some m) is few =
    let longer : length (taken ++ m ∷ []) ≡ length taken + 1 = length-append taken (m ∷ []) in
    let within = slice_get_within sent (length taken) m is in
    let fits : length (taken ++ m ∷ []) ≤ length sent = omega (arith, longer, within) in
    (fits, drop-drop 1 (length taken) sent ∙ ap (λ k. drop k sent) (sym longer))

-- by a script

names_itself : (n : ℕ) (deals : List Deal) → list_any (names n) (Carry n ∷ deals) ≡ true
names_itself n deals = ap (λ b. b || list_any (names n) deals) (eq-eqb n n refl)

next_kept : (deals : List Deal) (kept sent : List Message) → ((number : ℕ) → list_any (names number) deals ≡ true → find (has_number number) kept ≡ find (has_number number) sent)
    → next_in kept deals ≡ next_in sent deals
next_kept [] kept sent keeps = refl
next_kept (Skip ∷ deals) kept sent keeps = refl
next_kept (Fail ∷ deals) kept sent keeps = refl
next_kept (Carry n ∷ deals) kept sent keeps = ap next_by (keeps n (names_itself n deals))

answered : (taken : List Message) (deals new : List Deal) (next : Next) (result : Result (Option Message) WireFault) → Answers deals new next result
    → TakesFrom taken (taken_after result taken) (Some deals) (Some new) next result
answered taken deals new (Gives m) (Ok (Some given)) h = (h.0, ap (λ x. taken ++ x ∷ []) h.0, ap Some h.1)
answered taken deals new (Gives m) (Ok None) h = absurd h
answered taken deals new (Gives m) (Err Memory) h = (refl, ap Some h)
answered taken deals new (Gives m) (Err Failed) h = absurd h
answered taken deals new GivesNone (Ok None) h = (refl, ap Some h)
answered taken deals new GivesNone (Ok (Some given)) h = absurd h
answered taken deals new GivesNone (Err e) h = absurd h
answered taken deals new Fails (Err Failed) h = (refl, ap Some h)
answered taken deals new Fails (Err Memory) h = absurd h
answered taken deals new Fails (Ok o) h = absurd h

refused_at : (deals : List Deal) (kept : List Message) (number : ℕ) → slice_get deals 0 ≡ Some (Carry number) → (o : Option Message) → find (has_number number) kept ≡ o → IsSome o
    → Answers deals deals (next_in kept deals) (Err Memory)
refused_at [] kept number is o found some = let no : ⊥ = cc in absurd no
refused_at (Skip ∷ deals) kept number is o found some = let no : ⊥ = cc in absurd no
refused_at (Fail ∷ deals) kept number is o found some = let no : ⊥ = cc in absurd no
refused_at (Carry n ∷ deals) kept number is None found some = absurd (false≢true some)
refused_at (Carry n ∷ deals) kept number is (Some m) found some =
    let same : n ≡ number = cc in
    subst (λ next. Answers (Carry n ∷ deals) (Carry n ∷ deals) next (Err Memory)) (sym (ap (λ k. next_by (find (has_number k) kept)) same ∙ ap next_by found)) refl

-- a message that is there and can't be copied stays ready
pub refused : (script : ScriptState) (number : ℕ) → slice_get script.deals 0 ≡ Some (Carry number) → IsSome (find (has_number number) script.kept) → DealsOut script script (Err Memory)
refused script number is some = record {
  answers = refused_at script.deals script.kept number is (find (has_number number) script.kept) refl some;
  kept = refl;
}

any_later : (b : Bool) (rest : Bool) → rest ≡ true → (b || rest) ≡ true
any_later true rest is = refl
any_later false rest is = is

any_drop : {X : Type 0} (p : X → Bool) (xs : List X) → list_any p (drop 1 xs) ≡ true → list_any p xs ≡ true
any_drop p [] is = is
any_drop p (x ∷ xs) is = any_later (p x) (list_any p xs) is

still_named : (deals new : List Deal) (next : Next) (result : Result (Option Message) WireFault) (number : ℕ) → Answers deals new next result
    → list_any (names number) new ≡ true → list_any (names number) deals ≡ true
still_named deals new (Gives m) (Ok (Some given)) number h is = any_drop (names number) deals (ap (list_any (names number)) (sym h.1) ∙ is)
still_named deals new (Gives m) (Ok None) number h is = absurd h
still_named deals new (Gives m) (Err Memory) number h is = ap (list_any (names number)) (sym h) ∙ is
still_named deals new (Gives m) (Err Failed) number h is = absurd h
still_named deals new GivesNone (Ok None) number h is = any_drop (names number) deals (ap (list_any (names number)) (sym h) ∙ is)
still_named deals new GivesNone (Ok (Some given)) number h is = absurd h
still_named deals new GivesNone (Err e) number h is = absurd h
still_named deals new Fails (Err Failed) number h is = any_drop (names number) deals (ap (list_any (names number)) (sym h) ∙ is)
still_named deals new Fails (Err Memory) number h is = absurd h
still_named deals new Fails (Ok o) number h is = absurd h

-- a take that goes by what is kept goes by all that was sent
pub takes_from : (old new : Option ScriptState) (waiting new_waiting sent taken : List Message) (result : Result (Option Message) WireFault)
    → Keeps old waiting sent taken → Deals old new waiting new_waiting result
    → TakesFrom taken (taken_after result taken) (plan_of old) (plan_of new) (next_of sent (length taken) (plan_of old)) result
takes_from None None waiting new_waiting sent taken result keeps deals =
    let first : result ≡ Ok (slice_get sent (length taken)) = deals.0 ∙ ap (λ w. Ok (slice_get w 0)) keeps.1 ∙ ap Ok (get_drop (length taken) sent) in
    subst (λ r. TakesFrom taken (taken_after r taken) None None (next_by (slice_get sent (length taken))) r) (sym first) (gives_first taken (slice_get sent (length taken)))
takes_from None (Some s) waiting new_waiting sent taken result keeps deals = absurd deals
takes_from (Some s) None waiting new_waiting sent taken result keeps deals = absurd deals
takes_from (Some s) (Some t) waiting new_waiting sent taken result keeps deals =
    subst (λ next. TakesFrom taken (taken_after result taken) (Some s.deals) (Some t.deals) next result) (next_kept s.deals s.kept sent keeps)
    (answered taken s.deals t.deals (next_in s.kept s.deals) result deals.1.answers)

-- and leaves what later takes need
pub keeps_after : (old new : Option ScriptState) (waiting new_waiting sent taken : List Message) (result : Result (Option Message) WireFault)
    → Keeps old waiting sent taken → Deals old new waiting new_waiting result → Keeps new new_waiting sent (taken_after result taken)
keeps_after None None waiting new_waiting sent taken result keeps deals =
    let first : result ≡ Ok (slice_get sent (length taken)) = deals.0 ∙ ap (λ w. Ok (slice_get w 0)) keeps.1 ∙ ap Ok (get_drop (length taken) sent) in
    let rest : new_waiting ≡ drop 1 (drop (length taken) sent) = deals.1 ∙ ap (drop 1) keeps.1 in
    subst (λ r. Keeps None new_waiting sent (taken_after r taken)) (sym first)
    (subst (λ w. Keeps None w sent (with_given (slice_get sent (length taken)) taken)) (sym rest) (keeps_rest sent taken (slice_get sent (length taken)) refl keeps.0))
keeps_after None (Some s) waiting new_waiting sent taken result keeps deals = absurd deals
keeps_after (Some s) None waiting new_waiting sent taken result keeps deals = absurd deals
keeps_after (Some s) (Some t) waiting new_waiting sent taken result keeps deals = λ number named.
    ap (find (has_number number)) deals.1.kept ∙ keeps number (still_named s.deals t.deals (next_in s.kept s.deals) result number deals.1.answers named)

-- a take of the wire: what it kept before, what it did, and what it noted of it

abbrev pub line : (sent taken : List Message) → Option ScriptState → (faults refused empty : ℕ) → Line
line sent taken script faults refused empty =
    record { sent = sent; taken = taken; plan = plan_of script; faults = faults; refused = refused; empty = empty }

pub keeps_given : (old new : Option ScriptState) (waiting new_waiting sent taken new_taken : List Message) (result : Result (Option Message) WireFault) (m : Message)
    → Keeps old waiting sent taken → Deals old new waiting new_waiting result → result ≡ Ok (Some m) → new_taken ≡ taken ++ m ∷ [] → Keeps new new_waiting sent new_taken
keeps_given old new waiting new_waiting sent taken new_taken result m keeps deals is noted =
    subst (Keeps new new_waiting sent) (ap (λ r. taken_after r taken) is ∙ sym noted) (keeps_after old new waiting new_waiting sent taken result keeps deals)

pub takes_given : (old new : Option ScriptState) (waiting new_waiting sent taken new_taken : List Message) (result : Result (Option Message) WireFault) (m : Message) (faults refused empty : ℕ) (before : Line)
    → Keeps old waiting sent taken → Deals old new waiting new_waiting result → result ≡ Ok (Some m) → new_taken ≡ taken ++ m ∷ []
    → line sent taken old faults refused empty ≡ before → Takes before (line sent new_taken new faults refused empty) result
takes_given old new waiting new_waiting sent taken new_taken result m faults refused empty before keeps deals is noted seen =
    subst (λ b. Takes b (line sent new_taken new faults refused empty) result) seen (record {
      from = subst (λ t. TakesFrom taken t (plan_of old) (plan_of new) (next_of sent (length taken) (plan_of old)) result) (ap (λ r. taken_after r taken) is ∙ sym noted)
          (takes_from old new waiting new_waiting sent taken result keeps deals);
      sent = refl;
      faults = ap (λ r. faults_after r faults) (sym is);
      empty = ap (λ r. cond (gives_message r) empty (counted empty)) (sym is);
      refused = refl;
    })

-- one message more was sent

or_none : {X : Type 0} (o : Option X) → option_or o None ≡ o
or_none None = refl
or_none (Some x) = refl

other_number : (deals : List Deal) (m : Message) (number : ℕ) (b : Bool) → has_number number m ≡ b → list_any (names m.number) deals ≡ false → list_any (names number) deals ≡ true
    → cond b (Some m) None ≡ None
other_number deals m number false is unnamed named = refl
other_number deals m number true is unnamed named =
    absurd (false≢true (sym unnamed ∙ ap (λ n. list_any (names n) deals) (eqb-true m.number number is) ∙ named))

keeps_named : (s : ScriptState) (sent : List Message) (m : Message) (b : Bool) → list_any (names m.number) s.deals ≡ b
    → ((number : ℕ) → list_any (names number) s.deals ≡ true → find (has_number number) s.kept ≡ find (has_number number) sent)
    → (number : ℕ) → list_any (names number) (cond b (record s { kept = s.kept ++ m ∷ [] }) s).deals ≡ true
    → find (has_number number) (cond b (record s { kept = s.kept ++ m ∷ [] }) s).kept ≡ find (has_number number) (sent ++ m ∷ [])
keeps_named s sent m true is keeps number named =
    find-append (has_number number) s.kept (m ∷ []) ∙ ap (λ o. option_or o (find (has_number number) (m ∷ []))) (keeps number named)
    ∙ sym (find-append (has_number number) sent (m ∷ []))
keeps_named s sent m false is keeps number named =
    keeps number named ∙ sym (or_none (find (has_number number) sent))
    ∙ ap (option_or (find (has_number number) sent)) (sym (other_number s.deals m number (has_number number m) refl is named))
    ∙ sym (find-append (has_number number) sent (m ∷ []))

pub keeps_more : (script : Option ScriptState) (waiting sent taken : List Message) (m : Message) → Keeps script waiting sent taken
    → Keeps (option_map (with_kept m) script) (with_waiting script m waiting) (sent ++ m ∷ []) taken
keeps_more None waiting sent taken m keeps =
    let longer : length (sent ++ m ∷ []) ≡ length sent + 1 = length-append sent (m ∷ []) in
    let few = keeps.0 in
    let fits : length taken ≤ length (sent ++ m ∷ []) = omega (arith, longer, few) in
    (fits, ap (λ w. w ++ m ∷ []) keeps.1 ∙ sym (drop-append-le (length taken) sent (m ∷ []) keeps.0))
keeps_more (Some s) waiting sent taken m keeps = keeps_named s sent m (list_any (names m.number) s.deals) refl keeps

pub keeps_sent : (old new : Option ScriptState) (waiting new_waiting sent new_sent taken : List Message) (m : Message) → Keeps old waiting sent taken
    → new ≡ option_map (with_kept m) old → new_waiting ≡ with_waiting old m waiting → new_sent ≡ sent ++ m ∷ [] → Keeps new new_waiting new_sent taken
keeps_sent old new waiting new_waiting sent new_sent taken m keeps script waits more =
    subst (λ n. Keeps n new_waiting new_sent taken) (sym script)
    (subst (λ w. Keeps (option_map (with_kept m) old) w new_sent taken) (sym waits)
    (subst (λ l. Keeps (option_map (with_kept m) old) (with_waiting old m waiting) l taken) (sym more) (keeps_more old waiting sent taken m keeps)))

deals_stay : (s : ScriptState) (m : Message) (b : Bool) → (cond b (record s { kept = s.kept ++ m ∷ [] }) s).deals ≡ s.deals
deals_stay s m true = refl
deals_stay s m false = refl

pub plan_stays : (script : Option ScriptState) (m : Message) → plan_of (option_map (with_kept m) script) ≡ plan_of script
plan_stays None m = refl
plan_stays (Some s) m = ap Some (deals_stay s m (list_any (names m.number) s.deals))
