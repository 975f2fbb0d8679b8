-- Edges of the definitions that no other law, example or refusal noticed.
-- Each was found by an edit of the definition that broke nothing.
use Rattle.std.proofs.Common.{◌≡◌, ℕ, suc, ◌^◌, Bool, true, false, List, [], ◌∷◌, ◌++◌, Option, Some, None, Ok, Err, refl, sym, ◌∙◌, ap, arith, inl, inr}
use Rattle.std.specs.Prelude.{codes, replicate}
use Rattle.wiki_model.specs.declared.Region.TheVariants.{Home, West}
use Rattle.wiki_model.specs.Bytes.{Bytes}
use Rattle.wiki_model.specs.Titles.{Title}
use Rattle.wiki_model.specs.Limits.{default_bounds, title_max, token_max, client_length, text_max, brackets_max, included_max, script_max, nesting_max, plain_nesting_max, level_max, replicas_max, weight_max, count_max, steps_max, number_limit, seconds_limit, id_limit, seed_limit, bound_max, greatest_moment, life_whole, life_lagged, life_interim, greatest_lag, position_life, wait_limit, beat_after}
use Rattle.wiki_model.specs.History.{Beat, Edit, Commit, commit_at, touches}
use Rattle.wiki_model.specs.World.{World, Setting, OpenView, Floor, request_at}
use Rattle.wiki_model.specs.World.Request.{ViewArrived}
use Rattle.wiki_model.specs.Promised.{Gives}
use Rattle.wiki_model.specs.HoldOff.{Lacks}
use Rattle.wiki_model.specs.Answers.Answer.{EditSaved}
use Rattle.wiki_model.specs.Steps.{Step}
use Rattle.wiki_model.specs.Runs.{Turn, One, opening}
use Rattle.wiki_model.specs.Serving.{Taken, Splits, IsReceivable, not_received, applies, is_due}
use Rattle.wiki_model.specs.Script.{FarmLine, ApplyLine, EditLine, IsWeights, MayFollow, SpellsCookie, Spells}
use Rattle.wiki_model.specs.Report.{script_setting, answer_count}
use Rattle.wiki_model.specs.Commands.{IsCommand, West as WestCommand, IsGiven, Connections, is_host}
use Rattle.wiki_model.specs.Cookies.{are_digits, position_in, Form, Index}

-- a page at k lacks the very next entry
lacks_next : (w : World) (k : ℕ) (title : Title) (commit : Commit) → commit_at w.history (suc k) ≡ Some commit → touches commit title ≡ true → Lacks w k title (suc k) commit
lacks_next w k title commit there changes = record { later = omega arith; is_commit = there; changes = changes }

-- The numbers that documents and readers know

bytes : (title_max ≡ 255) × (token_max ≡ 64) × (client_length ≡ 32) × (text_max ≡ 65_536) × (brackets_max ≡ 512)
    × (included_max ≡ 262_144) × (script_max ≡ 16_777_216)
bytes = (refl, refl, refl, refl, refl, refl, refl)

numbers : (nesting_max ≡ 4) × (plain_nesting_max ≡ 1) × (level_max ≡ 6) × (replicas_max ≡ 8) × (weight_max ≡ 1_000)
    × (count_max ≡ 1_000_000) × (steps_max ≡ 100_000)
numbers = (refl, refl, refl, refl, refl, refl, refl)

ends : (number_limit ≡ 9_223_372_036_854_775_808) × (seconds_limit ≡ 10_000_000_000_000_000)
    × (id_limit ≡ 4_294_967_296) × (seed_limit ≡ 10_000_000_000_000_000_000)
ends = (refl, refl, refl, refl)

times : (bound_max ≡ 60_000) × (greatest_moment ≡ 4_000_000_000_000_000) × (life_whole ≡ 86_400_000) × (life_lagged ≡ 30_000)
    × (life_interim ≡ 2_000) × (greatest_lag ≡ 6_000) × (position_life ≡ 60_000) × (wait_limit ≡ 5_000) × (beat_after ≡ 1_000)
times = (refl, refl, refl, refl, refl, refl, refl, refl, refl)

-- A floor is given by the step wait of the very request, to the view that arrived as it.

given_by_another : (v : World) (turn : Turn) (id other : ℕ) (last : Bool) (view : OpenView) (floor : Floor)
    → turn.step ≡ Step.Wait other last → (other ≡ id → ⊥) → Gives v turn id view floor → ⊥
given_by_another v turn id other last view floor is differ g =
    let both : Step.Wait other last ≡ Step.Wait id g.last = sym is ∙ g.step in
    let same : other ≡ id = cc in
    differ same

given_to_another : (v : World) (turn : Turn) (id : ℕ) (view other : OpenView) (floor : Floor)
    → request_at v id ≡ Some (ViewArrived other) → Gives v turn id view floor → other ≡ view
given_to_another v turn id view other floor is g =
    let both : Some (ViewArrived other) ≡ Some (ViewArrived view) = sym is ∙ g.arrived in
    cc

-- Scripts

no_second_replica : MayFollow [] (ApplyLine Home 1 5) → ⊥
no_second_replica m = let h = m.1 in omega (arith, h)

no_third_replica : MayFollow (FarmLine (1 ∷ 2 ∷ []) (1 ∷ []) 0 ∷ []) (ApplyLine Home 2 5) → ⊥
no_third_replica m = let h = m.1 in omega (arith, h)

nine_replicas : IsWeights (replicate 9 1) → ⊥
nine_replicas w = let h = w.1 in omega (arith, h)

applies_too_many : (bytes : Bytes) → Spells (ApplyLine Home 0 1_000_001) bytes → ⊥
applies_too_many bytes s = let h = s.1 in omega (arith, h)

no_index : (word client : Bytes) (seconds : ℕ) (m : Bool) → SpellsCookie word client (Some (record { index = 0; seconds = seconds; client = client })) m → ⊥
no_index word client seconds m s = let h = s.0 in omega (arith, h)

too_many_seconds : (word client : Bytes) (m : Bool) → SpellsCookie word client (Some (record { index = 1; seconds = 10 ^ 16; client = client })) m → ⊥
too_many_seconds word client m s = let h = s.2 in omega (arith, h)

epoch : (script_setting (λ r a b. true) (FarmLine (1 ∷ []) (1 ∷ []) 7 ∷ [])).epoch ≡ 7
epoch = refl

abbrev edit : Edit
edit = record { client = codes "x"; token = codes "t"; title = codes "A"; base = 0; text = [] }

abbrev turn : Step → Option Rattle.wiki_model.specs.Answers.Answer → Turn
turn step answer = record { at = record { home = 0; west = 0 }; step = step; reply = One answer }

-- an edit's line has one answer, though it makes three steps
counted : answer_count (EditLine edit ∷ []) ((turn (Step.Begin 0) None ∷ turn (Step.Begin 0) None ∷ turn (Step.CommitEdit 0) (Some (EditSaved (record { entry = 1; revision = 1; client = codes "x"; index = 1; seconds = 0 }))) ∷ []) ∷ []) ≡ 1
counted = refl

-- Serving

abbrev setting : Setting
setting = record { home_weights = 1 ∷ 2 ∷ []; west_weights = 1 ∷ []; epoch = 0; bounds = default_bounds; workers = 1; together = λ r a b. true; opened = 9 }

abbrev opened : World
opened = opening setting (Beat 500 ∷ []) 0 (record { home = 500; west = 0 })

home_first : applies opened 7 ≡ Step.Apply Home 0 7 ∷ Step.Apply Home 1 7 ∷ Step.Apply West 0 7 ∷ []
home_first = refl

-- a beat that was there at the opening is no beat of this farm
own_beats : (is_due opened (record { home = 600; west = 0 }) ≡ true) × (is_due (record opened { history = Beat 500 ∷ Beat 550 ∷ [] }) (record { home = 600; west = 0 }) ≡ false)
own_beats = (refl, refl)

held_back : (held : List Taken) → not_received [] held ≡ held
held_back held = refl

-- a purge that a batch can receive is held for it
splits_first : (v : World) (room : ℕ) (t : Taken) (carried held : List Taken) → Splits v (suc room) (t ∷ []) carried held → IsReceivable v t → (held ≡ t ∷ []) × (carried ≡ [])
splits_first v room t carried held (inl (is, more, e, rest)) may = (e ∙ ap (λ (ts : List Taken). t ∷ ts) rest.1, rest.0)
splits_first v room t carried held (inr rest) may = absurd (rest.0 may)

-- Commands

port_too_great : (host : Bytes) (n : ℕ) (words : List Bytes) → IsCommand (WestCommand host 65_536 n) words → ⊥
port_too_great host n words is = let h = is.4 in omega (arith, h)

hosts : (is_host (replicate 253 97) ≡ true) × (is_host (replicate 254 97) ≡ false)
hosts = (refl, refl)

too_many_connections : (words rest : List Bytes) → IsGiven (Connections 1_000_001) words rest → ⊥
too_many_connections words rest b = let h = b.1 in omega (arith, h)

-- Cookies

digits : (are_digits 16 (replicate 16 49) ≡ true) × (position_in (codes "1@" ++ replicate 17 49 ++ codes "#00000000000000000000000000000001") ≡ Err Form)
digits = (refl, refl)

greatest_index : (position_in (codes "9223372036854775808@0#00000000000000000000000000000001") ≡ Err Index)
    × (position_in (codes "9223372036854775807@0#00000000000000000000000000000001") ≡ Ok (record { index = 9223372036854775807; seconds = 0; client = codes "00000000000000000000000000000001" }))
greatest_index = (refl, refl)
