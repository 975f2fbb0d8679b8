-- The printed lines of the generator are the model's.
use Rattle.std.proofs.Common.{◌≡◌, ℕ, zero, suc, ◌<◌, ◌≤◌, ◌+◌, ◌-◌, ◌*◌, ◌/◌, ◌%◌, ◌^◌, Bool, true, false, cond, ◌==◌, ◌&&◌, nat_lt, [], ◌∷◌, ◌++◌, List, All, refl, sym, ap, subst, ◌∙◌, append_assoc, arith, slice_index, slice_set}
use Rattle.std.specs.Prelude.{codes, decimal, IfOk, Result, Ok, Err}
use Rattle.std.specs.Result.{IsErr}
use Rattle.std.proofs.lemmas.List.Elements.{All-cons, All-nil, All-head, All-tail}
use Rattle.wiki_model.specs.Bytes.{Bytes}
use Rattle.wiki_model.specs.Script.{words}
use Rattle.wiki_model.specs.Generator.{Stirred, next_seed, seed_after, home_reading, west_reading, kind, client, title, word, replica, revision, title_word, edit_words, apply_words, view_words, carry_words, last_position, script_line, step_lines, with_edit, after_step, stirred_from}
use Rattle.script_generator.specs.declared.make_script.Draws.{Draws}
use Rattle.script_generator.specs.declared.make_script.Stirring.{Stirring}
use Rattle.script_generator.specs.Stir.{IsWithin, IsBelow, draws_by, stirred_of, at_text, edit_text, apply_text, view_text, carry_text, position_text, carried, position, step_text, step_bytes, after_by}

-- words with spaces between them, put together from the right, and a line feed
abbrev printed : List Bytes → Bytes
printed [] = codes "\n"
printed (w ∷ []) = w ++ codes "\n"
printed (w ∷ v ∷ ws) = w ++ (codes " " ++ printed (v ∷ ws))

printed_is : (ws : List Bytes) → printed ws ≡ script_line ws
printed_is [] = refl
printed_is (w ∷ []) = refl
printed_is (w ∷ v ∷ ws) = ap (λ l. w ++ (32 ∷ l)) (printed_is (v ∷ ws)) ∙ sym (append_assoc w (32 ∷ words (v ∷ ws)) (10 ∷ []))

pub at_is : (home west : ℕ) → at_text home west ≡ script_line (codes "at" ∷ decimal home ∷ decimal west ∷ [])
at_is home west = printed_is (codes "at" ∷ decimal home ∷ decimal west ∷ [])

pub edit_is : (number client : ℕ) (title : Bytes) (base : ℕ) → edit_text number client title base ≡ script_line (codes "edit" ∷ decimal client ∷ (codes "t" ++ decimal number) ∷ title ∷ decimal base ∷ (codes "v" ++ decimal number) ∷ [])
edit_is number client title base = printed_is (codes "edit" ∷ decimal client ∷ (codes "t" ++ decimal number) ∷ title ∷ decimal base ∷ (codes "v" ++ decimal number) ∷ [])

pub apply_is : (region : Bytes) (replica : ℕ) → apply_text region replica ≡ script_line (codes "apply" ∷ region ∷ decimal replica ∷ codes "50" ∷ [])
apply_is region replica = printed_is (codes "apply" ∷ region ∷ decimal replica ∷ codes "50" ∷ [])

pub view_is : (region : Bytes) (client : ℕ) (cookie : Bytes) (word : ℕ) (title : Bytes) → view_text region client cookie word title ≡ script_line (codes "view" ∷ region ∷ decimal client ∷ cookie ∷ decimal word ∷ title ∷ [])
view_is region client cookie word title = printed_is (codes "view" ∷ region ∷ decimal client ∷ cookie ∷ decimal word ∷ title ∷ [])

pub carry_is : (number : ℕ) → carry_text number ≡ script_line (codes "carry" ∷ decimal number ∷ [])
carry_is number = printed_is (codes "carry" ∷ decimal number ∷ [])

pub beat_is : codes "beat\n" ≡ script_line (codes "beat" ∷ [])
beat_is = refl

-- A step

place_is : (n : ℕ) → n ≡ 1 + n - 1
place_is n = omega arith

module _ (number : ℕ) (s : Stirring) where
  abbrev S : Stirred
  S = stirred_of s

  abbrev d : Draws
  d = draws_by s.seed

  carried_is : carried s d ≡ script_line (carry_words S)
  carried_is = by_test (s.messages == 0)
    where
      by_test : (t : Bool) → cond t (codes "beat\n") (carry_text (1 + next_seed d.seed / 2 ^ 33 % s.messages)) ≡ script_line (cond t (codes "beat" ∷ []) (codes "carry" ∷ decimal (1 + next_seed d.seed / 2 ^ 33 % s.messages) ∷ []))
      by_test true = refl
      by_test false = carry_is (1 + next_seed d.seed / 2 ^ 33 % s.messages)

  abbrev position_at : ℕ → Bytes
  position_at i = cond (slice_index s.wrote i == 0) (codes "-") (position_text (slice_index s.wrote i) (home_reading S / 1_000))

  position_is : position s d ≡ last_position S
  position_is = ap position_at (place_is d.client)

  by_kind : (a b c e f g h : Bool) →
      cond a (edit_text number (client S) (title_word S) (revision S)) (cond b (codes "beat\n") (cond c (apply_text (codes "home") (replica S)) (cond e (apply_text (codes "west") (replica S))
      (cond f (carried s d) (cond g (view_text (codes "home") (client S) (codes "-") (word S) (title_word S)) (cond h (view_text (codes "west") (client S) (codes "-") (word S) (title_word S))
      (view_text (codes "west") (client S) (position s d) (word S) (title_word S))))))))
      ≡ script_line (cond a (edit_words number S) (cond b (codes "beat" ∷ []) (cond c (apply_words (codes "home") S) (cond e (apply_words (codes "west") S)
      (cond f (carry_words S) (cond g (view_words (codes "home") (codes "-") S) (cond h (view_words (codes "west") (codes "-") S)
      (view_words (codes "west") (last_position S) S))))))))
  by_kind true b c e f g h = edit_is number (client S) (title_word S) (revision S)
  by_kind false true c e f g h = beat_is
  by_kind false false true e f g h = apply_is (codes "home") (replica S)
  by_kind false false false true f g h = apply_is (codes "west") (replica S)
  by_kind false false false false true g h = carried_is
  by_kind false false false false false true h = view_is (codes "home") (client S) (codes "-") (word S) (title_word S)
  by_kind false false false false false false true = view_is (codes "west") (client S) (codes "-") (word S) (title_word S)
  by_kind false false false false false false false =
      ap (λ w. view_text (codes "west") (client S) w (word S) (title_word S)) position_is ∙ view_is (codes "west") (client S) (last_position S) (word S) (title_word S)

  step_is : step_bytes number s d ≡ step_lines number S
  step_is =
      let k = kind S in
      ap (λ l. l ++ step_text number s d) (at_is (home_reading S) (west_reading S))
      ∙ ap (λ l. script_line (codes "at" ∷ decimal (home_reading S) ∷ decimal (west_reading S) ∷ []) ++ l) (by_kind (nat_lt k 2) (nat_lt k 4) (nat_lt k 6) (k == 6) (k == 7) (k == 8) (nat_lt k 11))

pub step_lines_are : (number : ℕ) (s : Stirring) (draws : Draws) (text : Bytes) → draws ≡ draws_by s.seed → text ≡ step_bytes number s draws → text ≡ step_lines number (stirred_of s)
step_lines_are number s draws text e is = is ∙ ap (step_bytes number s) e ∙ step_is number s

-- The state after a step

module _ (s : Stirring) where
  abbrev T : Stirred
  T = stirred_of s

  abbrev from_tests : ℕ → Bool → ℕ → Stirred
  from_tests i a seed = record {
    seed = seed;
    home = home_reading T;
    revisions = cond a (slice_set s.revisions (title T) (revision T + 1)) s.revisions;
    wrote = cond a (slice_set s.wrote i (slice_index s.wrote i + 1)) s.wrote;
    messages = cond a (s.messages + 2) s.messages;
  }

  seeds : (b : Bool) → cond b (next_seed (seed_after 7 s.seed)) (seed_after 7 s.seed) ≡ seed_after (cond b 8 7) s.seed
  seeds true = refl
  seeds false = refl

  by_edit : (a : Bool) (seed : ℕ) → from_tests (client T - 1) a seed ≡ record (cond a (with_edit T) T) { seed = seed; home = home_reading T }
  by_edit true seed = refl
  by_edit false seed = refl

  by_tests : (a b : Bool) → from_tests (client T - 1) a (cond b (next_seed (seed_after 7 s.seed)) (seed_after 7 s.seed)) ≡ record (cond a (with_edit T) T) { seed = seed_after (cond b 8 7) s.seed; home = home_reading T }
  by_tests a b = ap (from_tests (client T - 1) a) (seeds b) ∙ by_edit a (seed_after (cond b 8 7) s.seed)

  after_same : after_by s (draws_by s.seed) ≡ after_step T
  after_same =
      ap (λ i. from_tests i (nat_lt (kind T) 2) (cond ((kind T == 7) && nat_lt 0 s.messages) (next_seed (seed_after 7 s.seed)) (seed_after 7 s.seed))) (place_is (draws_by s.seed).client)
      ∙ by_tests (nat_lt (kind T) 2) ((kind T == 7) && nat_lt 0 s.messages)

pub after_is : (s : Stirring) (draws : Draws) (new : Stirred) → draws ≡ draws_by s.seed → new ≡ after_by s draws → new ≡ after_step (stirred_of s)
after_is s draws new e is = is ∙ ap (after_by s) e ∙ after_same s

all_more : (k : ℕ) (xs : List ℕ) → All (λ n. n ≤ k) xs → All (λ n. n ≤ k + 1) xs
all_more k [] all = All-nil (λ n. n ≤ k + 1)
all_more k (x ∷ xs) all = let le = All-head (λ n. n ≤ k) x xs all in All-cons (λ n. n ≤ k + 1) x xs (omega (arith, le)) (all_more k xs (All-tail (λ n. n ≤ k) x xs all))

all_set : (k : ℕ) (xs : List ℕ) (i : ℕ) → All (λ n. n ≤ k) xs → All (λ n. n ≤ k + 1) (slice_set xs i (slice_index xs i + 1))
all_set k [] i all = All-nil (λ n. n ≤ k + 1)
all_set k (x ∷ xs) zero all = let le = All-head (λ n. n ≤ k) x xs all in All-cons (λ n. n ≤ k + 1) (x + 1) xs (omega (arith, le)) (all_more k xs (All-tail (λ n. n ≤ k) x xs all))
all_set k (x ∷ xs) (suc i) all = let le = All-head (λ n. n ≤ k) x xs all in All-cons (λ n. n ≤ k + 1) x (slice_set xs i (slice_index xs i + 1)) (omega (arith, le)) (all_set k xs i (All-tail (λ n. n ≤ k) x xs all))

either : (k : ℕ) (t : Bool) (xs : List ℕ) (i : ℕ) → All (λ n. n ≤ k) xs → All (λ n. n ≤ k + 1) (cond t (slice_set xs i (slice_index xs i + 1)) xs)
either k true xs i all = all_set k xs i all
either k false xs i all = all_more k xs all

two_more : (k : ℕ) (t : Bool) (m : ℕ) → m ≤ 2 * k → cond t (m + 2) m ≤ 2 * (k + 1)
two_more k true m le = omega (arith, le)
two_more k false m le = omega (arith, le)

pub within_on : (k : ℕ) (s : Stirring) (draws : Draws) (new : Stirred) → IsWithin k (stirred_of s) → IsBelow draws → new ≡ after_by s draws → IsWithin (k + 1) new
within_on k s draws new w below is =
    let early = w.early in
    let late = w.late in
    let less = below.home in
    subst (IsWithin (k + 1)) (sym is) (record {
      early = omega (arith, early);
      late = omega (arith, late, less);
      revisions = either k (nat_lt draws.kind 2) s.revisions draws.title w.revisions;
      wrote = either k (nat_lt draws.kind 2) s.wrote draws.client w.wrote;
      messages = two_more k (nat_lt draws.kind 2) s.messages w.messages;
    })

-- All steps

pub no_ok : {A E : Type 0} (P : A → Type 0) (r : Result A E) → IsErr r → IfOk r P
no_ok P (Ok x) e = let bad : ⊥ = cc in absurd bad
no_ok P (Err x) e = tt

-- one more step is written
pub turn : (text new lines all : Bytes) (i steps done : ℕ) (s next : Stirred) → i < steps → done ≡ i → text ++ stirred_from (i + 1) (steps - i) s ≡ all → new ≡ text ++ lines → lines ≡ step_lines (done + 1) s → next ≡ after_step s
    → new ++ stirred_from (i + 1 + 1) (steps - (i + 1)) next ≡ all
turn text new lines all i steps done s next less is_done so is_new is_lines is_next =
    let left : suc (steps - (i + 1)) ≡ steps - i = omega (arith, less) in
    ap (λ n. n ++ stirred_from (i + 1 + 1) (steps - (i + 1)) next) is_new
    ∙ ap (λ t. (text ++ lines) ++ stirred_from (i + 1 + 1) (steps - (i + 1)) t) is_next
    ∙ append_assoc text lines (stirred_from (i + 1 + 1) (steps - (i + 1)) (after_step s))
    ∙ ap (λ l. text ++ (l ++ stirred_from (i + 1 + 1) (steps - (i + 1)) (after_step s))) (is_lines ∙ ap (λ d. step_lines (d + 1) s) is_done)
    ∙ ap (λ m. text ++ stirred_from (i + 1) m s) left
    ∙ so
