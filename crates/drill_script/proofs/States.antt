-- The state of a script's reader tells exactly which lines may follow, and is kept by one more line.
use Rattle.std.proofs.Common.{◌≡◌, ◌≢◌, ℕ, ◌<◌, ◌≤◌, ◌^◌, Bool, true, false, cond, not, ◌&&◌, ◌||◌, nat_lt, List, [], ◌∷◌, ◌++◌, All, None, Some, refl, sym, ap, subst, ◌∙◌, arith, ◌⊎◌, inl, inr, max}
use Rattle.std.proofs.lemmas.Bool.Decides.{nat_tests}
use Rattle.std.proofs.lemmas.List.Elements.{All-cons, All-nil, All-head, All-tail}
use Rattle.std.proofs.lemmas.Option.{none-some, same_Some}
use Rattle.wiki_model.specs.declared.Region.{Region}
use Rattle.wiki_model.specs.declared.Region.TheVariants.{Home, West}
use Rattle.wiki_model.specs.Bytes.{Bytes}
use Rattle.wiki_model.specs.Limits.{replicas_max}
use Rattle.wiki_model.specs.Script.{Line, Spells, replicas_of, HasSmallerId, IsFarmLineAlone, IsInPlace, MayFollow}
use Rattle.wiki_model.specs.Script.Line.{FarmLine, BoundsLine, At, BeatLine, ApplyLine, EditLine, ViewLine, Open, BeginLine, CommitLine, WaitLine, LookLine, SnapLine, StoreLine, CarryLine, DropLine, MarkupLine, End}
use Rattle.drill_script.specs.Forms.{line_in}
use Rattle.drill_script.specs.declared.script_state.ScriptState.{ScriptState}
use Rattle.drill_script.specs.ScriptState.{is_end, is_farm, opened_id, replicas_by, has_none, has_farm_alone, replicas_told, greatest_id, has_end, state_after, noted, replicas_in, in_place, fits, IsStateOf, IsNextLine}
use Rattle.drill_script.proofs.WordsExact.{both}
use Rattle.drill_script.proofs.LinesExact.{HasReplica, line_said, line_read}

no_clash : true ≡ false → ⊥
no_clash e = cc

-- One more line

none_more : (lines : List Line) (line : Line) → has_none (lines ++ line ∷ []) ≡ false
none_more [] line = refl
none_more (other ∷ lines) line = refl

farm_more : (lines : List Line) (line : Line) → has_farm_alone (lines ++ line ∷ []) ≡ (has_none lines && is_farm line)
farm_more [] line = refl
farm_more (other ∷ []) line = refl
farm_more (other ∷ next ∷ lines) line = refl

replicas_more : (r : Region) (lines : List Line) (line : Line) → replicas_told r (lines ++ line ∷ []) ≡ cond (has_none lines) (replicas_by r line) (replicas_told r lines)
replicas_more r [] line = refl
replicas_more r (other ∷ lines) line = refl

max_zero : (a : ℕ) → max a 0 ≡ a
max_zero a = grind (arith)

max_assoc : (a b c : ℕ) → max a (max b c) ≡ max (max a b) c
max_assoc a b c = grind (arith)

max_swap : (a : ℕ) → max a 0 ≡ max 0 a
max_swap a = grind (arith)

ids_more : (lines : List Line) (line : Line) → greatest_id (lines ++ line ∷ []) ≡ max (greatest_id lines) (opened_id line)
ids_more [] line = max_swap (opened_id line)
ids_more (other ∷ lines) line = ap (max (opened_id other)) (ids_more lines line) ∙ max_assoc (opened_id other) (greatest_id lines) (opened_id line)

or_assoc : (a b c : Bool) → (a || (b || c)) ≡ ((a || b) || c)
or_assoc true b c = refl
or_assoc false b c = refl

or_false : (a : Bool) → (a || false) ≡ a
or_false true = refl
or_false false = refl

pub end_more : (lines : List Line) (line : Line) → has_end (lines ++ line ∷ []) ≡ (has_end lines || is_end line)
end_more [] line = or_false (is_end line)
end_more (other ∷ lines) line = ap (λ b. is_end other || b) (end_more lines line) ∙ or_assoc (is_end other) (has_end lines) (is_end line)

pub state_more : (lines : List Line) (line : Line) → state_after (lines ++ line ∷ []) ≡ noted (state_after lines) line
state_more lines line =
    let a = none_more lines line in
    let b = farm_more lines line in
    let c = replicas_more Home lines line in
    let d = replicas_more West lines line in
    let e = ids_more lines line in
    let f = end_more lines line in
    cc

-- What fits may follow

pub is_the_end : (x : Line) → is_end x ≡ true → x ≡ End
is_the_end (FarmLine a b c) e = absurd (no_clash (sym e))
is_the_end (BoundsLine a) e = absurd (no_clash (sym e))
is_the_end (At a) e = absurd (no_clash (sym e))
is_the_end BeatLine e = absurd (no_clash (sym e))
is_the_end (ApplyLine a b c) e = absurd (no_clash (sym e))
is_the_end (EditLine a) e = absurd (no_clash (sym e))
is_the_end (ViewLine a) e = absurd (no_clash (sym e))
is_the_end (Open a b) e = absurd (no_clash (sym e))
is_the_end (BeginLine a) e = absurd (no_clash (sym e))
is_the_end (CommitLine a) e = absurd (no_clash (sym e))
is_the_end (WaitLine a) e = absurd (no_clash (sym e))
is_the_end (LookLine a) e = absurd (no_clash (sym e))
is_the_end (SnapLine a) e = absurd (no_clash (sym e))
is_the_end (StoreLine a) e = absurd (no_clash (sym e))
is_the_end (CarryLine a) e = absurd (no_clash (sym e))
is_the_end (DropLine a) e = absurd (no_clash (sym e))
is_the_end (MarkupLine a) e = absurd (no_clash (sym e))
is_the_end End e = refl

smaller_than : (id : ℕ) (l : Line) → opened_id l < id → HasSmallerId id l
smaller_than id (FarmLine a b c) k = tt
smaller_than id (BoundsLine a) k = tt
smaller_than id (At a) k = tt
smaller_than id BeatLine k = tt
smaller_than id (ApplyLine a b c) k = tt
smaller_than id (EditLine a) k = tt
smaller_than id (ViewLine a) k = tt
smaller_than id (Open a b) k = k
smaller_than id (BeginLine a) k = tt
smaller_than id (CommitLine a) k = tt
smaller_than id (WaitLine a) k = tt
smaller_than id (LookLine a) k = tt
smaller_than id (SnapLine a) k = tt
smaller_than id (StoreLine a) k = tt
smaller_than id (CarryLine a) k = tt
smaller_than id (DropLine a) k = tt
smaller_than id (MarkupLine a) k = tt
smaller_than id End k = tt

less_than : (id : ℕ) (l : Line) → 0 < id → HasSmallerId id l → opened_id l < id
less_than id (FarmLine a b c) some k = some
less_than id (BoundsLine a) some k = some
less_than id (At a) some k = some
less_than id BeatLine some k = some
less_than id (ApplyLine a b c) some k = some
less_than id (EditLine a) some k = some
less_than id (ViewLine a) some k = some
less_than id (Open a b) some k = k
less_than id (BeginLine a) some k = some
less_than id (CommitLine a) some k = some
less_than id (WaitLine a) some k = some
less_than id (LookLine a) some k = some
less_than id (SnapLine a) some k = some
less_than id (StoreLine a) some k = some
less_than id (CarryLine a) some k = some
less_than id (DropLine a) some k = some
less_than id (MarkupLine a) some k = some
less_than id End some k = some

no_end : (lines : List Line) → has_end lines ≡ false → All (λ other. other ≢ End) lines
no_end [] e = All-nil (λ other. other ≢ End)
no_end (line ∷ lines) e = by_test (is_end line) refl (no_end lines) e
  where
    by_test : (t : Bool) → is_end line ≡ t → (has_end lines ≡ false → All (λ other. other ≢ End) lines) → (t || has_end lines) ≡ false → All (λ other. other ≢ End) (line ∷ lines)
    by_test true q ih k = absurd (no_clash k)
    by_test false q ih k = All-cons (λ other. other ≢ End) line lines (λ same. no_clash (sym (ap is_end same) ∙ q)) (ih k)

pub ends_not : (lines : List Line) → All (λ other. other ≢ End) lines → has_end lines ≡ false
ends_not [] all = refl
ends_not (line ∷ lines) all = by_line line (All-head (λ other. other ≢ End) line lines all) ∙ ends_not lines (All-tail (λ other. other ≢ End) line lines all)
  where
    by_line : (l : Line) → l ≢ End → (is_end l || has_end lines) ≡ has_end lines
    by_line l n = by_test (is_end l) refl n
      where
        by_test : (t : Bool) → is_end l ≡ t → l ≢ End → (t || has_end lines) ≡ has_end lines
        by_test false q m = refl
        by_test true q m = absurd (m (is_the_end l q))

smaller_ids : (id : ℕ) (lines : List Line) → greatest_id lines < id → All (HasSmallerId id) lines
smaller_ids id [] less = All-nil (HasSmallerId id)
smaller_ids id (line ∷ lines) less = All-cons (HasSmallerId id) line lines (smaller_than id line (left_of (opened_id line) (greatest_id lines) less)) (smaller_ids id lines (right_of (opened_id line) (greatest_id lines) less))
  where
    left_of : (a b : ℕ) → max a b < id → a < id
    left_of a b k = grind (arith, k)

    right_of : (a b : ℕ) → max a b < id → b < id
    right_of a b k = grind (arith, k)

greater_id : (id : ℕ) (lines : List Line) → 0 < id → All (HasSmallerId id) lines → greatest_id lines < id
greater_id id [] some all = some
greater_id id (line ∷ lines) some all = both_less (opened_id line) (greatest_id lines) (less_than id line some (All-head (HasSmallerId id) line lines all)) (greater_id id lines some (All-tail (HasSmallerId id) line lines all))
  where
    both_less : (a b : ℕ) → a < id → b < id → max a b < id
    both_less a b k j = grind (arith, k, j)

-- what is known of the replicas
told : (r : Region) (lines : List Line) → replicas_told r lines ≡ replicas_of r lines
told Home [] = refl
told West [] = refl
told Home ((FarmLine a b c) ∷ lines) = refl
told West ((FarmLine a b c) ∷ lines) = refl
told Home ((BoundsLine a) ∷ lines) = refl
told West ((BoundsLine a) ∷ lines) = refl
told Home ((At a) ∷ lines) = refl
told West ((At a) ∷ lines) = refl
told Home (BeatLine ∷ lines) = refl
told West (BeatLine ∷ lines) = refl
told Home ((ApplyLine a b c) ∷ lines) = refl
told West ((ApplyLine a b c) ∷ lines) = refl
told Home ((EditLine a) ∷ lines) = refl
told West ((EditLine a) ∷ lines) = refl
told Home ((ViewLine a) ∷ lines) = refl
told West ((ViewLine a) ∷ lines) = refl
told Home ((Open a b) ∷ lines) = refl
told West ((Open a b) ∷ lines) = refl
told Home ((BeginLine a) ∷ lines) = refl
told West ((BeginLine a) ∷ lines) = refl
told Home ((CommitLine a) ∷ lines) = refl
told West ((CommitLine a) ∷ lines) = refl
told Home ((WaitLine a) ∷ lines) = refl
told West ((WaitLine a) ∷ lines) = refl
told Home ((LookLine a) ∷ lines) = refl
told West ((LookLine a) ∷ lines) = refl
told Home ((SnapLine a) ∷ lines) = refl
told West ((SnapLine a) ∷ lines) = refl
told Home ((StoreLine a) ∷ lines) = refl
told West ((StoreLine a) ∷ lines) = refl
told Home ((CarryLine a) ∷ lines) = refl
told West ((CarryLine a) ∷ lines) = refl
told Home ((DropLine a) ∷ lines) = refl
told West ((DropLine a) ∷ lines) = refl
told Home ((MarkupLine a) ∷ lines) = refl
told West ((MarkupLine a) ∷ lines) = refl
told Home (End ∷ lines) = refl
told West (End ∷ lines) = refl

empty_list : (lines : List Line) → has_none lines ≡ true → lines ≡ []
empty_list [] e = refl
empty_list (line ∷ lines) e = absurd (no_clash (sym e))

farm_alone : (lines : List Line) → has_farm_alone lines ≡ true → IsFarmLineAlone lines
farm_alone [] e = absurd (no_clash (sym e))
farm_alone ((FarmLine a b c) ∷ []) e = tt
farm_alone ((BoundsLine a) ∷ []) e = absurd (no_clash (sym e))
farm_alone ((At a) ∷ []) e = absurd (no_clash (sym e))
farm_alone (BeatLine ∷ []) e = absurd (no_clash (sym e))
farm_alone ((ApplyLine a b c) ∷ []) e = absurd (no_clash (sym e))
farm_alone ((EditLine a) ∷ []) e = absurd (no_clash (sym e))
farm_alone ((ViewLine a) ∷ []) e = absurd (no_clash (sym e))
farm_alone ((Open a b) ∷ []) e = absurd (no_clash (sym e))
farm_alone ((BeginLine a) ∷ []) e = absurd (no_clash (sym e))
farm_alone ((CommitLine a) ∷ []) e = absurd (no_clash (sym e))
farm_alone ((WaitLine a) ∷ []) e = absurd (no_clash (sym e))
farm_alone ((LookLine a) ∷ []) e = absurd (no_clash (sym e))
farm_alone ((SnapLine a) ∷ []) e = absurd (no_clash (sym e))
farm_alone ((StoreLine a) ∷ []) e = absurd (no_clash (sym e))
farm_alone ((CarryLine a) ∷ []) e = absurd (no_clash (sym e))
farm_alone ((DropLine a) ∷ []) e = absurd (no_clash (sym e))
farm_alone ((MarkupLine a) ∷ []) e = absurd (no_clash (sym e))
farm_alone (End ∷ []) e = absurd (no_clash (sym e))
farm_alone (line ∷ next ∷ lines) e = absurd (no_clash (sym e))

alone_farm : (lines : List Line) → IsFarmLineAlone lines → has_farm_alone lines ≡ true
alone_farm [] t = absurd t
alone_farm ((FarmLine a b c) ∷ []) t = refl
alone_farm ((FarmLine a b c) ∷ next ∷ lines) t = absurd t
alone_farm ((BoundsLine a) ∷ lines) t = absurd t
alone_farm ((At a) ∷ lines) t = absurd t
alone_farm (BeatLine ∷ lines) t = absurd t
alone_farm ((ApplyLine a b c) ∷ lines) t = absurd t
alone_farm ((EditLine a) ∷ lines) t = absurd t
alone_farm ((ViewLine a) ∷ lines) t = absurd t
alone_farm ((Open a b) ∷ lines) t = absurd t
alone_farm ((BeginLine a) ∷ lines) t = absurd t
alone_farm ((CommitLine a) ∷ lines) t = absurd t
alone_farm ((WaitLine a) ∷ lines) t = absurd t
alone_farm ((LookLine a) ∷ lines) t = absurd t
alone_farm ((SnapLine a) ∷ lines) t = absurd t
alone_farm ((StoreLine a) ∷ lines) t = absurd t
alone_farm ((CarryLine a) ∷ lines) t = absurd t
alone_farm ((DropLine a) ∷ lines) t = absurd t
alone_farm ((MarkupLine a) ∷ lines) t = absurd t
alone_farm (End ∷ lines) t = absurd t

bounds_place : (lines : List Line) → (has_none lines || has_farm_alone lines) ≡ true → (lines ≡ []) ⊎ IsFarmLineAlone lines
bounds_place [] e = inl refl
bounds_place (line ∷ lines) e = inr (farm_alone (line ∷ lines) e)

place_bounds : (lines : List Line) → (lines ≡ []) ⊎ IsFarmLineAlone lines → (has_none lines || has_farm_alone lines) ≡ true
place_bounds [] t = refl
place_bounds (line ∷ lines) (inl e) = let bad : ⊥ = cc in absurd bad
place_bounds (line ∷ lines) (inr t) = alone_farm (line ∷ lines) t

apply_place : (r : Region) (lines : List Line) (i : ℕ) → nat_lt i (replicas_in r (state_after lines)) ≡ true → i < replicas_of r lines
apply_place Home lines i e = subst (λ n. i < n) (told Home lines) (grind (arith, nat_tests, e))
apply_place West lines i e = subst (λ n. i < n) (told West lines) (grind (arith, nat_tests, e))

place_apply : (r : Region) (lines : List Line) (i : ℕ) → i < replicas_of r lines → nat_lt i (replicas_in r (state_after lines)) ≡ true
place_apply Home lines i less = let k : i < replicas_told Home lines = subst (λ n. i < n) (sym (told Home lines)) less in grind (arith, nat_tests, k)
place_apply West lines i less = let k : i < replicas_told West lines = subst (λ n. i < n) (sym (told West lines)) less in grind (arith, nat_tests, k)

in_place_is : (lines : List Line) (line : Line) → in_place (state_after lines) line ≡ true → IsInPlace lines line
in_place_is lines (FarmLine a b c) e = empty_list lines e
in_place_is lines (BoundsLine a) e = bounds_place lines e
in_place_is lines (At a) e = tt
in_place_is lines BeatLine e = tt
in_place_is lines (ApplyLine a b c) e = apply_place a lines b e
in_place_is lines (EditLine a) e = tt
in_place_is lines (ViewLine a) e = tt
in_place_is lines (Open a b) e = smaller_ids a lines (grind (arith, nat_tests, e))
in_place_is lines (BeginLine a) e = tt
in_place_is lines (CommitLine a) e = tt
in_place_is lines (WaitLine a) e = tt
in_place_is lines (LookLine a) e = tt
in_place_is lines (SnapLine a) e = tt
in_place_is lines (StoreLine a) e = tt
in_place_is lines (CarryLine a) e = tt
in_place_is lines (DropLine a) e = tt
in_place_is lines (MarkupLine a) e = tt
in_place_is lines End e = tt

is_in_place : (lines : List Line) (line : Line) (b : Bytes) → Spells line b → IsInPlace lines line → in_place (state_after lines) line ≡ true
is_in_place lines (FarmLine a b c) bytes s t = ap has_none t
is_in_place lines (BoundsLine a) bytes s t = place_bounds lines t
is_in_place lines (At a) bytes s t = refl
is_in_place lines BeatLine bytes s t = refl
is_in_place lines (ApplyLine a b c) bytes s t = place_apply a lines b t
is_in_place lines (EditLine a) bytes s t = refl
is_in_place lines (ViewLine a) bytes s t = refl
is_in_place lines (Open a b) bytes s t = let less = greater_id a lines s.0.0 t in grind (arith, nat_tests, less)
is_in_place lines (BeginLine a) bytes s t = refl
is_in_place lines (CommitLine a) bytes s t = refl
is_in_place lines (WaitLine a) bytes s t = refl
is_in_place lines (LookLine a) bytes s t = refl
is_in_place lines (SnapLine a) bytes s t = refl
is_in_place lines (StoreLine a) bytes s t = refl
is_in_place lines (CarryLine a) bytes s t = refl
is_in_place lines (DropLine a) bytes s t = refl
is_in_place lines (MarkupLine a) bytes s t = refl
is_in_place lines End bytes s t = refl

pub fits_follows : (lines : List Line) (line : Line) → fits (state_after lines) line ≡ true → MayFollow lines line
fits_follows lines line e = let (before, place) = both (not (has_end lines)) (in_place (state_after lines) line) e in (no_end lines (not_true (has_end lines) before), in_place_is lines line place)
  where
    not_true : (b : Bool) → not b ≡ true → b ≡ false
    not_true true k = absurd (no_clash (sym k))
    not_true false k = refl

pub follows_fits : (lines : List Line) (line : Line) (b : Bytes) → Spells line b → MayFollow lines line → fits (state_after lines) line ≡ true
follows_fits lines line b s (before, place) = ap (λ t. not t && in_place (state_after lines) line) (ends_not lines before) ∙ is_in_place lines line b s place

-- Replicas are few

few_by : (r : Region) (line : Line) (b : Bytes) → Spells line b → replicas_by r line ≤ replicas_max
few_by Home (FarmLine a b c) bytes s = s.0.1
few_by West (FarmLine a b c) bytes s = s.1.1
few_by Home (BoundsLine a) bytes s = omega arith
few_by West (BoundsLine a) bytes s = omega arith
few_by Home (At a) bytes s = omega arith
few_by West (At a) bytes s = omega arith
few_by Home BeatLine bytes s = omega arith
few_by West BeatLine bytes s = omega arith
few_by Home (ApplyLine a b c) bytes s = omega arith
few_by West (ApplyLine a b c) bytes s = omega arith
few_by Home (EditLine a) bytes s = omega arith
few_by West (EditLine a) bytes s = omega arith
few_by Home (ViewLine a) bytes s = omega arith
few_by West (ViewLine a) bytes s = omega arith
few_by Home (Open a b) bytes s = omega arith
few_by West (Open a b) bytes s = omega arith
few_by Home (BeginLine a) bytes s = omega arith
few_by West (BeginLine a) bytes s = omega arith
few_by Home (CommitLine a) bytes s = omega arith
few_by West (CommitLine a) bytes s = omega arith
few_by Home (WaitLine a) bytes s = omega arith
few_by West (WaitLine a) bytes s = omega arith
few_by Home (LookLine a) bytes s = omega arith
few_by West (LookLine a) bytes s = omega arith
few_by Home (SnapLine a) bytes s = omega arith
few_by West (SnapLine a) bytes s = omega arith
few_by Home (StoreLine a) bytes s = omega arith
few_by West (StoreLine a) bytes s = omega arith
few_by Home (CarryLine a) bytes s = omega arith
few_by West (CarryLine a) bytes s = omega arith
few_by Home (DropLine a) bytes s = omega arith
few_by West (DropLine a) bytes s = omega arith
few_by Home (MarkupLine a) bytes s = omega arith
few_by West (MarkupLine a) bytes s = omega arith
few_by Home End bytes s = omega arith
few_by West End bytes s = omega arith

cond_few : (t : Bool) (m n : ℕ) → m ≤ replicas_max → n ≤ replicas_max → cond t m n ≤ replicas_max
cond_few true m n p q = p
cond_few false m n p q = q

few_replicas : (r : Region) (lines : List Line) (state : ScriptState) → IsStateOf state lines → (i : ℕ) → i < replicas_of r lines → i ≤ 255
few_replicas Home lines state is i less =
    let few : replicas_told Home lines ≤ replicas_max = subst (λ (s : ScriptState). s.home ≤ replicas_max) is.same is.few_home in
    let k : i < replicas_told Home lines = subst (λ n. i < n) (sym (told Home lines)) less in
    omega (arith, few, k)
few_replicas West lines state is i less =
    let few : replicas_told West lines ≤ replicas_max = subst (λ (s : ScriptState). s.west ≤ replicas_max) is.same is.few_west in
    let k : i < replicas_told West lines = subst (λ n. i < n) (sym (told West lines)) less in
    omega (arith, few, k)

has_replica : (lines : List Line) (state : ScriptState) → IsStateOf state lines → (line : Line) → IsInPlace lines line → HasReplica 255 line
has_replica lines state is (FarmLine a b c) t = tt
has_replica lines state is (BoundsLine a) t = tt
has_replica lines state is (At a) t = tt
has_replica lines state is BeatLine t = tt
has_replica lines state is (ApplyLine a b c) t = few_replicas a lines state is b t
has_replica lines state is (EditLine a) t = tt
has_replica lines state is (ViewLine a) t = tt
has_replica lines state is (Open a b) t = tt
has_replica lines state is (BeginLine a) t = tt
has_replica lines state is (CommitLine a) t = tt
has_replica lines state is (WaitLine a) t = tt
has_replica lines state is (LookLine a) t = tt
has_replica lines state is (SnapLine a) t = tt
has_replica lines state is (StoreLine a) t = tt
has_replica lines state is (CarryLine a) t = tt
has_replica lines state is (DropLine a) t = tt
has_replica lines state is (MarkupLine a) t = tt
has_replica lines state is End t = tt

-- The next line

fits_most : 255 < 2 ^ 64
fits_most = omega arith

pub next_read : (state : ScriptState) (line : Line) (bytes : Bytes) (lines : List Line) → line_in 255 bytes ≡ Some line → fits state line ≡ true → IsStateOf state lines → IsNextLine lines line bytes
next_read state line bytes lines read fit is =
    let (utf8, said) = line_said 255 fits_most line bytes read in
    record { utf8 = utf8; spelled = said.spelled; follows = fits_follows lines line (sym (ap (λ s. fits s line) is.same) ∙ fit) }

pub state_on : (state new : ScriptState) (line : Line) (bytes : Bytes) (lines : List Line) → line_in 255 bytes ≡ Some line → new ≡ noted state line → IsStateOf state lines → IsStateOf new (lines ++ line ∷ [])
state_on state new line bytes lines read is_new is =
    let (utf8, said) = line_said 255 fits_most line bytes read in
    record {
      same = is_new ∙ ap (λ s. noted s line) is.same ∙ sym (state_more lines line);
      few_home = subst (λ (s : ScriptState). s.home ≤ replicas_max) (sym is_new) (cond_few state.empty (replicas_by Home line) state.home (few_by Home line bytes said.spelled) is.few_home);
      few_west = subst (λ (s : ScriptState). s.west ≤ replicas_max) (sym is_new) (cond_few state.empty (replicas_by West line) state.west (few_by West line bytes said.spelled) is.few_west);
    }

pub next_is_read : (state : ScriptState) (bytes : Bytes) (lines : List Line) (line : Line) → IsStateOf state lines → IsNextLine lines line bytes → line_in 255 bytes ≡ Some line
next_is_read state bytes lines line is next = line_read 255 fits_most line bytes next.utf8 next.spelled (has_replica lines state is line next.follows.1)

pub none_next : (state : ScriptState) (bytes : Bytes) → line_in 255 bytes ≡ None → (lines : List Line) (line : Line) → IsStateOf state lines → IsNextLine lines line bytes → ⊥
none_next state bytes none lines line is next = none-some line (sym none ∙ next_is_read state bytes lines line is next)

pub none_fits : (state : ScriptState) (bytes : Bytes) (read : Line) → line_in 255 bytes ≡ Some read → fits state read ≡ false → (lines : List Line) (line : Line) → IsStateOf state lines → IsNextLine lines line bytes → ⊥
none_fits state bytes read is_read unfit lines line is next =
    let same : line ≡ read = same_Some line read (sym (next_is_read state bytes lines line is next) ∙ is_read) in
    no_clash (sym (follows_fits lines line bytes next.spelled next.follows) ∙ sym (ap (λ s. fits s line) is.same) ∙ ap (fits state) same ∙ unfit)
