-- Where a template page stands.
use Rattle.std.proofs.Common.{zero, suc, [], ◌∷◌, ◌++◌, length, take, drop, ◌≡◌, ℕ, ◌≤◌, ◌<◌, ◌+◌, ◌-◌, Bool, true, false, refl, arith, ap, sym, ◌∙◌, Some, None, get_or, cond, nat_eq, nat_lt, subst, inl, inr, ◌⊎◌}
use Rattle.std.specs.Prelude.{Option, option_map, option_and_then, if◌then◌else◌}
use Rattle.std.specs.List.{slice_get}
use Rattle.std.specs.Str.{bytes_eq}
use Rattle.std.specs.BTreeMap.{BTreeMap, get, Updates, is_at}
use Rattle.std.specs.Ordering.{is_eq, ordering_reverse, ordering_then, nat_cmp}
use Rattle.std.specs.declared.cmp.Ordering.{Ordering}
use Rattle.std.specs.declared.cmp.Ordering.TheVariants.{Less, Equal, Greater}
use Rattle.std.specs.Cmp.Lexicographic.{texts_ties, nat_list_cmp_total, same_text}
use Rattle.std.proofs.lemmas.Bool.Decides.{nat_tests}
use Rattle.std.proofs.lemmas.List.{get_or_default, take-append-drop}
use Rattle.std.proofs.Math.Seq.{drop-cons}
use Rattle.std.proofs.Math.Nat.{eq-or-lt_of_le}
use Rattle.wiki_titles.specs.Order.{bytes_cmp}
use Rattle.wiki_model.specs.Bytes.{Bytes, begins}
use Rattle.wiki_model.specs.Titles.{Title, template_prefix}
use Rattle.wiki_model.specs.Html.{Templates, template_named}
use Rattle.page_markup.proofs.Taken.{at_most_or_past}
use Rattle.page_render.specs.AsModel.{Pairs, template_text}
use Rattle.page_render.specs.Templates.{IsRising}

-- rising titles
rising_by : (pairs : Pairs) → IsRising pairs → (i n : ℕ) (d : Bytes × Bytes) → i + suc n < length pairs → bytes_cmp (get_or pairs i d).0 (get_or pairs (i + suc n) d).0 ≡ Less
rising_by pairs h i zero d l = h i d l
rising_by pairs h i (suc n) d l =
    let same : i + suc n + 1 ≡ i + suc (suc n) = omega arith in
    nat_list_cmp_total.trans (get_or pairs i d).0 (get_or pairs (i + suc n) d).0 (get_or pairs (i + suc (suc n)) d).0
    (rising_by pairs h i n d (omega (arith, l)))
    (subst (λ k. bytes_cmp (get_or pairs (i + suc n) d).0 (get_or pairs k d).0 ≡ Less) same (h (i + suc n) d (omega (arith, l))))

rising : (pairs : Pairs) → IsRising pairs → (i j : ℕ) (d : Bytes × Bytes) → i < j → j < length pairs → bytes_cmp (get_or pairs i d).0 (get_or pairs j d).0 ≡ Less
rising pairs h i j d l k =
    let same : i + suc (j - (i + 1)) ≡ j = omega (arith, l) in
    subst (λ m. bytes_cmp (get_or pairs i d).0 (get_or pairs m d).0 ≡ Less) same (rising_by pairs h i (j - (i + 1)) d (omega (arith, l, k)))

turned : (x y : Bytes) (o : Ordering) → bytes_cmp x y ≡ o → bytes_cmp y x ≡ ordering_reverse o
turned x y o e = nat_list_cmp_total.antisymm y x ∙ ap ordering_reverse e

-- the parts of a title in order
nat_less : (x y : ℕ) → x < y → nat_cmp x y ≡ Less
nat_less x y h = rw (let z : nat_lt x y ≡ true = grind (arith, nat_tests) in z) refl

nat_more : (x y : ℕ) → y < x → nat_cmp x y ≡ Greater
nat_more x y h = rw (let z : nat_lt x y ≡ false = grind (arith, nat_tests) in z, let w : nat_eq x y ≡ false = grind (arith, nat_tests) in w) refl

nat_same : (x y : ℕ) → x ≤ y → y ≤ x → nat_cmp x y ≡ Equal
nat_same x y h k = rw (let z : nat_lt x y ≡ false = grind (arith, nat_tests) in z, let w : nat_eq x y ≡ true = grind (arith, nat_tests) in w) refl

pub nothing_after : (after rest : Bytes) (first : ℕ) → length after ≡ 0 → bytes_cmp after (first ∷ rest) ≡ Less
nothing_after [] rest first e = refl
nothing_after (c ∷ after) rest first e = let no : ⊥ = omega (arith, e) in absurd no

pub first_below : (after rest : Bytes) (first : ℕ) → 0 < length after → get_or after 0 0 < first → bytes_cmp after (first ∷ rest) ≡ Less
first_below [] rest first l h = let no : ⊥ = omega (arith, l) in absurd no
first_below (c ∷ after) rest first l h = ap (λ o. ordering_then o (bytes_cmp after rest)) (nat_less c first h)

pub first_above : (after rest : Bytes) (first : ℕ) → 0 < length after → first < get_or after 0 0 → bytes_cmp after (first ∷ rest) ≡ Greater
first_above [] rest first l h = let no : ⊥ = omega (arith, l) in absurd no
first_above (c ∷ after) rest first l h = ap (λ o. ordering_then o (bytes_cmp after rest)) (nat_more c first h)

pub first_alike : (after rest : Bytes) (first : ℕ) → 0 < length after → first ≤ get_or after 0 0 → get_or after 0 0 ≤ first
    → bytes_cmp after (first ∷ rest) ≡ bytes_cmp (drop 1 after) rest
first_alike [] rest first l h k = let no : ⊥ = omega (arith, l) in absurd no
first_alike (c ∷ after) rest first l h k = ap (λ o. ordering_then o (bytes_cmp after rest)) (nat_same c first k h)

pub after_prefix : (title rest : Bytes) (first : ℕ) → begins template_prefix title ≡ true → bytes_cmp (drop 9 title) (first ∷ rest) ≡ bytes_cmp title (template_prefix ++ (first ∷ rest))
after_prefix title rest first e =
    let prefix : template_prefix ≡ take 9 title = same_text template_prefix (take 9 title) (sym e) in
    let whole : title ≡ template_prefix ++ drop 9 title = sym (take-append-drop 9 title) ∙ ap (λ x. x ++ drop 9 title) (sym prefix) in
    sym (ap (λ t. bytes_cmp t (template_prefix ++ (first ∷ rest))) whole)

-- a title without the prefix differs from it before its end, or ends there
then_alike : (a b : ℕ) (x y : Ordering) → (nat_eq a b ≡ true → x ≡ y) → ordering_then (nat_cmp b a) x ≡ ordering_then (nat_cmp b a) y
then_alike a b x y h = by (nat_lt b a) (nat_eq b a) refl refl
  where
    by : (p q : Bool) → nat_lt b a ≡ p → nat_eq b a ≡ q → ordering_then (nat_cmp b a) x ≡ ordering_then (nat_cmp b a) y
    by true q e f = rw e refl
    by false true e f = rw (e, f) (h (let z : nat_eq a b ≡ true = grind (arith, nat_tests) in z))
    by false false e f = rw (e, f) refl

apart_from : (prefix title more : Bytes) → begins prefix title ≡ false → bytes_cmp title prefix ≡ bytes_cmp title (prefix ++ more)
apart_from [] title more h = let no : ⊥ = cc in absurd no
apart_from (a ∷ prefix) [] more h = refl
apart_from (a ∷ prefix) (b ∷ title) more h =
    then_alike a b (bytes_cmp title prefix) (bytes_cmp title (prefix ++ more)) (λ e. apart_from prefix title more (let z : begins prefix title ≡ false = sym (rw e refl) ∙ h in z))

pub before_prefix : (title rest : Bytes) (first : ℕ) → begins template_prefix title ≡ false → bytes_cmp title template_prefix ≡ bytes_cmp title (template_prefix ++ (first ∷ rest))
before_prefix title rest first e = apart_from template_prefix title (first ∷ rest) e

-- the titles below a place are below what lies above it, and the other way round
abbrev pub AllBelow : Pairs → Title → ℕ → Type 0
AllBelow pairs title low = (i : ℕ) (d : Bytes × Bytes) → i < low → bytes_cmp (get_or pairs i d).0 title ≡ Less

abbrev pub AllAbove : Pairs → Title → ℕ → Type 0
AllAbove pairs title high = (i : ℕ) (d : Bytes × Bytes) → high ≤ i → i < length pairs → bytes_cmp (get_or pairs i d).0 title ≡ Greater

below_by : (pairs : Pairs) (title : Title) (middle : ℕ) (p : Bytes × Bytes) → IsRising pairs → middle < length pairs → bytes_cmp (get_or pairs middle p).0 title ≡ Less
    → (i : ℕ) (d : Bytes × Bytes) → (i ≡ middle) ⊎ (i < middle) → bytes_cmp (get_or pairs i d).0 title ≡ Less
below_by pairs title middle p h l e i d (inl same) =
    ap (λ k. bytes_cmp (get_or pairs k d).0 title) same ∙ ap (λ q. bytes_cmp q.0 title) (get_or_default pairs middle d p l) ∙ e
below_by pairs title middle p h l e i d (inr before) =
    nat_list_cmp_total.trans (get_or pairs i d).0 (get_or pairs middle d).0 title (rising pairs h i middle d before l)
    (ap (λ q. bytes_cmp q.0 title) (get_or_default pairs middle d p l) ∙ e)

pub below_on : (pairs : Pairs) (title : Title) (middle : ℕ) (p : Bytes × Bytes) → IsRising pairs → middle < length pairs → bytes_cmp (get_or pairs middle p).0 title ≡ Less
    → AllBelow pairs title (middle + 1)
below_on pairs title middle p h l e = λ i d k. below_by pairs title middle p h l e i d (eq-or-lt_of_le (let z : i ≤ middle = omega (arith, k) in z))

above_by : (pairs : Pairs) (title : Title) (middle : ℕ) (p : Bytes × Bytes) → IsRising pairs → bytes_cmp (get_or pairs middle p).0 title ≡ Greater
    → (i : ℕ) (d : Bytes × Bytes) → i < length pairs → (middle ≡ i) ⊎ (middle < i) → bytes_cmp (get_or pairs i d).0 title ≡ Greater
above_by pairs title middle p h e i d l (inl same) =
    let there : middle < length pairs = omega (arith, same, l) in
    ap (λ k. bytes_cmp (get_or pairs k d).0 title) (sym same) ∙ ap (λ q. bytes_cmp q.0 title) (get_or_default pairs middle d p there) ∙ e
above_by pairs title middle p h e i d l (inr after) =
    let there : middle < length pairs = omega (arith, after, l) in
    let down : bytes_cmp title (get_or pairs middle d).0 ≡ Less = turned (get_or pairs middle d).0 title Greater (ap (λ q. bytes_cmp q.0 title) (get_or_default pairs middle d p there) ∙ e) in
    turned title (get_or pairs i d).0 Less (nat_list_cmp_total.trans title (get_or pairs middle d).0 (get_or pairs i d).0 down (rising pairs h middle i d after l))

pub above_on : (pairs : Pairs) (title : Title) (middle : ℕ) (p : Bytes × Bytes) → IsRising pairs → bytes_cmp (get_or pairs middle p).0 title ≡ Greater
    → AllAbove pairs title middle
above_on pairs title middle p h e = λ i d k l. above_by pairs title middle p h e i d l (eq-or-lt_of_le k)

-- the order of the page that was looked at
pub at_middle : (pairs : Pairs) (title : Title) (middle : ℕ) (p : Bytes × Bytes) (seen : Bytes) (o : Ordering) → p ≡ get_or pairs middle p → seen ≡ p.0 → bytes_cmp seen title ≡ o
    → bytes_cmp (get_or pairs middle p).0 title ≡ o
at_middle pairs title middle p seen o e f g = ap (λ q. bytes_cmp q.0 title) (sym e) ∙ ap (λ x. bytes_cmp x title) (sym f) ∙ g

-- the first page of a title
differs : (x y : Bytes) (o : Ordering) → bytes_cmp x y ≡ o → bytes_eq x y ≡ is_eq o
differs x y o e = texts_ties x y ∙ ap is_eq e

first_by : (pairs : Pairs) (title : Title) (n : ℕ) (p : Bytes × Bytes) → n < length pairs → ((i : ℕ) → i < n → bytes_eq (get_or pairs i p).0 title ≡ false)
    → bytes_eq (get_or pairs n p).0 title ≡ true → template_text pairs title ≡ Some (get_or pairs n p).1
first_by [] title n p l h e = let no : ⊥ = omega (arith, l) in absurd no
first_by (q ∷ pairs) title zero p l h e = rw e refl
first_by (q ∷ pairs) title (suc n) p l h e =
    rw (h 0 (omega arith)) (first_by pairs title n p (omega (arith, l)) (λ i k. h (suc i) (omega (arith, k))) e)

pub found_there : (pairs : Pairs) (title : Title) (n : ℕ) (p : Bytes × Bytes) → IsRising pairs → n < length pairs → bytes_cmp (get_or pairs n p).0 title ≡ Equal
    → template_text pairs title ≡ Some (get_or pairs n p).1
found_there pairs title n p h l e =
    first_by pairs title n p l
    (λ i k. differs (get_or pairs i p).0 title Less
    (turned title (get_or pairs i p).0 Greater
    (sym (nat_list_cmp_total.congr (get_or pairs n p).0 title (get_or pairs i p).0 e) ∙ turned (get_or pairs i p).0 (get_or pairs n p).0 Less (rising pairs h i n p k l))))
    (differs (get_or pairs n p).0 title Equal e)

none_by : (pairs : Pairs) (title : Title) (d : Bytes × Bytes) → ((i : ℕ) → i < length pairs → bytes_eq (get_or pairs i d).0 title ≡ false) → template_text pairs title ≡ None
none_by [] title d h = refl
none_by (q ∷ pairs) title d h = rw (h 0 (omega arith)) (none_by pairs title d (λ i k. h (suc i) (omega (arith, k))))

apart : (pairs : Pairs) (title : Title) (low high : ℕ) (d : Bytes × Bytes) → high ≤ low → AllBelow pairs title low → AllAbove pairs title high
    → (i : ℕ) → i < length pairs → (high ≤ i) ⊎ (i < high) → bytes_eq (get_or pairs i d).0 title ≡ false
apart pairs title low high d l below above i k (inl past) = differs (get_or pairs i d).0 title Greater (above i d past k)
apart pairs title low high d l below above i k (inr before) = differs (get_or pairs i d).0 title Less (below i d (omega (arith, before, l)))

pub none_between : (pairs : Pairs) (title : Title) (low high : ℕ) → high ≤ low → AllBelow pairs title low → AllAbove pairs title high → template_text pairs title ≡ None
none_between pairs title low high l below above =
    none_by pairs title ([], []) (λ i k. apart pairs title low high ([], []) l below above i k (at_most_or_past high i))
