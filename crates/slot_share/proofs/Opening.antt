-- A share that begins, and one whose seats are all one again.
use Rattle.std.proofs.Common.{◌≡◌, ◌≢◌, ◌⊎◌, ℕ, zero, suc, ◌+◌, ◌<◌, ◌≤◌, max, List, [], ◌∷◌, ◌++◌, map, length, replicate, slice_get, Some, None, refl, sym, ap, ◌∙◌, subst, ⊎_elim, inl, inr, arith, le_refl, Contains, length-append}
use Rattle.std.specs.Prelude.{slice_index}
use mathlib.Core.Option.{some, some-ne-none, some-injective}
use mathlib.Core.Logic.{dite}
use native.Mathlib.Decide.{ℕ_discrete, dec_le}
use lib.ListN.{get_elem?, get_or}
use Rattle.std.proofs.lemmas.List.{get_or-replicate, length-replicate}
use Rattle.atomic_table.specs.Table.{State, opening}
use Rattle.atomic_table.proofs.Lists.{at_map, some_there}
use Rattle.slot_share.specs.declared.part.Part.{Part}
use Rattle.slot_share.specs.declared.view.Handed.{Handed}
use Rattle.slot_share.specs.declared.view.Met.{Met}
use Rattle.slot_share.specs.declared.view.Marks.{Marks}
use Rattle.slot_share.specs.declared.view.Rank.{Rank}
use Rattle.slot_share.specs.declared.view.View.{View}
use Rattle.slot_share.specs.declared.view.Start.{Start}
use Rattle.slot_share.specs.Marks.{greatest, made_at, seen_at}
use Rattle.slot_share.specs.Ranks.{parts_of}
use Rattle.slot_share.specs.Claims.{Claim}
use Rattle.slot_share.specs.Values.{Truth, Row, Keeping, StoodIn, IsHandedIn, IsGood, lists_of, slots_of, holds_true}
use Rattle.slot_share.specs.Rule.{marks_at, size_of, marks_of, rank_of, claim_of, keeping_of, Keeps, first_view}
use Rattle.slot_share.specs.Shares.{AllTrueAt, IsLeft}
use Rattle.slot_share.proofs.Claiming.{none_is}
use Rattle.slot_share.proofs.Lists.{none_in}

front_at : (xs ys : List ℕ) (i : ℕ) → i < length xs → slice_index (xs ++ ys) i ≡ slice_index xs i
front_at [] ys i h = absurd (omega arith)
front_at (x ∷ xs) ys zero h = refl
front_at (x ∷ xs) ys (suc i) h = front_at xs ys i (omega arith)

back_at : (xs ys : List ℕ) (i : ℕ) → slice_index (xs ++ ys) (length xs + i) ≡ slice_index ys i
back_at [] ys i = let e : 0 + i ≡ i = omega arith in ap (λ (n : ℕ). get_or ys n 0) e
back_at (x ∷ xs) ys i = let e : suc (length xs) + i ≡ suc (length xs + i) = omega arith in ap (λ (n : ℕ). get_or (x ∷ (xs ++ ys)) n 0) e ∙ back_at xs ys i

past : (xs : List ℕ) (i : ℕ) → length xs ≤ i → slice_index xs i ≡ 0
past [] i h = refl
past (x ∷ xs) zero h = absurd (omega arith)
past (x ∷ xs) (suc i) h = past xs i (omega arith)

zeros_at : (n i : ℕ) → slice_index (replicate n 0) i ≡ 0
zeros_at n i = dite (dec_le n i)
    (λ (l : n ≤ i). past (replicate n 0) i (subst (λ (m : ℕ). m ≤ i) (sym (length-replicate n 0)) l))
    (λ (g : ¬ (n ≤ i)). get_or-replicate n i 0 0 (omega (arith, g)))

-- a row that is at home at the start
at_row : {A : Type 0} (xs : List A) (k : ℕ) (y : A) → get_elem? (map some xs) k ≡ some (some y) → slice_get xs k ≡ Some y
at_row [] k y e = absurd (some-ne-none (some y) (sym e))
at_row (x ∷ xs) zero y e = ap Some (some-injective x y (some-injective (some x) (some y) e))
at_row (x ∷ xs) (suc k) y e = at_row xs k y e

one_member : {A : Type 0} (x y : A) (i : ℕ) → get_elem? (x ∷ []) i ≡ some y → (i ≡ 0) × (x ≡ y)
one_member x y zero e = (refl, some-injective x y e)
one_member x y (suc i) e = absurd (some-ne-none y (sym e))

module _ {P : Type 0} (is_true : Truth P) (start : Start P) where
  begins : AllTrueAt is_true start → Keeps is_true start (opening (marks_at start ++ replicate (slots_of start) 0) start.rows.value.items (first_view start))
  begins all_true =
      let marks : List ℕ = marks_at start in
      let zeros : List ℕ = replicate (slots_of start) 0 in
      let v : View P = first_view start in
      let same : (word : ℕ) → word < size_of start → slice_index (marks ++ zeros) word ≡ slice_index marks word = λ word l. front_at marks zeros word l in
      record {
        long = length-append marks zeros ∙ ap (λ (n : ℕ). size_of start + n) (length-replicate (slots_of start) 0);
        some = omega arith;
        marks = record {
          first = refl;
          greatest_is = λ word l. (let a : ℕ = slice_index (marks ++ zeros) word in let b : ℕ = slice_index marks word in let c : ℕ = slice_index (replicate (size_of start) 0) word in
              let p : a ≡ b = same word l in let q : c ≡ 0 = zeros_at (size_of start) word in omega (arith, p, q));
          seen = λ id word m e l. subst (λ (x : Marks). slice_index x.seen word ≤ slice_index (marks ++ zeros) word) (one_member v.marks m id e).1
              (let a : ℕ = slice_index (marks ++ zeros) word in let b : ℕ = slice_index marks word in let p : a ≡ b = same word l in omega (arith, p));
          least = λ id word m e long l. subst (λ (x : Marks). slice_index marks word ≤ slice_index x.seen word) (one_member v.marks m id e).1 (le_refl (slice_index marks word));
        };
        ranks = record {
          all = omega arith;
          within = λ id r e p. subst (λ (x : Rank). (x.number + x.parts ≤ start.seats + 1) × (x.seats ≡ start.seats)) (one_member v.rank r id e).1 (omega arith, refl);
          apart = λ i j k r q ei ej or oq. (one_member v.rank r i ei).0 ∙ sym (one_member v.rank q j ej).0;
        };
        claims = record {
          held = λ id slot c e t. absurd (none_is slot (ap (λ x. x.1) (one_member (v.rank, None) c id e).1 ∙ t));
          holder = λ slot l p. absurd (let a : ℕ = slice_index (marks ++ zeros) (size_of start + slot) in let z : a ≡ 0 = back_at marks zeros slot ∙ zeros_at (slots_of start) slot in omega (arith, p, z));
          at_home = λ slot l z. some_there start.rows.value.items slot l;
        };
        values = record {
          home_good = λ k y e p kept is counts. record {
            is_true_there = all_true k y (at_row start.rows.value.items k y e) p kept is counts;
            known = inl (record { row = y; there = at_row start.rows.value.items k y e; is_in = is });
          };
          met_good = λ id k m e c. absurd (none_in m (subst (λ (x : Keeping P). Contains x.0 m) (sym (one_member ([], []) k id e).1) c));
        };
        idle = λ id u e z. subst (λ (x : View P). ((word : ℕ) → slice_index x.marks.made word ≡ 0) × (x.handed ≡ [])) (one_member v u id e).1 ((λ word. zeros_at (size_of start) word), refl);
      }

  -- the same, by what the call that makes the table is given
  pub begins_as : (words : List ℕ) (rows : List (Row P)) → words ≡ marks_at start ++ replicate (length rows) 0 → start.rows.value.items ≡ rows
      → AllTrueAt is_true start → Keeps is_true start (opening words rows (first_view start))
  begins_as words rows words_are rows_are all_true =
      subst (λ (x : List ℕ × List (Row P)). Keeps is_true start (opening x.0 x.1 (first_view start)))
      (λ i. (((λ j. marks_at start ++ replicate (length (rows_are j)) 0) ∙ sym words_are) i, rows_are i))
      (begins all_true)

-- no part is left for another
others_none : (rs : List Rank) (id j : ℕ) (r q : Rank) → get_elem? rs id ≡ some r → get_elem? rs j ≡ some q → j ≢ id → r.parts + q.parts ≤ parts_of rs
others_none [] id j r q e f n = absurd (some-ne-none r (sym e))
others_none (x ∷ xs) zero zero r q e f n = absurd (n refl)
others_none (x ∷ xs) zero (suc j) r q e f n =
    let a : ℕ = x.parts in let b : ℕ = r.parts in let p : a ≡ b = ap (λ (y : Rank). y.parts) (some-injective x r e) in let c : ℕ = q.parts in let d : ℕ = parts_of xs in
    let l : c ≤ d = part_le xs j q f in omega (arith, p, l)
  where
    part_le : (ys : List Rank) (i : ℕ) (s : Rank) → get_elem? ys i ≡ some s → s.parts ≤ parts_of ys
    part_le [] i s e = absurd (some-ne-none s (sym e))
    part_le (y ∷ ys) zero s e = let a : ℕ = y.parts in let b : ℕ = s.parts in let c : ℕ = parts_of ys in let p : a ≡ b = ap (λ (y : Rank). y.parts) (some-injective y s e) in omega (arith, p)
    part_le (y ∷ ys) (suc i) s e = let a : ℕ = y.parts in let b : ℕ = s.parts in let c : ℕ = parts_of ys in let p : b ≤ c = part_le ys i s e in omega (arith, p)
others_none (x ∷ xs) (suc id) zero r q e f n =
    let a : ℕ = x.parts in let b : ℕ = q.parts in let p : a ≡ b = ap (λ (y : Rank). y.parts) (some-injective x q f) in let c : ℕ = r.parts in let d : ℕ = parts_of xs in
    let l : c ≤ d = part_le xs id r e in omega (arith, p, l)
  where
    part_le : (ys : List Rank) (i : ℕ) (s : Rank) → get_elem? ys i ≡ some s → s.parts ≤ parts_of ys
    part_le [] i s e = absurd (some-ne-none s (sym e))
    part_le (y ∷ ys) zero s e = let a : ℕ = y.parts in let b : ℕ = s.parts in let c : ℕ = parts_of ys in let p : a ≡ b = ap (λ (y : Rank). y.parts) (some-injective y s e) in omega (arith, p)
    part_le (y ∷ ys) (suc i) s e = let a : ℕ = y.parts in let b : ℕ = s.parts in let c : ℕ = parts_of ys in let p : b ≤ c = part_le ys i s e in omega (arith, p)
others_none (x ∷ xs) (suc id) (suc j) r q e f n =
    let a : ℕ = x.parts in let b : ℕ = r.parts in let c : ℕ = q.parts in let d : ℕ = parts_of xs in
    let l : b + c ≤ d = others_none xs id j r q e f (λ s. n (ap suc s)) in omega (arith, l)

-- all but one made nothing
greatest_one : (f : Marks → ℕ) (ms : List Marks) (id first : ℕ) (m : Marks) → get_elem? ms id ≡ some m → ((j : ℕ) (x : Marks) → j ≢ id → get_elem? ms j ≡ some x → f x ≡ 0)
    → greatest first (map f ms) ≡ max first (f m)
greatest_one f [] id first m e none_made = absurd (some-ne-none m (sym e))
greatest_one f (x ∷ xs) zero first m e none_made =
    let a : ℕ = f x in let b : ℕ = f m in let c : ℕ = greatest first (map f xs) in
    let p : a ≡ b = ap f (some-injective x m e) in
    let q : c ≡ first = nothing xs (λ j y t. none_made (suc j) y (λ s. omega (arith, s)) t) in omega (arith, p, q)
  where
    nothing : (ys : List Marks) → ((j : ℕ) (y : Marks) → get_elem? ys j ≡ some y → f y ≡ 0) → greatest first (map f ys) ≡ first
    nothing [] h = refl
    nothing (y ∷ ys) h = let a : ℕ = f y in let b : ℕ = greatest first (map f ys) in let p : a ≡ 0 = h 0 y refl in let q : b ≡ first = nothing ys (λ j z t. h (suc j) z t) in omega (arith, p, q)
greatest_one f (x ∷ xs) (suc id) first m e none_made =
    let a : ℕ = f x in let b : ℕ = f m in let c : ℕ = greatest first (map f xs) in
    let p : a ≡ 0 = none_made 0 x (λ s. omega (arith, s)) refl in
    let q : c ≡ max first b = greatest_one f xs id first m e (λ j y n t. none_made (suc j) y (λ s. n (omega (arith, s))) t) in omega (arith, p, q)

of_map : {A B : Type 0} (f : A → B) (xs : List A) (j : ℕ) (y : B) → get_elem? (map f xs) j ≡ some y → (x : A) × (get_elem? xs j ≡ some x) × (f x ≡ y)
of_map f [] j y e = absurd (some-ne-none y (sym e))
of_map f (x ∷ xs) zero y e = (x, refl, some-injective (f x) y e)
of_map f (x ∷ xs) (suc j) y e = of_map f xs j y e

module _ {P : Type 0} (is_true : Truth P) (start : Start P) where
  -- What a seat that has all parts knows when it is the last.
  pub record Ends (s : State (Row P) (View P)) (v : View P) : Type 0 where
    pub marks_are : (word : ℕ) → word < size_of start → slice_index s.words word ≡ max (slice_index (marks_at start) word) (made_at word v.marks)
    pub seen_low : (word : ℕ) → word < size_of start → seen_at word v.marks ≤ slice_index s.words word
    pub rows_are : (slot : ℕ) → slot < slots_of start → (row : Row P) × (get_elem? s.homes slot ≡ some (some row)) × IsLeft is_true start v.handed slot row
    pub met_are : (met : Met P) → Contains v.met met → IsLeft is_true start v.handed met.slot met.row

  pub ends : (s : State (Row P) (View P)) (id : ℕ) (v : View P) → Keeps is_true start s → get_elem? s.views id ≡ some v → v.rank.parts ≡ start.seats → v.holds ≡ None → Ends s v
  ends s id v h here all free = record {
    marks_are = λ word l. h.marks.greatest_is word l ∙ greatest_one (made_at word) (map marks_of s.views) id (slice_index (marks_at start) word) v.marks (at_map marks_of s.views id v here)
        (λ j m n e. let o = of_map marks_of s.views j m e in ap (made_at word) (sym o.2) ∙ (h.idle j o.0 o.1 (spent j o.0 n o.1)).0 word);
    seen_low = λ word l. h.marks.seen id word v.marks (at_map marks_of s.views id v here) l;
    rows_are = rows_are;
    met_are = λ met c p kept is counts. left met.slot p kept (h.values.met_good id (keeping_of v) met (at_map keeping_of s.views id v here) c p kept is counts);
  }
    where
      spent : (j : ℕ) (u : View P) → j ≢ id → get_elem? s.views j ≡ some u → u.rank.parts ≡ 0
      spent j u n e =
          let a : ℕ = v.rank.parts in let b : ℕ = u.rank.parts in let c : ℕ = parts_of (map rank_of s.views) in
          let l : a + b ≤ c = others_none (map rank_of s.views) id j v.rank u.rank (at_map rank_of s.views id v here) (at_map rank_of s.views j u e) n in
          let q : c ≡ start.seats = h.ranks.all in
          let r : a ≡ start.seats = all in
          omega (arith, l, q, r)

      one_list : (kept : Handed P) → IsHandedIn (lists_of (map keeping_of s.views)) kept → Contains v.handed kept
      one_list kept k = dite (ℕ_discrete k.id id)
          (λ (e : k.id ≡ id).
          let is : k.list ≡ v.handed = some-injective k.list v.handed (sym k.there ∙ (ap (get_elem? (lists_of (map keeping_of s.views))) e ∙ at_map (λ (x : Keeping P). x.1) (map keeping_of s.views) id (keeping_of v) (at_map keeping_of s.views id v here))) in
          subst (λ (l : List (Handed P)). Contains l kept) is k.one)
          (λ (n : k.id ≢ id).
          let o = of_map (λ (x : Keeping P). x.1) (map keeping_of s.views) k.id k.list k.there in
          let u = of_map keeping_of s.views k.id o.0 o.1 in
          let none_handed : k.list ≡ [] = sym o.2 ∙ (ap (λ (x : Keeping P). x.1) (sym u.2) ∙ (h.idle k.id u.0 u.1 (spent k.id u.0 n u.1)).1) in
          absurd (none_in kept (subst (λ (l : List (Handed P)). Contains l kept) none_handed k.one)))

      left : (slot : ℕ) (p : Part) (kept : Handed P) → IsGood is_true start (lists_of (map keeping_of s.views)) slot p kept → holds_true is_true p kept × (StoodIn start slot p kept ⊎ Contains v.handed kept)
      left slot p kept g = (g.is_true_there, ⊎_elim inl (λ k. inr (one_list kept k)) g.known)

      rows_are : (slot : ℕ) → slot < slots_of start → (row : Row P) × (get_elem? s.homes slot ≡ some (some row)) × IsLeft is_true start v.handed slot row
      rows_are slot l = dite (ℕ_discrete (slice_index s.words (size_of start + slot)) 0)
          (λ (z : slice_index s.words (size_of start + slot) ≡ 0).
          let o = h.claims.at_home slot l z in
          (o.0, o.1, λ p kept is counts. left slot p kept (h.values.home_good slot o.0 o.1 p kept is counts)))
          (λ (n : slice_index s.words (size_of start + slot) ≢ 0).
          let k = h.claims.holder slot l (omega (arith, n)) in
          let u = of_map claim_of s.views k.0 k.1 k.2 in
          let held = h.claims.held k.0 slot k.1 k.2 k.4 in
          let holds : u.0.holds ≡ Some slot = ap (λ (c : Claim). c.1) u.2 ∙ k.4 in
          absurd (dite (ℕ_discrete k.0 id)
          (λ (e : k.0 ≡ id). none_is slot (sym free ∙ subst (λ (x : View P). x.holds ≡ Some slot) (some-injective u.0 v (sym u.1 ∙ (ap (get_elem? s.views) e ∙ here))) holds))
          (λ (m : k.0 ≢ id).
          let a : ℕ = k.1.0.parts in let b : ℕ = u.0.rank.parts in
          let p : b ≡ a = ap (λ (c : Claim). c.0.parts) u.2 in let q : b ≡ 0 = spent k.0 u.0 m u.1 in let r : 0 < a = held.2 in
          omega (arith, p, q, r))))
