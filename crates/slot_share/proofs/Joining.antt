-- Two seats that become one.
use Rattle.std.proofs.Common.{◌≡◌, ◌≢◌, ℕ, zero, suc, ◌+◌, ◌<◌, ◌≤◌, max, List, [], ◌∷◌, ◌++◌, map, length, set, Option, None, refl, sym, ap, ◌∙◌, subst, ⊎_elim, arith, Contains}
use Rattle.std.specs.Prelude.{slice_index}
use mathlib.Core.Option.{some, none, some-ne-none, some-injective}
use mathlib.Core.Option as home
use mathlib.Core.Logic.{dite}
use native.Mathlib.Decide.{ℕ_discrete}
use lib.ListN.{get_elem?}
use Rattle.std.proofs.lemmas.List.Elements.{Contains-append_left, Contains-append_right, Contains-append_cases}
use Rattle.atomic_table.specs.Table.{Joins}
use Rattle.atomic_table.proofs.Lists.{at_set, at_map, set_else}
use Rattle.slot_share.specs.declared.view.Met.{Met}
use Rattle.slot_share.specs.declared.view.Handed.{Handed}
use Rattle.slot_share.specs.declared.view.Marks.{Marks}
use Rattle.slot_share.specs.declared.view.Rank.{Rank}
use Rattle.slot_share.specs.declared.view.View.{View}
use Rattle.slot_share.specs.declared.view.Start.{Start}
use Rattle.slot_share.specs.Marks.{greatest, made_at, AreMarked, higher}
use Rattle.slot_share.specs.Ranks.{AreRanked, parts_of, both_ranks, no_rank}
use Rattle.slot_share.specs.Claims.{AreClaimed, Claim}
use Rattle.slot_share.specs.Values.{AreValues, AllGood, IsHandedIn, Keeping, lists_of, slots_of, Truth, Row}
use Rattle.slot_share.specs.Rule.{IsIdle, size_of, marks_of, rank_of, claim_of, keeping_of, Keeps, both_of, spent_view, marks_at}
use Rattle.slot_share.proofs.Lists.{on_set, here_set, map_set, none_in}
use Rattle.slot_share.proofs.Marking.{greatest_set}
use Rattle.slot_share.proofs.Splitting.{parts_set, rank_claims, good_over}

pub higher_at : (xs ys : List ℕ) (i : ℕ) → slice_index (higher xs ys) i ≡ max (slice_index xs i) (slice_index ys i)
higher_at [] ys i = let a : ℕ = slice_index ys i in omega arith
higher_at (x ∷ xs) [] i = let a : ℕ = slice_index (x ∷ xs) i in omega arith
higher_at (x ∷ xs) (y ∷ ys) zero = refl
higher_at (x ∷ xs) (y ∷ ys) (suc i) = higher_at xs ys i

set_back : {A : Type 0} (xs : List A) (i : ℕ) (x y : A) → get_elem? xs i ≡ some x → set (set xs i y) i x ≡ xs
set_back [] i x y e = refl
set_back (z ∷ zs) zero x y e = λ j. sym (some-injective z x e) j ∷ zs
set_back (z ∷ zs) (suc i) x y e = λ j. z ∷ set_back zs i x y e j

member_le : (f : Marks → ℕ) (ms : List Marks) (id first : ℕ) (m : Marks) → get_elem? ms id ≡ some m → f m ≤ greatest first (map f ms)
member_le f [] id first m e = absurd (some-ne-none m (sym e))
member_le f (x ∷ xs) zero first m e = let a : ℕ = f x in let b : ℕ = f m in let c : ℕ = greatest first (map f xs) in let p : a ≡ b = ap f (some-injective x m e) in omega (arith, p)
member_le f (x ∷ xs) (suc id) first m e = let a : ℕ = f x in let b : ℕ = f m in let c : ℕ = greatest first (map f xs) in let p : b ≤ c = member_le f xs id first m e in omega (arith, p)

abbrev no_marks : Marks
no_marks = record { seen = []; made = [] }

abbrev both_marks : Marks → Marks → Marks
both_marks m n = record { seen = higher m.seen n.seen; made = higher m.made n.made }

module _ (ms : List Marks) (id other : ℕ) (m n : Marks) where
  abbrev joined : List Marks
  joined = set (set ms id (both_marks m n)) other no_marks

  greatest_joined : (word first : ℕ) → get_elem? ms id ≡ some m → get_elem? ms other ≡ some n → other ≢ id → greatest first (map (made_at word) joined) ≡ greatest first (map (made_at word) ms)
  greatest_joined word first at there apart =
      let f = made_at word in
      let one : List Marks = set ms id (both_marks m n) in
      let a : ℕ = greatest first (map f ms) in
      let b : ℕ = greatest first (map f one) in
      let c : ℕ = greatest first (map f joined) in
      let d : ℕ = f n in
      let e : ℕ = f (both_marks m n) in
      let g : ℕ = f m in
      let top : e ≡ max g d = higher_at m.made n.made word in
      let up : b ≡ max a d = greatest_set f ms id first d m (both_marks m n) at top in
      let least : d ≤ a = member_le f ms other first n there in
      let there_one : get_elem? one other ≡ some n = set_else ms id other (both_marks m n) apart ∙ there in
      let back : set joined other n ≡ one = set_back one other n no_marks there_one in
      let zero_max : d ≡ max (f no_marks) d = omega arith in
      let down : greatest first (map f (set joined other n)) ≡ max c d = greatest_set f joined other first d no_marks n (here_set one other n no_marks there_one) zero_max in
      let down' : b ≡ max c d = ap (λ (xs : List Marks). greatest first (map f xs)) (sym back) ∙ down in
      let here : get_elem? joined id ≡ some (both_marks m n) = set_else one other id no_marks (λ s. apart (sym s)) ∙ here_set ms id m (both_marks m n) at in
      let kept : e ≤ c = member_le f joined id first (both_marks m n) here in
      omega (arith, up, down', least, top, kept)

  join_marked : (start words : List ℕ) → length m.seen ≡ length start → AreMarked start words ms → get_elem? ms id ≡ some m → get_elem? ms other ≡ some n → other ≢ id → AreMarked start words joined
  join_marked start words seen_long h at there apart = record {
    first = h.first;
    greatest_is = λ word l. h.greatest_is word l ∙ sym (greatest_joined word (slice_index start word) at there apart);
    seen = λ j word u e l. on_set (λ (j : ℕ) (u : Marks). slice_index u.seen word ≤ slice_index words word) (set ms id (both_marks m n)) other no_marks
        (λ j u q e. on_set (λ (j : ℕ) (u : Marks). slice_index u.seen word ≤ slice_index words word) ms id (both_marks m n)
        (λ j u q e. h.seen j word u e l)
        (let a : ℕ = slice_index m.seen word in let b : ℕ = slice_index n.seen word in let c : ℕ = slice_index words word in let d : ℕ = slice_index (higher m.seen n.seen) word in
        let p : a ≤ c = h.seen id word m at l in let q : b ≤ c = h.seen other word n there l in let r : d ≡ max a b = higher_at m.seen n.seen word in omega (arith, p, q, r))
        j u e)
        (omega arith)
        j u e;
    least = λ j word u e long l. on_set (λ (j : ℕ) (u : Marks). length u.seen ≡ length start → slice_index start word ≤ slice_index u.seen word) (set ms id (both_marks m n)) other no_marks
        (λ j u q e. on_set (λ (j : ℕ) (u : Marks). length u.seen ≡ length start → slice_index start word ≤ slice_index u.seen word) ms id (both_marks m n)
        (λ j u q e long. h.least j word u e long l)
        (λ long. let a : ℕ = slice_index m.seen word in let b : ℕ = slice_index n.seen word in let c : ℕ = slice_index start word in let d : ℕ = slice_index (higher m.seen n.seen) word in
        let p : c ≤ a = h.least id word m at seen_long l in let r : d ≡ max a b = higher_at m.seen n.seen word in omega (arith, p, r))
        j u e)
        (λ long. absurd (omega (arith, long, l)))
        j u e long;
  }

module _ (seats : ℕ) (rs : List Rank) (id other : ℕ) (r q : Rank) where
  abbrev ranks_joined : List Rank
  ranks_joined = set (set rs id (both_ranks r q)) other no_rank

  old_owner : (k i : ℕ) (a : Rank) → get_elem? ranks_joined i ≡ some a → 0 < a.number → get_elem? rs i ≡ some a
  old_owner k i a e pos = ⊎_elim
      (λ (t : (i ≡ other) × (no_rank ≡ a)). absurd (let p : 0 < 0 = subst (λ (x : Rank). 0 < x.number) (sym t.1) pos in omega (arith, p)))
      (λ (t : (i ≢ other) × (get_elem? (set rs id (both_ranks r q)) i ≡ some a)). ⊎_elim
      (λ (u : (i ≡ id) × (both_ranks r q ≡ a)). absurd (let p : 0 < 0 = subst (λ (x : Rank). 0 < x.number) (sym u.1) pos in omega (arith, p)))
      (λ (u : (i ≢ id) × (get_elem? rs i ≡ some a)). u.1)
      (at_set rs id i (both_ranks r q) a t.1))
      (at_set (set rs id (both_ranks r q)) other i no_rank a e)

  join_ranks : AreRanked seats rs → get_elem? rs id ≡ some r → get_elem? rs other ≡ some q → other ≢ id → AreRanked seats ranks_joined
  join_ranks h at there apart = record {
    all = (let a : ℕ = parts_of rs in let b : ℕ = parts_of (set rs id (both_ranks r q)) in let c : ℕ = parts_of ranks_joined in let d : ℕ = r.parts in let e : ℕ = q.parts in
        let p : b + d ≡ a + (d + e) = parts_set rs id r (both_ranks r q) at in
        let s : c + e ≡ b + 0 = parts_set (set rs id (both_ranks r q)) other q no_rank (set_else rs id other (both_ranks r q) apart ∙ there) in
        let z : a ≡ seats = h.all in omega (arith, p, s, z));
    within = λ j x e p. h.within j x (old_owner 0 j x e p) p;
    apart = λ i j k a b ei ej oa ob. h.apart i j k a b (old_owner k i a ei oa.0) (old_owner k j b ej ob.0) oa ob;
  }

module _ {P : Type 0} (is_true : Truth P) (start : Start P) (homes : List (home.Option (Row P))) (ks : List (Keeping P)) (id other : ℕ) (t u : List (Met P)) (hs gs : List (Handed P)) where
  abbrev keepings_joined : List (Keeping P)
  keepings_joined = set (set ks id (t ++ u, hs ++ gs)) other ([], [])

  list_at : (j : ℕ) (k : Keeping P) → get_elem? keepings_joined j ≡ some k → get_elem? (lists_of keepings_joined) j ≡ some k.1
  list_at j k e = at_map (λ (x : Keeping P). x.1) keepings_joined j k e

  moved : get_elem? ks id ≡ some (t, hs) → get_elem? ks other ≡ some (u, gs) → other ≢ id → (kept : Handed P) → IsHandedIn (lists_of ks) kept → IsHandedIn (lists_of keepings_joined) kept
  moved at there apart kept h =
      let here : get_elem? keepings_joined id ≡ some (t ++ u, hs ++ gs) = set_else (set ks id (t ++ u, hs ++ gs)) other id ([], []) (λ s. apart (sym s)) ∙ here_set ks id (t, hs) (t ++ u, hs ++ gs) at in
      dite (ℕ_discrete h.id id)
      (λ (e : h.id ≡ id).
      let is : h.list ≡ hs = some-injective h.list hs (sym h.there ∙ (ap (get_elem? (lists_of ks)) e ∙ at_map (λ (k : Keeping P). k.1) ks id (t, hs) at)) in
      record { id = id; list = hs ++ gs; there = list_at id (t ++ u, hs ++ gs) here; one = Contains-append_left hs gs _ (subst (λ (l : List (Handed P)). Contains l kept) is h.one) })
      (λ (n : h.id ≢ id). dite (ℕ_discrete h.id other)
      (λ (e : h.id ≡ other).
      let is : h.list ≡ gs = some-injective h.list gs (sym h.there ∙ (ap (get_elem? (lists_of ks)) e ∙ at_map (λ (k : Keeping P). k.1) ks other (u, gs) there)) in
      record { id = id; list = hs ++ gs; there = list_at id (t ++ u, hs ++ gs) here; one = Contains-append_right hs gs _ (subst (λ (l : List (Handed P)). Contains l kept) is h.one) })
      (λ (m : h.id ≢ other). record {
        id = h.id;
        list = h.list;
        there = ap (λ (ls : List (List (Handed P))). get_elem? ls h.id) (map_set (λ (k : Keeping P). k.1) (set ks id (t ++ u, hs ++ gs)) other ([], []) ∙ ap (λ (ls : List (List (Handed P))). set ls other []) (map_set (λ (k : Keeping P). k.1) ks id (t ++ u, hs ++ gs)))
            ∙ (set_else (set (lists_of ks) id (hs ++ gs)) other h.id [] m ∙ (set_else (lists_of ks) id h.id (hs ++ gs) n ∙ h.there));
        one = h.one;
      }))

  join_values : AreValues is_true start homes ks → get_elem? ks id ≡ some (t, hs) → get_elem? ks other ≡ some (u, gs) → other ≢ id → AreValues is_true start homes keepings_joined
  join_values h at there apart =
      let more = moved at there apart in
      record {
        home_good = λ k y e. good_over is_true start (lists_of ks) (lists_of keepings_joined) more k y (h.home_good k y e);
        met_good = λ j k m e c. on_set (λ (j : ℕ) (k : Keeping P). (m : Met P) → Contains k.0 m → AllGood is_true start (lists_of keepings_joined) m.slot m.row) (set ks id (t ++ u, hs ++ gs)) other ([], [])
            (λ j k q e. on_set (λ (j : ℕ) (k : Keeping P). (m : Met P) → Contains k.0 m → AllGood is_true start (lists_of keepings_joined) m.slot m.row) ks id (t ++ u, hs ++ gs)
            (λ j k q e m c. good_over is_true start (lists_of ks) (lists_of keepings_joined) more m.slot m.row (h.met_good j k m e c))
            (λ m c. ⊎_elim
            (λ (a : Contains t m). good_over is_true start (lists_of ks) (lists_of keepings_joined) more m.slot m.row (h.met_good id (t, hs) m at a))
            (λ (b : Contains u m). good_over is_true start (lists_of ks) (lists_of keepings_joined) more m.slot m.row (h.met_good other (u, gs) m there b))
            (Contains-append_cases t u m c))
            j k e)
            (λ m c. absurd (none_in m c))
            j k e m c;
      }

module _ {P : Type 0} (is_true : Truth P) where
  map_twice : {A B : Type 0} (f : A → B) (xs : List A) (i j : ℕ) (x y : A) → map f (set (set xs i x) j y) ≡ set (set (map f xs) i (f x)) j (f y)
  map_twice f xs i j x y = map_set f (set xs i x) j y ∙ ap (λ ys. set ys j (f y)) (map_set f xs i x)

  pub joins : (start : Start P) (id : ℕ) (v : View P) (other : ℕ) (w : View P) → length v.marks.seen ≡ size_of start → 0 < v.rank.parts → v.holds ≡ None → w.holds ≡ None
      → Joins (Keeps is_true start) id v other w (both_of v w) spent_view
  joins start id v other w seen_long part nothing neither s h here apart there_set =
      let there : get_elem? s.views other ≡ some w = sym (set_else s.views id other (both_of v w) apart) ∙ there_set in
      record {
        long = h.long;
        some = h.some;
        marks = subst (λ (ms : List Marks). AreMarked (marks_at start) s.words ms) (sym (map_twice marks_of s.views id other (both_of v w) spent_view))
            (join_marked (map marks_of s.views) id other v.marks w.marks (marks_at start) s.words seen_long h.marks (at_map marks_of s.views id v here) (at_map marks_of s.views other w there) apart);
        ranks = subst (λ (rs : List Rank). AreRanked start.seats rs) (sym (map_twice rank_of s.views id other (both_of v w) spent_view))
            (join_ranks start.seats (map rank_of s.views) id other v.rank w.rank h.ranks (at_map rank_of s.views id v here) (at_map rank_of s.views other w there) apart);
        claims = subst (λ (cs : List Claim). AreClaimed (size_of start) (slots_of start) s.words s.homes cs) (sym (map_twice claim_of s.views id other (both_of v w) spent_view))
            (rank_claims (size_of start) (slots_of start) s.words s.homes (set (map claim_of s.views) id (both_ranks v.rank w.rank, None)) other w.rank no_rank
            (rank_claims (size_of start) (slots_of start) s.words s.homes (map claim_of s.views) id v.rank (both_ranks v.rank w.rank) h.claims (at_map claim_of s.views id v here ∙ ap (λ (o : Option ℕ). some (v.rank, o)) nothing))
            (set_else (map claim_of s.views) id other (both_ranks v.rank w.rank, None) apart ∙ (at_map claim_of s.views other w there ∙ ap (λ (o : Option ℕ). some (w.rank, o)) neither)));
        values = subst (λ (ks : List (Keeping P)). AreValues is_true start s.homes ks) (sym (map_twice keeping_of s.views id other (both_of v w) spent_view))
            (join_values is_true start s.homes (map keeping_of s.views) id other v.met w.met v.handed w.handed h.values (at_map keeping_of s.views id v here) (at_map keeping_of s.views other w there) apart);
        idle = λ j u e z. on_set (λ (j : ℕ) (u : View P). u.rank.parts ≡ 0 → IsIdle u) (set s.views id (both_of v w)) other spent_view
            (λ j u n e. on_set (λ (j : ℕ) (u : View P). u.rank.parts ≡ 0 → IsIdle u) s.views id (both_of v w)
            (λ j u n e z. h.idle j u e z)
            (λ z. absurd (omega (arith, z, part)))
            j u e)
            (λ z. ((λ word. refl), refl))
            j u e z;
      }
