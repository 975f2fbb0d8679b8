-- A seat that is cut in two.
use Rattle.std.proofs.Common.{◌≡◌, ◌≢◌, ◌⊎◌, ℕ, zero, suc, ◌+◌, ◌-◌, ◌<◌, ◌≤◌, max, List, [], ◌∷◌, ◌++◌, map, length, set, Option, Some, None, refl, sym, ap, ◌∙◌, subst, ⊎_elim, inl, inr, arith, Contains}
use Rattle.std.specs.Prelude.{slice_index}
use mathlib.Core.Option.{some, none, some-ne-none, some-injective}
use mathlib.Core.Option as home
use lib.ListN.{get_elem?}
use Rattle.std.proofs.lemmas.List.{get_or-replicate}
use Rattle.atomic_table.specs.Table.{Splits}
use Rattle.atomic_table.proofs.Lists.{at_set, at_map, at_longer, set_else}
use Rattle.slot_share.specs.declared.view.Handed.{Handed}
use Rattle.slot_share.specs.declared.view.Marks.{Marks}
use Rattle.slot_share.specs.declared.view.Rank.{Rank}
use Rattle.slot_share.specs.declared.view.View.{View}
use Rattle.slot_share.specs.declared.view.Start.{Start}
use Rattle.slot_share.specs.Marks.{greatest, made_at, AreMarked}
use Rattle.slot_share.specs.Ranks.{AreRanked, Owns, parts_of, left_rank, right_rank}
use Rattle.slot_share.specs.Claims.{AreClaimed, Claim}
use Rattle.slot_share.specs.Values.{AreValues, AllGood, IsHandedIn, Keeping, lists_of, slots_of, Truth, Row}
use Rattle.slot_share.specs.Rule.{IsIdle, size_of, marks_of, rank_of, claim_of, keeping_of, Keeps, left_of, right_of, marks_at}
use Rattle.slot_share.proofs.Lists.{on_set, map_set, map_same, map_snoc, none_in}
use Rattle.slot_share.proofs.Claiming.{none_is}

pub at_end : {A : Type 0} (l : List A) (a b : A) (j : ℕ) → get_elem? (l ++ a ∷ []) j ≡ some b → (get_elem? l j ≡ some b) ⊎ ((j ≡ length l) × (a ≡ b))
at_end [] a b zero e = inr (refl, some-injective a b e)
at_end [] a b (suc j) e = absurd (some-ne-none b (sym e))
at_end (x ∷ xs) a b zero e = inl e
at_end (x ∷ xs) a b (suc j) e = ⊎_elim inl (λ t. inr (ap suc t.0, t.1)) (at_end xs a b j e)

greatest_snoc : (f : Marks → ℕ) (ms : List Marks) (first : ℕ) (m : Marks) → f m ≡ 0 → greatest first (map f (ms ++ m ∷ [])) ≡ greatest first (map f ms)
greatest_snoc f [] first m z = let c : ℕ = f m in let q : c ≡ 0 = z in omega (arith, q)
greatest_snoc f (x ∷ xs) first m z = ap (λ (n : ℕ). max (f x) n) (greatest_snoc f xs first m z)

pub snoc_marked : (start words : List ℕ) (ms : List Marks) (m : Marks) → AreMarked start words ms
    → ((word : ℕ) → word < length start → slice_index m.made word ≡ 0) → ((word : ℕ) → word < length start → slice_index m.seen word ≤ slice_index words word)
    → (length m.seen ≡ length start → (word : ℕ) → word < length start → slice_index start word ≤ slice_index m.seen word)
    → AreMarked start words (ms ++ m ∷ [])
snoc_marked start words ms m h made seen least = record {
  first = h.first;
  greatest_is = λ word l. h.greatest_is word l ∙ sym (greatest_snoc (made_at word) ms (slice_index start word) m (made word l));
  seen = λ id word u e l. ⊎_elim
      (λ (t : get_elem? ms id ≡ some u). h.seen id word u t l)
      (λ (t : (id ≡ length ms) × (m ≡ u)). subst (λ (x : Marks). slice_index x.seen word ≤ slice_index words word) t.1 (seen word l))
      (at_end ms m u id e);
  least = λ id word u e long l. ⊎_elim
      (λ (t : get_elem? ms id ≡ some u). h.least id word u t long l)
      (λ (t : (id ≡ length ms) × (m ≡ u)). subst (λ (x : Marks). slice_index start word ≤ slice_index x.seen word) t.1 (least (ap (λ (x : Marks). length x.seen) t.1 ∙ long) word l))
      (at_end ms m u id e);
}

pub parts_set : (rs : List Rank) (id : ℕ) (r q : Rank) → get_elem? rs id ≡ some r → parts_of (set rs id q) + r.parts ≡ parts_of rs + q.parts
parts_set [] id r q e = absurd (some-ne-none r (sym e))
parts_set (x ∷ xs) zero r q e =
    let a : ℕ = x.parts in let b : ℕ = parts_of xs in let c : ℕ = r.parts in let d : ℕ = q.parts in
    let s : a ≡ c = ap (λ (z : Rank). z.parts) (some-injective x r e) in omega (arith, s)
parts_set (x ∷ xs) (suc id) r q e =
    let a : ℕ = x.parts in let b : ℕ = parts_of xs in let c : ℕ = r.parts in let d : ℕ = q.parts in let n : ℕ = parts_of (set xs id q) in
    let ih : n + c ≡ b + d = parts_set xs id r q e in omega (arith, ih)

parts_snoc : (rs : List Rank) (r : Rank) → parts_of (rs ++ r ∷ []) ≡ parts_of rs + r.parts
parts_snoc [] r = let a : ℕ = r.parts in omega arith
parts_snoc (x ∷ xs) r = let a : ℕ = x.parts in let b : ℕ = parts_of xs in let c : ℕ = r.parts in let n : ℕ = parts_of (xs ++ r ∷ []) in let ih : n ≡ b + c = parts_snoc xs r in omega (arith, ih)

module _ (seats : ℕ) (rs : List Rank) (id : ℕ) (r : Rank) where
  abbrev halves : List Rank
  halves = set rs id (left_rank r) ++ right_rank r ∷ []

  -- where an owner of k stood before, and which half it is
  abbrev Origin : ℕ → ℕ → Rank → Type 0
  Origin k i a = ((i ≢ id) × (get_elem? rs i ≡ some a)) ⊎ (((i ≡ id) × (k < r.number + (r.parts - 1)) × Owns r k) ⊎ ((i ≡ length (set rs id (left_rank r))) × (r.number + (r.parts - 1) ≤ k) × Owns r k))

  origin : (k i : ℕ) (a : Rank) → 1 < r.parts → 0 < r.number → get_elem? halves i ≡ some a → Owns a k → Origin k i a
  origin k i a two pos e o = ⊎_elim
      (λ (t : get_elem? (set rs id (left_rank r)) i ≡ some a). ⊎_elim
      (λ (u : (i ≡ id) × (left_rank r ≡ a)). inr (inl (let p : Owns (left_rank r) k = subst (λ (x : Rank). Owns x k) (sym u.1) o in let q = p.1 in let s = p.2 in (u.0, s, (pos, q, omega (arith, s))))))
      (λ (u : (i ≢ id) × (get_elem? rs i ≡ some a)). inl u)
      (at_set rs id i (left_rank r) a t))
      (λ (t : (i ≡ length (set rs id (left_rank r))) × (right_rank r ≡ a)).
      inr (inr (let p : Owns (right_rank r) k = subst (λ (x : Rank). Owns x k) (sym t.1) o in let q = p.1 in let s = p.2 in (t.0, q, (pos, omega (arith, q), omega (arith, s, two))))))
      (at_end (set rs id (left_rank r)) (right_rank r) a i e)

  pub split_ranks : AreRanked seats rs → get_elem? rs id ≡ some r → 1 < r.parts → 0 < r.number → AreRanked seats halves
  split_ranks h at two pos = record {
    all = (let a : ℕ = parts_of rs in let b : ℕ = parts_of (set rs id (left_rank r)) in let c : ℕ = r.parts in let d : ℕ = parts_of halves in
        let p : b + c ≡ a + (c - 1) = parts_set rs id r (left_rank r) at in let q : d ≡ b + 1 = parts_snoc (set rs id (left_rank r)) (right_rank r) in let z : a ≡ seats = h.all in omega (arith, p, q, z, two));
    within = λ j q e p. ⊎_elim
        (λ (t : get_elem? (set rs id (left_rank r)) j ≡ some q).
        on_set (λ (j : ℕ) (x : Rank). 0 < x.number → (x.number + x.parts ≤ seats + 1) × (x.seats ≡ seats)) rs id (left_rank r)
        (λ j x n e p. h.within j x e p)
        (λ p. let w = h.within id r at pos in let w0 = w.0 in (omega (arith, w0, two), w.1))
        j q t p)
        (λ (t : (j ≡ length (set rs id (left_rank r))) × (right_rank r ≡ q)).
        subst (λ (x : Rank). (x.number + x.parts ≤ seats + 1) × (x.seats ≡ seats)) t.1 (let w = h.within id r at pos in let w0 = w.0 in (omega (arith, w0, two), w.1)))
        (at_end (set rs id (left_rank r)) (right_rank r) q j e);
    apart = λ i j k a b ei ej oa ob. both i j k a b oa ob (origin k i a two pos ei oa) (origin k j b two pos ej ob);
  }
    where
      both : (i j k : ℕ) (a b : Rank) → Owns a k → Owns b k → Origin k i a → Origin k j b → i ≡ j
      both i j k a b oa ob (inl x) (inl y) = h.apart i j k a b x.1 y.1 oa ob
      both i j k a b oa ob (inl x) (inr (inl y)) = absurd (x.0 (h.apart i id k a r x.1 at oa y.2))
      both i j k a b oa ob (inl x) (inr (inr y)) = absurd (x.0 (h.apart i id k a r x.1 at oa y.2))
      both i j k a b oa ob (inr (inl x)) (inl y) = absurd (y.0 (h.apart j id k b r y.1 at ob x.2))
      both i j k a b oa ob (inr (inr x)) (inl y) = absurd (y.0 (h.apart j id k b r y.1 at ob x.2))
      both i j k a b oa ob (inr (inl x)) (inr (inl y)) = x.0 ∙ sym y.0
      both i j k a b oa ob (inr (inr x)) (inr (inr y)) = x.0 ∙ sym y.0
      both i j k a b oa ob (inr (inl x)) (inr (inr y)) = absurd (let p = x.1 in let q = y.1 in omega (arith, p, q))
      both i j k a b oa ob (inr (inr x)) (inr (inl y)) = absurd (let p = x.1 in let q = y.1 in omega (arith, p, q))

-- a seat that holds nothing has another rank, and still holds nothing
pub rank_claims : {S : Type 0} (size slots : ℕ) (words : List ℕ) (homes : List (home.Option S)) (claims : List Claim) (id : ℕ) (r q : Rank)
    → AreClaimed size slots words homes claims → get_elem? claims id ≡ some (r, None) → AreClaimed size slots words homes (set claims id (q, None))
rank_claims size slots words homes claims id r q h at = record {
  held = λ j s c e t. on_set (λ (j : ℕ) (c : Claim). (s : ℕ) → c.1 ≡ Some s → (s < slots) × (0 < c.0.number) × (0 < c.0.parts) × (slice_index words (size + s) ≡ c.0.number)) claims id (q, None)
      (λ j c n e s t. h.held j s c e t)
      (λ s t. absurd (none_is s t))
      j c e s t;
  holder = λ s l p. let k = h.holder s l p in
      (k.0, k.1, set_else claims id k.0 (q, None) (λ same. none_is s (subst (λ (c : Claim). c.1 ≡ Some s) (some-injective k.1 (r, None) (sym k.2 ∙ (ap (get_elem? claims) same ∙ at))) k.4)) ∙ k.2, k.3, k.4);
  at_home = h.at_home;
}

snoc_claims : {S : Type 0} (size slots : ℕ) (words : List ℕ) (homes : List (home.Option S)) (claims : List Claim) (q : Rank)
    → AreClaimed size slots words homes claims → AreClaimed size slots words homes (claims ++ (q, None) ∷ [])
snoc_claims size slots words homes claims q h = record {
  held = λ j s c e t. ⊎_elim
      (λ (u : get_elem? claims j ≡ some c). h.held j s c u t)
      (λ (u : (j ≡ length claims) × ((q, None) ≡ c)). absurd (none_is s (ap (λ (x : Claim). x.1) u.1 ∙ t)))
      (at_end claims (q, None) c j e);
  holder = λ s l p. let k = h.holder s l p in (k.0, k.1, at_longer claims ((q, None) ∷ []) k.0 k.1 k.2, k.3, k.4);
  at_home = h.at_home;
}

module _ {P : Type 0} (is_true : Truth P) where
  -- values stay good where lists keep what was handed in
  pub good_over : (start : Start P) (ls ms : List (List (Handed P))) → ((kept : Handed P) → IsHandedIn ls kept → IsHandedIn ms kept)
      → (slot : ℕ) (y : Row P) → AllGood is_true start ls slot y → AllGood is_true start ms slot y
  good_over start ls ms more slot y h p kept is counts =
      let g = h p kept is counts in
      record { is_true_there = g.is_true_there; known = ⊎_elim inl (λ k. inr (more kept k)) g.known }

  snoc_values : (start : Start P) (homes : List (home.Option (Row P))) (ks : List (Keeping P)) → AreValues is_true start homes ks → AreValues is_true start homes (ks ++ ([], []) ∷ [])
  snoc_values start homes ks h =
      let more : (kept : Handed P) → IsHandedIn (lists_of ks) kept → IsHandedIn (lists_of (ks ++ ([], []) ∷ [])) kept
      = λ kept k. record {
        id = k.id;
        list = k.list;
        there = ap (λ (ls : List (List (Handed P))). get_elem? ls k.id) (map_snoc (λ (x : Keeping P). x.1) ks ([], [])) ∙ at_longer (lists_of ks) ([] ∷ []) k.id k.list k.there;
        one = k.one;
      } in
      record {
        home_good = λ k y e. good_over start (lists_of ks) (lists_of (ks ++ ([], []) ∷ [])) more k y (h.home_good k y e);
        met_good = λ j k m e c. ⊎_elim
            (λ (u : get_elem? ks j ≡ some k). good_over start (lists_of ks) (lists_of (ks ++ ([], []) ∷ [])) more m.slot m.row (h.met_good j k m u c))
            (λ (u : (j ≡ length ks) × (([], []) ≡ k)). absurd (none_in m (subst (λ (x : Keeping P). Contains x.0 m) (sym u.1) c)))
            (at_end ks ([], []) k j e);
      }

  pub splits : (start : Start P) (id : ℕ) (v : View P) → 1 < v.rank.parts → 0 < v.rank.number → v.holds ≡ None → length v.marks.seen ≡ size_of start
      → Splits (Keeps is_true start) id v (left_of v) (right_of v)
  splits start id v two pos nothing seen_long s h here =
      let w : View P = left_of v in
      let x : View P = right_of v in
      record {
        long = h.long;
        some = h.some;
        marks = subst (λ (ms : List Marks). AreMarked (marks_at start) s.words ms) (sym (map_snoc marks_of (set s.views id w) x ∙ ap (λ (ms : List Marks). ms ++ marks_of x ∷ []) (map_same marks_of s.views id v w here refl)))
            (snoc_marked (marks_at start) s.words (map marks_of s.views) (marks_of x) h.marks
            (λ word l. get_or-replicate (length v.marks.seen) word 0 0 (omega (arith, seen_long, l)))
            (λ word l. h.marks.seen id word v.marks (at_map marks_of s.views id v here) l)
            (λ long word l. h.marks.least id word v.marks (at_map marks_of s.views id v here) long l));
        ranks = subst (λ (rs : List Rank). AreRanked start.seats rs) (sym (map_snoc rank_of (set s.views id w) x ∙ ap (λ (rs : List Rank). rs ++ rank_of x ∷ []) (map_set rank_of s.views id w)))
            (split_ranks start.seats (map rank_of s.views) id v.rank h.ranks (at_map rank_of s.views id v here) two pos);
        claims = subst (λ (cs : List Claim). AreClaimed (size_of start) (slots_of start) s.words s.homes cs) (sym (map_snoc claim_of (set s.views id w) x ∙ ap (λ (cs : List Claim). cs ++ claim_of x ∷ []) (map_set claim_of s.views id w ∙ ap (λ (o : Option ℕ). set (map claim_of s.views) id (w.rank, o)) nothing)))
            (snoc_claims (size_of start) (slots_of start) s.words s.homes (set (map claim_of s.views) id (w.rank, None)) x.rank
            (rank_claims (size_of start) (slots_of start) s.words s.homes (map claim_of s.views) id v.rank w.rank h.claims (at_map claim_of s.views id v here ∙ ap (λ (o : Option ℕ). some (v.rank, o)) nothing)));
        values = subst (λ (ks : List (Keeping P)). AreValues is_true start s.homes ks) (sym (map_snoc keeping_of (set s.views id w) x ∙ ap (λ (ks : List (Keeping P)). ks ++ keeping_of x ∷ []) (map_same keeping_of s.views id v w here refl)))
            (snoc_values start s.homes (map keeping_of s.views) h.values);
        idle = λ j u e z. ⊎_elim
            (λ (t : get_elem? (set s.views id w) j ≡ some u). on_set (λ (j : ℕ) (u : View P). u.rank.parts ≡ 0 → IsIdle u) s.views id w (λ j u n e z. h.idle j u e z) (λ z. absurd (omega (arith, z, two))) j u t z)
            (λ (t : (j ≡ length (set s.views id w)) × (x ≡ u)). absurd (let q : 1 ≡ 0 = ap (λ (y : View P). y.rank.parts) t.1 ∙ z in omega (arith, q)))
            (at_end (set s.views id w) x u j e);
      }
