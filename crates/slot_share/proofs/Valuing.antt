-- Values that are taken out of slots and put back.
use Rattle.std.proofs.Common.{◌≡◌, ◌≢◌, ℕ, suc, List, ◌∷◌, set, Option, Some, None, refl, sym, ap, ◌∙◌, subst, ⊎_elim, inl, inr, arith, Contains}
use mathlib.Core.Option.{some, none, some-ne-none, some-injective}
use mathlib.Core.Option as home
use lib.ListN.{get_elem?}
use mathlib.Core.Logic.{dite}
use native.Mathlib.Decide.{ℕ_discrete}
use Rattle.std.specs.List.{cons_option}
use Rattle.atomic_table.proofs.Lists.{at_set, at_map, set_else}
use Rattle.slot_share.specs.declared.part.Part.{Part}
use Rattle.slot_share.specs.declared.view.Handed.{Handed}
use Rattle.slot_share.specs.declared.view.Met.{Met}
use Rattle.slot_share.specs.declared.view.Start.{Start}
use Rattle.slot_share.specs.Values.{Truth, Row, Keeping, slots_of, start_floor, AllTrue, AllGood, AreValues, IsGood, IsHandedIn, IsIn, holds_true, lists_of, Renews}
use Rattle.slot_share.proofs.Lists.{on_set, map_same, map_set, here_set, cons_member, first_in}

module _ {P : Type 0} (is_true : Truth P) (start : Start P) (homes : List (home.Option (Row P))) (keepings : List (Keeping P)) (id slot : ℕ) (handed : List (Handed P)) where
  abbrev lists : List (List (Handed P))
  lists = lists_of keepings

  same_lists : (t u : List (Met P)) → get_elem? keepings id ≡ some (t, handed) → lists_of (set keepings id (u, handed)) ≡ lists
  same_lists t u at = map_same (λ (k : Keeping P). k.1) keepings id (t, handed) (u, handed) at refl

  pub true_there : (row : Row P) → AreValues is_true start homes keepings → get_elem? homes slot ≡ some (some row) → AllTrue is_true (slots_of start) (start_floor start slot) slot row
  true_there row h there p kept is counts = (h.home_good slot row there p kept is counts).is_true_there

  -- the same values, for the lists as they are after a change
  over : (hs : List (home.Option (Row P))) (ks : List (Keeping P)) → lists_of ks ≡ lists
      → ((k : ℕ) (y : Row P) → get_elem? hs k ≡ some (some y) → AllGood is_true start lists k y)
      → ((j : ℕ) (k : Keeping P) → get_elem? ks j ≡ some k → (m : Met P) → Contains k.0 m → AllGood is_true start lists m.slot m.row)
      → AreValues is_true start hs ks
  over hs ks same at_home met = record {
    home_good = λ k y e. subst (λ (ls : List (List (Handed P))). AllGood is_true start ls k y) (sym same) (at_home k y e);
    met_good = λ j k m e c. subst (λ (ls : List (List (Handed P))). AllGood is_true start ls m.slot m.row) (sym same) (met j k e m c);
  }

  pub take_values : (met : List (Met P)) (row : Row P) → AreValues is_true start homes keepings → get_elem? keepings id ≡ some (met, handed) → get_elem? homes slot ≡ some (some row)
      → AreValues is_true start (set homes slot none) (set keepings id ((record { slot = slot; row = row }) ∷ met, handed))
  take_values met row h at there =
      let now : List (Met P) = (record { slot = slot; row = row }) ∷ met in
      over (set homes slot none) (set keepings id (now, handed)) (same_lists met now at)
      (λ k y e. ⊎_elim
      (λ (z : (k ≡ slot) × (none ≡ some y)). absurd (some-ne-none y (sym z.1)))
      (λ (z : (k ≢ slot) × (get_elem? homes k ≡ some (some y))). h.home_good k y z.1)
      (at_set homes slot k none (some y) e))
      (on_set (λ (j : ℕ) (k : Keeping P). (m : Met P) → Contains k.0 m → AllGood is_true start lists m.slot m.row) keepings id (now, handed)
      (λ j k n e m c. h.met_good j k m e c)
      (λ m c. ⊎_elim
      (λ (s : record { slot = slot; row = row } ≡ m). subst (λ (m : Met P). AllGood is_true start lists m.slot m.row) s (h.home_good slot row there))
      (λ (c : Contains met m). h.met_good id (met, handed) m at c)
      (cons_member (record { slot = slot; row = row }) met m c)))

  pub give_values : (before : List (Met P)) (old new : Row P) → AreValues is_true start homes keepings
      → get_elem? keepings id ≡ some ((record { slot = slot; row = old }) ∷ before, handed) → Renews is_true handed old new
      → AreValues is_true start (set homes slot (some new)) (set keepings id ((record { slot = slot; row = old }) ∷ before, handed))
  give_values before old new h at renews =
      let met : List (Met P) = (record { slot = slot; row = old }) ∷ before in
      over (set homes slot (some new)) (set keepings id (met, handed)) (same_lists met met at)
      (λ k y e. ⊎_elim
      (λ (z : (k ≡ slot) × (some new ≡ some y)). subst (λ (x : ℕ × Row P). AllGood is_true start lists x.0 x.1) (λ i. (sym z.0 i, some-injective new y z.1 i)) good)
      (λ (z : (k ≢ slot) × (get_elem? homes k ≡ some (some y))). h.home_good k y z.1)
      (at_set homes slot k (some new) (some y) e))
      (on_set (λ (j : ℕ) (k : Keeping P). (m : Met P) → Contains k.0 m → AllGood is_true start lists m.slot m.row) keepings id (met, handed)
      (λ j k n e m c. h.met_good j k m e c)
      (λ m c. h.met_good id (met, handed) m at c))
    where
      good : AllGood is_true start lists slot new
      good p kept is counts = ⊎_elim
          (λ (was : IsIn p old kept). h.met_good id ((record { slot = slot; row = old }) ∷ before, handed) (record { slot = slot; row = old }) at (first_in before _) p kept was counts)
          (λ (own : holds_true is_true p kept × Contains handed kept). record {
            is_true_there = own.0;
            known = inr (record { id = id; list = handed; there = at_map (λ (k : Keeping P). k.1) keepings id ((record { slot = slot; row = old }) ∷ before, handed) at; one = own.1 });
          })
          (renews p kept is)

module _ {P : Type 0} (is_true : Truth P) (start : Start P) (homes : List (home.Option (Row P))) (keepings : List (Keeping P)) (id : ℕ) (met : List (Met P)) (handed : List (Handed P)) where
  kept_cons : (what : Option (Handed P)) (x : Handed P) → Contains handed x → Contains (cons_option what handed) x
  kept_cons None x c = c
  kept_cons (Some y) x c = let l = c.1 in (suc c.0, omega (arith, l), c.2)

  stays_handed : (what : Option (Handed P)) (kept : Handed P) → get_elem? keepings id ≡ some (met, handed)
      → IsHandedIn (lists_of keepings) kept → IsHandedIn (lists_of (set keepings id (met, cons_option what handed))) kept
  stays_handed what kept at h = dite (ℕ_discrete h.id id)
      (λ (e : h.id ≡ id).
      let is : h.list ≡ handed = some-injective h.list handed (sym h.there ∙ (ap (get_elem? (lists_of keepings)) e ∙ at_map (λ (k : Keeping P). k.1) keepings id (met, handed) at)) in
      record {
        id = id;
        list = cons_option what handed;
        there = at_map (λ (k : Keeping P). k.1) (set keepings id (met, cons_option what handed)) id (met, cons_option what handed) (here_set keepings id (met, handed) (met, cons_option what handed) at);
        one = kept_cons what kept (subst (λ (l : List (Handed P)). Contains l kept) is h.one);
      })
      (λ (n : h.id ≢ id). record {
        id = h.id;
        list = h.list;
        there = ap (λ (ls : List (List (Handed P))). get_elem? ls h.id) (map_set (λ (k : Keeping P). k.1) keepings id (met, cons_option what handed)) ∙ (set_else (lists_of keepings) id h.id (cons_option what handed) n ∙ h.there);
        one = h.one;
      })

  pub note_values : (what : Option (Handed P)) → AreValues is_true start homes keepings → get_elem? keepings id ≡ some (met, handed)
      → AreValues is_true start homes (set keepings id (met, cons_option what handed))
  note_values what h at = record {
    home_good = λ k y e p kept is counts. more k p kept (h.home_good k y e p kept is counts);
    met_good = λ j k m e c. on_set (λ (j : ℕ) (k : Keeping P). (m : Met P) → Contains k.0 m → AllGood is_true start (lists_of (set keepings id (met, cons_option what handed))) m.slot m.row) keepings id (met, cons_option what handed)
        (λ j k n e m c p kept is counts. more m.slot p kept (h.met_good j k m e c p kept is counts))
        (λ m c p kept is counts. more m.slot p kept (h.met_good id (met, handed) m at c p kept is counts))
        j k e m c;
  }
    where
      more : (slot : ℕ) (p : Part) (kept : Handed P) → IsGood is_true start (lists_of keepings) slot p kept → IsGood is_true start (lists_of (set keepings id (met, cons_option what handed))) slot p kept
      more slot p kept g = record { is_true_there = g.is_true_there; known = ⊎_elim inl (λ k. inr (stays_handed what kept at k)) g.known }
