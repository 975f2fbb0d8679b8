-- What a seat knows after a mark was raised.
use Rattle.std.proofs.Common.{◌≡◌, ◌≢◌, ℕ, ◌<◌, ◌≤◌, max, length, set, refl, sym, ap, subst, ⊎_elim, arith}
use Rattle.std.specs.Prelude.{slice_index}
use lib.ListN.{get_or}
use Rattle.std.proofs.lemmas.List.{get_or-set_same, get_or-set_other}
use Rattle.slot_share.specs.declared.view.View.{View}
use Rattle.slot_share.specs.Marks.{raised}
use Rattle.slot_share.specs.Calls.{IsRaised}
use Rattle.slot_share.proofs.Marking.{set_at}

module _ {P : Type 0} where
  pub view_raised : (old new : View P) (word found to size : ℕ) → length old.marks.seen ≡ size → length old.marks.made ≡ size → word < size → new ≡ record old { marks = raised old.marks word found to }
      → slice_index old.marks.seen word ≤ found → IsRaised old new word to
  view_raised old new word found to size sl ml mark is seen =
      let in_seen : word < length old.marks.seen = omega (arith, mark, sl) in
      let in_made : word < length old.marks.made = omega (arith, mark, ml) in
      let up : ℕ = max found to in
      let here : slice_index (set old.marks.seen word up) word ≡ up = get_or-set_same old.marks.seen word up 0 in_seen in
      subst (λ (v : View P). IsRaised old v word to) (sym is) (record {
        recorded = subst (λ (n : ℕ). to ≤ n) (sym here) (omega arith);
        grows = λ i. ⊎_elim
            (λ (t : (i ≡ word) × (slice_index (set old.marks.seen word up) i ≡ up)).
            let a : ℕ = slice_index old.marks.seen i in
            let b : ℕ = slice_index (set old.marks.seen word up) i in
            let c : ℕ = slice_index old.marks.seen word in
            let p : a ≡ c = ap (λ (n : ℕ). get_or old.marks.seen n 0) t.0 in
            let q : b ≡ up = t.1 in
            let r : c ≤ found = seen in
            omega (arith, p, q, r))
            (λ (t : (i ≢ word) × (slice_index (set old.marks.seen word up) i ≡ slice_index old.marks.seen i)). let e = t.1 in omega (arith, e))
            (set_at old.marks.seen word i up in_seen);
        made = get_or-set_same old.marks.made word (max (slice_index old.marks.made word) to) 0 in_made;
        others = λ i n. get_or-set_other old.marks.made word i (max (slice_index old.marks.made word) to) 0 n;
        same = refl;
      })
