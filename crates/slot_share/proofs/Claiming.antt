-- Claims that are taken and given back.
use Rattle.std.proofs.Common.{◌≡◌, ◌≢◌, ℕ, ◌+◌, ◌<◌, ◌≤◌, List, map, length, set, Some, None, refl, sym, ap, ◌∙◌, subst, arith, le_refl}
use Rattle.std.specs.Prelude.{slice_index}
use mathlib.Core.Option.{some, none, some-ne-none, some-injective}
use mathlib.Core.Option as home
use mathlib.Core.Logic.{dite}
use native.Mathlib.Decide.{ℕ_discrete}
use lib.ListN.{get_elem?, get_or}
use Rattle.std.proofs.lemmas.List.{get_or-set_same, get_or-set_other}
use Rattle.atomic_table.proofs.Lists.{at_map, set_else, set_here}
use Rattle.slot_share.specs.declared.view.Rank.{Rank}
use Rattle.slot_share.specs.Ranks.{AreRanked}
use Rattle.slot_share.specs.Claims.{AreClaimed, Claim}
use Rattle.slot_share.proofs.Lists.{on_set, here_set}

pub some_is : {A : Type 0} (x y : A) → Some x ≡ Some y → x ≡ y
some_is x y e = (cc)

pub none_is : {A : Type 0} (x : A) → None ≡ Some x → ⊥
none_is x e = (cc)

-- two seats that hold something and have one number are one seat
pub one_seat : (seats : ℕ) (ranks : List Rank) (i j : ℕ) (r q : Rank) → AreRanked seats ranks → get_elem? ranks i ≡ some r → get_elem? ranks j ≡ some q
    → r.number ≡ q.number → 0 < r.number → 0 < r.parts → 0 < q.parts → i ≡ j
one_seat seats ranks i j r q h at there same pos part other =
    h.apart i j r.number r q at there (pos, le_refl r.number, omega (arith, part)) (omega (arith, pos, same), omega (arith, same), omega (arith, same, other))

module _ {S : Type 0} (size slots : ℕ) (words : List ℕ) (homes : List (home.Option S)) (claims : List Claim) (id slot : ℕ) (r : Rank) where
  word_at : (n i : ℕ) → i ≢ slot → slice_index (set words (size + slot) n) (size + i) ≡ slice_index words (size + i)
  word_at n i apart = get_or-set_other words (size + slot) (size + i) n 0 (λ e. apart (omega (arith, e)))

  word_here : (n i : ℕ) → size + slot < length words → i ≡ slot → slice_index (set words (size + slot) n) (size + i) ≡ n
  word_here n i inside e = ap (λ (k : ℕ). get_or (set words (size + slot) n) (size + k) 0) e ∙ get_or-set_same words (size + slot) n 0 inside

  pub take_claim : AreClaimed size slots words homes claims → get_elem? claims id ≡ some (r, None) → slot < slots → size + slot < length words
      → 0 < r.number → 0 < r.parts → slice_index words (size + slot) ≡ 0
      → AreClaimed size slots (set words (size + slot) r.number) (set homes slot none) (set claims id (r, Some slot))
  take_claim h at below inside pos part free = record {
    held = λ j s c e t. on_set (λ (j : ℕ) (c : Claim). (s : ℕ) → c.1 ≡ Some s → (s < slots) × (0 < c.0.number) × (0 < c.0.parts) × (slice_index (set words (size + slot) r.number) (size + s) ≡ c.0.number)) claims id (r, Some slot)
        (λ j c n e s t. let k = h.held j s c e t in (
          k.0,
          k.1,
          k.2,
          word_at r.number s (λ same. let a : ℕ = c.0.number in let b : ℕ = slice_index words (size + s) in
              let p : b ≡ a = k.3 in let q : b ≡ 0 = ap (λ (x : ℕ). slice_index words (size + x)) same ∙ free in let l : 0 < a = k.1 in omega (arith, p, q, l)) ∙ k.3,
        ))
        (λ s t. let same : slot ≡ s = some_is slot s t in (omega (arith, below, same), pos, part, word_here r.number s inside (sym same)))
        j c e s t;
    holder = λ s l p. dite (ℕ_discrete s slot)
        (λ (e : s ≡ slot). (id, (r, Some slot), here_set claims id (r, None) (r, Some slot) at, sym (word_here r.number s inside e), ap Some (sym e)))
        (λ (n : s ≢ slot). let k = h.holder s l (subst (λ (x : ℕ). 0 < x) (word_at r.number s n) p) in
        (k.0, k.1, set_else claims id k.0 (r, Some slot) (λ same. none_is s (subst (λ (c : Claim). c.1 ≡ Some s) (some-injective k.1 (r, None) (sym k.2 ∙ (ap (get_elem? claims) same ∙ at))) k.4)) ∙ k.2, k.3 ∙ sym (word_at r.number s n), k.4));
    at_home = λ s l z. dite (ℕ_discrete s slot)
        (λ (e : s ≡ slot). absurd (let w : ℕ = slice_index (set words (size + slot) r.number) (size + s) in let a : ℕ = r.number in let p : w ≡ a = word_here r.number s inside e in let q : w ≡ 0 = z in omega (arith, p, q, pos)))
        (λ (n : s ≢ slot). let k = h.at_home s l (sym (word_at r.number s n) ∙ z) in (k.0, set_else homes slot s none n ∙ k.1));
  }

  pub give_claim : (x : S) → AreClaimed size slots words homes claims
      → ((j : ℕ) (c : Claim) → get_elem? claims j ≡ some c → c.0.number ≡ r.number → 0 < c.0.parts → j ≡ id)
      → get_elem? claims id ≡ some (r, Some slot) → size + slot < length words → slot < length homes
      → AreClaimed size slots (set words (size + slot) 0) (set homes slot (some x)) (set claims id (r, None))
  give_claim x h one at inside within =
      let mine = h.held id slot (r, Some slot) at refl in
      record {
        held = λ j s c e t. on_set (λ (j : ℕ) (c : Claim). (s : ℕ) → c.1 ≡ Some s → (s < slots) × (0 < c.0.number) × (0 < c.0.parts) × (slice_index (set words (size + slot) 0) (size + s) ≡ c.0.number)) claims id (r, None)
            (λ j c n e s t. let k = h.held j s c e t in
            (k.0, k.1, k.2, word_at 0 s (λ same. n (one j c e (sym k.3 ∙ (ap (λ (x : ℕ). slice_index words (size + x)) same ∙ mine.3)) k.2)) ∙ k.3))
            (λ s t. absurd (none_is s t))
            j c e s t;
        holder = λ s l p. dite (ℕ_discrete s slot)
            (λ (e : s ≡ slot). absurd (let w : ℕ = slice_index (set words (size + slot) 0) (size + s) in let q : w ≡ 0 = word_here 0 s inside e in omega (arith, p, q)))
            (λ (n : s ≢ slot). let k = h.holder s l (subst (λ (x : ℕ). 0 < x) (word_at 0 s n) p) in
            (k.0, k.1, set_else claims id k.0 (r, None) (λ same. n (sym (some_is slot s (subst (λ (c : Claim). c.1 ≡ Some s) (some-injective k.1 (r, Some slot) (sym k.2 ∙ (ap (get_elem? claims) same ∙ at))) k.4)))) ∙ k.2, k.3 ∙ sym (word_at 0 s n), k.4));
        at_home = λ s l z. dite (ℕ_discrete s slot)
            (λ (e : s ≡ slot). (x, ap (get_elem? (set homes slot (some x))) e ∙ set_here homes slot (some x) within))
            (λ (n : s ≢ slot). let k = h.at_home s l (sym (word_at 0 s n) ∙ z) in (k.0, set_else homes slot s (some x) n ∙ k.1));
      }

  -- a seat that holds nothing finds no number of its own
  pub not_own : (seats : ℕ) (ranks : List Rank) → AreClaimed size slots words homes claims → AreRanked seats ranks → map (λ (c : Claim). c.0) claims ≡ ranks
      → get_elem? claims id ≡ some (r, None) → slot < slots → 0 < r.parts → slice_index words (size + slot) ≢ 0
      → (slice_index words (size + slot) ≢ r.number) × (slice_index words (size + slot) ≤ seats)
  not_own seats ranks h ranked same at below part busy =
      let word : ℕ = slice_index words (size + slot) in
      let k = h.holder slot below (omega (arith, busy)) in
      let held = h.held k.0 slot k.1 k.2 k.4 in
      let theirs : get_elem? ranks k.0 ≡ some k.1.0 = subst (λ (rs : List Rank). get_elem? rs k.0 ≡ some k.1.0) same (at_map (λ (c : Claim). c.0) claims k.0 k.1 k.2) in
      let ours : get_elem? ranks id ≡ some r = subst (λ (rs : List Rank). get_elem? rs id ≡ some r) same (at_map (λ (c : Claim). c.0) claims id (r, None) at) in (
        λ (is : word ≡ r.number).
            let place : k.0 ≡ id = one_seat seats ranks k.0 id k.1.0 r ranked theirs ours (k.3 ∙ is) held.1 held.2 part in
            none_is slot (subst (λ (c : Claim). c.1 ≡ Some slot) (some-injective k.1 (r, None) (sym k.2 ∙ (ap (get_elem? claims) place ∙ at))) k.4),
        (let n : ℕ = k.1.0.number in let p : ℕ = k.1.0.parts in let within = (ranked.within k.0 k.1.0 theirs held.1).0 in let is : n ≡ word = k.3 in let l : 0 < p = held.2 in omega (arith, within, is, l)),
      )
