-- Each step keeps the rule.
use Rattle.std.proofs.Common.{◌≡◌, ◌≢◌, ℕ, suc, ◌+◌, ◌<◌, ◌≤◌, max, List, [], ◌∷◌, map, length, set, Option, Some, None, Bool, false, refl, sym, ap, ◌∙◌, subst, arith, le_trans, ◌==◌, ne_eqb}
use Rattle.std.specs.Prelude.{slice_index}
use mathlib.Core.Option.{some, none}
use mathlib.Core.Option as home
use mathlib.Core.Logic.{dite}
use native.Mathlib.Decide.{ℕ_discrete}
use prog.Atomic.{either}
use lib.ListN.{get_elem?, get_or}
use Rattle.std.proofs.lemmas.List.{get_or-set_other, set-get_or, length-set}
use Rattle.atomic_table.specs.Table.{Act, Allows, Valid, keeps, takes, gives, step, stepped, carried_after}
use Rattle.atomic_table.proofs.Lists.{at_map}
use Rattle.slot_cache.specs.Slots.{slot_of}
use Rattle.slot_share.specs.declared.view.Marks.{Marks}
use Rattle.slot_share.specs.declared.view.Handed.{Handed}
use Rattle.slot_share.specs.declared.view.View.{View}
use Rattle.slot_share.specs.declared.view.Start.{Start}
use Rattle.slot_share.specs.declared.view.Met.{Met}
use Rattle.slot_share.specs.declared.part.Part.TheVariants as part
use Rattle.slot_share.specs.declared.view.Rank.{Rank}
use Rattle.slot_share.specs.Rule.{IsIdle, size_of, marks_of, rank_of, claim_of, keeping_of, Keeps, marks_at}
use Rattle.slot_share.specs.Values.{AreValues, Keeping, Renews, slots_of, Truth, Row, AllTrue, start_floor}
use Rattle.slot_share.specs.Steps.{Notes, noted, Tries, Releases, IsHolding, tried, took, released, Raises, Loads, slots_by}
use Rattle.slot_share.specs.Marks.{AreMarked, raised, loaded, seen_at, floor_word}
use Rattle.slot_share.specs.Claims.{AreClaimed, Claim}
use Rattle.slot_share.proofs.Lists.{on_set, map_set, map_same}
use Rattle.slot_share.proofs.Claiming.{one_seat, take_claim, give_claim, not_own}
use Rattle.slot_share.proofs.Valuing.{true_there, take_values, give_values, note_values}
use Rattle.slot_share.proofs.Marking.{raise_marked, load_marked}

-- a mark's word changes
pub marks_apart : {S : Type 0} (size slots word n : ℕ) (words : List ℕ) (homes : List (home.Option S)) (claims : List Claim) → word < size
    → AreClaimed size slots words homes claims → AreClaimed size slots (set words word n) homes claims
marks_apart size slots word n words homes claims mark h =
    let same : (slot : ℕ) → slice_index (set words word n) (size + slot) ≡ slice_index words (size + slot) = λ slot. get_or-set_other words word (size + slot) n 0 (λ e. omega (arith, mark, e)) in
    record {
      held = λ id slot c e t. let k = h.held id slot c e t in (k.0, k.1, k.2, same slot ∙ k.3);
      holder = λ slot l p. let k = h.holder slot l (subst (λ (m : ℕ). 0 < m) (same slot) p) in (k.0, k.1, k.2, k.3 ∙ sym (same slot), k.4);
      at_home = λ slot l z. h.at_home slot l (sym (same slot) ∙ z);
    }

module _ {P : Type 0} (is_true : Truth P) (start : Start P) (slots : ℕ) (id : ℕ) (v : View P) (carried : List (ℕ × Row P)) (word : ℕ) where
  pub raises : (to : ℕ) → 0 < v.rank.parts → 0 < word → word < size_of start → length v.marks.seen ≡ size_of start → length v.marks.made ≡ size_of start
      → Allows (Keeps is_true start) slots id (v, carried) word (λ n. max n to) (Raises (step slots word to 0 none) (v, carried))
  raises to part pos mark seen_long made_long s h same here fits =
      let found : ℕ = slice_index s.words word in
      let w : View P = record v { marks = raised v.marks word found to } in
      let at : get_elem? (map marks_of s.views) id ≡ some v.marks = at_map marks_of s.views id v here in
      let l = h.long in (
        w,
        keeps,
        tt,
        record {
          long = length-set s.words word (max found to) ∙ l;
          some = h.some;
          marks = subst (λ (ms : List Marks). AreMarked (marks_at start) (set s.words word (max found to)) ms) (sym (map_set marks_of s.views id w))
              (raise_marked (marks_at start) s.words (map marks_of s.views) id v.marks word to h.marks at pos mark (omega (arith, l)) seen_long made_long);
          ranks = rw (map_same rank_of s.views id v w here refl) h.ranks;
          claims = rw (map_same claim_of s.views id v w here refl) (marks_apart (size_of start) (slots_of start) word (max found to) s.words s.homes (map claim_of s.views) mark h.claims);
          values = rw (map_same keeping_of s.views id v w here refl) h.values;
          idle = on_set (λ (j : ℕ) (u : View P). u.rank.parts ≡ 0 → IsIdle u) s.views id w (λ j u n e. h.idle j u e) (λ z. absurd (omega (arith, z, part)));
        },
        (refl, h.marks.seen id word v.marks at mark),
      )

  pub loads : word < size_of start → length v.marks.seen ≡ size_of start
      → Allows (Keeps is_true start) slots id (v, carried) word (λ n. n) (Loads (step slots word 0 0 none) (v, carried))
  loads mark seen_long s h same here fits =
      let found : ℕ = slice_index s.words word in
      let w : View P = record v { marks = loaded v.marks word found } in
      let at : get_elem? (map marks_of s.views) id ≡ some v.marks = at_map marks_of s.views id v here in
      let words_same : set s.words word found ≡ s.words = set-get_or s.words word 0 in (
        w,
        keeps,
        tt,
        subst (λ (ws : List ℕ). Keeps is_true start (record { words = ws; homes = s.homes; views = set s.views id w })) (sym words_same)
            (record {
              long = h.long;
              some = h.some;
              marks = subst (λ (ms : List Marks). AreMarked (marks_at start) s.words ms) (sym (map_set marks_of s.views id w))
                  (load_marked (marks_at start) s.words (map marks_of s.views) id v.marks word h.marks at mark seen_long);
              ranks = rw (map_same rank_of s.views id v w here refl) h.ranks;
              claims = rw (map_same claim_of s.views id v w here refl) h.claims;
              values = rw (map_same keeping_of s.views id v w here refl) h.values;
              idle = on_set (λ (j : ℕ) (u : View P). u.rank.parts ≡ 0 → IsIdle u) s.views id w (λ j u n e. h.idle j u e) (h.idle id v here);
            }),
        (refl, h.marks.seen id word v.marks at mark),
      )

map_map : {A B C : Type 0} (f : A → B) (g : B → C) (xs : List A) → map g (map f xs) ≡ map (λ x. g (f x)) xs
map_map f g [] = refl
map_map f g (x ∷ xs) = λ i. g (f x) ∷ map_map f g xs i

-- a claim's word changes
pub claims_apart : (start words : List ℕ) (marks : List Marks) (word n : ℕ) → length start ≤ word → 0 < length start → AreMarked start words marks → AreMarked start (set words word n) marks
claims_apart start words marks word n past some_mark h =
    let same : (i : ℕ) → i < length start → slice_index (set words word n) i ≡ slice_index words i = λ i l. get_or-set_other words word i n 0 (λ e. omega (arith, past, l, e)) in
    record {
      first = same 0 some_mark ∙ h.first;
      greatest_is = λ i l. same i l ∙ h.greatest_is i l;
      seen = λ id i m e l. subst (λ (x : ℕ). slice_index m.seen i ≤ x) (sym (same i l)) (h.seen id i m e l);
      least = h.least;
    }

pub floor_mark : (template message : ℕ) (floors : List ℕ) (slot : ℕ) → slice_index (0 ∷ template ∷ message ∷ floors) (slot + 3) ≡ slice_index floors slot
floor_mark template message floors slot = let e : slot + 3 ≡ suc (suc (suc slot)) = omega arith in ap (λ (n : ℕ). get_or (0 ∷ template ∷ message ∷ floors) n 0) e

-- what is true above a floor is true above a higher one
true_above : {P : Type 0} (is_true : Truth P) (slots floor by above slot : ℕ) (row : Row P) → by ≡ slots → floor ≤ above → AllTrue is_true slots floor slot row → AllTrue is_true by above slot row
true_above is_true slots floor by above slot row same least all part.Main kept is counts = all part.Main kept is (ap (slot_of kept.key) (sym same) ∙ counts.0, le_trans least counts.1)
true_above is_true slots floor by above slot row same least all part.Interim kept is counts = all part.Interim kept is (ap (slot_of kept.key) (sym same) ∙ counts)

module _ {P : Type 0} (is_true : Truth P) (start : Start P) (slots : ℕ) (id : ℕ) (v : View P) where
  pub tries : (carried : List (ℕ × Row P)) (word slot number : ℕ) → word ≡ size_of start + slot → slot < slots_of start → size_of start ≡ slots_of start + 3 → length v.marks.seen ≡ size_of start
      → number ≡ v.rank.number → 0 < number → 0 < v.rank.parts → v.holds ≡ None
      → Allows (Keeps is_true start) slots id (v, carried) word (λ n. either (n == 0) number n) (Tries is_true (step slots word 0 number none) (v, carried))
  tries carried word slot number word_is below size_is seen_long number_is pos part nothing s h same here fits =
      let at_claim : get_elem? (map claim_of s.views) id ≡ some (v.rank, None) = at_map claim_of s.views id v here ∙ ap (λ (o : Option ℕ). some (v.rank, o)) nothing in
      let at_rank : get_elem? (map rank_of s.views) id ≡ some v.rank = at_map rank_of s.views id v here in
      let here_word : ℕ = slice_index s.words (size_of start + slot) in
      let l = h.long in
      let slots_are : slots_by v.marks ≡ slots_of start = omega (arith, seen_long, size_is) in
      let floor_least : start_floor start slot ≤ seen_at (floor_word slot) v.marks
      = subst (λ (n : ℕ). n ≤ seen_at (floor_word slot) v.marks) (floor_mark start.template_check start.message_check start.floors.value.items slot)
      (h.marks.least id (floor_word slot) v.marks (at_map marks_of s.views id v here) seen_long (omega (arith, below, size_is))) in
      let inside : size_of start + slot < length s.words = omega (arith, below, l) in
      subst (λ (x : ℕ). Goal x (slice_index s.words x) (either (slice_index s.words x == 0) number (slice_index s.words x))) (sym word_is)
      (dite (ℕ_discrete here_word 0)
      (λ (z : here_word ≡ 0).
      let o = h.claims.at_home slot below z in
      let w : View P = took v slot o.0 in
      subst (λ (n : ℕ). Goal (size_of start + slot) n (either (n == 0) number n)) (sym z) (
        w,
        takes slot o.0,
        o.1,
        record {
          long = length-set s.words (size_of start + slot) number ∙ l;
          some = h.some;
          marks = rw (map_same marks_of s.views id v w here refl) (claims_apart (marks_at start) s.words (map marks_of s.views) (size_of start + slot) number (omega arith) h.some h.marks);
          ranks = rw (map_same rank_of s.views id v w here refl) h.ranks;
          claims = subst (λ (x : ℕ × List Claim). AreClaimed (size_of start) (slots_of start) (set s.words (size_of start + slot) x.0) (set s.homes slot none) x.1) (λ i. (sym number_is i, sym (map_set claim_of s.views id w) i))
              (take_claim (size_of start) (slots_of start) s.words s.homes (map claim_of s.views) id slot v.rank h.claims at_claim below inside (omega (arith, pos, number_is)) part z);
          values = subst (λ (ks : List (Keeping P)). AreValues is_true start (set s.homes slot none) ks) (sym (map_set keeping_of s.views id w))
              (take_values is_true start s.homes (map keeping_of s.views) id slot v.handed v.met o.0 h.values (at_map keeping_of s.views id v here) o.1);
          idle = on_set (λ (j : ℕ) (u : View P). u.rank.parts ≡ 0 → IsIdle u) s.views id w (λ j u n e. h.idle j u e) (h.idle id v here);
        },
        record {
          slot = slot;
          word_is = ap (λ (n : ℕ). n + slot) (sym seen_long);
          busy = λ n. absurd (n refl);
          free = λ _. (
            o.0,
            refl,
            true_above is_true (slots_of start) (start_floor start slot) (slots_by v.marks) (seen_at (floor_word slot) v.marks) slot o.0 slots_are floor_least
                (true_there is_true start s.homes (map keeping_of s.views) id slot v.handed o.0 h.values o.1),
          );
        },
      ))
      (λ (n : here_word ≢ 0).
      let off : (here_word == 0) ≡ false = ne_eqb here_word 0 n in
      let w : View P = tried v slot here_word in
      let kept : set s.words (size_of start + slot) here_word ≡ s.words = set-get_or s.words (size_of start + slot) 0 in
      let other = not_own (size_of start) (slots_of start) s.words s.homes (map claim_of s.views) id slot v.rank start.seats (map rank_of s.views) h.claims h.ranks (map_map claim_of (λ (c : Claim). c.0) s.views) at_claim below part n in
      let most = (h.ranks.within id v.rank at_rank (omega (arith, pos, number_is))).1 in
      subst (λ (k : ℕ). Goal (size_of start + slot) here_word k) (sym (ap (λ (t : Bool). either t number here_word) off)) (
        w,
        keeps,
        tt,
        subst (λ (ws : List ℕ). Keeps is_true start (record { words = ws; homes = s.homes; views = set s.views id w })) (sym kept)
            (record {
              long = l;
              some = h.some;
              marks = rw (map_same marks_of s.views id v w here refl) h.marks;
              ranks = rw (map_same rank_of s.views id v w here refl) h.ranks;
              claims = rw (map_same claim_of s.views id v w here refl) h.claims;
              values = rw (map_same keeping_of s.views id v w here refl) h.values;
              idle = on_set (λ (j : ℕ) (u : View P). u.rank.parts ≡ 0 → IsIdle u) s.views id w (λ j u n e. h.idle j u e) (h.idle id v here);
            }),
        record {
          slot = slot;
          word_is = ap (λ (n : ℕ). n + slot) (sym seen_long);
          busy = λ _. (refl, other.0, subst (λ (m : ℕ). here_word ≤ m) (sym most) other.1);
          free = λ z. absurd (n z);
        },
      )))
    where
      Goal : ℕ → ℕ → ℕ → Type 0
      Goal x n k = (w : View P) × (a : Act (Row P)) × Valid s.homes carried a
          × Keeps is_true start (stepped s x k id carried w a)
          × Tries is_true (step slots x 0 number none) (v, carried) n (w, carried_after carried a)

  pub releases : (carried : List (ℕ × Row P)) (word slot : ℕ) (old new : Row P) → word ≡ size_of start + slot → slots_of start ≡ slots
      → IsHolding (v, carried) slot old new → Renews is_true v.handed old new
      → Allows (Keeps is_true start) slots id (v, carried) word (λ _. 0) (λ _. Releases (step slots word 0 0 none) (v, carried) 0)
  releases carried word slot old new word_is all holding renews s h same here fits =
      let at_claim : get_elem? (map claim_of s.views) id ≡ some (v.rank, Some slot) = at_map claim_of s.views id v here ∙ ap (λ (o : Option ℕ). some (v.rank, o)) holding.holds in
      let at_rank : get_elem? (map rank_of s.views) id ≡ some v.rank = at_map rank_of s.views id v here in
      let at_keeping : get_elem? (map keeping_of s.views) id ≡ some ((record { slot = slot; row = old }) ∷ holding.before, v.handed) = at_map keeping_of s.views id v here ∙ ap (λ (o : List (Met P)). some (o, v.handed)) holding.met in
      let l = h.long in
      let mine = h.claims.held id slot (v.rank, Some slot) at_claim refl in
      let below : slot < slots_of start = mine.0 in
      let inside : size_of start + slot < length s.words = omega (arith, below, l) in
      let within : slot < length s.homes = omega (arith, below, all, same) in
      let w : View P = released v in
      let ranks_are : map (λ (c : Claim). c.0) (map claim_of s.views) ≡ map rank_of s.views = map_map claim_of (λ (c : Claim). c.0) s.views in
      let one : (j : ℕ) (c : Claim) → get_elem? (map claim_of s.views) j ≡ some c → c.0.number ≡ v.rank.number → 0 < c.0.parts → j ≡ id
      = λ j c e is parts. one_seat start.seats (map rank_of s.views) j id c.0 v.rank h.ranks
      (subst (λ (rs : List Rank). get_elem? rs j ≡ some c.0) ranks_are (at_map (λ (c : Claim). c.0) (map claim_of s.views) j c e))
      at_rank is (let p = mine.1 in omega (arith, is, p)) parts mine.2 in
      subst (λ (x : ℕ × List (ℕ × Row P)). Goal x.0 x.1) (λ i. (sym word_is i, sym holding.carries i)) (
        w,
        gives,
        tt,
        record {
          long = length-set s.words (size_of start + slot) 0 ∙ l;
          some = h.some;
          marks = rw (map_same marks_of s.views id v w here refl) (claims_apart (marks_at start) s.words (map marks_of s.views) (size_of start + slot) 0 (omega arith) h.some h.marks);
          ranks = rw (map_same rank_of s.views id v w here refl) h.ranks;
          claims = subst (λ (cs : List Claim). AreClaimed (size_of start) (slots_of start) (set s.words (size_of start + slot) 0) (set s.homes slot (some new)) cs) (sym (map_set claim_of s.views id w))
              (give_claim (size_of start) (slots_of start) s.words s.homes (map claim_of s.views) id slot v.rank new h.claims one at_claim inside within);
          values = subst (λ (ks : List (Keeping P)). AreValues is_true start (set s.homes slot (some new)) ks) (sym (map_set keeping_of s.views id w))
              (subst (λ (o : List (Met P)). AreValues is_true start (set s.homes slot (some new)) (set (map keeping_of s.views) id (o, v.handed))) (sym holding.met)
              (give_values is_true start s.homes (map keeping_of s.views) id slot v.handed holding.before old new h.values at_keeping renews));
          idle = on_set (λ (j : ℕ) (u : View P). u.rank.parts ≡ 0 → IsIdle u) s.views id w (λ j u n e. h.idle j u e) (h.idle id v here);
        },
        refl,
      )
    where
      Goal : ℕ → List (ℕ × Row P) → Type 0
      Goal x carried = (w : View P) × (a : Act (Row P)) × Valid s.homes carried a
          × Keeps is_true start (stepped s x 0 id carried w a)
          × Releases (step slots x 0 0 none) (v, carried) 0 (w, carried_after carried a)

  pub notes : (what : Option (Handed P)) (carried : List (ℕ × Row P)) (word : ℕ) → 0 < v.rank.parts → word < size_of start → length v.marks.seen ≡ size_of start
      → Allows (Keeps is_true start) slots id (v, carried) word (λ n. n) (Notes what (step slots word 0 0 none) (v, carried))
  notes what carried word part mark seen_long s h same here fits =
      let found : ℕ = slice_index s.words word in
      let w : View P = noted v word found what in
      let at : get_elem? (map marks_of s.views) id ≡ some v.marks = at_map marks_of s.views id v here in
      let words_same : set s.words word found ≡ s.words = set-get_or s.words word 0 in (
        w,
        keeps,
        tt,
        subst (λ (ws : List ℕ). Keeps is_true start (record { words = ws; homes = s.homes; views = set s.views id w })) (sym words_same)
            (record {
              long = h.long;
              some = h.some;
              marks = subst (λ (ms : List Marks). AreMarked (marks_at start) s.words ms) (sym (map_set marks_of s.views id w))
                  (load_marked (marks_at start) s.words (map marks_of s.views) id v.marks word h.marks at mark seen_long);
              ranks = rw (map_same rank_of s.views id v w here refl) h.ranks;
              claims = rw (map_same claim_of s.views id v w here refl) h.claims;
              values = subst (λ (ks : List (Keeping P)). AreValues is_true start s.homes ks) (sym (map_set keeping_of s.views id w))
                  (note_values is_true start s.homes (map keeping_of s.views) id v.met v.handed what h.values (at_map keeping_of s.views id v here));
              idle = on_set (λ (j : ℕ) (u : View P). u.rank.parts ≡ 0 → IsIdle u) s.views id w (λ j u n e. h.idle j u e) (λ z. absurd (omega (arith, z, part)));
            }),
        (refl, h.marks.seen id word v.marks at mark),
      )
