-- Seats that are joined one after another.
use Rattle.std.proofs.Common.{◌≡◌, ℕ, zero, suc, ◌+◌, ◌<◌, ◌≤◌, max, List, [], ◌∷◌, ◌++◌, map, length, refl, sym, ap, ◌∙◌, subst, ⊎_elim, arith, le_refl, append_assoc, None, All, Contains}
use Rattle.std.proofs.lemmas.List.Elements.{Contains-append_left, Contains-append_right, Contains-append_cases}
use Rattle.slot_share.specs.declared.view.View.{View}
use Rattle.atomic_table.specs.Table.{Me}
use Rattle.atomic_table.specs.Seated.{TableId}
use Rattle.slot_share.specs.Marks.{greatest, made_at, seen_at, higher}
use Rattle.slot_share.specs.Values.{Row}
use Rattle.slot_share.specs.Rule.{both_of}
use Rattle.slot_share.specs.Shares.{SeatState, IsSeat}
use Rattle.slot_share.specs.Closing.{Gathers, made_by}
use Rattle.slot_share.proofs.Lists.{cons_member, first_in, none_in}
use Rattle.slot_share.proofs.Joining.{higher_at}

later : {A : Type 0} (x : A) (xs : List A) (y : A) → Contains xs y → Contains (x ∷ xs) y
later x xs y c = let l = c.1 in (suc c.0, omega (arith, l), c.2)

module _ {P : Type 0} where
  pub gathers_one : (seat : SeatState P) → Gathers (seat ∷ []) seat.view
  gathers_one seat = record {
    made = λ word. (let a : ℕ = made_by word seat in omega arith);
    seen = λ s word c. ⊎_elim
        (λ (e : seat ≡ s). subst (λ (x : SeatState P). seen_at word x.view.marks ≤ seen_at word seat.view.marks) e (le_refl (seen_at word seat.view.marks)))
        (λ (c : Contains [] s). absurd (none_in s c))
        (cons_member seat [] s c);
    handed = λ kept c. (seat, first_in [] seat, c);
    met = λ s met c d. ⊎_elim
        (λ (e : seat ≡ s). subst (λ (x : SeatState P). Contains x.view.met met → Contains seat.view.met met) e (λ c. c) d)
        (λ (c : Contains [] s). absurd (none_in s c))
        (cons_member seat [] s c);
  }

  pub gathers_more : (seats : List (SeatState P)) (view : View P) (seat : SeatState P) → Gathers seats view → Gathers (seat ∷ seats) (both_of view seat.view)
  gathers_more seats view seat h = record {
    made = λ word. (let a : ℕ = made_at word view.marks in let b : ℕ = made_by word seat in let c : ℕ = made_at word (both_of view seat.view).marks in let d : ℕ = greatest 0 (map (made_by word) seats) in
        let p : c ≡ max a b = higher_at view.marks.made seat.view.marks.made word in let q : a ≡ d = h.made word in omega (arith, p, q));
    seen = λ s word c.
        let a : ℕ = seen_at word view.marks in let b : ℕ = seen_at word seat.view.marks in let d : ℕ = seen_at word (both_of view seat.view).marks in
        let p : d ≡ max a b = higher_at view.marks.seen seat.view.marks.seen word in
        ⊎_elim
        (λ (e : seat ≡ s). subst (λ (x : SeatState P). seen_at word x.view.marks ≤ d) e (omega (arith, p)))
        (λ (c : Contains seats s). let k = h.seen s word c in omega (arith, p, k))
        (cons_member seat seats s c);
    handed = λ kept c. ⊎_elim
        (λ (a : Contains view.handed kept). let k = h.handed kept a in (k.0, later seat seats k.0 k.1, k.2))
        (λ (b : Contains seat.view.handed kept). (seat, first_in seats seat, b))
        (Contains-append_cases view.handed seat.view.handed kept c);
    met = λ s met c d. ⊎_elim
        (λ (e : seat ≡ s). Contains-append_right view.met seat.view.met met (subst (λ (x : SeatState P). Contains x.view.met met) (sym e) d))
        (λ (c : Contains seats s). Contains-append_left view.met seat.view.met met (h.met s met c d))
        (cons_member seat seats s c);
  }

length_higher : (xs ys : List ℕ) (size : ℕ) → length xs ≡ size → length ys ≡ size → length (higher xs ys) ≡ size
length_higher [] ys size p q = q
length_higher (x ∷ xs) [] size p q = p
length_higher (x ∷ xs) (y ∷ ys) zero p q = absurd (omega (arith, p))
length_higher (x ∷ xs) (y ∷ ys) (suc size) p q = ap suc (length_higher xs ys size (omega (arith, p)) (omega (arith, q)))

pub all_contains : {A : Type 0} (Q : A → Type 0) (xs : List A) (x : A) → All Q xs → Contains xs x → Q x
all_contains Q xs x all c = subst Q c.2 (all c.0 _ c.1)

last_contains : {A : Type 0} (xs : List A) (x : A) → Contains (xs ++ x ∷ []) x
last_contains xs x = Contains-append_right xs (x ∷ []) x (first_in [] x)

module _ {P : Type 0} where
  -- Seats that are joined: the last ones of all are in this one.
  pub record IsJoining (all rest : List (SeatState P)) (size : ℕ) (table at : TableId) (me : Me (Row P) (View P)) : Type 0 where
    pub joined : List (SeatState P)
    pub split : rest ++ joined ≡ all
    pub gathers : Gathers joined me.0
    pub same : at ≡ table
    pub carries : me.1 ≡ []
    pub holds : me.0.holds ≡ None
    pub some : 0 < me.0.rank.parts
    pub parts : me.0.rank.parts ≡ length joined
    pub long : length me.0.marks.seen ≡ size

  abbrev seat_of : TableId → Me (Row P) (View P) → ℕ → SeatState P
  seat_of at me greatest = record { table = at; view = me.0; greatest = greatest }

  -- what a seat of this table is
  pub fits : (all : List (SeatState P)) (seat : SeatState P) (size number greatest : ℕ) (table at : TableId) (me : Me (Row P) (View P)) → Contains all seat → seat_of at me greatest ≡ seat → IsSeat at me number
      → table.words ≡ size + table.slots → All (λ (s : SeatState P). s.table ≡ table) all → (at ≡ table) × (length me.0.marks.seen ≡ size)
  fits all seat size number greatest table at me there is h words mine =
      let same : at ≡ table = ap (λ (s : SeatState P). s.table) is ∙ all_contains (λ (s : SeatState P). s.table ≡ table) all seat mine there in
      let long : length me.0.marks.seen + table.slots ≡ table.words = subst (λ (z : TableId). length me.0.marks.seen + z.slots ≡ z.words) same h.seen_long in
      (same, omega (arith, long, words))

  pub begins_joining : (all rest : List (SeatState P)) (seat : SeatState P) (size number greatest : ℕ) (table at : TableId) (me : Me (Row P) (View P)) → all ≡ rest ++ seat ∷ [] → seat_of at me greatest ≡ seat → IsSeat at me number
      → table.words ≡ size + table.slots → All (λ (s : SeatState P). s.table ≡ table) all → IsJoining all rest size table at me
  begins_joining all rest seat size number greatest table at me all_is is h words mine =
      let fit = fits all seat size number greatest table at me (subst (λ (l : List (SeatState P)). Contains l seat) (sym all_is) (last_contains rest seat)) is h words mine in
      let one = h.parts in
      record {
        joined = seat ∷ [];
        split = sym all_is;
        gathers = subst (λ (s : SeatState P). Gathers (s ∷ []) me.0) is (gathers_one (seat_of at me greatest));
        same = fit.0;
        carries = h.carries;
        holds = h.holds;
        some = omega (arith, one);
        parts = h.parts;
        long = fit.1;
      }

  in_all : (all rest joined : List (SeatState P)) (shorter : List (SeatState P)) (seat : SeatState P) → rest ++ joined ≡ all → rest ≡ shorter ++ seat ∷ [] → Contains all seat
  in_all all rest joined shorter seat split rest_is =
      subst (λ (l : List (SeatState P)). Contains l seat) split (Contains-append_left rest joined seat (subst (λ (l : List (SeatState P)). Contains l seat) (sym rest_is) (last_contains shorter seat)))

  pub next_fits : (all rest shorter : List (SeatState P)) (seat : SeatState P) (size number greatest : ℕ) (table at at_next : TableId) (me next : Me (Row P) (View P)) → IsJoining all rest size table at me
      → rest ≡ shorter ++ seat ∷ [] → seat_of at_next next greatest ≡ seat → IsSeat at_next next number
      → table.words ≡ size + table.slots → All (λ (s : SeatState P). s.table ≡ table) all → (at_next ≡ table) × (length next.0.marks.seen ≡ size)
  next_fits all rest shorter seat size number greatest table at at_next me next h rest_is is s words mine =
      fits all seat size number greatest table at_next next (in_all all rest h.joined shorter seat h.split rest_is) is s words mine

  pub joins_more : (all rest shorter : List (SeatState P)) (seat : SeatState P) (size number greatest : ℕ) (table at at_next at_new : TableId) (me next new : Me (Row P) (View P)) → IsJoining all rest size table at me
      → rest ≡ shorter ++ seat ∷ [] → seat_of at_next next greatest ≡ seat → IsSeat at_next next number
      → table.words ≡ size + table.slots → All (λ (s : SeatState P). s.table ≡ table) all
      → at_new ≡ at → new ≡ (both_of me.0 next.0, me.1) → IsJoining all shorter size table at_new new
  joins_more all rest shorter seat size number greatest table at at_next at_new me next new h rest_is is s words mine at_is new_is =
      let fit = next_fits all rest shorter seat size number greatest table at at_next me next h rest_is is s words mine in
      let one = s.parts in
      let count = h.parts in
      let positive = h.some in
      subst (λ (m : Me (Row P) (View P)). IsJoining all shorter size table at_new m) (sym new_is) (record {
        joined = seat ∷ h.joined;
        split = sym (append_assoc shorter (seat ∷ []) h.joined) ∙ (ap (λ (l : List (SeatState P)). l ++ h.joined) (sym rest_is) ∙ h.split);
        gathers = subst (λ (s : SeatState P). Gathers (s ∷ h.joined) (both_of me.0 next.0)) is (gathers_more h.joined me.0 (seat_of at_next next greatest) h.gathers);
        same = at_is ∙ h.same;
        carries = h.carries;
        holds = refl;
        some = omega (arith, positive);
        parts = omega (arith, count, one);
        long = length_higher me.0.marks.seen next.0.marks.seen size h.long fit.1;
      })

  pub ends_joining : (all rest : List (SeatState P)) (size : ℕ) (table at : TableId) (me : Me (Row P) (View P)) → IsJoining all rest size table at me → rest ≡ []
      → Gathers all me.0 × (me.0.rank.parts ≡ length all)
  ends_joining all rest size table at me h none =
      let all_is : h.joined ≡ all = ap (λ (l : List (SeatState P)). l ++ h.joined) (sym none) ∙ h.split in
      (subst (λ (l : List (SeatState P)). Gathers l me.0) all_is h.gathers, h.parts ∙ ap length all_is)
