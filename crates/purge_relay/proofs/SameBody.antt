-- Two bodies say the same if and only if they are equal: each part is a number or bytes, whose test decides.
use Rattle.std.proofs.Common.{ℕ, ◌≡◌, Bool, true, false, List, refl, arith, subst}
use Rattle.std.specs.Prelude.{◌==◌, ◌&&◌, bytes_eq}
use Rattle.std.proofs.lemmas.Bool.{false≢true}
use Rattle.std.proofs.lemmas.Bool.Decides.{nat_tests}
use Rattle.std.proofs.lemmas.Slice.Eq.{bytes_eq-Decides}
use Rattle.std.proofs.lemmas.Cmp.{nat_list_eq_equiv}
use Rattle.wiki_model.specs.World as model
use Rattle.purge_relay.specs.Body.{is_same_body, SameSaysEqual}

both : (a b : Bool) → a && b ≡ true → (a ≡ true) × (b ≡ true)
both true true e = (refl, refl)
both true false e = absurd (false≢true e)
both false b e = absurd (false≢true e)

same_number : (p q : ℕ) → (p == q) ≡ true → p ≡ q
same_number p q e = grind (arith, nat_tests, e)

number_itself : (p : ℕ) → (p == p) ≡ true
number_itself p = grind (arith, nat_tests)

same_bytes : (t u : List ℕ) → bytes_eq t u ≡ true → t ≡ u
same_bytes t u e = (bytes_eq-Decides t u).0 e

equal : (a b : model.Body) → is_same_body a b ≡ true → a ≡ b
equal (model.Purge p t i) (model.Purge q u j) e =
    let h = both ((p == q) && bytes_eq t u) (i == j) e in
    let k = both (p == q) (bytes_eq t u) h.0 in
    let a : p ≡ q = same_number p q k.0 in
    let b : t ≡ u = same_bytes t u k.1 in
    let c : i ≡ j = same_number i j h.1 in cc
equal (model.Position c x n s) (model.Position d y m t) e =
    let h = both (bytes_eq c d && (x == y) && (n == m)) (s == t) e in
    let k = both (bytes_eq c d && (x == y)) (n == m) h.0 in
    let l = both (bytes_eq c d) (x == y) k.0 in
    let p : c ≡ d = same_bytes c d l.0 in
    let q : x ≡ y = same_number x y l.1 in
    let r : n ≡ m = same_number n m k.1 in
    let o : s ≡ t = same_number s t h.1 in cc
equal (model.Purge p t i) (model.Position d y m s) e = absurd (false≢true e)
equal (model.Position c x n s) (model.Purge q u j) e = absurd (false≢true e)

itself : (a : model.Body) → is_same_body a a ≡ true
itself (model.Purge p t i) = rw (number_itself p, nat_list_eq_equiv.refl t, number_itself i) refl
itself (model.Position c x n s) = rw (nat_list_eq_equiv.refl c, number_itself x, number_itself n, number_itself s) refl

pub same_says : SameSaysEqual
same_says a b = (λ e. equal a b e, λ e. subst (λ (x : model.Body). is_same_body a x ≡ true) e (itself a))
