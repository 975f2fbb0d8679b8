-- A call is to fail if its number is in the list: the list has the number if and only if a test finds it there.
use Rattle.std.proofs.Common.{◌≡◌, ℕ, Bool, true, false, nat_eq, List, Contains, IsTrue, ◌↔◌, arith, refl, sym, ap, ◌∙◌}
use Rattle.std.specs.List.{list_any}
use Rattle.std.proofs.lemmas.Cmp.{nat_eq_equiv}
use Rattle.std.proofs.lemmas.Bool.{false≢true, eqb-true}
use Rattle.std.proofs.lemmas.Bool.Decides.{nat_tests}
use Rattle.std.proofs.lemmas.Map.Views.{list_any-from_Contains, Contains-from_any}

turned : (a b : ℕ) → nat_eq a b ≡ nat_eq b a
turned a b = grind (arith, nat_tests)

other_way : (ns : List ℕ) (q : ℕ) → list_any (λ n. nat_eq n q) ns ≡ list_any (nat_eq q) ns
other_way ns q = ap (λ test. list_any test ns) (λ i n. turned n q i)

by_test : (ns : List ℕ) (q : ℕ) (t : Bool) → list_any (nat_eq q) ns ≡ t → (IsTrue false ↔ Contains ns q) → false ≡ t
by_test ns q false found named = refl
by_test ns q true found named = absurd (false≢true (named.1 (Contains-from_any eqb-true q ns found)))

pub fails_by_number : (fails : Bool) (ns : List ℕ) (q : ℕ) → (IsTrue fails ↔ Contains ns q) → fails ≡ list_any (λ n. nat_eq n q) ns
fails_by_number true ns q named = sym (other_way ns q ∙ list_any-from_Contains nat_eq_equiv q ns (named.0 refl))
fails_by_number false ns q named = by_test ns q (list_any (nat_eq q) ns) refl named ∙ sym (other_way ns q)
