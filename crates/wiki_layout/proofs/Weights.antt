-- A list of weights has as many numbers as items, and one number if its key is absent: so one to eight.
use Rattle.std.proofs.Common.{◌≡◌, ℕ, suc, ◌<◌, ◌≤◌, ◌&&◌, true, List, [], ◌∷◌, Option, Some, None, length, refl, sym, ap, subst, arith, true≢false}
use Rattle.std.specs.Prelude.{nat_lt, nat_le, IfSome}
use Rattle.std.proofs.lemmas.Bool.Decides.{nat_tests}
use Rattle.toml.specs.declared.value.Value.{Value}
use Rattle.toml.specs.Data.{Data, Items, no_items, item, as_array}
use Rattle.toml.specs.View.{items_view}
use Rattle.wiki_model.specs.Limits.{replicas_max}
use Rattle.wiki_layout.specs.Layout.{count_of, numbers_of_items, numbers_in, weights_or_one, are_allowed_weights, are_weights, all_items, is_weight}
use Rattle.wiki_layout.proofs.KeptRanges.{both}

pub counted : (vs : List Value) → count_of (items_view vs) ≡ length vs
counted [] = refl
counted (v ∷ vs) = ap suc (counted vs)

-- a region may have this number of replicas
abbrev pub IsReplicaCount : ℕ → Type 0
IsReplicaCount n = (0 < n) × (n ≤ replicas_max)

numbers_counted : (items : Items) → count_of items ≡ length (numbers_of_items items)
numbers_counted no_items = refl
numbers_counted (item value more) = ap suc (numbers_counted more)

allowed_counted : (items : Option Items) → are_allowed_weights items ≡ true → IsReplicaCount (length (numbers_in items))
allowed_counted None e = absurd (true≢false (sym e))
allowed_counted (Some items) e =
    let count =
    both (nat_lt 0 (count_of items) && nat_le (count_of items) replicas_max) (all_items is_weight items) e in
    let parts = both (nat_lt 0 (count_of items)) (nat_le (count_of items) replicas_max) count.0 in
    let some = parts.0 in
    let few = parts.1 in
    subst IsReplicaCount (numbers_counted items) (grind (arith, nat_tests, some), grind (arith, nat_tests, few))

-- a region that is laid out has one to eight
pub weights_counted : (value : Option Data) → IfSome value (λ v. are_weights v ≡ true)
    → IsReplicaCount (length (weights_or_one value))
weights_counted None e = (omega arith, omega arith)
weights_counted (Some value) e = allowed_counted (as_array value) e
