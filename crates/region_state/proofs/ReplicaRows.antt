-- The rows that are made, with those that are to come, are all: each turn moves one row from the second to the first.
use Rattle.std.proofs.Common.{◌≡◌, ℕ, zero, suc, ◌+◌, List, [], ◌∷◌, ◌++◌, drop, Some, ap, ◌∙◌, sym, arith, append_assoc}
use Rattle.std.specs.Prelude.{slice_get}
use Rattle.std.proofs.lemmas.List.{map-append}
use Rattle.load_balancer.specs.declared.Row.{Row as CodeRow}
use Rattle.load_balancer.specs.AsModel.{row_of, rows_of}
use Rattle.replica_apply.specs.Replica.{ReplicaState}
use Rattle.region_state.specs.SnapView.{seen_row, seen_rows}

-- the rows of the replicas from a place on
pub rows_more : (now : ℕ) (weights : List ℕ) (replicas : List ReplicaState) (i weight : ℕ) (kept : ReplicaState) → slice_get weights i ≡ Some weight → slice_get replicas i ≡ Some kept
    → seen_rows now (drop i weights) (drop i replicas) ≡ seen_row now (weight, kept) ∷ seen_rows now (drop (suc i) weights) (drop (suc i) replicas)
rows_more now [] replicas i weight kept w k = let no : ⊥ = cc in absurd no
rows_more now (x ∷ weights) [] i weight kept w k = let no : ⊥ = cc in absurd no
rows_more now (x ∷ weights) (y ∷ replicas) zero weight kept w k = let a : x ≡ weight = cc in let b : y ≡ kept = cc in ap (λ (n : ℕ). seen_row now (n, y) ∷ seen_rows now weights replicas) a ∙ ap (λ (m : ReplicaState). seen_row now (weight, m) ∷ seen_rows now weights replicas) b
rows_more now (x ∷ weights) (y ∷ replicas) (suc i) weight kept w k = rows_more now weights replicas i weight kept w k

-- one row more
pub rows_next : (now : ℕ) (weights : List ℕ) (replicas : List ReplicaState) (i weight : ℕ) (kept : ReplicaState) (rows : List CodeRow) (row : CodeRow) → slice_get weights i ≡ Some weight → slice_get replicas i ≡ Some kept → row_of row ≡ seen_row now (weight, kept)
    → rows_of rows ++ seen_rows now (drop i weights) (drop i replicas) ≡ seen_rows now weights replicas → rows_of (rows ++ row ∷ []) ++ seen_rows now (drop (i + 1) weights) (drop (i + 1) replicas) ≡ seen_rows now weights replicas
rows_next now weights replicas i weight kept rows row w k is all =
    let same : suc i ≡ i + 1 = omega arith in
    ap (λ xs. xs ++ seen_rows now (drop (i + 1) weights) (drop (i + 1) replicas)) (map-append row_of rows (row ∷ []))
    ∙ append_assoc (rows_of rows) (row_of row ∷ []) (seen_rows now (drop (i + 1) weights) (drop (i + 1) replicas))
    ∙ ap (λ x. rows_of rows ++ x ∷ seen_rows now (drop (i + 1) weights) (drop (i + 1) replicas)) is
    ∙ ap (λ n. rows_of rows ++ seen_row now (weight, kept) ∷ seen_rows now (drop n weights) (drop n replicas)) (sym same)
    ∙ ap (λ xs. rows_of rows ++ xs) (sym (rows_more now weights replicas i weight kept w k)) ∙ all
