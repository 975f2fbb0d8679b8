-- With one weight more there is one replica more, which has applied nothing either.
use Rattle.std.proofs.Common.{◌≡◌, ℕ, zero, suc, ◌+◌, ◌<◌, List, [], ◌∷◌, ◌++◌, length, map, take, Some, refl, sym, ap, subst, ◌∙◌, arith}
use Rattle.std.specs.Prelude.{slice_get}
use Rattle.wiki_model.proofs.HistoryGrowth.{take-snoc}
use Rattle.replica_apply.specs.Replica.{ReplicaState, IsPrefix}
use Rattle.region_state.specs.NewRegion.{AreNew}

map-snoc : {A B : Type 0} (f : A → B) (xs : List A) (x : A) → map f (xs ++ x ∷ []) ≡ map f xs ++ f x ∷ []
map-snoc f [] x = refl
map-snoc f (y ∷ xs) x = ap (λ ys. f y ∷ ys) (map-snoc f xs x)

pub one_new : (weights : List ℕ) (i : ℕ) (replicas : List ReplicaState) (kept : ReplicaState) → i < length weights → AreNew (take i weights) replicas → IsPrefix [] kept → AreNew (take (i + 1) weights) (replicas ++ kept ∷ [])
one_new weights i replicas kept within new prefix =
    let snoc = take-snoc weights i within in
    let same : suc i ≡ i + 1 = omega arith in
    let grown : take (i + 1) weights ≡ take i weights ++ snoc.0 ∷ [] = ap (λ n. take n weights) (sym same) ∙ snoc.2 in
    subst (λ ws. AreNew ws (replicas ++ kept ∷ [])) (sym grown) (record {
      applied = map-snoc (λ k. k.applied) replicas kept ∙ ap (λ ns. ns ++ kept.applied ∷ []) new.applied ∙ ap (λ n. map (λ weight. 0) (take i weights) ++ n ∷ []) prefix.applied ∙ sym (map-snoc (λ weight. 0) (take i weights) snoc.0);
      prefixes = prefixes replicas new.prefixes;
    })
  where
    prefixes : (ks : List ReplicaState) → ((j : ℕ) (k : ReplicaState) → slice_get ks j ≡ Some k → IsPrefix [] k) → (j : ℕ) (k : ReplicaState) → slice_get (ks ++ kept ∷ []) j ≡ Some k → IsPrefix [] k
    prefixes [] all zero k at = let e : kept ≡ k = cc in subst (IsPrefix []) e prefix
    prefixes [] all (suc j) k at = let no : ⊥ = cc in absurd no
    prefixes (x ∷ ks) all zero k at = all zero k at
    prefixes (x ∷ ks) all (suc j) k at = prefixes ks (λ n. all (suc n)) j k at
