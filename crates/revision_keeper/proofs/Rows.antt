-- A row that changes in an index, and what the index then holds.
use Rattle.std.proofs.Common.{◌≡◌, ℕ, Bool, true, false, ◌&&◌, cond, List, Some, None, Option, Result, Ok, Err, OnOk, OnErr, refl, ap, ◌∙◌}
use Rattle.std.specs.Prelude.{bytes_eq, IsSome}
use Rattle.std.specs.Ordering.{is_eq}
use Rattle.std.specs.BTreeMap.{BTreeMap, get}
use Rattle.std.proofs.lemmas.Map.Text.{is_eq-slice_cmp}
use Rattle.std.proofs.lemmas.Slice.Eq.{bytes_eq-Decides}
use Rattle.wiki_titles.specs.Order.{bytes_cmp}

-- what is seen of a row, behind a change of that row
pub row_seen : {X Y : Type 0} (see : Option X → Y) (old new : BTreeMap (List ℕ) X) (key q : List ℕ) (row : Option X)
    → get bytes_cmp new q ≡ cond (is_eq (bytes_cmp key q)) row (get bytes_cmp old q) → see (get bytes_cmp new q) ≡ cond (bytes_eq key q) (see row) (see (get bytes_cmp old q))
row_seen see old new key q row is = ap see (is ∙ ap (λ b. cond b row (get bytes_cmp old q)) (is_eq-slice_cmp key q)) ∙ by (bytes_eq key q)
  where
    by : (b : Bool) → see (cond b row (get bytes_cmp old q)) ≡ cond b (see row) (see (get bytes_cmp old q))
    by true = refl
    by false = refl

-- the changed row in the words of the old one
pub row_grown : {X Y : Type 0} (see : Option X → Y) (more : Y → Y) (old new : BTreeMap (List ℕ) X) (key q : List ℕ) (row : Option X)
    → get bytes_cmp new q ≡ cond (is_eq (bytes_cmp key q)) row (get bytes_cmp old q) → see row ≡ more (see (get bytes_cmp old key))
    → see (get bytes_cmp new q) ≡ cond (bytes_eq key q) (more (see (get bytes_cmp old q))) (see (get bytes_cmp old q))
row_grown see more old new key q row is grown = row_seen see old new key q row is ∙ by (bytes_eq key q) refl
  where
    by : (b : Bool) → bytes_eq key q ≡ b → cond b (see row) (see (get bytes_cmp old q)) ≡ cond b (more (see (get bytes_cmp old q))) (see (get bytes_cmp old q))
    by true same = grown ∙ ap (λ k. more (see (get bytes_cmp old k))) ((bytes_eq-Decides key q).0 same)
    by false other = refl

-- a row whose change is not seen
pub row_same : {X Y : Type 0} (see : Option X → Y) (old new : BTreeMap (List ℕ) X) (key q : List ℕ) (row : Option X)
    → get bytes_cmp new q ≡ cond (is_eq (bytes_cmp key q)) row (get bytes_cmp old q) → see row ≡ see (get bytes_cmp old key)
    → see (get bytes_cmp new q) ≡ see (get bytes_cmp old q)
row_same see old new key q row is same = row_grown see (λ y. y) old new key q row is same ∙ by (bytes_eq key q)
  where
    by : (b : Bool) → cond b (see (get bytes_cmp old q)) (see (get bytes_cmp old q)) ≡ see (get bytes_cmp old q)
    by true = refl
    by false = refl

pub cond_both : {X : Type 0} (a b : Bool) (x y : X) → cond a (cond b x y) y ≡ cond (a && b) x y
cond_both true b x y = refl
cond_both false b x y = refl

pub found_some : {X : Type 0} (o : Option X) (x : X) → o ≡ Some x → IsSome o
found_some None x is = let no : ⊥ = cc in absurd no
found_some (Some y) x is = search

-- facts that hold at one outcome

pub on_ok : {T E P Q : Type 0} (r : Result T E) → (P → Q) → OnOk r P → OnOk r Q
on_ok (Ok x) f p = f p
on_ok (Err e) f p = p

pub on_ok_both : {T E P Q R : Type 0} (r : Result T E) → (P → Q → R) → OnOk r P → OnOk r Q → OnOk r R
on_ok_both (Ok x) f p q = f p q
on_ok_both (Err e) f p q = p

pub on_err : {T E P Q : Type 0} (r : Result T E) → (P → Q) → OnErr r P → OnErr r Q
on_err (Ok x) f p = p
on_err (Err e) f p = f p

pub on_err_both : {T E P Q R : Type 0} (r : Result T E) → (P → Q → R) → OnErr r P → OnErr r Q → OnErr r R
on_err_both (Ok x) f p q = p
on_err_both (Err e) f p q = f p q
