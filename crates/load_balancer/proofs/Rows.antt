-- Running sums of shares, and the best row of a prefix.
use Rattle.std.proofs.Common.{◌≡◌, ℕ, zero, suc, ◌+◌, ◌<◌, ◌≤◌, List, [], ◌∷◌, length, get_or, Some, refl, sym, ◌∙◌, ap, arith, subst, take, sum}
use Rattle.std.specs.Prelude.{slice_get, All}
use Rattle.std.proofs.lemmas.List.Sums.{sum_by_more}
use Rattle.std.proofs.lemmas.List.{get_or-map, length-map, take_all}
use Rattle.std.proofs.lemmas.List.Elements.{All-more, All-weaker}
use Rattle.wiki_model.specs.Balance as model
use Rattle.wiki_model.specs.Balance.{IsMostApplied, share, shares}
use Rattle.load_balancer.specs.declared.Row.{Row}
use Rattle.load_balancer.specs.AsModel.{row_of, rows_of}

-- one more row adds its share
pub share_more : (need : ℕ) (rows : List Row) (i : ℕ) (d : Row) → i < length rows
    → sum (take (i + 1) (shares need (rows_of rows))) ≡ sum (take i (shares need (rows_of rows))) + share need (row_of (get_or rows i d))
share_more need rows i d h =
    let inner : get_or (rows_of rows) i (row_of d) ≡ row_of (get_or rows i d) = get_or-map row_of rows i d (row_of d) h in
    let as_many : i < length (rows_of rows) = subst (λ n. i < n) (sym (length-map rows row_of)) h in
    let outer : get_or (shares need (rows_of rows)) i 0 ≡ share need (get_or (rows_of rows) i (row_of d)) = get_or-map (share need) (rows_of rows) i (row_of d) 0 as_many in
    let room : i < length (shares need (rows_of rows)) = subst (λ n. i < n) (sym (length-map (rows_of rows) (share need))) as_many in
    sum_by_more (λ n. n) (shares need (rows_of rows)) i 0 room ∙ ap (λ n. sum (take i (shares need (rows_of rows))) + n) (outer ∙ ap (share need) inner)

-- the first of the rows with the greatest applied number, among the first `count`
pub record IsBestOf (rows : List model.Row) (count place : ℕ) (best : model.Row) : Type 0 where
  pub there : slice_get rows place ≡ Some best
  pub greatest : All (λ other. other.applied ≤ best.applied) (take count rows)
  pub first : All (λ other. other.applied < best.applied) (take place rows)

row_there : (rows : List Row) (i : ℕ) (d : Row) → i < length rows → slice_get (rows_of rows) i ≡ Some (row_of (get_or rows i d))
row_there [] i d h = absurd (omega (arith, h))
row_there (row ∷ rows) zero d h = refl
row_there (row ∷ rows) (suc i) d h = row_there rows i d (omega (arith, h))

seen_row : (rows : List Row) (i : ℕ) (d : Row) → i < length rows → get_or (rows_of rows) i (row_of d) ≡ row_of (get_or rows i d)
seen_row rows i d h = get_or-map row_of rows i d (row_of d) h

pub best_stays : (rows : List Row) (i place : ℕ) (best d : Row) → i < length rows → IsBestOf (rows_of rows) i place (row_of best)
    → (get_or rows i d).applied ≤ best.applied → IsBestOf (rows_of rows) (i + 1) place (row_of best)
best_stays rows i place best d h is le = record {
  there = is.there;
  greatest = All-more (λ (other : model.Row). other.applied ≤ best.applied) (rows_of rows) i (row_of d) (subst (λ n. i < n) (sym (length-map rows row_of)) h) is.greatest
      (subst (λ (other : model.Row). other.applied ≤ best.applied) (sym (seen_row rows i d h)) le);
  first = is.first;
}

pub best_moves : (rows : List Row) (i place : ℕ) (best d : Row) → i < length rows → IsBestOf (rows_of rows) i place (row_of best)
    → best.applied < (get_or rows i d).applied → IsBestOf (rows_of rows) (i + 1) i (row_of (get_or rows i d))
best_moves rows i place best d h is less =
    let at = (get_or rows i d).applied in
    record {
      there = row_there rows i d h;
      greatest = All-more (λ (other : model.Row). other.applied ≤ at) (rows_of rows) i (row_of d) (subst (λ n. i < n) (sym (length-map rows row_of)) h)
          (All-weaker (λ (other : model.Row). other.applied ≤ best.applied) (λ (other : model.Row). other.applied ≤ at) (λ other le. omega (arith, le, less)) (take i (rows_of rows)) is.greatest)
          (subst (λ (other : model.Row). other.applied ≤ at) (sym (seen_row rows i d h)) (omega arith));
      first = All-weaker (λ (other : model.Row). other.applied ≤ best.applied) (λ (other : model.Row). other.applied < at) (λ other le. omega (arith, le, less)) (take i (rows_of rows)) is.greatest;
    }

pub best_of_all : (rows : List Row) (n place : ℕ) (best : model.Row) → length rows ≤ n → IsBestOf (rows_of rows) n place best → IsMostApplied (rows_of rows) place best
best_of_all rows n place best h is =
    let e = length-map rows row_of in
    let most : length (rows_of rows) ≤ n = omega (arith, e) in
    record {
      there = is.there;
      greatest = subst (All (λ (other : model.Row). other.applied ≤ best.applied)) (take_all n (rows_of rows) most) is.greatest;
      first = is.first;
    }

abbrev pub no_row : Row
no_row = record { weight = 0; lag = 0; applied = 0 }
