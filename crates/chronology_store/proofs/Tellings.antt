-- Commits told in turn, and what stays when nothing new is told.
use Rattle.std.proofs.Common.{◌≡◌, ℕ, ◌+◌, ◌<◌, Bool, true, false, List, [], ◌∷◌, ◌++◌, length, take, get_or, refl, sym, ◌∙◌, ap, bytes_eq}
use Rattle.std.proofs.lemmas.List.{take_more}
use Rattle.std.proofs.lemmas.Slice.Eq.{bytes_eq-Decides}
use Rattle.chronology_store.specs.declared.position_row.PositionRow.{PositionRow}
use Rattle.chronology_store.specs.declared.ClientCommit.{ClientCommit}
use Rattle.chronology_store.specs.PositionRow.{with_told, held_by, told_one, told_by}
use Rattle.chronology_store.specs.ChronologyStore.{Positions, row_of, Changes, TellsAll}

told_by-push : (rows : List ClientCommit) (written : ClientCommit) (client : List ℕ) (row : PositionRow) → told_by (rows ++ written ∷ []) client row ≡ told_one client written (told_by rows client row)
told_by-push [] written client row = refl
told_by-push (first ∷ rows) written client row = told_by-push rows written client (told_one client first row)

told_here : (client : List ℕ) (written : ClientCommit) (old new : Positions) → Changes written.client (with_told (held_by written)) old new → row_of new client ≡ told_one client written (row_of old client)
told_here client written old new changes = by (bytes_eq written.client client) refl
  where
    by : (b : Bool) → bytes_eq written.client client ≡ b → row_of new client ≡ told_one client written (row_of old client)
    by true e = let same : written.client ≡ client = (bytes_eq-Decides written.client client).0 e in
        ap (row_of new) (sym same) ∙ changes.here ∙ ap (λ x. with_told (held_by written) (row_of old x)) same ∙ rw e refl
    by false e = changes.others client e ∙ rw e refl

-- one commit more
pub tells_more : (rows : List ClientCommit) (i : ℕ) (written : ClientCommit) (first old new : Positions) → i < length rows → written ≡ get_or rows i written → TellsAll (take i rows) first old
    → Changes written.client (with_told (held_by written)) old new → TellsAll (take (i + 1) rows) first new
tells_more rows i written first old new h is all changes = record {
  each = λ client.
      told_here client written old new changes
      ∙ ap (told_one client written) (all.each client)
      ∙ sym (told_by-push (take i rows) written client (row_of first client))
      ∙ ap (λ (some : List ClientCommit). told_by some client (row_of first client)) (sym (take_more rows i written h ∙ ap (λ (x : ClientCommit). take i rows ++ x ∷ []) (sym is)));
}
