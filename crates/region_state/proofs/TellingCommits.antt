-- A store that is told of commits in turn has the rows of the model that is told of them in turn.
use Rattle.std.proofs.Common.{◌≡◌, Bool, true, false, cond, List, [], ◌∷◌, Option, Some, option_map, Result, Ok, Err, refl, sym, ap, subst, ◌∙◌, bytes_eq}
use Rattle.std.specs.Prelude.{OnOk}
use Rattle.wiki_model.specs.Titles.{Client}
use Rattle.wiki_model.specs.History.{Numbered}
use Rattle.wiki_model.specs.Positions.{Rows, told_all, later_row, row_for}
use Rattle.chronology_store.specs.declared.ClientCommit.{ClientCommit}
use Rattle.chronology_store.specs.declared.position_row.PositionRow.{PositionRow}
use Rattle.chronology_store.specs.PositionRow.{later, held_by, told_one, told_by}
use Rattle.chronology_store.specs.ChronologyStore.{Positions, TellsAll, row_of}
use Rattle.chronology_store.specs.AsModel.{held_of, rows_in}
use Rattle.chronology_store.proofs.ModelRows.{later_is}
use Rattle.region_state.specs.YoungCommits.{commit_of, commits_of}

-- one commit
told_once : (n : Numbered) (client : Client) (row : PositionRow) (o : Option Rattle.wiki_model.specs.Positions.Held) → o ≡ option_map held_of row.held
    → cond (bytes_eq n.commit.edit.client client) (Some (later_row o (row_for n.number n.commit))) o ≡ option_map held_of (told_one client (commit_of n) row).held
told_once n client row o is = by (bytes_eq n.commit.edit.client client)
  where
    by : (b : Bool) → cond b (Some (later_row o (row_for n.number n.commit))) o
        ≡ option_map held_of (cond b (let r : PositionRow = record row { held = Some (later row.held (held_by (commit_of n))) } in r) row).held
    by true = ap (λ x. Some (later_row x (row_for n.number n.commit))) is ∙ ap Some (sym (later_is row.held (held_by (commit_of n))))
    by false = is

told_each : (ns : List Numbered) (client : Client) (row : PositionRow) (rows : Rows) → rows client ≡ option_map held_of row.held → told_all ns rows client ≡ option_map held_of (told_by (commits_of ns) client row).held
told_each [] client row rows is = is
told_each (n ∷ ns) client row rows is =
    told_each ns client (told_one client (commit_of n) row) (λ c. cond (bytes_eq n.commit.edit.client c) (Some (later_row (rows c) (row_for n.number n.commit))) (rows c)) (told_once n client row (rows client) is)

pub tells_rows : (ns : List Numbered) (old new : Positions) → TellsAll (commits_of ns) old new → rows_in new ≡ told_all ns (rows_in old)
tells_rows ns old new tells = λ i client. by client i
  where
    by : (client : Client) → rows_in new client ≡ told_all ns (rows_in old) client
    by client = ap (λ (r : PositionRow). option_map held_of r.held) (tells.each client) ∙ sym (told_each ns client (row_of old client) (rows_in old) refl)

-- the same of whichever numbered commits these are
pub tells_if_ok : {T E : Type 0} (result : Result T E) (commits : List ClientCommit) (old new : Positions) → OnOk result (TellsAll commits old new)
    → OnOk result ((ns : List Numbered) → commits ≡ commits_of ns → rows_in new ≡ told_all ns (rows_in old))
tells_if_ok (Ok x) commits old new tells = λ ns same. tells_rows ns old new (subst (λ cs. TellsAll cs old new) same tells)
tells_if_ok (Err e) commits old new tells = tt
