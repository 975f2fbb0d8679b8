use Rattle.std.proofs.Common.{ap, ◌∙◌, unwrap_or}
use Rattle.chronology_store.specs.PositionRow.{nothing}
use Rattle.chronology_store.proofs.Lookups.{found_same}
use Rattle.chronology_store.proofs.position_row.row_of.Goals as goal

pub returns : goal.returns
returns c =
    c.unwrap_or.ensures
    ∙ ap (λ o. unwrap_or o nothing) (c.copied-row.ensures ∙ c.get.ensures.value ∙ found_same c.args.client.now c.args.rows.now.entries)
