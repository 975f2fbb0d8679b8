use Rattle.std.proofs.Common.{rules}
use Rattle.chronology_store.specs.PositionRow.{swept, is_needed}
use Rattle.chronology_store.proofs.Lookups.{swept_rows, swept_needed, retained}
use Rattle.chronology_store.proofs.position_row.sweep.Goals as goal

pub returns-clause-swept : goal.returns-clause-swept
returns-clause-swept c =
    swept_rows c.args.now c.args.rows.now.entries c.retain.new.self.entries c.retain.ensures.was_ordered
    (retained _ (swept c.args.now) is_needed _ (λ k v b w f' called. search rules) _ _ c.retain.ensures.filtered)

pub returns-clause-needed : goal.returns-clause-needed
returns-clause-needed c =
    swept_needed c.args.now c.args.rows.now.entries c.retain.new.self.entries c.retain.ensures.was_ordered
    (retained _ (swept c.args.now) is_needed _ (λ k v b w f' called. search rules) _ _ c.retain.ensures.filtered)
