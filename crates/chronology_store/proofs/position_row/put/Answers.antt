use Rattle.std.proofs.Common.{IsSome, sym, ◌∙◌, subst}
use Rattle.chronology_store.proofs.Lookups.{found_same, set_row, set_needed}
use Rattle.chronology_store.proofs.position_row.put.Goals as goal

pub returns-in-Ok-clause-ok : goal.returns-in-Ok-clause-ok
returns-in-Ok-clause-ok c =
    set_row c.args.client.now (record { reserved = c.args.reserved; held = c.args.held }) c.args.rows.now.entries c.insert.new.self.entries c.in-Ok.ensures.updates.0

pub returns-in-Err-clause-there : goal.returns-in-Err-clause-there
returns-in-Err-clause-there c =
    λ there. subst IsSome (sym (found_same c.args.client.now c.args.rows.now.entries) ∙ c.in-Err.ensures.absent) there

pub returns-in-Ok-clause-needed : goal.returns-in-Ok-clause-needed
returns-in-Ok-clause-needed c = λ one all.
    set_needed c.args.client.now (record { reserved = c.args.reserved; held = c.args.held }) c.args.rows.now.entries c.insert.new.self.entries c.in-Ok.ensures.updates.0 one all
