use Rattle.std.proofs.Common.{rules, ◌≡◌, ◌+◌, ◌<◌, ◌≤◌, length, Some, None, option_map, subst}
use Rattle.std.specs.Prelude.{slice_get}
use Rattle.purge_relay.specs.Ledger.{LedgerState, unsent_in}
use Rattle.purge_relay.proofs.Changes.{unsent_some, unsent_none}
use Rattle.purge_relay.proofs.ledger.Ledger.first_unsent.Goals as goal

pub returns-then-self-len-clause-list : goal.returns-then-self-len-clause-list
returns-then-self-len-clause-list c =
    let i = c.self.inside in
    let l : i.sent_to < length i.rows.items = search rules in
    subst (λ (s : LedgerState). Some (i.sent_to + 1) ≡ option_map (λ row. row.message.number) (slice_get (unsent_in s.rows) 0)) c.self.view_is
    (unsent_some i.rows.items i.sent_to c.self.invariant.sent c.self.invariant.numbered l)

pub returns-else-self-len-clause-list : goal.returns-else-self-len-clause-list
returns-else-self-len-clause-list c =
    let i = c.self.inside in
    let l : length i.rows.items ≤ i.sent_to = search rules in
    subst (λ (s : LedgerState). None ≡ option_map (λ row. row.message.number) (slice_get (unsent_in s.rows) 0)) c.self.view_is
    (unsent_none i.rows.items i.sent_to c.self.invariant.sent l)
