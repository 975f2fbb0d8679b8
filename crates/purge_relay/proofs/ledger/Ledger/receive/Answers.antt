use Rattle.std.proofs.Common.{rules, subst, List, length, sym, ap, ◌∙◌}
use Rattle.std.specs.Prelude.{slice_set}
use Rattle.purge_relay.specs.declared.ledger_row.LedgerRow.{LedgerRow}
use Rattle.purge_relay.specs.LedgerRow.{with_receipt}
use Rattle.purge_relay.specs.Ledger.{place_of, changed_at, AreSmall}
use Rattle.purge_relay.proofs.Changes.{changed, small_changed, small_row, numbered_changed, sent_changed, receipt_number, receipt_sent}
use Rattle.purge_relay.proofs.ledger.Ledger.receive.Goals as goal

pub returns-in-Some : goal.returns-in-Some
returns-in-Some c = let i = c.self.inside in
    ap (λ (rows : List LedgerRow). record { rows = rows; spare = i.spare }) (ap (slice_set i.rows.items c.in-Some.place) c.receive.ensures
    ∙ sym (changed (with_receipt c.args.region c.args.at) i.rows.items c.args.purge c.in-Some.place c.index_mut.result.now (c.in-Some.ensures ∙ ap (λ (rows : List LedgerRow). place_of (length rows) c.args.purge) c.deref.ensures.value) c.index_mut.ensures.value)) ∙ ap (changed_at (with_receipt c.args.region c.args.at) c.args.purge) c.self.view_is

pub invariant_of-self : goal.invariant_of-self
invariant_of-self c = let i = c.self.inside in let row = c.index_mut.result.now in record {
  room = search rules;
  numbered = numbered_changed i.rows.items c.args.purge c.in-Some.place c.index_mut.result.now c.receive.new.self (c.in-Some.ensures ∙ ap (λ (rows : List LedgerRow). place_of (length rows) c.args.purge) c.deref.ensures.value) c.index_mut.ensures.value c.self.invariant.numbered (ap (λ (r : LedgerRow). r.message.number) c.receive.ensures ∙ receipt_number c.args.region c.args.at row);
  sent = sent_changed i.rows.items c.args.purge c.in-Some.place c.index_mut.result.now c.receive.new.self i.sent_to (c.in-Some.ensures ∙ ap (λ (rows : List LedgerRow). place_of (length rows) c.args.purge) c.deref.ensures.value) c.index_mut.ensures.value c.self.invariant.sent (ap (λ (r : LedgerRow). r.sent) c.receive.ensures ∙ receipt_sent c.args.region c.args.at row);
  small = subst (λ (r : LedgerRow). AreSmall (slice_set i.rows.items c.in-Some.place r)) (sym c.receive.ensures)
      (small_changed (with_receipt c.args.region c.args.at) i.rows.items c.args.purge c.in-Some.place row
      (c.in-Some.ensures ∙ ap (λ (rows : List LedgerRow). place_of (length rows) c.args.purge) c.deref.ensures.value) c.index_mut.ensures.value c.self.invariant.small
      (λ s. small_row c.args.region c.args.at row s c.requires));
}
