use Rattle.std.proofs.Common.{rules, refl, List, length, sym, ap, ◌∙◌}
use Rattle.purge_relay.specs.declared.ledger_row.LedgerRow.{LedgerRow}
use Rattle.purge_relay.specs.LedgerRow.{dropped}
use Rattle.purge_relay.specs.Ledger.{place_of, changed_at}
use Rattle.purge_relay.proofs.Changes.{changed, small_changed, numbered_changed, sent_changed}
use Rattle.purge_relay.proofs.ledger.Ledger.drop_message.Goals as goal

pub returns-in-Some : goal.returns-in-Some
returns-in-Some c = let i = c.self.inside in
    ap (λ (rows : List LedgerRow). record { rows = rows; spare = i.spare }) (sym (changed dropped i.rows.items c.args.number c.in-Some.place c.index_mut.result.now (c.in-Some.ensures ∙ ap (λ (rows : List LedgerRow). place_of (length rows) c.args.number) c.deref.ensures.value) c.index_mut.ensures.value)) ∙ ap (changed_at dropped c.args.number) c.self.view_is

pub invariant_of-self : goal.invariant_of-self
invariant_of-self c = let i = c.self.inside in record {
  room = search rules;
  numbered = numbered_changed i.rows.items c.args.number c.in-Some.place c.index_mut.result.now (dropped c.index_mut.result.now) (c.in-Some.ensures ∙ ap (λ (rows : List LedgerRow). place_of (length rows) c.args.number) c.deref.ensures.value) c.index_mut.ensures.value c.self.invariant.numbered refl;
  sent = sent_changed i.rows.items c.args.number c.in-Some.place c.index_mut.result.now (dropped c.index_mut.result.now) i.sent_to (c.in-Some.ensures ∙ ap (λ (rows : List LedgerRow). place_of (length rows) c.args.number) c.deref.ensures.value) c.index_mut.ensures.value c.self.invariant.sent refl;
  small = small_changed dropped i.rows.items c.args.number c.in-Some.place c.index_mut.result.now
      (c.in-Some.ensures ∙ ap (λ (rows : List LedgerRow). place_of (length rows) c.args.number) c.deref.ensures.value) c.index_mut.ensures.value c.self.invariant.small
      (λ s. record { body = s.body; home = s.home; west = s.west });
}
