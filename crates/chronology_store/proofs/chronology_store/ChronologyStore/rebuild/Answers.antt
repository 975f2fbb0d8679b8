use Rattle.std.proofs.Common.{ℕ, subst}
use Rattle.chronology_store.specs.PositionRow.{with_told}
use Rattle.chronology_store.specs.ChronologyStore.{Changes}
use Rattle.chronology_store.proofs.Tellings.{tells_more}
use Rattle.chronology_store.proofs.chronology_store.ChronologyStore.rebuild.Goals as goal

pub loop-written-preserved : goal.loop-written-preserved
loop-written-preserved c =
    let written = c.written-item.result in
    let ToldUntil : ℕ → Type 0 = λ until. Changes written.client (with_told (record { index = written.index; position = written.entry; expires = until })) c.loop-written.self c.take_relay.new.self in
    tells_more c.args.rows.now c.loop-written.written-index written c.args.self.now c.loop-written.self c.take_relay.new.self
    c.loop-written-test.true c.written-item.is c.loop-written.invariant (subst ToldUntil c.expiry-expires.ensures c.in_ok-take_relay.ensures.ok)
