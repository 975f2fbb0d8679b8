use Rattle.std.proofs.Common.{◌+◌, subst}
use Rattle.std.specs.Prelude.{OnOk}
use Rattle.chronology_store.specs.ChronologyStore.{TellsPosition}
use Rattle.region_state.proofs.ChangingParts.{positions_if_ok}
use Rattle.region_state.proofs.region_state.RegionState.hear.Goals as goal

pub returns-clause-ok : goal.returns-clause-ok
returns-clause-ok g c =
    let client = c.args.client.now in
    positions_if_ok c.take_relay.result _ _ c.take_relay.new.self (TellsPosition client c.args.index c.args.entry (c.args.stamp + 60_000)) c.self.view_is
    (subst (λ at. OnOk c.take_relay.result (TellsPosition client c.args.index c.args.entry at c.self.inside.positions c.take_relay.new.self)) c.expiry.ensures c.take_relay.ensures.ok)
