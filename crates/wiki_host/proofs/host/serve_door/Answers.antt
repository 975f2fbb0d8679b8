use Rattle.std.proofs.Common.{refl, subst}
use Rattle.wiki_model.specs.Bytes.{Bytes}
use Rattle.slot_cache.specs.AsModel.{map_of}
use Rattle.wiki_serve.specs.Exchanges.{heard_seen}
use Rattle.wiki_host.specs.Opening.{keeper_seen, OpensLayout}
use Rattle.wiki_host.specs.Refusals.{RefusesHost, breaks}
use Rattle.wiki_host.specs.Visits.{door_seen}
use Rattle.wiki_host.proofs.WholeHosting.{hosting, refused}
use Rattle.wiki_host.proofs.host.serve_door.Goals as goal

pub returns-in-Ok : goal.returns-in-Ok
returns-in-Ok g c =
    let before = keeper_seen (g.K.Keeper.content c.args.host.keeper) (g.K.Keeper.faults c.args.host.keeper) in
    record {
      hosts = hosting _ _ _ _ _ _
          (heard_seen (g.C.Clock.exposed c.open_layout.new.clock) (g.L.Lots.exposed c.args.lots.now)
          (g.W.Wire.carried c.args.wire.now) (g.W.Wire.refused c.args.wire.now) (g.W.Wire.empty c.args.wire.now))
          _ _ _ g.K.Keeper.content g.K.Keeper.faults map_of c.in-Ok.served.farm c.in-Ok.served.sent
          c.in-Ok.served.farm.plan.pace c.serve_open.result.end
          (subst (λ (l : Bytes). OpensLayout g.K.Keeper.content g.K.Keeper.faults map_of l before
          (g.C.Clock.exposed c.args.clock.now) (g.C.Clock.exposed c.open_layout.new.clock) c.in-Ok.served.farm
          c.in-Ok.served.sent) c.deref.ensures.value c.in-Ok.ensures.opens)
          refl refl c.serve_open.ensures.visits c.serve_open.ensures.counts;
    }

pub returns : goal.returns
returns g c =
    let before = keeper_seen (g.K.Keeper.content c.args.host.keeper) (g.K.Keeper.faults c.args.host.keeper) in
    let after = keeper_seen (g.K.Keeper.content c.in-Err.hosted.keeper) (g.K.Keeper.faults c.in-Err.hosted.keeper) in
    let door = door_seen (g.D.Door.offered c.args.door.now) (g.D.Door.faults c.args.door.now) (g.D.Door.nones c.args.door.now) in
    let heard = heard_seen (g.C.Clock.exposed c.open_layout.new.clock) (g.L.Lots.exposed c.args.lots.now)
    (g.W.Wire.carried c.args.wire.now) (g.W.Wire.refused c.args.wire.now) (g.W.Wire.empty c.args.wire.now) in
    record {
      hosts = refused _ _ _ door door _ heard heard before after c.in-Err.hosted.end
          (subst (λ (l : Bytes). RefusesHost (breaks l) before after (g.C.Clock.exposed c.args.clock.now)
          (g.C.Clock.exposed c.open_layout.new.clock) c.in-Err.hosted.end) c.deref.ensures.value c.in-Err.ensures.refused)
          refl;
    }
