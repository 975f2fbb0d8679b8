use Rattle.std.proofs.Common.{refl, ap, ◌∙◌}
use Rattle.std.specs.Prelude.{option_map}
use Rattle.http_desk.specs.AsModel.{call_shown, request_shown}
use Rattle.sticky_routes.specs.AsModel.{cookie_of}
use Rattle.edit_core.specs.declared.edit_ask.EditAsk.{EditAsk}
use Rattle.edit_core.specs.AsModel.{edit_of}
use Rattle.region_state.specs.AsModel.{view_of}
use Rattle.farm_steps.specs.Moments.{moment_of, moments_at}
use Rattle.slot_cache.specs.AsModel.{map_of}
use Rattle.wiki_serve.specs.Callers.{region_of}
use Rattle.wiki_serve.specs.Housework.{wire_seen}
use Rattle.wiki_serve.specs.Reactions.{desk_of}
use Rattle.wiki_serve.proofs.CallKinds.{view_called, edit_same, page_called, edit_called, batch_called}
use Rattle.wiki_serve.proofs.serve_arrival.serve_call.Goals as goal

pub returns-in-Page-clause-does : goal.returns-in-Page-clause-does
returns-in-Page-clause-does g c peer from =
    let request = request_shown c.args.prepared.visit.request in
    let old = c.args.served.now.farm in
    let caller = c.caller_of-caller.ensures in
    page_called g.K.Keeper.content g.K.Keeper.faults map_of (desk_of peer old) old c.serve_view.new.served.farm c.args.served.now.sent c.serve_view.new.served.sent c.args.prepared.at
    (g.L.Lots.exposed c.args.lots.now) (g.L.Lots.exposed c.word.new.self)
    (wire_seen (g.W.Wire.carried c.args.wire.now) (g.W.Wire.refused c.args.wire.now) (g.W.Wire.empty c.args.wire.now)) (wire_seen (g.W.Wire.carried c.serve_view.new.wire) (g.W.Wire.refused c.serve_view.new.wire) (g.W.Wire.empty c.serve_view.new.wire))
    request c.word.result c.in-Page.title (view_of c.view_by-ask.result) c.serve_view.result refl (ap call_shown c.in-Page.is)
    (ap view_of c.view_by-ask.ensures ∙ view_called (desk_of peer old) c.moment_for-now.result (moment_of (region_of request) (moments_at c.args.prepared.at old.moments)) c.word.result request c.in-Page.title c.caller_of-caller.result c.args.prepared.visit.stranger
    c.moment_for-now.ensures caller.host caller.cookie caller.client caller.use_master from)
    c.word.ensures c.serve_view.ensures

pub returns-in-Edit-clause-does : goal.returns-in-Edit-clause-does
returns-in-Edit-clause-does g c peer from =
    let request = request_shown c.args.prepared.visit.request in
    let old = c.args.served.now.farm in
    let caller = c.caller_of-caller.ensures in
    let ask : EditAsk = record { client = c.caller_of-caller.result.client; token = c.in-Edit.token; title = c.in-Edit.title; base = c.in-Edit.base; text = c.in-Edit.text } in
    edit_called g.K.Keeper.content g.K.Keeper.faults map_of (desk_of peer old) old c.serve_edit.new.served.farm c.args.served.now.sent c.serve_edit.new.served.sent c.args.prepared.at
    (g.L.Lots.exposed c.args.lots.now)
    (wire_seen (g.W.Wire.carried c.args.wire.now) (g.W.Wire.refused c.args.wire.now) (g.W.Wire.empty c.args.wire.now)) (wire_seen (g.W.Wire.carried c.serve_edit.new.wire) (g.W.Wire.refused c.serve_edit.new.wire) (g.W.Wire.empty c.serve_edit.new.wire))
    request c.in-Edit.title c.in-Edit.base c.in-Edit.token c.in-Edit.text (edit_of ask) c.serve_edit.result refl (ap call_shown c.in-Edit.is)
    (edit_same (desk_of peer old) c.moment_for-now.result (moment_of (region_of request) (moments_at c.args.prepared.at old.moments)) c.in-Edit.base request c.in-Edit.title c.in-Edit.token c.in-Edit.text c.caller_of-caller.result.client c.args.prepared.visit.stranger (option_map cookie_of c.caller_of-caller.result.cookie)
    c.moment_for-now.ensures caller.cookie caller.client from)
    c.serve_edit.ensures

pub returns-in-Some-clause-does : goal.returns-in-Some-clause-does
returns-in-Some-clause-does g c peer from =
    let request = request_shown c.args.prepared.visit.request in
    let old = c.args.served.now.farm in
    let caller = c.caller_of-caller.ensures in
    let view = c.ask_batch-ask.result.view in
    batch_called g.K.Keeper.content g.K.Keeper.faults map_of (desk_of peer old) old c.serve_batch.new.served.farm c.args.served.now.sent c.serve_batch.new.served.sent c.args.prepared.at
    (g.L.Lots.exposed c.args.lots.now) (g.L.Lots.exposed c.ask_batch-ask.new.lots)
    (wire_seen (g.W.Wire.carried c.args.wire.now) (g.W.Wire.refused c.args.wire.now) (g.W.Wire.empty c.args.wire.now)) (wire_seen (g.W.Wire.carried c.serve_batch.new.wire) (g.W.Wire.refused c.serve_batch.new.wire) (g.W.Wire.empty c.serve_batch.new.wire))
    request c.in-Batch.titles.items c.ask_batch-ask.result.drawn.items view.title view.word (view_of view) c.serve_batch.result refl (ap call_shown c.in-Batch.is)
    (ap view_of c.ask_batch-ask.ensures.view ∙ view_called (desk_of peer old) c.moment_for-now.result (moment_of (region_of request) (moments_at c.args.prepared.at old.moments)) view.word request view.title c.caller_of-caller.result c.args.prepared.visit.stranger
    c.moment_for-now.ensures caller.host caller.cookie caller.client caller.use_master from)
    c.ask_batch-ask.ensures.title c.ask_batch-ask.ensures.word c.ask_batch-ask.ensures.drawn c.serve_batch.ensures
