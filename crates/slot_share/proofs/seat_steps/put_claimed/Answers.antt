use Rattle.std.proofs.Common.{rules, ◌≡◌}
use Rattle.slot_share.specs.Calls.{check_of}
use Rattle.slot_share.proofs.Storing.{renews, owes_stored}
use Rattle.slot_share.proofs.seat_steps.put_claimed.Goals as goal

pub release-requires-clause-owes : goal.release-requires-clause-owes
release-requires-clause-owes g c κs within =
    let free : c.claim-found.result ≡ 0 = search rules in
    let f = c.claim-found.ensures.free free in
    let s = c.put_held-put.ensures.stores in
    owes_stored g.M.Marker.is_true c.args.chair.now.me.0 c.args.at.now.slot f.0 s.0 s.1 c.args.chair.now.me.1 c.claim-found.new.chair.me c.put_held-put.new.chair.me c.requires.free_hands.1 f.1
    s.2 s.3
    (renews g.M.Marker.is_true c.args.chair.now.me.0.handed s.0 s.1 c.args.key.now c.args.value c.args.loaded.now.floor (check_of c.args.loaded.now) c.put_held-put.result s.4 c.put_held-put.ensures.answer c.requires.main c.requires.interim c.requires.handed c.requires.free)
