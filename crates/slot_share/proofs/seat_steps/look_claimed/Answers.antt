use Rattle.std.proofs.Common.{rules, ◌≡◌}
use Rattle.slot_share.proofs.Storing.{owes_looked}
use Rattle.slot_share.proofs.seat_steps.look_claimed.Goals as goal

pub release-requires-clause-owes : goal.release-requires-clause-owes
release-requires-clause-owes g c κs within =
    let free : c.claim-found.result ≡ 0 = search rules in
    let f = c.claim-found.ensures.free free in
    owes_looked g.M.Marker.is_true c.args.chair.now.me.0 c.args.at.now.slot f.0 c.args.chair.now.me.1 c.claim-found.new.chair.me c.look_held-answer.new.chair.me c.requires.free_hands.1 f.1 c.look_held-answer.ensures.found.2
