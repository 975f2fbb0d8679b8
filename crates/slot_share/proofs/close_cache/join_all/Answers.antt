use Rattle.std.proofs.Common.{rules, ◌≡◌, ◌+◌}
use Rattle.slot_share.specs.Rule.{size_of}
use Rattle.slot_share.proofs.Gathering.{begins_joining, next_fits, joins_more}
use Rattle.slot_share.proofs.close_cache.join_all.Goals as goal

pub loop-seat-init : goal.loop-seat-init
loop-seat-init g c =
    let words : c.args.table.now.table_id.words ≡ size_of c.args.table.now.key + c.args.table.now.table_id.slots = search rules in
    begins_joining c.args.seats.items c.pop.new.self.items c.in-Some.last (size_of c.args.table.now.key) c.last.inside.number c.last.inside.greatest c.args.table.now.table_id c.last.inside.chair.table_id c.last.inside.chair.me
    c.in-Some.ensures.items c.last.view_is c.last.invariant words c.requires.mine

pub join-requires-clause-other : goal.join-requires-clause-other
join-requires-clause-other g c κs within =
    let words : c.args.table.now.table_id.words ≡ size_of c.args.table.now.key + c.args.table.now.table_id.slots = search rules in
    let fit = next_fits c.args.seats.items c.loop-seat.seats.items c.pop-in-loop-seat.new.self.items c.in-Some-pop.seat (size_of c.args.table.now.key) c.seat.inside.number c.seat.inside.greatest c.args.table.now.table_id c.loop-seat.all.table_id c.seat.inside.chair.table_id
    c.loop-seat.all.me c.seat.inside.chair.me c.loop-seat.invariant c.in-Some-pop.ensures.items c.seat.view_is c.seat.invariant words c.requires.mine in
    (fit.0, c.seat.invariant.carries)

pub join-requires-clause-other_long : goal.join-requires-clause-other_long
join-requires-clause-other_long g c κs within =
    let words : c.args.table.now.table_id.words ≡ size_of c.args.table.now.key + c.args.table.now.table_id.slots = search rules in
    let fit = next_fits c.args.seats.items c.loop-seat.seats.items c.pop-in-loop-seat.new.self.items c.in-Some-pop.seat (size_of c.args.table.now.key) c.seat.inside.number c.seat.inside.greatest c.args.table.now.table_id c.loop-seat.all.table_id c.seat.inside.chair.table_id
    c.loop-seat.all.me c.seat.inside.chair.me c.loop-seat.invariant c.in-Some-pop.ensures.items c.seat.view_is c.seat.invariant words c.requires.mine in
    fit.1

pub loop-seat-preserved : goal.loop-seat-preserved
loop-seat-preserved g c =
    let words : c.args.table.now.table_id.words ≡ size_of c.args.table.now.key + c.args.table.now.table_id.slots = search rules in
    joins_more c.args.seats.items c.loop-seat.seats.items c.pop-in-loop-seat.new.self.items c.in-Some-pop.seat (size_of c.args.table.now.key) c.seat.inside.number c.seat.inside.greatest c.args.table.now.table_id c.loop-seat.all.table_id c.seat.inside.chair.table_id c.join.new.chair.table_id
    c.loop-seat.all.me c.seat.inside.chair.me c.join.new.chair.me c.loop-seat.invariant c.in-Some-pop.ensures.items c.seat.view_is c.seat.invariant words c.requires.mine c.join.ensures.same c.join.ensures.both
