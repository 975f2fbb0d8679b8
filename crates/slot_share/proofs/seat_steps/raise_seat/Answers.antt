use Rattle.slot_share.specs.Rule.{size_of}
use Rattle.slot_share.proofs.Seating.{view_raised}
use Rattle.slot_share.proofs.seat_steps.raise_seat.Goals as goal
use Rattle.std.proofs.Common.{ap}

pub returns-clause-raised : goal.returns-clause-raised
returns-clause-raised g c = view_raised c.args.chair.now.me.0 c.raise_mark.new.chair.me.0 c.args.word c.raise_mark.ensures.seat.0 c.args.to (size_of c.args.table.now.key) c.requires.seen_long c.requires.made_long c.requires.mark.1 (ap (λ m. m.0) c.raise_mark.ensures.seat.1) c.raise_mark.ensures.seat.2
