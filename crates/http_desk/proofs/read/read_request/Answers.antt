use Rattle.std.proofs.Common.{refl, false}
use Rattle.http_desk.specs.AsModel.{incoming_shown}
use Rattle.http_desk.proofs.Inputs.{then_read, reads_large, reads_never}
use Rattle.http_desk.proofs.read.read_request.Goals as goal

pub returns-in-Whole-clause-read : goal.returns-in-Whole-clause-read
returns-in-Whole-clause-read g c =
    let found = c.in-Whole.ensures.whole c.in-Whole.at refl in
    then_read c.args.kept.now.items (g.X.Source.left c.args.conn.now) c.read_head.new.kept.items (g.X.Source.left c.read_head.new.conn) _ _ (incoming_shown c.read_after_head.result)
    (c.in-Whole.ensures.grows (λ q. cc q) (λ q. cc q)) (c.read_after_head.ensures.read found.0 found.1)

pub returns-in-TooLarge-clause-read : goal.returns-in-TooLarge-clause-read
returns-in-TooLarge-clause-read g c =
    let large = c.in-TooLarge.ensures.large refl in
    rw c.closing.ensures (reads_large false c.args.kept.now.items (g.X.Source.left c.args.conn.now) c.read_head.new.kept.items (g.X.Source.left c.read_head.new.conn) (c.in-TooLarge.ensures.grows (λ q. cc q) (λ q. cc q)) large.0 large.1)

pub returns-in-NoHead-clause-read : goal.returns-in-NoHead-clause-read
returns-in-NoHead-clause-read g c =
    rw c.closing-in-NoHead.ensures (reads_never false c.args.kept.now.items (g.X.Source.left c.args.conn.now) c.read_head.new.kept.items (g.X.Source.left c.read_head.new.conn) (c.in-NoHead.ensures.grows (λ q. cc q) (λ q. cc q)) (c.in-NoHead.ensures.none refl))
