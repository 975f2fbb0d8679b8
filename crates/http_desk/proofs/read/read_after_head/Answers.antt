use Rattle.std.proofs.Common.{ap, ◌∙◌, take}
use Rattle.http_reply.specs.AsModel.{fault_of}
use Rattle.http_desk.proofs.Inputs.{fault_read}
use Rattle.http_desk.proofs.read.read_after_head.Goals as goal

pub returns-in-Err-clause-read : goal.returns-in-Err-clause-read
returns-in-Err-clause-read g c = λ h x.
    fault_read c.args.kept.now.items (g.X.Source.left c.args.conn.now) c.args.at.now.seen c.args.fields.now c.args.at.now.spans h c.split_at.result.0.now (fault_of c.in-Err.fault) c.is_head_at.result
    x (c.split_at.ensures.front ∙ ap (take c.args.at.now.seen) c.deref.ensures.value) c.in-Err.ensures.fault c.is_head_at.ensures
