use Rattle.std.proofs.Common.{ap, refl, ◌∙◌, take, drop}
use Rattle.http_desk.specs.AsModel.{incoming_shown}
use Rattle.http_desk.proofs.Inputs.{body_read}
use Rattle.http_desk.proofs.read.read_body.Goals as goal

pub returns-in-Full-clause-read : goal.returns-in-Full-clause-read
returns-in-Full-clause-read g c = λ h x e many.
    body_read c.args.kept.now.items (g.X.Source.left c.args.conn.now) c.fill.new.kept.items (g.X.Source.left c.fill.new.conn) c.args.at.now.seen c.args.fields.now c.args.at.now.spans h c.args.count
    c.split_at.result.0.now c.split_at-in-Full-2.result.0.now _ (incoming_shown c.incoming_at-incoming.result)
    x e many (c.in-Full.ensures.grows (λ q. cc q) (λ q. cc q)) (c.in-Full.ensures.full refl)
    (c.split_at.ensures.front ∙ ap (take c.args.at.now.seen) c.deref.ensures.value)
    (c.split_at-in-Full-2.ensures.front ∙ ap (take c.args.count) (c.split_at-in-Full.ensures.back ∙ ap (drop c.args.at.now.spans.len) c.deref-in-Full.ensures.value))
    c.drop_prefix.ensures
    c.incoming_at-incoming.ensures.shown
