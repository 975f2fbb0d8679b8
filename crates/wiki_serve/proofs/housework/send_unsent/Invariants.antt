use Rattle.std.proofs.Common.{◌-◌, length}
use Rattle.wiki_serve.specs.Housework.{wire_seen, IsSending}
use Rattle.wiki_serve.proofs.housework.send_unsent.Given as goal

abbrev pub invariant-sending : goal.invariant-sending
invariant-sending g l = IsSending l.farm.ledger.rows l.fn.sent l.sent
    (wire_seen (g.W.Wire.carried l.fn.wire) (g.W.Wire.refused l.fn.wire) (g.W.Wire.empty l.fn.wire))
    (wire_seen (g.W.Wire.carried l.wire) (g.W.Wire.refused l.wire) (g.W.Wire.empty l.wire))

abbrev pub decreases-sending : goal.decreases-sending
decreases-sending g l = length l.farm.ledger.rows - l.sent
