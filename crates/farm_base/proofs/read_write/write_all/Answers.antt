use Rattle.std.proofs.Common.{drop, subst, arith, ◌∙◌}
use Rattle.farm_base.specs.Exposed.{Adds}
use Rattle.std.proofs.Common.{take}
use Rattle.farm_base.proofs.Chains.{adds_turn}
use Rattle.farm_base.proofs.read_write.write_all.Goals as goal

pub loop-done-preserved : goal.loop-done-preserved
loop-done-preserved g c =
    let written = g.O.Sink.written in
    let added : Adds (written c.loop-done.sink) (written c.write.new.self) (take c.in_ok-count.count (drop c.loop-done.done c.args.bytes.now)) =
    subst (λ rest. Adds (written c.loop-done.sink) (written c.write.new.self) (take c.in_ok-count.count rest)) c.split_at.ensures.back c.in_ok-count.ensures.bytes in
    record {
      within = omega (arith, c.in_ok-count.ensures.bound, c.split_at.ensures.back_len);
      added = adds_turn (written c.args.sink.now) (written c.loop-done.sink) (written c.write.new.self) c.args.bytes.now c.loop-done.done c.in_ok-count.count c.loop-done.invariant.added added;
      later = omega (arith, c.in_ok-count.ensures.cause.later, c.loop-done.invariant.later);
      other = c.in_ok-count.ensures.other ∙ c.loop-done.invariant.other;
    }
