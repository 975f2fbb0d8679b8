use Rattle.std.proofs.Common.{arith, ap, subst, []}
use Rattle.std.specs.Map.{lookup}
use Rattle.std.specs.BTreeMap.{is_at}
use Rattle.wiki_titles.specs.Order.{bytes_cmp}
use Rattle.replica_apply.specs.Replica.{page_at}
use Rattle.replica_apply.specs.Gather.{Gathers, IsNamedBy}
use Rattle.replica_apply.proofs.Gathering.{first_is, next_is}
use Rattle.replica_apply.proofs.gather.gather.Goals as goal

pub loop-stage-init : goal.loop-stage-init
loop-stage-init c = record {
  first = omega arith;
  last = omega arith;
  taken = first_is (page_at c.args.pages.now) (page_at c.new-taken.result) (page_at c.first_stage.new.taken) c.args.text.now c.in_ok-unread.unread.items (λ name. ap (lookup (is_at (bytes_cmp name))) c.new-taken.ensures.empty) c.in_ok-unread.ensures;
}

pub loop-stage-preserved : goal.loop-stage-preserved
loop-stage-preserved c =
    let P = page_at c.args.pages.now in
    let M = page_at c.loop-stage.taken in
    let N = page_at c.next_stage.new.taken in
    record {
      first = omega (arith, c.loop-stage.invariant.first);
      last = omega (arith, c.loop-stage-test.true);
      taken = next_is P M N c.args.text.now c.loop-stage.stage c.loop-stage.unread.items c.in_ok-unread-2.unread.items (omega (arith, c.loop-stage.invariant.first)) c.loop-stage.invariant.taken
          (subst (λ texts. Gathers P M N [] c.in_ok-unread-2.unread.items (IsNamedBy texts)) c.deref.ensures.value c.in_ok-unread-2.ensures);
    }
