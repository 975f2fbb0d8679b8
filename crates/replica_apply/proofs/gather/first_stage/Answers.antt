use Rattle.std.proofs.Common.{subst, []}
use Rattle.std.specs.List.{Contains}
use Rattle.page_markup.specs.Names.{names_from}
use Rattle.replica_apply.specs.Replica.{page_at}
use Rattle.replica_apply.specs.Gather.{Gathers}
use Rattle.replica_apply.proofs.Gathering.{by_names}
use Rattle.replica_apply.proofs.gather.first_stage.Goals as goal

pub returns : goal.returns
returns c =
    let P = page_at c.args.pages.now in
    let M = page_at c.args.taken.now in
    let N = page_at c.add_pages.new.taken in
    let after = c.add_pages.new.unread.items in
    by_names P M N [] after (names_from c.args.text.now) c.in_ok-names.names.items c.in_ok-names.ensures
    (subst (λ names. Gathers P M N [] after (Contains names)) c.deref.ensures.value
    (subst (λ before. Gathers P M N before after (Contains c.deref.result.now)) c.new-unread.ensures.items c.in_ok-add_pages.ensures))
