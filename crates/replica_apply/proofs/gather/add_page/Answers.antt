use Rattle.std.proofs.Common.{sym, ◌∙◌}
use Rattle.replica_apply.specs.Replica.{page_at}
use Rattle.replica_apply.proofs.Gathering.{new_one}
use Rattle.replica_apply.proofs.gather.add_page.Goals as goal

pub returns-in_ok-add_new-in-Some : goal.returns-in_ok-add_new-in-Some
returns-in_ok-add_new-in-Some c =
    new_one (page_at c.args.pages.now) c.args.taken.now c.add_new.new.taken c.args.unread.now.items c.add_new.new.unread.items c.args.title.now c.in-Some.text.now c.requires
    (sym c.in-Some.ensures.value) (sym c.contains_key.ensures ∙ c.if-contains_key.false)
    c.in_ok-add_new-in-Some.ensures.taken c.in_ok-add_new-in-Some.ensures.unread
