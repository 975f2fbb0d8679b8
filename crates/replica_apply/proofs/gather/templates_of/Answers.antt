use Rattle.replica_apply.specs.Replica.{page_at}
use Rattle.replica_apply.proofs.Lists.{are_templates}
use Rattle.replica_apply.proofs.gather.templates_of.Goals as goal

pub returns : goal.returns
returns c =
    are_templates (page_at c.args.pages.now) (page_at c.in_ok-taken.taken) c.args.text.now 4 c.in_ok-taken.ensures.0 c.in_ok-list.list.items c.in_ok-taken.ensures.1 c.in_ok-list.ensures
