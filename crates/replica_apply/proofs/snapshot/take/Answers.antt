use Rattle.std.proofs.Common.{refl, ◌∙◌}
use Rattle.replica_apply.specs.Replica.{page_at}
use Rattle.replica_apply.proofs.Lists.{for_page}
use Rattle.replica_apply.proofs.snapshot.take.Goals as goal

pub returns : goal.returns
returns c = record {
  upto = refl;
  stamp = refl;
  since = refl;
  lag = c.lag_at.ensures;
  page = c.in_ok-page.ensures;
  notice = c.in_ok-notice.ensures ∙ c.requires;
  templates = for_page (page_at c.args.pages.now) c.in_ok-page.page (page_at c.args.pages.now c.args.title.now) c.new.result c.in_ok-templates.templates.items c.in_ok-page.ensures c.new.ensures c.in_ok-templates.ensures;
}
