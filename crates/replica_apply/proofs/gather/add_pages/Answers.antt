use Rattle.replica_apply.specs.Replica.{page_at}
use Rattle.replica_apply.proofs.Gathering.{no_titles, title_more, all_titles}
use Rattle.replica_apply.proofs.gather.add_pages.Goals as goal

pub loop-title-init : goal.loop-title-init
loop-title-init c = no_titles (page_at c.args.pages.now) (page_at c.args.taken.now) c.args.unread.now.items c.args.titles.now c.requires

pub add_page-requires : goal.add_page-requires
add_page-requires c = c.loop-title.invariant.there

pub loop-title-preserved : goal.loop-title-preserved
loop-title-preserved c =
    title_more (page_at c.args.pages.now) (page_at c.args.taken.now) (page_at c.loop-title.taken) (page_at c.add_page.new.taken) c.args.unread.now.items c.loop-title.unread.items c.add_page.new.unread.items
    c.args.titles.now c.title-item.result c.loop-title.title-index c.loop-title-test.true c.title-item.is c.loop-title.invariant c.in_ok-add_page.ensures

pub returns : goal.returns
returns c = all_titles (page_at c.args.pages.now) (page_at c.args.taken.now) (page_at c.loop-title.taken) c.args.unread.now.items c.loop-title.unread.items c.args.titles.now c.loop-title.title-index c.loop-title-test.false c.loop-title.invariant
