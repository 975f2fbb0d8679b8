use Rattle.std.proofs.Common.{◌≡◌, ◌<◌, ◌^◌, length, map, sym, ap, ◌∙◌, subst, arith}
use Rattle.std.specs.Prelude.{IfSome}
use Rattle.wiki_model.specs.History.{number_of, page}
use Rattle.commit_feed.specs.AsModel.{entry_of}
use Rattle.revision_keeper.specs.Indexes.{RiseFrom, last_up_to}
use Rattle.revision_keeper.proofs.Rising.{rising, page_is}
use Rattle.revision_keeper.proofs.Small.{page_small}
use Rattle.revision_keeper.proofs.indexed_history.IndexedHistory.latest.Goals as goal

pub latest-requires : goal.latest-requires
latest-requires c = subst (RiseFrom 1) (sym (c.self.invariant.numbers c.args.title.now)) (rising (map entry_of c.self.inside.entries.items) c.args.title.now)

pub returns-clause-value : goal.returns-clause-value
returns-clause-value c = rw (← c.self.view_is)
    (c.latest.ensures ∙ ap (last_up_to c.args.upto) (c.self.invariant.numbers c.args.title.now) ∙ sym (page_is (map entry_of c.self.inside.entries.items) c.args.upto c.args.title.now))

pub returns-clause-small : goal.returns-clause-small
returns-clause-small c =
    let short : length c.args.self.now < 2 ^ 63 = let is = c.len-length.ensures.len in let small = c.len-length.ensures.small in omega (arith, is, small) in
    let is : c.latest.result ≡ number_of (page c.args.self.now c.args.upto c.args.title.now) = rw (← c.self.view_is)
    (c.latest.ensures ∙ ap (last_up_to c.args.upto) (c.self.invariant.numbers c.args.title.now) ∙ sym (page_is (map entry_of c.self.inside.entries.items) c.args.upto c.args.title.now)) in
    subst (λ o. IfSome o (λ n. n < 2 ^ 63)) (sym is) (page_small c.args.self.now short c.args.upto c.args.title.now)
