use Rattle.std.proofs.Common.{rules, ◌≡◌, ◌<◌, ◌^◌, length, Some, sym, subst, arith}
use Rattle.std.specs.Prelude.{IfSome}
use Rattle.wiki_model.specs.History.{entry_at}
use Rattle.commit_feed.specs.AsModel.{entry_of}
use Rattle.revision_keeper.specs.Bounds.{IsSmall}
use Rattle.revision_keeper.proofs.Small.{entry_small}
use Rattle.revision_keeper.proofs.indexed_history.IndexedHistory.entry.Goals as goal

pub returns-in_ok-clone-in-Some-clause-small : goal.returns-in_ok-clone-in-Some-clause-small
returns-in_ok-clone-in-Some-clause-small c =
    let short : length c.args.self.now < 2 ^ 63 = let is = c.len-length.ensures.len in let small = c.len-length.ensures.small in omega (arith, is, small) in
    let at : Some (entry_of c.in_ok-clone-in-Some.field-0) ≡ entry_at c.args.self.now c.args.n = search rules in
    subst (λ o. IfSome o IsSmall) (sym at) (entry_small c.args.self.now c.len-length.ensures.history short c.args.n)
