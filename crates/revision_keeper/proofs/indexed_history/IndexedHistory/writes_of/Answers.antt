use Rattle.std.proofs.Common.{◌≡◌, ◌<◌, ◌^◌, length, sym, ◌∙◌, subst, arith}
use Rattle.revision_keeper.specs.Bounds.{AreSmall, writes_of}
use Rattle.revision_keeper.proofs.Small.{writes_small}
use Rattle.revision_keeper.proofs.indexed_history.IndexedHistory.writes_of.Goals as goal

pub returns-clause-small : goal.returns-clause-small
returns-clause-small c =
    let short : length c.args.self.now < 2 ^ 63 = let is = c.len-length.ensures.len in let small = c.len-length.ensures.small in omega (arith, is, small) in
    let is : c.writes_of.result ≡ writes_of c.args.self.now c.args.client.now = rw (← c.self.view_is) (c.writes_of.ensures ∙ c.self.invariant.writes c.args.client.now) in
    subst AreSmall (sym is) (writes_small c.args.self.now c.len-length.ensures.history short c.args.client.now)
