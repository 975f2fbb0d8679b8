use Rattle.std.proofs.Common.{◌<◌, ap, ◌∙◌, arith}
use Rattle.std.specs.Prelude.{option_map}
use Rattle.commit_feed.specs.AsModel.{entry_of}
use Rattle.commit_feed.proofs.Turns.{entry_is}
use Rattle.commit_feed.proofs.feed.Feed.entry.Goals as goal

pub returns : goal.returns
returns c =
    let n = c.args.n in
    let some : 0 < n = omega (arith, c.if-n-eq0.false) in
    rw (← c.self.view_is) (ap (option_map entry_of) (rw (← c.deref.ensures.value) c.entry_at.ensures) ∙ entry_is c.self.inside.entries.items n some)
