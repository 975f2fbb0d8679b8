use Rattle.std.proofs.Common.{◌<◌, ap, ◌∙◌, arith}
use Rattle.std.specs.Prelude.{option_map}
use Rattle.commit_feed.specs.AsModel.{entry_of}
use Rattle.commit_feed.proofs.Turns.{entry_is}
use Rattle.revision_keeper.proofs.indexed_history.entry_in.Goals as goal

pub returns : goal.returns
returns c =
    let n = c.args.n in
    let some : 0 < n = omega (arith, c.if-n-eq0.false) in
    ap (option_map entry_of) c.entry_from.ensures ∙ entry_is c.args.entries.now n some
