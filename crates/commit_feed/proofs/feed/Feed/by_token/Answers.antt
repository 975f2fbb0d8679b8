use Rattle.std.proofs.Common.{sym, ◌∙◌, map}
use Rattle.commit_feed.specs.AsModel.{entry_of}
use Rattle.commit_feed.proofs.Turns.{with_token_is}
use Rattle.commit_feed.proofs.feed.Feed.by_token.Goals as goal

pub returns : goal.returns
returns c = rw (← c.self.view_is) (c.first_of.ensures ∙ rw c.deref.ensures.value (sym (with_token_is (map entry_of c.self.inside.entries.items) c.args.client.now c.args.token.now)))
