use Rattle.purge_relay.proofs.SameBody.{same_says}
use Rattle.purge_relay.proofs.message.same_says_equal.Goals as goal

pub returns : goal.returns
returns c = same_says
