use Rattle.wiki_model.proofs.HeadlineLaws.{positions-moments}
use Rattle.wiki_model.proofs.laws.moments_keep_positions.Goals as goal

pub returns : goal.returns
returns c = positions-moments
