use Rattle.wiki_model.proofs.StoreLaws.{put-note}
use Rattle.wiki_model.proofs.laws.notes_are_allowed.Goals as goal

pub returns : goal.returns
returns c = put-note
