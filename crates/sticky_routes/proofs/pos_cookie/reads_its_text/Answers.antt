use Rattle.sticky_routes.proofs.RoundTrip.{reads_its_text}
use Rattle.sticky_routes.proofs.pos_cookie.reads_its_text.Goals as goal

pub returns : goal.returns
returns c = reads_its_text
