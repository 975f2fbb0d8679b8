use Rattle.std.proofs.Common.{Some, refl, ap, sym}
use Rattle.std.proofs.lemmas.Str.{is_utf8-from_IsUtf8}
use Rattle.farm_base.proofs.Pieces.{not_utf8}
use Rattle.drill_script.proofs.words.utf8_of.Goals as goal

pub returns-in-Ok : goal.returns-in-Ok
returns-in-Ok c = rw (is_utf8-from_IsUtf8 c.args.line.now c.in-Ok.ensures.cases.1) (ap Some (sym c.in-Ok.ensures.cases.0))

pub returns-in-Err : goal.returns-in-Err
returns-in-Err c = rw (not_utf8 c.args.line.now c.in-Err.ensures.cases.0) refl
