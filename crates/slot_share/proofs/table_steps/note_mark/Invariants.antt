use Rattle.std.proofs.Common.{Some}
use Rattle.slot_share.proofs.table_steps.note_mark.Given as goal

abbrev pub ghosts-load_noting : goal.ghosts-load_noting
ghosts-load_noting g a = record { what = Some (record { key = a._key.now; value = a._value.now }) }
