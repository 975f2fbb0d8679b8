-- The rows of a store as the model's definitions have them.
use Rattle.std.specs.Prelude.{option_map}
use Rattle.wiki_model.specs.Positions as model
use Rattle.chronology_store.specs.declared.position_row.HeldPosition.{HeldPosition}
use Rattle.chronology_store.specs.ChronologyStore.{Positions, row_of}

abbrev pub held_of : HeldPosition → model.Held
held_of held = record { index = held.index; position = held.position; expires = held.expires }

abbrev pub rows_in : Positions → model.Rows
rows_in positions client = option_map held_of (row_of positions client).held
