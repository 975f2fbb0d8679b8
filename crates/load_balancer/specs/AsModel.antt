-- What the rows of this crate stand for in the model's definition of the choice.
use Rattle.std.specs.Prelude.{List, map}
use Rattle.wiki_model.specs.Balance as model
use Rattle.load_balancer.specs.declared.Row.{Row}

abbrev pub row_of : Row → model.Row
row_of row = record { weight = row.weight; lag = row.lag; applied = row.applied }

abbrev pub rows_of : List Row → List model.Row
rows_of rows = map row_of rows
