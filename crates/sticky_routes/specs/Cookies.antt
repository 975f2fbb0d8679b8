-- The field `Cookie` of a request, as it is read piece by piece.
use Rattle.std.specs.Prelude.{Option, None, Some, option_map, option_and_then, if◌then◌else◌, bytes_eq, codes}
use Rattle.std.specs.Borrow.{Bor}
use Rattle.std.specs.Option.{option_or}
use Rattle.wiki_model.specs.Bytes.{Bytes}
use Rattle.wiki_model.specs.World.{Cookie}
use Rattle.wiki_model.specs.Cookies.{name_and_value, position_in, if_good}

-- the names of our cookies
abbrev pub position_name : Bytes
position_name = codes "cpPosIndex"

abbrev pub master_name : Bytes
master_name = codes "UseDC"

abbrev pub edge_name : Bytes
edge_name = codes "UseCDNCache"

-- a value or a pair that may be there, seen as its bytes
abbrev pub value_of : Option (Bor Bytes) → Option Bytes
value_of value = option_map (λ v. v.now) value

abbrev pub pair_of : Option (Bor Bytes × Bor Bytes) → Option (Bytes × Bytes)
pair_of pair = option_map (λ p. (p.0.now, p.1.now)) pair

-- the value of one pair, if it has the name
abbrev pub if_named : (name : Bytes) → Option (Bytes × Bytes) → Option Bytes
if_named name None = None
if_named name (Some pair) = if bytes_eq pair.0 name then Some pair.1 else None

abbrev pub value_named : (name piece : Bytes) → Option Bytes
value_named name piece = if_named name (name_and_value piece)

-- the old value, or else that of the pair or the piece, if it has the name
abbrev pub or_pair : Bytes → Option (Bor Bytes) → Option (Bor Bytes × Bor Bytes) → Option Bytes
or_pair name old pair = option_or (value_of old) (if_named name (pair_of pair))

abbrev pub or_piece : Bytes → Option (Bor Bytes) → Bytes → Option Bytes
or_piece name old piece = option_or (value_of old) (value_named name piece)

-- the position of a value, if it is one
abbrev pub good_position : Option Bytes → Option Cookie
good_position value = option_and_then (λ text. if_good (position_in text)) value
