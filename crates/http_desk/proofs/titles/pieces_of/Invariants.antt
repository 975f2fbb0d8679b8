use Rattle.std.proofs.Common.{◌≡◌, ◌++◌, map, drop}
use Rattle.std.specs.Prelude.{string_bytes, flat_map}
use Rattle.wiki_model.specs.Bytes.{pieces}
use Rattle.http_desk.proofs.titles.pieces_of.Given as goal

abbrev pub invariant-loop-value : goal.invariant-loop-value
invariant-loop-value l = map string_bytes l.texts.items ++ flat_map (pieces 124) (map string_bytes (drop l.value-index l.values)) ≡ flat_map (pieces 124) (map string_bytes l.values)
