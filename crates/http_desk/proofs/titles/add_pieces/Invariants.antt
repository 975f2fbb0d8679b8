use Rattle.std.proofs.Common.{◌≡◌, ◌++◌, map, length}
use Rattle.std.specs.Prelude.{string_bytes}
use Rattle.wiki_model.specs.Bytes.{pieces}
use Rattle.http_desk.proofs.titles.add_pieces.Given as goal

abbrev pub invariant-loop-piece : goal.invariant-loop-piece
invariant-loop-piece l = map string_bytes l.texts.items ++ pieces 124 l.rest ≡ map string_bytes l.fn.texts.items ++ pieces 124 l.value

abbrev pub decreases-loop-piece : goal.decreases-loop-piece
decreases-loop-piece l = length l.rest
