use Rattle.std.proofs.Common.{◌++◌, ◌∷◌, [], map, string_bytes, ap, sym, ◌∙◌, append_assoc}
use Rattle.wiki_model.specs.Bytes.{pieces}
use Rattle.http_desk.proofs.Bars.{next_piece}
use Rattle.http_desk.proofs.titles.add_pieces.Goals as goal

pub loop-piece-preserved : goal.loop-piece-preserved
loop-piece-preserved c =
    let texts = map string_bytes c.loop-piece.texts.items in
    let after = pieces 124 c.in-Some.after.now in
    ap (λ z. z ++ after) c.in_ok-push_piece.ensures
    ∙ append_assoc texts (c.in-Some.piece.now ∷ []) after
    ∙ ap (λ z. texts ++ z) (sym (next_piece 124 c.loop-piece.rest.now c.in-Some.piece.now c.in-Some.after.now c.in-Some.ensures))
    ∙ c.loop-piece.invariant
