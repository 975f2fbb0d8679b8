-- The printed texts are the model's, and so are the lines of one answer.
use Rattle.std.proofs.Common.{◌≡◌, ℕ, Bool, not, [], ◌∷◌, ◌++◌, length, refl, ap, ◌∙◌, append_assoc}
use Rattle.std.specs.Prelude.{codes, decimal}
use Rattle.std.specs.Arc.{arc_value}
use Rattle.wiki_model.specs.Bytes.{Bytes}
use Rattle.wiki_model.specs.Report.{origin_text, by_text, answer_text, page_of, report_line, end_line}
use Rattle.farm_base.proofs.Pieces.{right_left}
use Rattle.region_state.specs.AsModel.{answer_of}
use Rattle.region_state.specs.declared.answer.Answer.{Answer}
use Rattle.region_state.specs.declared.answer.Answer.TheVariants as answers
use Rattle.drill_script.specs.Texts.{text_of, numbered_text, end_text, shown_note, lagged_text}

pub text_is : (with_note : Bool) (answer : Answer) → text_of with_note answer ≡ answer_text with_note (answer_of answer)
text_is with_note (answers.Ok p) =
    right_left (codes "ok source=") (decimal p.source ∷ codes " from=" ∷ origin_text p.origin ∷ shown_note with_note p ∷ codes " lagged=" ∷ lagged_text p.lagged ∷ codes " bytes=" ∷ decimal (length (arc_value p.page)) ∷ [])
text_is with_note (answers.Saved s) =
    right_left (codes "saved entry=") (decimal s.entry ∷ codes " revision=" ∷ decimal s.revision ∷ codes " cookie=" ∷ (decimal s.index ++ 64 ∷ decimal s.seconds) ∷ [])
text_is with_note (answers.NoPage source) = refl
text_is with_note (answers.Conflict base current) = right_left (codes "conflict base=") (decimal base ∷ codes " current=" ∷ decimal current ∷ [])
text_is with_note (answers.Token entry) = refl
text_is with_note (answers.Lag by needed reached) = right_left (codes "lag ") (by_text by ∷ codes " needed=" ∷ decimal needed ∷ codes " reached=" ∷ decimal reached ∷ [])
text_is with_note (answers.Miss cause) = refl
text_is with_note (answers.NotOpen id) = refl
text_is with_note (answers.Unknown message) = refl
text_is with_note (answers.Gone message) = refl
text_is with_note answers.Store = refl
text_is with_note answers.Memory = refl

pub end_is : (n entries : ℕ) → end_text n entries ≡ end_line n entries
end_is n entries = right_left (codes "end answers=") (decimal n ∷ codes " entries=" ∷ decimal entries ∷ codes "\n" ∷ [])

-- a line and a page after it
lines_join : (number text page : Bytes) → (number ++ (codes " " ++ (text ++ codes "\n"))) ++ page ≡ ((number ++ codes " ") ++ text) ++ (10 ∷ page)
lines_join number text page =
    append_assoc number (codes " " ++ (text ++ codes "\n")) page ∙ ap (λ xs. number ++ (codes " " ++ xs)) (append_assoc text (codes "\n") page)
    ∙ right_left number (codes " " ∷ text ∷ (10 ∷ page) ∷ [])

pub head_is : (line : ℕ) (composite : Bool) (answer : Answer) (said head : Bytes) → said ≡ answer_text (not composite) (answer_of answer) → head ≡ numbered_text line said
    → head ++ page_of (answer_of answer) ≡ report_line line composite (answer_of answer)
head_is line composite answer said head is whole =
    ap (λ h. h ++ page_of (answer_of answer)) (whole ∙ ap (numbered_text line) is) ∙ lines_join (decimal line) (answer_text (not composite) (answer_of answer)) (page_of (answer_of answer))
