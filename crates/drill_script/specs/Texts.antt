-- The texts of answers, put together from the right as they are printed.
-- Each is the model's text of the same answer.
use Rattle.std.specs.Prelude.{ℕ, Bool, [], ◌++◌, length, if◌then◌else◌, codes, decimal}
use Rattle.std.specs.Arc.{arc_value}
use Rattle.wiki_model.specs.declared.Behind.{Behind}
use Rattle.wiki_model.specs.Bytes.{Bytes}
use Rattle.wiki_model.specs.Report.{origin_text, put_text, by_text, cause_text}
use Rattle.edit_core.specs.declared.edit_ask.SavedNote.{SavedNote}
use Rattle.region_state.specs.declared.answer.PageAnswer.{PageAnswer}
use Rattle.region_state.specs.declared.answer.Answer.{Answer}
use Rattle.region_state.specs.declared.answer.Answer.TheVariants as answers

abbrev pub page_text : (source : ℕ) → (origin put lagged : Bytes) → (bytes : ℕ) → Bytes
page_text source origin put lagged bytes =
    codes "ok source="
    ++ (decimal source
    ++ (codes " from=" ++ (origin ++ (put ++ (codes " lagged=" ++ (lagged ++ (codes " bytes=" ++ decimal bytes)))))))

abbrev pub shown_note : (with_note : Bool) → PageAnswer → Bytes
shown_note with_note p = if with_note then put_text p.put else []

abbrev pub lagged_text : Bool → Bytes
lagged_text lagged = if lagged then codes "1" else codes "0"

abbrev pub saved_text : SavedNote → Bytes
saved_text s =
    codes "saved entry="
    ++ (decimal s.entry
    ++ (codes " revision="
    ++ (decimal s.revision ++ (codes " cookie=" ++ (decimal s.index ++ (codes "@" ++ decimal s.seconds))))))

abbrev pub conflict_text : (base current : ℕ) → Bytes
conflict_text base current = codes "conflict base=" ++ (decimal base ++ (codes " current=" ++ decimal current))

abbrev pub lag_text : Behind → (needed reached : ℕ) → Bytes
lag_text by needed reached =
    codes "lag " ++ (by_text by ++ (codes " needed=" ++ (decimal needed ++ (codes " reached=" ++ decimal reached))))

abbrev pub text_of : (with_note : Bool) → Answer → Bytes
text_of with_note (answers.Ok p) =
    page_text p.source (origin_text p.origin) (shown_note with_note p) (lagged_text p.lagged)
    (length (arc_value p.page))
text_of with_note (answers.Saved saved) = saved_text saved
text_of with_note (answers.NoPage source) = codes "no-page source=" ++ decimal source
text_of with_note (answers.Conflict base current) = conflict_text base current
text_of with_note (answers.Token entry) = codes "token entry=" ++ decimal entry
text_of with_note (answers.Lag by needed reached) = lag_text by needed reached
text_of with_note (answers.Miss cause) = codes "miss " ++ cause_text cause
text_of with_note (answers.NotOpen id) = codes "not-open id=" ++ decimal id
text_of with_note (answers.Unknown message) = codes "unknown message=" ++ decimal message
text_of with_note (answers.Gone message) = codes "gone message=" ++ decimal message
text_of with_note answers.Store = codes "store"
text_of with_note answers.Memory = codes "memory"

-- the line of an answer, without a page's bytes
abbrev pub numbered_text : (line : ℕ) → Bytes → Bytes
numbered_text line text = decimal line ++ (codes " " ++ (text ++ codes "\n"))

abbrev pub end_text : (answers entries : ℕ) → Bytes
end_text answers entries =
    codes "end answers=" ++ (decimal answers ++ (codes " entries=" ++ (decimal entries ++ codes "\n")))
