-- What reading a title answers, against the title or refusal that the model names.
use Rattle.std.specs.Prelude.{◌≡◌, ◌≤◌, ℕ, Bool, ◌==◌, ◌||◌, List, ◌++◌, length, Result, Ok, Err, codes, decimal}
use Rattle.std.specs.List.{list_any}
use Rattle.wiki_titles.specs.declared.title.TitleFault.{TitleFault}
use Rattle.wiki_titles.specs.declared.title.TitleFault.TheVariants as fault
use Rattle.wiki_model.specs.Limits.{title_max}
use Rattle.wiki_model.specs.Bytes.{Bytes}
use Rattle.wiki_model.specs.Titles.{Title, TitleRefusal, Empty, TooLong, BadCharacter, title_of, is_letter, is_digit}

-- nothing is said when memory runs out
abbrev pub ReadsTitle : Result Title TitleFault → Result Title TitleRefusal → Type 0
ReadsTitle (Ok title) read = read ≡ Ok title
ReadsTitle (Err fault.Empty) read = read ≡ Err Empty
ReadsTitle (Err fault.TooLong) read = read ≡ Err TooLong
ReadsTitle (Err (fault.BadCharacter place)) read = read ≡ Err (BadCharacter place)
ReadsTitle (Err fault.Memory) read = Unit {0}

-- some text names this title
abbrev pub IsTitle : Title → Type 0
IsTitle title = (text : Bytes) × (title_of text ≡ Ok title)

-- what holds of every title that was read
abbrev pub IsShortTitle : Title → Type 0
IsShortTitle title = (length title ≤ title_max) × IsTitle title

-- the bytes that stand for themselves in a path
abbrev pub stays_in_path : ℕ → Bool
stays_in_path c = is_letter c || is_digit c || list_any (λ plain. plain == c) (codes "-._~/:")

-- what a person reads of a refusal
abbrev pub fault_text : TitleFault → List ℕ
fault_text fault.Empty = codes "the title is empty"
fault_text fault.TooLong = codes "the title has over 255 bytes"
fault_text (fault.BadCharacter place) =
    codes "byte " ++ (decimal place ++ codes " stands in no title")
fault_text fault.Memory = codes "out of memory"
