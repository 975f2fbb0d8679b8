-- What reading a text answers.
use Rattle.std.specs.Prelude.{◌≡◌, ◌<◌, ◌≤◌, ℕ, List, ◌++◌, length, Result, Ok, Err, codes, decimal}
use Rattle.wiki_titles.specs.declared.text.TextFault.{TextFault}
use Rattle.wiki_titles.specs.declared.text.TextFault.TheVariants.{TooLong, Memory}
use Rattle.wiki_model.specs.Limits.{text_max}
use Rattle.wiki_model.specs.Bytes.{Bytes}
use Rattle.wiki_model.specs.Titles.{Text}

-- the bytes with line feeds if they are few enough, and else their count; nothing is said when memory runs out
abbrev pub ReadsText : Result Text TextFault → Bytes → Type 0
ReadsText (Ok text) read = (text ≡ read) × (length read ≤ text_max)
ReadsText (Err (TooLong bytes)) read = (bytes ≡ length read) × (text_max < length read)
ReadsText (Err Memory) read = Unit {0}

-- what a person reads of a refusal
abbrev pub fault_text : TextFault → List ℕ
fault_text (TooLong bytes) = codes "the text has " ++ (decimal bytes ++ codes " bytes, over 65536")
fault_text Memory = codes "out of memory"
