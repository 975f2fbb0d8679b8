-- What reading a token answers.
use Rattle.std.specs.Prelude.{◌≡◌, true, false, ℕ, List, Result, Ok, Err, codes}
use Rattle.wiki_titles.specs.declared.token.TokenFault.{TokenFault}
use Rattle.wiki_titles.specs.declared.token.TokenFault.TheVariants.{Form, Memory}
use Rattle.wiki_model.specs.Bytes.{Bytes}
use Rattle.wiki_model.specs.Titles.{Token, is_token}

-- the bytes themselves if they are a token, and else the refusal; nothing is said when memory runs out
abbrev pub ReadsToken : Result Token TokenFault → Bytes → Type 0
ReadsToken (Ok token) text = (token ≡ text) × (is_token text ≡ true)
ReadsToken (Err Form) text = is_token text ≡ false
ReadsToken (Err Memory) text = Unit {0}

-- what a person reads of a refusal
abbrev pub fault_text : TokenFault → List ℕ
fault_text Form = codes "a token is 1 to 64 letters, digits, - or _"
fault_text Memory = codes "out of memory"
