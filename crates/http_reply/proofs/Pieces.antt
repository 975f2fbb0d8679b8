-- What `format!` prints associates to the right, and the definitions to the left: the same pieces, so the same text.
use Rattle.std.proofs.Common.{◌≡◌, ℕ, Result, Ok, Err, Bool, true, false, [], ◌∷◌, ◌++◌, sym, ap, ◌∙◌}
use Rattle.std.specs.Prelude.{codes, decimal, if◌then◌else◌, IfOk, string_bytes, String}
use Rattle.wiki_model.specs.Bytes.{Bytes}
use Rattle.farm_base.proofs.Pieces.{right_left}
use Rattle.http_reply.specs.Reply.{phrase, end_of_line, field_line, content_type, first_fields, printed_first_fields}

pub first_fields_are : (status : ℕ) (html : Bool) (count : ℕ) → printed_first_fields status (phrase status) (if html then codes "html" else codes "plain") count ≡ first_fields status html count
first_fields_are status true count =
    right_left (codes "HTTP/1.1 ") (decimal status ∷ codes " " ∷ phrase status ∷ end_of_line ∷ field_line (codes "Content-Type", content_type true) ∷ field_line (codes "Content-Length", decimal count) ∷ [])
first_fields_are status false count =
    right_left (codes "HTTP/1.1 ") (decimal status ∷ codes " " ∷ phrase status ∷ end_of_line ∷ field_line (codes "Content-Type", content_type false) ∷ field_line (codes "Content-Length", decimal count) ∷ [])

-- one field after what there is
pub field_is : (before name value : Bytes) → ((((before ++ name) ++ codes ": ") ++ value) ++ codes "\r\n") ≡ before ++ field_line (name, value)
field_is before name value = sym (right_left before (name ∷ codes ": " ∷ value ∷ codes "\r\n" ∷ [])) ∙ ap (λ xs. before ++ xs) (right_left name (codes ": " ∷ value ∷ codes "\r\n" ∷ []))

pub string_is : {E A : Type 0} (result : Result (String A) E) (text same : Bytes) → text ≡ same → IfOk result (λ s. string_bytes s ≡ text) → IfOk result (λ s. string_bytes s ≡ same)
string_is (Ok s) text same is said = said ∙ is
string_is (Err e) text same is said = tt
