-- A cookie's parts as they stand in the text mean the cookie or refusal that the text means.
use Rattle.std.proofs.Common.{◌≡◌, ℕ, Bool, true, false, Some, refl, sym, ◌∙◌, ap}
use Rattle.std.specs.List.{list_all}
use Rattle.std.proofs.Math.Bool.{and-false}
use Rattle.wiki_model.specs.Bytes.{Bytes}
use Rattle.wiki_model.specs.Titles.{is_digit, is_client}
use Rattle.wiki_model.specs.Cookies.{with_marks, are_digits, is_index, cookie_of_parts, position_in}
use Rattle.sticky_routes.specs.Escapes.{ReadsAs, IsCut}
use Rattle.sticky_routes.proofs.Clients.{client_same}

no_digits : (most : ℕ) (text : Bytes) → list_all is_digit text ≡ false → are_digits most text ≡ false
no_digits most text e = rw e (and-false _)

seconds_same : (index meant seconds client : Bytes) → ReadsAs meant seconds → cookie_of_parts (Some (index, meant, client)) ≡ cookie_of_parts (Some (index, seconds, client))
seconds_same index meant seconds client is = by (list_all is_digit seconds) refl
  where
    by : (b : Bool) → list_all is_digit seconds ≡ b → cookie_of_parts (Some (index, meant, client)) ≡ cookie_of_parts (Some (index, seconds, client))
    by true e = ap (λ (s : Bytes). cookie_of_parts (Some (index, s, client))) (is.plain e)
    by false e = rw (no_digits 16 meant (is.digits ∙ e), no_digits 16 seconds e) refl

no_index : (text : Bytes) → list_all is_digit text ≡ false → is_index text ≡ false
no_index text e = rw (no_digits 19 text e) refl

index_same : (meant index seconds client : Bytes) → ReadsAs meant index → cookie_of_parts (Some (meant, seconds, client)) ≡ cookie_of_parts (Some (index, seconds, client))
index_same meant index seconds client is = by (list_all is_digit index) refl
  where
    by : (b : Bool) → list_all is_digit index ≡ b → cookie_of_parts (Some (meant, seconds, client)) ≡ cookie_of_parts (Some (index, seconds, client))
    by true e = ap (λ (i : Bytes). cookie_of_parts (Some (i, seconds, client))) (is.plain e)
    by false e = rw (no_index meant (is.digits ∙ e), no_index index e) refl

client_part : (index seconds client : Bytes) → cookie_of_parts (Some (index, seconds, with_marks client)) ≡ cookie_of_parts (Some (index, seconds, client))
client_part index seconds client = by (is_client client) refl
  where
    by : (b : Bool) → is_client client ≡ b → cookie_of_parts (Some (index, seconds, with_marks client)) ≡ cookie_of_parts (Some (index, seconds, client))
    by true e = ap (λ (c : Bytes). cookie_of_parts (Some (index, seconds, c))) ((client_same client).0 e)
    by false e = rw ((client_same client).1 e, e) refl

pub both_marks : (text index rest seconds client : Bytes) → IsCut 64 text (Some (index, rest)) → IsCut 35 rest (Some (seconds, client))
    → cookie_of_parts (Some (index, seconds, client)) ≡ position_in text
both_marks text index rest seconds client first second =
    let whole : position_in text ≡ cookie_of_parts (Some (first.0, second.0, with_marks client)) = rw (first.2, second.2) refl in
    sym (whole ∙ client_part first.0 second.0 client ∙ seconds_same first.0 second.0 seconds client second.1 ∙ index_same first.0 index seconds client first.1)
