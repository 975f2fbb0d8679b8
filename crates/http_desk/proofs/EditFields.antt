-- The fields of an edit are readable if its base is a number and its token is one.
use Rattle.std.proofs.Common.{◌≡◌, ℕ, Bool, true, false, Some, None, if◌then◌else◌, refl}
use Rattle.wiki_model.specs.Bytes.{Bytes}
use Rattle.wiki_model.specs.Titles.{is_token, with_line_feeds}
use Rattle.wiki_model.specs.Cookies.{number_in}
use Rattle.http_desk.specs.Calls.{is_base, base_in, edit_text, edit_fields}

pub fields_read : (title base token text : Bytes) (n : ℕ) → Some n ≡ base_in base → is_token token ≡ true
    → edit_fields title (Some base) (Some token) (Some text) ≡ edit_text title n token (with_line_feeds text)
fields_read title base token text n e is = by (is_base base) refl e
  where
    some_is : (k : ℕ) → Some n ≡ Some k → n ≡ k
    some_is k q = cc q

    by : (b : Bool) → is_base base ≡ b → Some n ≡ (if b then Some (number_in base) else None)
        → edit_fields title (Some base) (Some token) (Some text) ≡ edit_text title n token (with_line_feeds text)
    by true q e = rw (q, is, some_is (number_in base) e) refl
    by false q e = absurd (cc e)
