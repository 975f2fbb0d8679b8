-- A title's own text reads as the title: it is cleaned to itself, so it has a name and is short as before, and it has
-- no bad byte.
use Rattle.std.proofs.Common.{◌≡◌, ℕ, ◌≤◌, Bool, true, false, if◌then◌else◌, length, Option, Some, None, Ok, Err, Result, refl, sym, subst, arith, nat_lt}
use Rattle.std.specs.List.{position}
use Rattle.std.proofs.lemmas.Bool.Decides.{nat_tests}
use Rattle.wiki_model.specs.Bytes.{Bytes}
use Rattle.wiki_model.specs.Titles.{Title, TitleRefusal, Empty, TooLong, title_of, title_text, has_no_name, is_bad, good_characters}
use Rattle.wiki_model.specs.Limits.{title_max}
use Rattle.wiki_titles.proofs.Named.{names_title}
use Rattle.title_laws.proofs.Classes.{IsClean, title_text_clean, clean_same}
use Rattle.title_laws.proofs.GoodBytes.{AreGood, good_bytes, no_place, title_text_good}

-- the tests that a text passed that reads as a title
pub record WasRead (text title : Bytes) : Type 0 where
  pub cleaned : title ≡ title_text text
  pub named : has_no_name title ≡ false
  pub short : length title ≤ 255
  pub good : AreGood text

abbrev tested : (unnamed long : Bool) → Option ℕ → Title → Result Title TitleRefusal
tested unnamed long place title = if unnamed then Err Empty else (if long then Err TooLong else good_characters title place)

all_passed : (unnamed long : Bool) (place : Option ℕ) (made title : Title) → tested unnamed long place made ≡ Ok title
    → (unnamed ≡ false) × (long ≡ false) × (place ≡ None) × (title ≡ made)
all_passed true long place made title e = let wrong : ⊥ = cc in absurd wrong
all_passed false true place made title e = let wrong : ⊥ = cc in absurd wrong
all_passed false false (Some place) made title e = let wrong : ⊥ = cc in absurd wrong
all_passed false false None made title e = (refl, refl, refl, cc)

pub was_read : (text title : Bytes) → title_of text ≡ Ok title → WasRead text title
was_read text title read =
    let made = title_text text in
    let tests = all_passed (has_no_name made) (nat_lt title_max (length made)) (position is_bad text) made title read in
    let cleaned : title ≡ made = tests.3 in
    let short : nat_lt 255 (length title) ≡ false = subst (λ t. nat_lt 255 (length t) ≡ false) (sym cleaned) tests.1 in
    record {
      cleaned = cleaned;
      named = subst (λ t. has_no_name t ≡ false) (sym cleaned) tests.0;
      short = grind (arith, nat_tests, short);
      good = good_bytes text tests.2;
    }

-- a text that is cleaned to a title that was read, and has no bad byte, reads as that title
pub reads_as : (text title again : Bytes) → WasRead text title → title_text again ≡ title → AreGood again → title_of again ≡ Ok title
reads_as text title again was cleaned good = names_title again title (sym cleaned) was.named was.short (no_place again good)

pub title_same : (text title : Bytes) → WasRead text title → title_text title ≡ title
title_same text title was = clean_same title (subst IsClean (sym was.cleaned) (title_text_clean text))

pub title_good : (text title : Bytes) → WasRead text title → AreGood title
title_good text title was = subst AreGood (sym was.cleaned) (title_text_good text was.good)

pub titles-read-back : (text : Bytes) (title : Title) → title_of text ≡ Ok title → title_of title ≡ Ok title
titles-read-back text title read =
    let was = was_read text title read in
    reads_as text title title was (title_same text title was) (title_good text title was)
