-- What is counted of the answers of a run.
use Rattle.std.specs.Prelude.{ℕ, ◌≡◌, ◌≤◌, ◌+◌, Bool, List, ◌++◌, length, if◌then◌else◌, codes, decimal}
use Rattle.wiki_model.specs.Bytes.{Bytes}
use Rattle.wiki_model.specs.Answers.{Answer}
use Rattle.wiki_model.specs.Generator.{count_of, is_page, is_hit, is_interim, is_saved, is_no_page, is_lag}
use Rattle.drill_script.specs.declared.count_answers.Summary.{Summary}

-- The counts are those of these answers.
pub record IsSummaryOf (summary : Summary) (answers : List Answer) : Type 0 where
  pub answers_are : summary.answers ≡ length answers
  pub saved_are : summary.saved ≡ count_of is_saved answers
  pub pages_are : summary.pages ≡ count_of is_page answers
  pub hits_are : summary.hits ≡ count_of is_hit answers
  pub interim_are : summary.interim ≡ count_of is_interim answers
  pub no_pages_are : summary.no_pages ≡ count_of is_no_page answers
  pub lags_are : summary.lags ≡ count_of is_lag answers

abbrev pub one_if : Bool → ℕ
one_if t = if t then 1 else 0

abbrev pub counted : Summary → Answer → Summary
counted s answer = record {
  answers = s.answers + 1;
  saved = s.saved + one_if (is_saved answer);
  pages = s.pages + one_if (is_page answer);
  hits = s.hits + one_if (is_hit answer);
  interim = s.interim + one_if (is_interim answer);
  no_pages = s.no_pages + one_if (is_no_page answer);
  lags = s.lags + one_if (is_lag answer);
}

-- No count is past that of the answers.
pub record IsOrdered (s : Summary) : Type 0 where
  pub saved : s.saved ≤ s.answers
  pub pages : s.pages ≤ s.answers
  pub hits : s.hits ≤ s.answers
  pub interim : s.interim ≤ s.answers
  pub no_pages : s.no_pages ≤ s.answers
  pub lags : s.lags ≤ s.answers

-- the line in two parts, each put together from the right as it is printed
abbrev pub first_text : (steps entries : ℕ) → Summary → Bytes
first_text steps entries s =
    codes "stir steps="
    ++ (decimal steps
    ++ (codes " entries="
    ++ (decimal entries ++ (codes " saved=" ++ (decimal s.saved ++ (codes " ok=" ++ decimal s.pages))))))

abbrev pub second_text : Summary → Bytes
second_text s =
    codes " hit="
    ++ (decimal s.hits
    ++ (codes " interim="
    ++ (decimal s.interim
    ++ (codes " no-page=" ++ (decimal s.no_pages ++ (codes " lag=" ++ (decimal s.lags ++ codes "\n")))))))
