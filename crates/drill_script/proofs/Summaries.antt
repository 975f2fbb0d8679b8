-- One more answer is counted, and the printed line is the model's.
use Rattle.std.proofs.Common.{◌≡◌, ℕ, ◌+◌, Bool, true, false, cond, List, [], ◌∷◌, ◌++◌, length, refl, sym, ap, ◌∙◌, append_assoc, filter, subst, arith}
use Rattle.std.specs.Prelude.{codes, decimal}
use Rattle.std.proofs.lemmas.List.{length-append}
use Rattle.wiki_model.specs.Bytes.{Bytes}
use Rattle.wiki_model.specs.Answers.{Answer}
use Rattle.wiki_model.specs.Generator.{count_of, is_page, is_hit, is_interim, is_saved, is_no_page, is_lag, summary_of}
use Rattle.drill_script.specs.Summary.{IsSummaryOf, one_if, counted, first_text, second_text}
use Rattle.drill_script.specs.declared.count_answers.Summary.{Summary}
use Rattle.farm_base.proofs.Pieces.{right_left, right, left}

one_count : (test : Answer → Bool) (answers : List Answer) (answer : Answer) → count_of test (answers ++ answer ∷ []) ≡ count_of test answers + one_if (test answer)
one_count test [] answer = by_test (test answer)
  where
    by_test : (t : Bool) → length (cond t (answer ∷ []) []) ≡ 0 + cond t 1 0
    by_test true = refl
    by_test false = refl
one_count test (other ∷ answers) answer = by_test (test other) (one_count test answers answer)
  where
    by_test : (t : Bool) → count_of test (answers ++ answer ∷ []) ≡ count_of test answers + one_if (test answer) →
        length (cond t (other ∷ filter test (answers ++ answer ∷ [])) (filter test (answers ++ answer ∷ []))) ≡ length (cond t (other ∷ filter test answers) (filter test answers)) + one_if (test answer)
    by_test true ih = omega (arith, ih)
    by_test false ih = ih

more : (count : ℕ) (test : Answer → Bool) (answers : List Answer) (answer : Answer) → count ≡ count_of test answers → count + one_if (test answer) ≡ count_of test (answers ++ answer ∷ [])
more count test answers answer e = ap (λ n. n + one_if (test answer)) e ∙ sym (one_count test answers answer)

one_more_of : (old : Summary) (answer : Answer) (answers : List Answer) → IsSummaryOf old answers → IsSummaryOf (counted old answer) (answers ++ answer ∷ [])
one_more_of old answer answers s = record {
  answers_are = let e = s.answers_are in let long = length-append answers (answer ∷ []) in omega (arith, e, long);
  saved_are = more old.saved is_saved answers answer s.saved_are;
  pages_are = more old.pages is_page answers answer s.pages_are;
  hits_are = more old.hits is_hit answers answer s.hits_are;
  interim_are = more old.interim is_interim answers answer s.interim_are;
  no_pages_are = more old.no_pages is_no_page answers answer s.no_pages_are;
  lags_are = more old.lags is_lag answers answer s.lags_are;
}

pub one_more : (old new : Summary) (answer : Answer) → new ≡ counted old answer → (answers : List Answer) → IsSummaryOf old answers → IsSummaryOf new (answers ++ answer ∷ [])
one_more old new answer is answers s = subst (λ t. IsSummaryOf t (answers ++ answer ∷ [])) (sym is) (one_more_of old answer answers s)

joined : (p : Bytes) (ps : List Bytes) (q : Bytes) (qs : List Bytes) → right p ps ++ right q qs ≡ right p (ps ++ q ∷ qs)
joined p [] q qs = refl
joined p (r ∷ ps) q qs = append_assoc p (right r ps) (right q qs) ∙ ap (λ l. p ++ l) (joined r ps q qs)

-- the two parts of the line
whole : (steps entries : ℕ) (s : Summary) → first_text steps entries s ++ second_text s ≡ left (codes "stir steps=") (decimal steps ∷ codes " entries=" ∷ decimal entries ∷ codes " saved=" ∷ decimal s.saved ∷ codes " ok=" ∷ decimal s.pages ∷ codes " hit=" ∷ decimal s.hits ∷ codes " interim=" ∷ decimal s.interim ∷ codes " no-page=" ∷ decimal s.no_pages ∷ codes " lag=" ∷ decimal s.lags ∷ codes "\n" ∷ [])
whole steps entries s =
    let more : List Bytes = decimal s.hits ∷ codes " interim=" ∷ decimal s.interim ∷ codes " no-page=" ∷ decimal s.no_pages ∷ codes " lag=" ∷ decimal s.lags ∷ codes "\n" ∷ [] in
    joined (codes "stir steps=") (decimal steps ∷ codes " entries=" ∷ decimal entries ∷ codes " saved=" ∷ decimal s.saved ∷ codes " ok=" ∷ decimal s.pages ∷ []) (codes " hit=") more
    ∙ right_left (codes "stir steps=") (decimal steps ∷ codes " entries=" ∷ decimal entries ∷ codes " saved=" ∷ decimal s.saved ∷ codes " ok=" ∷ decimal s.pages ∷ codes " hit=" ∷ more)

abbrev line : (steps entries a b c d e f : ℕ) → Bytes
line steps entries a b c d e f = left (codes "stir steps=") (decimal steps ∷ codes " entries=" ∷ decimal entries ∷ codes " saved=" ∷ decimal a ∷ codes " ok=" ∷ decimal b ∷ codes " hit=" ∷ decimal c ∷ codes " interim=" ∷ decimal d ∷ codes " no-page=" ∷ decimal e ∷ codes " lag=" ∷ decimal f ∷ codes "\n" ∷ [])

pub summary_is : (steps entries : ℕ) (s : Summary) (text : Bytes) → text ≡ first_text steps entries s ++ second_text s → (answers : List Answer) → IsSummaryOf s answers → text ≡ summary_of steps entries answers
summary_is steps entries s text e answers is =
    e ∙ whole steps entries s
    ∙ ap (λ n. line steps entries n s.pages s.hits s.interim s.no_pages s.lags) is.saved_are ∙ ap (λ n. line steps entries (count_of is_saved answers) n s.hits s.interim s.no_pages s.lags) is.pages_are
    ∙ ap (λ n. line steps entries (count_of is_saved answers) (count_of is_page answers) n s.interim s.no_pages s.lags) is.hits_are
    ∙ ap (λ n. line steps entries (count_of is_saved answers) (count_of is_page answers) (count_of is_hit answers) n s.no_pages s.lags) is.interim_are
    ∙ ap (λ n. line steps entries (count_of is_saved answers) (count_of is_page answers) (count_of is_hit answers) (count_of is_interim answers) n s.lags) is.no_pages_are
    ∙ ap (λ n. line steps entries (count_of is_saved answers) (count_of is_page answers) (count_of is_hit answers) (count_of is_interim answers) (count_of is_no_page answers) n) is.lags_are
