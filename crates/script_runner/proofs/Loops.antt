-- The loops over a script's lines: before each line the rest is what is left of all, the farm is ready for the next, and its
-- answer is told after those before it.
use Rattle.std.proofs.Common.{◌≡◌, ℕ, suc, ◌+◌, ◌≤◌, List, [], ◌∷◌, ◌++◌, length, Option, None, Some, refl, sym, ap, subst, ◌∙◌, arith, append-nil, append_assoc, length-append}
use Rattle.wiki_model.specs.declared.Readings.{Readings}
use Rattle.wiki_model.specs.Bytes.{Bytes}
use Rattle.wiki_model.specs.History.{Entry}
use Rattle.wiki_model.specs.Cache.{CacheMap}
use Rattle.wiki_model.specs.Answers.{Answer}
use Rattle.wiki_model.specs.Script.{Line, is_composite}
use Rattle.wiki_model.specs.Report.{no_readings, readings_after, report_line}
use Rattle.drill_script.specs.AsModel.{line_of}
use Rattle.drill_script.specs.ReadScript.{lines_of}
use Rattle.drill_script.specs.Summary.{IsSummaryOf, IsOrdered}
use Rattle.drill_script.specs.declared.script_line.ScriptLine.{ScriptLine}
use Rattle.drill_script.specs.declared.count_answers.Summary.{Summary}
use Rattle.farm_core.specs.FarmParts.{FarmParts, IsWhole}
use Rattle.farm_steps.specs.RequestMap.{open_at}
use Rattle.script_runner.specs.MakeLine.{IsReadyFor, MakesLine}
use Rattle.script_runner.specs.RunSoFar.{line_report, answers_more}
use Rattle.script_runner.specs.RunScript.{IsRunnable, IsUnderWay, IsReported, Continues, Tells, IsTelling, IsCounting, Reports, Counts}
use Rattle.script_runner.specs.declared.report_state.ReportState.TheVariants as state
use Rattle.script_runner.specs.declared.report_state.Told.{Told}
use Rattle.script_runner.specs.declared.report_state.LinePlace.{LinePlace}
use Rattle.script_runner.proofs.Reported.{reported_none, reported_more}
use Rattle.script_runner.proofs.UnderWay.{nothing_done, ready_next, free_next, one_done}

lines_then : (done rest : List ScriptLine) (l : ScriptLine) → lines_of (done ++ l ∷ rest) ≡ lines_of done ++ line_of l ∷ lines_of rest
lines_then [] rest l = refl
lines_then (d ∷ done) rest l = ap (λ ls. line_of d ∷ ls) (lines_then done rest l)

lines_length : (done : List ScriptLine) → length (lines_of done) ≡ length done
lines_length [] = refl
lines_length (d ∷ done) = ap suc (lines_length done)

-- how many lines are left after one more
pub left_length : (n after : ℕ) (items rest : List ScriptLine) (l : ScriptLine) → n ≡ length items → (items ≡ l ∷ rest) × (after + 1 ≡ n) → after ≡ length rest
left_length n after items rest l whole step = let size : length items ≡ suc (length rest) = ap length step.0 in let less = step.1 in omega (arith, whole, less, size)

moved : (done rest all : List ScriptLine) (l : ScriptLine) → done ++ l ∷ rest ≡ all → (done ++ l ∷ []) ++ rest ≡ all
moved done rest all l e = append_assoc done (l ∷ []) rest ∙ e

module _ {K S : Type 0} (content : K → Option (List Entry)) (faults : K → ℕ) (cache_of : S → CacheMap Bytes) where
  -- what every line finds, whether answers are told or counted
  module _ (first now : FarmParts K S) (at : Readings) (all done rest items : List ScriptLine) (l : ScriptLine) (text : Bytes) (answers : List Answer)
      (runnable : IsRunnable first (lines_of all)) (left : items ≡ l ∷ rest) (all_is : done ++ items ≡ all) (u : IsUnderWay content faults cache_of first now at (lines_of done) text answers) where
    whole_now : done ++ l ∷ rest ≡ all
    whole_now = ap (λ (ls : List ScriptLine). done ++ ls) (sym left) ∙ all_is

    runs_all : IsRunnable first (lines_of done ++ line_of l ∷ lines_of rest)
    runs_all = subst (λ (ls : List Line). IsRunnable first ls) (sym (ap lines_of whole_now) ∙ lines_then done rest l) runnable

    pub finds_ready : IsReadyFor now l
    finds_ready = ready_next content faults cache_of first now at (lines_of done) text answers l (lines_of rest) runs_all u

    pub finds_free : open_at now.requests 0 ≡ None
    finds_free = free_next content faults cache_of first now at (lines_of done) text answers (line_of l ∷ lines_of rest) runs_all u

    pub done_then : (new : FarmParts K S) (after : Readings) (said : Option Answer) → after ≡ readings_after (line_of l) at → MakesLine content faults cache_of now new after (line_of l) said
        → IsUnderWay content faults cache_of first new after (lines_of (done ++ l ∷ [])) (text ++ line_report (1 + length done) (line_of l) said) (answers_more answers said)
    done_then new after said at_is makes =
        let one = one_done content faults cache_of first now new at after (lines_of done) text answers (line_of l) said u at_is makes in
        subst (λ (ls : List Line). IsUnderWay content faults cache_of first new after ls (text ++ line_report (1 + length done) (line_of l) said) (answers_more answers said)) (sym (lines_then done [] l))
        (subst (λ n. IsUnderWay content faults cache_of first new after (lines_of done ++ line_of l ∷ []) (text ++ line_report (1 + n) (line_of l) said) (answers_more answers said)) (lines_length done) one)

  pub counting_none : (first : FarmParts K S) (at : Readings) (all items : List ScriptLine) (summary : Summary) → IsRunnable first (lines_of all) → at ≡ no_readings → items ≡ all → IsSummaryOf summary [] → IsOrdered summary
      → IsCounting content faults cache_of first first at all [] items summary
  counting_none first at all items summary r at_is items_are counted ordered = record {
    text = [];
    answers = [];
    all_is = items_are;
    under_way = subst (λ (now : Readings). IsUnderWay content faults cache_of first first now [] [] []) (sym at_is) (nothing_done content faults cache_of first (lines_of all) r);
    counted = counted;
    ordered = ordered;
  }

  pub counting_more : (first now new : FarmParts K S) (at after : Readings) (all done rest items : List ScriptLine) (l : ScriptLine) (summary more : Summary) (said : Option Answer) → IsRunnable first (lines_of all) → items ≡ l ∷ rest
      → IsCounting content faults cache_of first now at all done items summary → after ≡ readings_after (line_of l) at → MakesLine content faults cache_of now new after (line_of l) said
      → ((answers : List Answer) → IsSummaryOf summary answers → IsSummaryOf more (answers_more answers said)) → IsOrdered more
      → IsCounting content faults cache_of first new after all (done ++ l ∷ []) rest more
  counting_more first now new at after all done rest items l summary more said r left c at_is makes counts ordered = record {
    text = c.text ++ line_report (1 + length done) (line_of l) said;
    answers = answers_more c.answers said;
    all_is = moved done rest all l (ap (λ (ls : List ScriptLine). done ++ ls) (sym left) ∙ c.all_is);
    under_way = done_then first now at all done rest items l c.text c.answers r left c.all_is c.under_way new after said at_is makes;
    counted = counts c.answers c.counted;
    ordered = ordered;
  }

  pub counted_all : (first now : FarmParts K S) (at : Readings) (all done items : List ScriptLine) (summary : Summary) → items ≡ [] → IsCounting content faults cache_of first now at all done items summary
      → IsWhole now × Counts content faults cache_of first now (lines_of all) summary
  counted_all first now at all done items summary none c =
      let same : done ≡ all = sym (append-nil done) ∙ ap (λ (ls : List ScriptLine). done ++ ls) (sym none) ∙ c.all_is in (
        c.under_way.whole,
        record {
          text = c.text;
          answers = c.answers;
          run = subst (λ (ls : List Line). Rattle.script_runner.specs.RunScript.HasRun content faults cache_of first now ls c.text c.answers) (ap lines_of same) c.under_way.run;
          counts = c.under_way.counts;
          counted = c.counted;
        },
      )

  -- how many answers there are
  pub few_answers : (first now : FarmParts K S) (at : Readings) (all done items : List ScriptLine) (text : Bytes) (answers : List Answer) → done ++ items ≡ all → IsUnderWay content faults cache_of first now at (lines_of done) text answers
      → length answers ≤ length all
  few_answers first now at all done items text answers all_is u =
      let size : length all ≡ length done + length items = sym (ap length all_is) ∙ length-append done items in
      let same : length (lines_of done) ≡ length done = lines_length done in
      omega (arith, size, same, u.few)

  pub telling_none : (first : FarmParts K S) (at : Readings) (all items : List ScriptLine) (number : ℕ) (told : Told) (w : Option Bytes) (f : ℕ) → IsRunnable first (lines_of all) → at ≡ no_readings → items ≡ all → number ≡ 0 → told ≡ record { answers = 0; state = state.Whole }
      → IsTelling content faults cache_of first first at all [] items number told w w f f
  telling_none first at all items number told w f r at_is items_are number_is told_is = record {
    text = [];
    answers = [];
    all_is = items_are;
    under_way = subst (λ (now : Readings). IsUnderWay content faults cache_of first first now [] [] []) (sym at_is) (nothing_done content faults cache_of first (lines_of all) r);
    number_is = number_is;
    counted = ap (λ (t : Told). t.answers) told_is;
    reported = subst (λ (t : Told). IsReported t.state w w f f []) (sym told_is) (reported_none w f);
  }

  -- the lines of one answer more
  told_more : (told after : Told) (n : ℕ) (place : LinePlace) (l : Line) (said : Option Answer) (a b c : Option Bytes) (f g h : ℕ) (text : Bytes) (answers : List Answer) → place ≡ record { number = n; composite = is_composite l } → told.answers ≡ length answers → IsReported told.state a b f g text
      → Tells told after place said b c g h → (after.answers ≡ length (answers_more answers said)) × IsReported after.state a c f h (text ++ line_report n l said)
  told_more told after n place l None a b c f g h text answers place_is counted reported (same, kept, still) = (
    ap (λ (t : Told). t.answers) same ∙ counted,
    subst (λ (t : Told). IsReported t.state a c f h (text ++ [])) (sym same) (subst (λ (x : Bytes). IsReported told.state a c f h x) (sym (append-nil text)) (subst (λ (w : Option Bytes). IsReported told.state a w f h text) (sym kept) (subst (λ n. IsReported told.state a b f n text) (sym still) reported))),
  )
  told_more told after n place l (Some answer) a b c f g h text answers place_is counted reported (more, goes) = (
    more ∙ ap (λ n. n + 1) counted ∙ sym (length-append answers (answer ∷ [])),
    reported_more told.state after.state a b c f g h text (report_line n (is_composite l) answer) reported
        (subst (λ (p : LinePlace). Continues told.state after.state b c g h (report_line p.number p.composite answer)) place_is goes),
  )

  pub telling_more : (first now new : FarmParts K S) (at after : Readings) (all done rest items : List ScriptLine) (l : ScriptLine) (number next : ℕ) (place : LinePlace) (told more : Told) (said : Option Answer) (a b c : Option Bytes) (f g h : ℕ) → IsRunnable first (lines_of all) → items ≡ l ∷ rest
      → IsTelling content faults cache_of first now at all done items number told a b f g → next ≡ number + 1 → place ≡ record { number = next; composite = is_composite (line_of l) } → after ≡ readings_after (line_of l) at → MakesLine content faults cache_of now new after (line_of l) said
      → Tells told more place said b c g h
      → IsTelling content faults cache_of first new after all (done ++ l ∷ []) rest next more a c f h
  telling_more first now new at after all done rest items l number next place told more said a b c f g h r left t next_is place_is at_is makes tells =
      let same : next ≡ 1 + length done = let e = t.number_is in omega (arith, next_is, e) in
      let one = told_more told more (1 + length done) place (line_of l) said a b c f g h t.text t.answers (place_is ∙ ap (λ n. let p : LinePlace = record { number = n; composite = is_composite (line_of l) } in p) same) t.counted t.reported tells in
      let size : length (done ++ l ∷ []) ≡ length done + 1 = length-append done (l ∷ []) in
      record {
        text = t.text ++ line_report (1 + length done) (line_of l) said;
        answers = answers_more t.answers said;
        all_is = moved done rest all l (ap (λ (ls : List ScriptLine). done ++ ls) (sym left) ∙ t.all_is);
        under_way = done_then first now at all done rest items l t.text t.answers r left t.all_is t.under_way new after said at_is makes;
        number_is = omega (arith, same, size);
        counted = one.0;
        reported = one.1;
      }

  pub told_all : (first now : FarmParts K S) (at : Readings) (all done items : List ScriptLine) (number : ℕ) (told : Told) (a b : Option Bytes) (f g : ℕ) → items ≡ [] → IsTelling content faults cache_of first now at all done items number told a b f g
      → IsWhole now × Reports content faults cache_of first now (lines_of all) told a b f g
  told_all first now at all done items number told a b f g none t =
      let same : done ≡ all = sym (append-nil done) ∙ ap (λ (ls : List ScriptLine). done ++ ls) (sym none) ∙ t.all_is in (
        t.under_way.whole,
        record {
          text = t.text;
          answers = t.answers;
          run = subst (λ (ls : List Line). Rattle.script_runner.specs.RunScript.HasRun content faults cache_of first now ls t.text t.answers) (ap lines_of same) t.under_way.run;
          counts = t.under_way.counts;
          counted = t.counted;
          reported = t.reported;
        },
      )
