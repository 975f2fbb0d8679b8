-- A script's run goes on line by line: the readings, the replicas and what is closed are known of the lines that are done, and each
-- line's answer comes after those before it.
use Rattle.std.proofs.Common.{◌≡◌, ℕ, ◌+◌, ◌≤◌, List, [], ◌∷◌, ◌++◌, length, Option, None, Some, refl, sym, ap, ◌∙◌, arith, length-append}
use Rattle.wiki_model.specs.declared.Readings.{Readings}
use Rattle.wiki_model.specs.Bytes.{Bytes}
use Rattle.wiki_model.specs.History.{Entry}
use Rattle.wiki_model.specs.Cache.{CacheMap}
use Rattle.wiki_model.specs.Answers.{Answer}
use Rattle.wiki_model.specs.Script.{Line}
use Rattle.wiki_model.specs.Report.{no_readings, readings_after}
use Rattle.drill_script.specs.AsModel.{line_of}
use Rattle.drill_script.specs.declared.script_line.ScriptLine.{ScriptLine}
use Rattle.farm_core.specs.FarmParts.{FarmParts}
use Rattle.farm_steps.specs.RequestMap.{open_at}
use Rattle.script_runner.specs.MakeLine.{IsReadyFor, MakesLine}
use Rattle.script_runner.specs.RunSoFar.{readings_in, line_report, answers_more}
use Rattle.script_runner.specs.RunScript.{IsRunnable, IsUnderWay, NoneOpens}
use Rattle.script_runner.proofs.Running.{none_run, run_more}
use Rattle.script_runner.proofs.Ready.{next_follows, ready_for, opens_before}

readings_more : (at : Readings) (done : List Line) (l : Line) → readings_in at (done ++ l ∷ []) ≡ readings_after l (readings_in at done)
readings_more at [] l = refl
readings_more at (d ∷ done) l = readings_more (readings_after d at) done l

answers_few : (answers : List Answer) (said : Option Answer) (n : ℕ) → length answers ≤ n → length (answers_more answers said) ≤ n + 1
answers_few answers None n few = omega (arith, few)
answers_few answers (Some answer) n few = let size : length (answers ++ answer ∷ []) ≡ length answers + 1 = length-append answers (answer ∷ []) in omega (arith, size, few)

module _ {K S : Type 0} (content : K → Option (List Entry)) (faults : K → ℕ) (cache_of : S → CacheMap Bytes) where
  pub nothing_done : (farm : FarmParts K S) (lines : List Line) → IsRunnable farm lines → IsUnderWay content faults cache_of farm farm no_readings [] [] []
  nothing_done farm lines r = record {
    at_is = refl;
    whole = r.whole;
    home = refl;
    west = refl;
    closed = λ id none. ap (λ entries. open_at entries id) r.none_open;
    run = λ start w stands. none_run content faults cache_of start farm w stands;
    few = omega arith;
    counts = omega arith;
  }

  -- the farm is ready for the line that comes next
  pub ready_next : (first now : FarmParts K S) (at : Readings) (done : List Line) (text : Bytes) (answers : List Answer) (l : ScriptLine) (rest : List Line) → IsRunnable first (done ++ line_of l ∷ rest)
      → IsUnderWay content faults cache_of first now at done text answers → IsReadyFor now l
  ready_next first now at done text answers l rest r u =
      ready_for now done rest l (next_follows [] done rest (line_of l) r.follow).0 (u.home ∙ r.home) (u.west ∙ r.west) u.closed

  -- no whole edit or whole view is open
  zero_opens : (earlier lines : List Line) → Rattle.script_runner.specs.RunScript.AllFollow earlier lines → NoneOpens 0 lines
  zero_opens earlier [] all = tt
  zero_opens earlier (l ∷ lines) (may, zero, more) = (zero, zero_opens (earlier ++ l ∷ []) lines more)

  first_of : (id : ℕ) (done rest : List Line) → NoneOpens id (done ++ rest) → NoneOpens id done
  first_of id [] rest none = tt
  first_of id (d ∷ done) rest (zero, none) = (zero, first_of id done rest none)

  pub free_next : (first now : FarmParts K S) (at : Readings) (done : List Line) (text : Bytes) (answers : List Answer) (rest : List Line) → IsRunnable first (done ++ rest)
      → IsUnderWay content faults cache_of first now at done text answers → open_at now.requests 0 ≡ None
  free_next first now at done text answers rest r u = u.closed 0 (first_of 0 done rest (zero_opens [] (done ++ rest) r.follow))

  -- one line more
  pub one_done : (first old new : FarmParts K S) (before at : Readings) (done : List Line) (text : Bytes) (answers : List Answer) (l : Line) (said : Option Answer)
      → IsUnderWay content faults cache_of first old before done text answers → at ≡ readings_after l before → MakesLine content faults cache_of old new at l said
      → IsUnderWay content faults cache_of first new at (done ++ l ∷ []) (text ++ line_report (1 + length done) l said) (answers_more answers said)
  one_done first old new before at done text answers l said u at_is makes = record {
    at_is = at_is ∙ ap (readings_after l) u.at_is ∙ sym (readings_more no_readings done l);
    whole = makes.shape.whole u.whole;
    home = makes.shape.home ∙ u.home;
    west = makes.shape.west ∙ u.west;
    closed = λ id none. let parts = opens_before id done l none in makes.closed id parts.1 (u.closed id parts.0);
    run = λ start w stands. run_more content faults cache_of start old new done text answers l at said (u.run start w stands) (at_is ∙ ap (readings_after l) u.at_is) makes;
    few = let size : length (done ++ l ∷ []) ≡ length done + 1 = length-append done (l ∷ []) in let more = answers_few answers said (length done) u.few in omega (arith, size, more);
    counts = let up = u.counts in let on = makes.counts in omega (arith, up, on);
  }
