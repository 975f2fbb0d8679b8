-- One line more: its turns come after those of the lines before it, and so does its part of the report.
use Rattle.std.proofs.Common.{◌≡◌, ℕ, ◌+◌, List, [], ◌∷◌, ◌++◌, length, reverse, Option, Some, None, refl, sym, ap, subst, ◌∙◌, arith, append-nil, append_assoc}
use Rattle.std.proofs.lemmas.List.{reverse-append}
use Rattle.wiki_model.specs.declared.Readings.{Readings}
use Rattle.wiki_model.specs.Bytes.{Bytes}
use Rattle.wiki_model.specs.History.{Entry}
use Rattle.wiki_model.specs.Cache.{CacheMap}
use Rattle.wiki_model.specs.World.{World}
use Rattle.wiki_model.specs.Answers.{Answer}
use Rattle.wiki_model.specs.Runs.{Turn}
use Rattle.wiki_model.specs.Sequences.{Makes}
use Rattle.wiki_model.specs.Script.{Line, steps_of, is_composite}
use Rattle.wiki_model.specs.Report.{MakesAll, no_readings, readings_after, report_from, lines_of_answers, answers_of, answer_count, flat}
use Rattle.wiki_model.specs.Generator.{all_answers}
use Rattle.farm_core.specs.FarmParts.{FarmParts}
use Rattle.farm_core.specs.Runs.{Stands}
use Rattle.script_runner.specs.MakeLine.{shown_once, GoesOnByLine, MakesLine}
use Rattle.script_runner.specs.RunSoFar.{readings_in, line_report, answers_more, RunSoFar}

makes_more : (at : Readings) (lines : List Line) (turns : List (List Turn)) (line : Line) (more : List Turn) → MakesAll at lines turns → Makes (readings_after line (readings_in at lines)) (steps_of line) more
    → MakesAll at (lines ++ line ∷ []) (turns ++ more ∷ [])
makes_more at [] [] line more all one = (one, tt)
makes_more at [] (t ∷ turns) line more all one = absurd all
makes_more at (l ∷ lines) [] line more all one = absurd all
makes_more at (l ∷ lines) (t ∷ turns) line more (first, all) one = (first, makes_more (readings_after l at) lines turns line more all one)

report_more : (at : Readings) (n : ℕ) (lines : List Line) (turns : List (List Turn)) (line : Line) (more : List Turn) → MakesAll at lines turns
    → report_from n (lines ++ line ∷ []) (turns ++ more ∷ []) ≡ report_from n lines turns ++ lines_of_answers (n + length lines) (is_composite line) (answers_of line more)
report_more at n [] [] line more all = append-nil (lines_of_answers n (is_composite line) (answers_of line more)) ∙ (let e : n ≡ n + 0 = omega arith in ap (λ k. lines_of_answers k (is_composite line) (answers_of line more)) e)
report_more at n [] (t ∷ turns) line more all = absurd all
report_more at n (l ∷ lines) [] line more all = absurd all
report_more at n (l ∷ lines) (t ∷ turns) line more (first, all) =
    let number : (n + 1) + length lines ≡ n + length (l ∷ lines) = omega arith in
    ap (λ rest. lines_of_answers n (is_composite l) (answers_of l t) ++ rest) (report_more (readings_after l at) (n + 1) lines turns line more all)
    ∙ sym (append_assoc (lines_of_answers n (is_composite l) (answers_of l t)) (report_from (n + 1) lines turns) (lines_of_answers ((n + 1) + length lines) (is_composite line) (answers_of line more)))
    ∙ ap (λ k. (lines_of_answers n (is_composite l) (answers_of l t) ++ report_from (n + 1) lines turns) ++ lines_of_answers k (is_composite line) (answers_of line more)) number

all_more : (at : Readings) (lines : List Line) (turns : List (List Turn)) (line : Line) (more : List Turn) → MakesAll at lines turns
    → all_answers (lines ++ line ∷ []) (turns ++ more ∷ []) ≡ all_answers lines turns ++ answers_of line more
all_more at [] [] line more all = append-nil (answers_of line more)
all_more at [] (t ∷ turns) line more all = absurd all
all_more at (l ∷ lines) [] line more all = absurd all
all_more at (l ∷ lines) (t ∷ turns) line more (first, all) =
    ap (λ rest. answers_of l t ++ rest) (all_more (readings_after l at) lines turns line more all) ∙ sym (append_assoc (answers_of l t) (all_answers lines turns) (answers_of line more))

flat_more : (turns : List (List Turn)) (more : List Turn) → flat (turns ++ more ∷ []) ≡ flat turns ++ more
flat_more [] more = append-nil more
flat_more (t ∷ turns) more = ap (λ rest. t ++ rest) (flat_more turns more) ∙ sym (append_assoc t (flat turns) more)

-- how many answers the report has
pub counted : (lines : List Line) (turns : List (List Turn)) → length (all_answers lines turns) ≡ answer_count lines turns
counted [] more = refl
counted (l ∷ lines) [] = refl
counted (l ∷ lines) (t ∷ turns) = Rattle.std.proofs.Common.length-append (answers_of l t) (all_answers lines turns) ∙ ap (λ n. length (answers_of l t) + n) (counted lines turns)

shown_text : (n : ℕ) (line : Line) (said : Option Answer) → lines_of_answers n (is_composite line) (shown_once said) ≡ line_report n line said
shown_text n line None = refl
shown_text n line (Some answer) = append-nil (line_report n line (Some answer))

shown_more : (answers : List Answer) (said : Option Answer) → answers ++ shown_once said ≡ answers_more answers said
shown_more answers None = append-nil answers
shown_more answers (Some answer) = refl

pub none_run : {K S : Type 0} (content : K → Option (List Entry)) (faults : K → ℕ) (cache_of : S → CacheMap Bytes) (start : World) (farm : FarmParts K S) (w : World) → Stands content faults cache_of farm start [] w
    → RunSoFar content faults cache_of start farm [] [] []
none_run content faults cache_of start farm w stands = record { turns = []; world = w; makes = tt; stands = stands; text_is = refl; answers_are = refl }

pub run_more : {K S : Type 0} (content : K → Option (List Entry)) (faults : K → ℕ) (cache_of : S → CacheMap Bytes) (start : World) (old new : FarmParts K S) (done : List Line) (text : Bytes) (answers : List Answer) (line : Line) (at : Readings) (said : Option Answer)
    → RunSoFar content faults cache_of start old done text answers → at ≡ readings_after line (readings_in no_readings done) → MakesLine content faults cache_of old new at line said
    → RunSoFar content faults cache_of start new (done ++ line ∷ []) (text ++ line_report (1 + length done) line said) (answers_more answers said)
run_more {K} {S} content faults cache_of start old new done text answers line at said r at_is makes = by (makes.runs start (reverse (flat r.turns)) r.world r.stands)
  where
    by : GoesOnByLine content faults cache_of old new at line said start (reverse (flat r.turns)) → RunSoFar content faults cache_of start new (done ++ line ∷ []) (text ++ line_report (1 + length done) line said) (answers_more answers said)
    by g = record {
      turns = r.turns ++ g.made ∷ [];
      world = g.world;
      makes = makes_more no_readings done r.turns line g.made r.makes (subst (λ (now : Readings). Makes now (steps_of line) g.made) at_is g.makes);
      stands = subst (λ ts. Stands content faults cache_of new start ts g.world) (sym (ap reverse (flat_more r.turns g.made) ∙ reverse-append (flat r.turns) g.made)) g.stands;
      text_is = ap (λ t. t ++ line_report (1 + length done) line said) r.text_is
          ∙ ap (λ t. report_from 1 done r.turns ++ t) (sym (ap (lines_of_answers (1 + length done) (is_composite line)) g.shows ∙ shown_text (1 + length done) line said))
          ∙ sym (report_more no_readings 1 done r.turns line g.made r.makes);
      answers_are = sym (shown_more answers said) ∙ ap (λ list. list ++ shown_once said) r.answers_are ∙ ap (λ list. all_answers done r.turns ++ list) (sym g.shows) ∙ sym (all_more no_readings done r.turns line g.made r.makes);
    }
