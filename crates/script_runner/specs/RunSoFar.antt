-- How far a script was run: the turns of the lines so far, the run that they are, and the report that they have.
use Rattle.std.specs.Prelude.{ℕ, ◌≡◌, List, [], ◌∷◌, ◌++◌, reverse, Option, Some, None}
use Rattle.wiki_model.specs.declared.Readings.{Readings}
use Rattle.wiki_model.specs.Bytes.{Bytes}
use Rattle.wiki_model.specs.History.{Entry}
use Rattle.wiki_model.specs.Cache.{CacheMap}
use Rattle.wiki_model.specs.World.{World}
use Rattle.wiki_model.specs.Answers.{Answer}
use Rattle.wiki_model.specs.Runs.{Turn}
use Rattle.wiki_model.specs.Script.{Line, is_composite}
use Rattle.wiki_model.specs.Report.{MakesAll, no_readings, readings_after, report_from, report_line, flat}
use Rattle.wiki_model.specs.Generator.{all_answers}
use Rattle.farm_core.specs.FarmParts.{FarmParts}
use Rattle.farm_core.specs.Runs.{Stands}

-- the readings that stand after these lines
abbrev pub readings_in : Readings → List Line → Readings
readings_in at [] = at
readings_in at (line ∷ lines) = readings_in (readings_after line at) lines

-- what the report has of a line's answer
abbrev pub line_report : (n : ℕ) → Line → Option Answer → Bytes
line_report n line None = []
line_report n line (Some answer) = report_line n (is_composite line) answer

abbrev pub answers_more : List Answer → Option Answer → List Answer
answers_more answers None = answers
answers_more answers (Some answer) = answers ++ answer ∷ []

pub record RunSoFar {K S : Type 0} (content : K → Option (List Entry)) (faults : K → ℕ) (cache_of : S → CacheMap Bytes)
    (start : World)
    (farm : FarmParts K S) (done : List Line) (text : Bytes) (answers : List Answer) : Type 0 where
  pub turns : List (List Turn)
  pub world : World
  pub makes : MakesAll no_readings done turns
  pub stands : Stands content faults cache_of farm start (reverse (flat turns)) world
  pub text_is : text ≡ report_from 1 done turns
  pub answers_are : answers ≡ all_answers done turns
