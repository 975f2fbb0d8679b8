-- The run that a script made is that of its report: its turns, its last world, and the keeper's length are those of the last line.
use Rattle.std.proofs.Common.{◌≡◌, ℕ, ◌+◌, ◌≤◌, List, [], ◌++◌, length, Option, Result, Ok, Err, refl, sym, ap, subst, ◌∙◌, arith}
use Rattle.std.specs.Prelude.{IfSome}
use Rattle.wiki_model.specs.Bytes.{Bytes}
use Rattle.wiki_model.specs.History.{Entry}
use Rattle.wiki_model.specs.Cache.{CacheMap}
use Rattle.wiki_model.specs.World.{World}
use Rattle.wiki_model.specs.Answers.{Answer}
use Rattle.wiki_model.specs.Steps.{Rose}
use Rattle.wiki_model.specs.Script.{Line}
use Rattle.wiki_model.specs.Report.{report, report_from, answer_count, end_line}
use Rattle.wiki_model.specs.Generator.{summary_of}
use Rattle.farm_base.specs.Exposed.{Stays}
use Rattle.revision_keeper.specs.declared.keeper.KeepFault.{KeepFault}
use Rattle.revision_keeper.specs.declared.keeper.KeepFault.TheVariants as keep
use Rattle.revision_keeper.specs.Causes.{HasFault}
use Rattle.revision_keeper.specs.Keeper.{IsLength}
use Rattle.drill_script.specs.declared.count_answers.Summary.{Summary}
use Rattle.farm_core.specs.FarmParts.{FarmParts}
use Rattle.farm_core.specs.Runs.{Stands}
use Rattle.script_runner.specs.RunSoFar.{RunSoFar}
use Rattle.script_runner.specs.RunScript.{Reports, Counts}
use Rattle.script_runner.specs.declared.report_state.ReportState.TheVariants as state
use Rattle.script_runner.specs.declared.report_state.Told.{Told}
use Rattle.script_runner.proofs.Running.{counted}
use Rattle.script_runner.proofs.Reported.{rose_after}
use Rattle.wiki_cli.specs.Ends.{Kept, IsRunFrom, IsReportFrom, IsCutReportFrom, IsSummaryFrom, EndsReport, EndsSummary}
use Rattle.wiki_cli.specs.RunFarm.{kept_by, ClosesReport, WritesCounts, WritesSummary}
use Rattle.wiki_cli.specs.declared.status.Status.{Status}
use Rattle.wiki_cli.specs.declared.status.Status.TheVariants as status
use Rattle.wiki_cli.proofs.Texts.{last_written, fault_written, memory_written, stays_same}

module _ {K S : Type 0} (content : K → Option (List Entry)) (faults : K → ℕ) (cache_of : S → CacheMap Bytes)
    (first now : FarmParts K S) (lines : List Line) (after : K) (same : content after ≡ content now.keeper) (up : faults first.keeper ≤ faults now.keeper) where
  abbrev pub kept : Kept
  kept = kept_by content faults after

  -- the turns lead to a world whose history the keeper has
  runs_from : (start : World) (text : Bytes) (answers : List Answer) (on : faults now.keeper ≤ faults after) (r : RunSoFar content faults cache_of start now lines text answers) → IsRunFrom start lines kept r.turns r.world
  runs_from start text answers on r = record {
    makes = r.makes;
    run = r.stands.run;
    history_is = same ∙ r.stands.agrees.history;
    faults = let counted_so = r.stands.agrees.counted in omega (arith, counted_so, on);
  }

  -- the keeper's length is that of the last world's history
  length_is : (start : World) (text : Bytes) (answers : List Answer) (n : ℕ) → IsLength (content now.keeper) (let o : Result ℕ KeepFault = Ok n in o) → (r : RunSoFar content faults cache_of start now lines text answers) → n ≡ length r.world.history
  length_is start text answers n is r = subst (λ (h : Option (List Entry)). IfSome h (λ history. n ≡ length history)) r.stands.agrees.history is

  answers_told : (start : World) (text : Bytes) (answers : List Answer) (told : ℕ) → told ≡ length answers → (r : RunSoFar content faults cache_of start now lines text answers) → told ≡ answer_count lines r.turns
  answers_told start text answers told is r = is ∙ ap length r.answers_are ∙ counted lines r.turns

  -- the report, whole and without its last line

  whole : (start : World) (text : Bytes) (answers : List Answer) (told n : ℕ) → told ≡ length answers → (on : faults now.keeper ≤ faults after) (r : RunSoFar content faults cache_of start now lines text answers) → n ≡ length r.world.history
      → IsReportFrom start lines kept (text ++ end_line told n)
  whole start text answers told n told_is on r n_is = record {
    turns = r.turns;
    last = r.world;
    is_run = runs_from start text answers on r;
    text_is = ap (λ (t : Bytes). t ++ end_line told n) r.text_is ∙ ap (λ k. report_from 1 lines r.turns ++ end_line k n) (answers_told start text answers told told_is r) ∙ ap (λ k. report_from 1 lines r.turns ++ end_line (answer_count lines r.turns) k) n_is;
  }

  cut : (start : World) (text : Bytes) (answers : List Answer) → Rose (faults now.keeper) (faults after) → (on : faults now.keeper ≤ faults after) (r : RunSoFar content faults cache_of start now lines text answers) → IsCutReportFrom start lines kept text
  cut start text answers rose on r = record {
    turns = r.turns;
    last = r.world;
    is_run = runs_from start text answers on r;
    rose = rose_after r.world.faults (faults now.keeper) (faults after) r.stands.agrees.counted rose;
    text_is = r.text_is;
  }

  module _ (told : Told) (entries : Result ℕ KeepFault) (old mid new : Option Bytes) (f g h : ℕ) (said : Status)
      (reports : Reports content faults cache_of first now lines told old mid f g) (is_length : IsLength (content now.keeper) entries) (cause : HasFault (faults now.keeper) (faults after) entries) where
    ends_by : (result : Result ℕ KeepFault) → IsLength (content now.keeper) result → HasFault (faults now.keeper) (faults after) result → ClosesReport told result mid new g h said
        → (start w : World) → Stands content faults cache_of first start [] w → EndsReport (IsReportFrom start lines kept) (IsCutReportFrom start lines kept) (Rose f h) old new said
    ends_by (Ok n) is why closes start w stands =
        let r = reports.run start w stands in
        last_written (Rose f h) old (IsReportFrom start lines kept) (IsCutReportFrom start lines kept) told.state mid new f g h reports.text (end_line told.answers n) said (λ rose. rose) reports.reported closes
        (whole start reports.text reports.answers told.answers n reports.counted why.later r (length_is start reports.text reports.answers n is r))
    ends_by (Err keep.Fault) is why closes start w stands =
        let r = reports.run start w stands in
        fault_written (Rose f h) old (IsReportFrom start lines kept) (IsCutReportFrom start lines kept) told.state mid new f g h reports.text (end_line told.answers (length r.world.history)) said (λ rose. rose) reports.reported closes
        (cut start reports.text reports.answers (why.fault refl) why.later r) (whole start reports.text reports.answers told.answers (length r.world.history) reports.counted why.later r refl)
    ends_by (Err keep.Memory) is why (memory, kept_so, still) start w stands =
        let r = reports.run start w stands in
        subst (λ (s : Status). EndsReport (IsReportFrom start lines kept) (IsCutReportFrom start lines kept) (Rose f h) old new s) (sym memory)
        (memory_written (Rose f h) old (IsReportFrom start lines kept) (IsCutReportFrom start lines kept) told.state mid new f g h reports.text (end_line told.answers (length r.world.history)) reports.reported kept_so
        (whole start reports.text reports.answers told.answers (length r.world.history) reports.counted why.later r refl))

    pub report_ends : ClosesReport told entries mid new g h said
        → (start w : World) → Stands content faults cache_of first start [] w → EndsReport (IsReportFrom start lines kept) (IsCutReportFrom start lines kept) (Rose f h) old new said
    report_ends = ends_by entries is_length cause

  -- the counts of the answers

  counts_whole : (start : World) (steps : ℕ) (summary_now : Summary) (n : ℕ) (c : Counts content faults cache_of first now lines summary_now) (on : faults now.keeper ≤ faults after) (r : RunSoFar content faults cache_of start now lines c.text c.answers) → n ≡ length r.world.history
      → IsSummaryFrom start steps lines kept (summary_of steps n c.answers)
  counts_whole start steps summary_now n c on r n_is = record {
    turns = r.turns;
    last = r.world;
    is_run = runs_from start c.text c.answers on r;
    text_is = ap (λ k. summary_of steps k c.answers) n_is ∙ ap (summary_of steps (length r.world.history)) r.answers_are;
  }

  module _ (steps : ℕ) (summary_now : Summary) (entries : Result ℕ KeepFault) (old new : Option Bytes) (g h : ℕ) (said : Status)
      (c : Counts content faults cache_of first now lines summary_now) (is_length : IsLength (content now.keeper) entries) (cause : HasFault (faults now.keeper) (faults after) entries) where
    counts_by : (n : ℕ) (s : Status) → IsLength (content now.keeper) (let o : Result ℕ KeepFault = Ok n in o) → faults now.keeper ≤ faults after → WritesCounts old new g h steps n summary_now s
        → (start w : World) → Stands content faults cache_of first start [] w → EndsSummary (IsSummaryFrom start steps lines kept) (Rose g h) old new s
    counts_by n status.Ok is on writes start w stands = let r = c.run start w stands in (summary_of steps n c.answers, counts_whole start steps summary_now n c on r (length_is start c.text c.answers n is r), writes c.answers c.counted)
    counts_by n status.WriteFault is on writes start w stands = let r = c.run start w stands in (summary_of steps n c.answers, counts_whole start steps summary_now n c on r (length_is start c.text c.answers n is r), writes.0 c.answers c.counted)
    counts_by n status.Memory is on writes start w stands = subst (λ (o : Option Bytes). Stays old o) (sym writes) (stays_same old)
    counts_by n status.Usage is on wrong start w stands = absurd wrong
    counts_by n (status.Script k) is on wrong start w stands = absurd wrong
    counts_by n status.ReadFault is on wrong start w stands = absurd wrong
    counts_by n status.StoreFault is on wrong start w stands = absurd wrong
    counts_by n (status.NotEmpty k) is on wrong start w stands = absurd wrong
    counts_by n status.DoorFault is on wrong start w stands = absurd wrong
    counts_by n (status.Layout k) is on wrong start w stands = absurd wrong

    summary_by : (result : Result ℕ KeepFault) → IsLength (content now.keeper) result → HasFault (faults now.keeper) (faults after) result → WritesSummary steps summary_now result old new g h said
        → (start w : World) → Stands content faults cache_of first start [] w → EndsSummary (IsSummaryFrom start steps lines kept) (Rose g h) old new said
    summary_by (Ok n) is why writes = counts_by n said is why.later writes
    summary_by (Err keep.Fault) is why (fault, written) = λ start w stands. subst (λ (s : Status). EndsSummary (IsSummaryFrom start steps lines kept) (Rose g h) old new s) (sym fault) written
    summary_by (Err keep.Memory) is why (memory, stays) = λ start w stands. subst (λ (s : Status). EndsSummary (IsSummaryFrom start steps lines kept) (Rose g h) old new s) (sym memory) (subst (λ (o : Option Bytes). Stays old o) (sym stays) (stays_same old))

    pub summary_ends : WritesSummary steps summary_now entries old new g h said
        → (start w : World) → Stands content faults cache_of first start [] w → EndsSummary (IsSummaryFrom start steps lines kept) (Rose g h) old new said
    summary_ends = summary_by entries is_length cause
