-- Each line finds the farm ready for it: its replica is there, since a line names one of those that the first line set; and the
-- request that it opens is not open, since ids grow from line to line and whole edits and views close the request 0.
use Rattle.std.proofs.Common.{◌≡◌, ℕ, ◌+◌, ◌≤◌, ◌<◌, false, List, [], ◌∷◌, ◌++◌, length, None, refl, sym, subst, arith, append_assoc}
use Rattle.std.specs.Prelude.{All}
use Rattle.std.proofs.lemmas.Bool.Decides.{nat_tests}
use Rattle.std.proofs.lemmas.List.{append-nil}
use Rattle.std.proofs.lemmas.List.Elements.{All-head, All-tail}
use Rattle.wiki_model.specs.declared.Region.{Region}
use Rattle.wiki_model.specs.declared.Region.TheVariants.{Home, West}
use Rattle.wiki_model.specs.Script.{Line, MayFollow, AreLines, Spells, HasSmallerId, replicas_of}
use Rattle.wiki_model.specs.Script.Line.{FarmLine, BoundsLine, At, BeatLine, ApplyLine, EditLine, ViewLine, Open, BeginLine, CommitLine, WaitLine, LookLine, SnapLine, StoreLine, CarryLine, DropLine, MarkupLine, End}
use Rattle.wiki_model.specs.Bytes.{Bytes}
use Rattle.drill_script.specs.AsModel.{line_of}
use Rattle.drill_script.specs.declared.script_line.ScriptLine.{ScriptLine}
use Rattle.drill_script.specs.declared.script_line.ScriptLine.TheVariants as line
use Rattle.farm_core.specs.FarmParts.{FarmParts}
use Rattle.farm_steps.specs.RequestMap.{open_at}
use Rattle.script_runner.specs.MakeLine.{IsReadyFor, opens}
use Rattle.script_runner.specs.RunScript.{AllFollow, NoneOpens}

-- a script's lines follow each other, and none opens the request 0

never_zero : (l : Line) (bytes : Bytes) → Spells l bytes → opens l 0 ≡ false
never_zero (FarmLine home west epoch) bytes spelled = refl
never_zero (BoundsLine b) bytes spelled = refl
never_zero (At at) bytes spelled = refl
never_zero BeatLine bytes spelled = refl
never_zero (ApplyLine r replica count) bytes spelled = refl
never_zero (EditLine edit) bytes spelled = refl
never_zero (ViewLine view) bytes spelled = refl
never_zero (Open id asked) bytes spelled = let some : 0 < id = spelled.0.0 in grind (arith, nat_tests)
never_zero (BeginLine id) bytes spelled = refl
never_zero (CommitLine id) bytes spelled = refl
never_zero (WaitLine id) bytes spelled = refl
never_zero (LookLine id) bytes spelled = refl
never_zero (SnapLine id) bytes spelled = refl
never_zero (StoreLine id) bytes spelled = refl
never_zero (CarryLine number) bytes spelled = refl
never_zero (DropLine number) bytes spelled = refl
never_zero (MarkupLine markup) bytes spelled = refl
never_zero End bytes spelled = refl

pub lines_follow : (earlier lines : List Line) (bytes : Bytes) → AreLines earlier lines bytes → AllFollow earlier lines
lines_follow earlier [] bytes are = tt
lines_follow earlier (l ∷ lines) bytes (text, rest, whole, bare, utf8, spelled, may, more) = (may, never_zero l text spelled, lines_follow (earlier ++ l ∷ []) lines rest more)

-- the line that comes next, among all
pub next_follows : (earlier done rest : List Line) (l : Line) → AllFollow earlier (done ++ l ∷ rest) → MayFollow (earlier ++ done) l × (opens l 0 ≡ false)
next_follows earlier [] rest l (may, zero, more) = (subst (λ (e : List Line). MayFollow e l) (sym (append-nil earlier)) may, zero)
next_follows earlier (d ∷ done) rest l (may, zero, more) =
    let later = next_follows (earlier ++ d ∷ []) done rest l more in
    (subst (λ (e : List Line). MayFollow e l) (append_assoc earlier (d ∷ []) done) later.0, later.1)

-- how many replicas a line may name, by the lines before it or by all: the first line says it
replicas_before : (r : Region) (done rest : List Line) (replica count : ℕ) → replicas_of r done ≤ replicas_of r (done ++ ApplyLine r replica count ∷ rest)
replicas_before Home [] rest replica count = omega arith
replicas_before West [] rest replica count = omega arith
replicas_before Home (FarmLine home west epoch ∷ done) rest replica count = omega arith
replicas_before Home (BoundsLine b ∷ done) rest replica count = omega arith
replicas_before Home (At at ∷ done) rest replica count = omega arith
replicas_before Home (BeatLine ∷ done) rest replica count = omega arith
replicas_before Home (ApplyLine r2 replica2 count2 ∷ done) rest replica count = omega arith
replicas_before Home (EditLine edit ∷ done) rest replica count = omega arith
replicas_before Home (ViewLine view ∷ done) rest replica count = omega arith
replicas_before Home (Open id asked ∷ done) rest replica count = omega arith
replicas_before Home (BeginLine id ∷ done) rest replica count = omega arith
replicas_before Home (CommitLine id ∷ done) rest replica count = omega arith
replicas_before Home (WaitLine id ∷ done) rest replica count = omega arith
replicas_before Home (LookLine id ∷ done) rest replica count = omega arith
replicas_before Home (SnapLine id ∷ done) rest replica count = omega arith
replicas_before Home (StoreLine id ∷ done) rest replica count = omega arith
replicas_before Home (CarryLine number ∷ done) rest replica count = omega arith
replicas_before Home (DropLine number ∷ done) rest replica count = omega arith
replicas_before Home (MarkupLine markup ∷ done) rest replica count = omega arith
replicas_before Home (End ∷ done) rest replica count = omega arith
replicas_before West (FarmLine home west epoch ∷ done) rest replica count = omega arith
replicas_before West (BoundsLine b ∷ done) rest replica count = omega arith
replicas_before West (At at ∷ done) rest replica count = omega arith
replicas_before West (BeatLine ∷ done) rest replica count = omega arith
replicas_before West (ApplyLine r2 replica2 count2 ∷ done) rest replica count = omega arith
replicas_before West (EditLine edit ∷ done) rest replica count = omega arith
replicas_before West (ViewLine view ∷ done) rest replica count = omega arith
replicas_before West (Open id asked ∷ done) rest replica count = omega arith
replicas_before West (BeginLine id ∷ done) rest replica count = omega arith
replicas_before West (CommitLine id ∷ done) rest replica count = omega arith
replicas_before West (WaitLine id ∷ done) rest replica count = omega arith
replicas_before West (LookLine id ∷ done) rest replica count = omega arith
replicas_before West (SnapLine id ∷ done) rest replica count = omega arith
replicas_before West (StoreLine id ∷ done) rest replica count = omega arith
replicas_before West (CarryLine number ∷ done) rest replica count = omega arith
replicas_before West (DropLine number ∷ done) rest replica count = omega arith
replicas_before West (MarkupLine markup ∷ done) rest replica count = omega arith
replicas_before West (End ∷ done) rest replica count = omega arith

-- no line before has opened it
smaller_opens : (id : ℕ) (l : Line) → HasSmallerId id l → opens l id ≡ false
smaller_opens id (FarmLine home west epoch) small = refl
smaller_opens id (BoundsLine b) small = refl
smaller_opens id (At at) small = refl
smaller_opens id BeatLine small = refl
smaller_opens id (ApplyLine r replica count) small = refl
smaller_opens id (EditLine edit) small = refl
smaller_opens id (ViewLine view) small = refl
smaller_opens id (Open other asked) small = grind (arith, nat_tests)
smaller_opens id (BeginLine id2) small = refl
smaller_opens id (CommitLine id2) small = refl
smaller_opens id (WaitLine id2) small = refl
smaller_opens id (LookLine id2) small = refl
smaller_opens id (SnapLine id2) small = refl
smaller_opens id (StoreLine id2) small = refl
smaller_opens id (CarryLine number) small = refl
smaller_opens id (DropLine number) small = refl
smaller_opens id (MarkupLine markup) small = refl
smaller_opens id End small = refl

none_before : (id : ℕ) (done : List Line) → All (HasSmallerId id) done → NoneOpens id done
none_before id [] smaller = tt
none_before id (l ∷ done) smaller =
    (smaller_opens id l (All-head (HasSmallerId id) l done smaller), none_before id done (All-tail (HasSmallerId id) l done smaller))

-- what a line and those before it do not open
pub opens_before : (id : ℕ) (done : List Line) (l : Line) → NoneOpens id (done ++ l ∷ []) → NoneOpens id done × (opens l id ≡ false)
opens_before id [] l none = (tt, none.0)
opens_before id (d ∷ done) l (first, none) = let more = opens_before id done l none in ((first, more.0), more.1)

-- the replicas of the farm are those of the script, and what no line has opened is closed: so it is ready
pub ready_for : {K S : Type 0} (farm : FarmParts K S) (done rest : List Line) (l : ScriptLine) → MayFollow done (line_of l)
    → length farm.home.replicas ≡ replicas_of Home (done ++ line_of l ∷ rest) → length farm.west.replicas ≡ replicas_of West (done ++ line_of l ∷ rest)
    → ((id : ℕ) → NoneOpens id done → open_at farm.requests id ≡ None) → IsReadyFor farm l
ready_for farm done rest (line.Farm home2 west2 epoch) may home west closed = tt
ready_for farm done rest (line.Bounds b) may home west closed = tt
ready_for farm done rest (line.At at) may home west closed = tt
ready_for farm done rest line.Beat may home west closed = tt
ready_for farm done rest (line.Apply Home replica count) may home west closed = omega (arith, may.1, home, replicas_before Home done rest replica count)
ready_for farm done rest (line.Apply West replica count) may home west closed = omega (arith, may.1, west, replicas_before West done rest replica count)
ready_for farm done rest (line.Edit ask) may home west closed = tt
ready_for farm done rest (line.View ask) may home west closed = tt
ready_for farm done rest (line.Arrive id asked) may home west closed = closed id (none_before id done may.1)
ready_for farm done rest (line.Begin id) may home west closed = tt
ready_for farm done rest (line.Commit id) may home west closed = tt
ready_for farm done rest (line.Wait id) may home west closed = tt
ready_for farm done rest (line.Look id) may home west closed = tt
ready_for farm done rest (line.Snap id) may home west closed = tt
ready_for farm done rest (line.Store id) may home west closed = tt
ready_for farm done rest (line.Carry number) may home west closed = tt
ready_for farm done rest (line.Drop number) may home west closed = tt
ready_for farm done rest (line.Markup markup) may home west closed = tt
ready_for farm done rest line.End may home west closed = tt
