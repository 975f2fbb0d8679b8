-- What is said of a run's text is said of a script's bytes, and of the input of which they are the whole.
use Rattle.std.proofs.Common.{◌≡◌, ℕ, ◌+◌, ◌≤◌, ◌<◌, inl, inr, List, [], ◌∷◌, ◌++◌, length, Option, None, Some, refl, sym, ap, subst, ◌∙◌, arith, Bool, true, false, nat_le, append-nil, append_assoc, length-append}
use Rattle.std.specs.Prelude.{IfSome}
use Rattle.std.proofs.lemmas.Bool.Decides.{nat_tests}
use Rattle.wiki_model.specs.Bytes.{Bytes}
use Rattle.wiki_model.specs.Limits.{script_max}
use Rattle.wiki_model.specs.World.{World}
use Rattle.wiki_model.specs.Script.{Line, IsFirstFault}
use Rattle.farm_base.specs.Exposed.{ReadsAll}
use Rattle.wiki_cli.specs.Ends.{Kept, OfScript, IsReportFrom, IsCutReportFrom, IsReportOf, IsCutReportOf, EndsReport, EndsSummary, Drills, IsRefusedBy}
use Rattle.wiki_cli.specs.declared.status.Status.{Status}
use Rattle.wiki_cli.specs.declared.status.Status.TheVariants as status

-- a claim of texts that follows from another

pub report_as : (Whole Cut Whole2 Cut2 : Bytes → Type 0) (failed : Type 0) (old new : Option Bytes) (said : Status) → ((t : Bytes) → Whole t → Whole2 t) → ((t : Bytes) → Cut t → Cut2 t)
    → EndsReport Whole Cut failed old new said → EndsReport Whole2 Cut2 failed old new said
report_as Whole Cut Whole2 Cut2 failed old new status.Ok whole cut (text, is, has) = (text, whole text is, has)
report_as Whole Cut Whole2 Cut2 failed old new status.Usage whole cut e = tt
report_as Whole Cut Whole2 Cut2 failed old new (status.Script n) whole cut e = tt
report_as Whole Cut Whole2 Cut2 failed old new status.ReadFault whole cut e = tt
report_as Whole Cut Whole2 Cut2 failed old new status.WriteFault whole cut (text, is, has) = (text, whole text is, has)
report_as Whole Cut Whole2 Cut2 failed old new status.StoreFault whole cut (inl said) = inl said
report_as Whole Cut Whole2 Cut2 failed old new status.StoreFault whole cut (inr (text, is, has)) = inr (text, cut text is, has)
report_as Whole Cut Whole2 Cut2 failed old new status.Memory whole cut (inl stays) = inl stays
report_as Whole Cut Whole2 Cut2 failed old new status.Memory whole cut (inr (text, is, has)) = inr (text, whole text is, has)
report_as Whole Cut Whole2 Cut2 failed old new (status.NotEmpty n) whole cut wrong = absurd wrong
report_as Whole Cut Whole2 Cut2 failed old new status.DoorFault whole cut wrong = absurd wrong
report_as Whole Cut Whole2 Cut2 failed old new (status.Layout n) whole cut wrong = absurd wrong

pub summary_as : (Whole Whole2 : Bytes → Type 0) (failed : Type 0) (old new : Option Bytes) (said : Status) → ((t : Bytes) → Whole t → Whole2 t)
    → EndsSummary Whole failed old new said → EndsSummary Whole2 failed old new said
summary_as Whole Whole2 failed old new status.Ok whole (text, is, has) = (text, whole text is, has)
summary_as Whole Whole2 failed old new status.Usage whole wrong = absurd wrong
summary_as Whole Whole2 failed old new (status.Script n) whole wrong = absurd wrong
summary_as Whole Whole2 failed old new status.ReadFault whole wrong = absurd wrong
summary_as Whole Whole2 failed old new status.WriteFault whole (text, is, has) = (text, whole text is, has)
summary_as Whole Whole2 failed old new status.StoreFault whole e = e
summary_as Whole Whole2 failed old new status.Memory whole e = e
summary_as Whole Whole2 failed old new (status.NotEmpty n) whole wrong = absurd wrong
summary_as Whole Whole2 failed old new status.DoorFault whole wrong = absurd wrong
summary_as Whole Whole2 failed old new (status.Layout n) whole wrong = absurd wrong

-- a claim of a script's run, from a keeper that had counted less
pub counted_before : (input : Bytes) (before later : ℕ) (Claim : World → List Line → Type 0) → before ≤ later → OfScript input later Claim → OfScript input before Claim
counted_before input before later Claim up s = record { lines = s.lines; began = s.began; is_script = s.is_script; since = let since = s.since in omega (arith, up, since); claim = s.claim }

-- what was read is the whole input if it is a script, and a fault of it is one of the input

whole_input : (all bytes rest : Bytes) → all ≡ bytes ++ rest → (length bytes ≤ script_max → rest ≡ []) → length bytes ≤ script_max → all ≡ bytes
whole_input all bytes rest e none few = e ∙ ap (λ r. bytes ++ r) (none few) ∙ append-nil bytes

pub drills_input : (old new : Option Bytes) (bytes : Bytes) (E : Type 0) (before : ℕ) (kept : Kept) (failed : Type 0) (a b : Option Bytes) (said : Status) → ReadsAll script_max old new bytes → (E → Drills bytes before kept failed a b said)
    → IfSome old (λ all. E → Drills all before kept failed a b said)
drills_input None new bytes E before kept failed a b said reads drills = tt
drills_input (Some all) None bytes E before kept failed a b said reads drills = absurd reads.0
drills_input (Some all) (Some rest) bytes E before kept failed a b said reads drills = λ e.
    report_as (IsReportOf bytes before kept) (IsCutReportOf bytes before kept) (IsReportOf all before kept) (IsCutReportOf all before kept) failed a b said
    (λ t s. of_whole (λ start lines. IsReportFrom start lines kept t) s) (λ t s. of_whole (λ start lines. IsCutReportFrom start lines kept t) s) (drills e)
  where
    of_whole : (Claim : World → List Line → Type 0) → OfScript bytes before Claim → OfScript all before Claim
    of_whole Claim s = subst (λ (x : Bytes). OfScript x before Claim) (sym (whole_input all bytes rest reads.0 reads.1 s.is_script.small)) s

-- a line that ends within the first part
cut_within : (xs ys text more : Bytes) → xs ++ ys ≡ text ++ 10 ∷ more → length text < length xs → (before : Bytes) × (xs ≡ text ++ 10 ∷ before)
cut_within [] ys text more e few = let wrong : ⊥ = omega (arith, few) in absurd wrong
cut_within (x ∷ xs) ys [] more e few = let first : x ≡ 10 = cc in (xs, ap (λ c. c ∷ xs) first)
cut_within (x ∷ xs) ys (c ∷ text) more e few =
    let first : x ≡ c = cc in
    let others : xs ++ ys ≡ text ++ 10 ∷ more = cc in
    let cut = cut_within xs ys text more others (omega (arith, few)) in
    (cut.0, ap (λ d. d ∷ xs) first ∙ ap (λ ds. c ∷ ds) cut.1)

fault_longer : (bytes rest : Bytes) (n : ℕ) → script_max < length bytes → IsFirstFault bytes n → IsFirstFault (bytes ++ rest) n
fault_longer bytes rest n long f = record {
  lines = f.lines;
  prefix = f.prefix;
  rest = f.rest ++ rest;
  all = ap (λ b. b ++ rest) f.all ∙ append_assoc f.prefix f.rest rest;
  lines_read = f.lines_read;
  small = f.small;
  number = f.number;
  not_whole = λ s. let few = s.small in let size = length-append bytes rest in let wrong : ⊥ = omega (arith, long, few, size) in wrong;
  no_more = λ line text more left bare utf8 fits spelled may.
      let size : length bytes ≡ length f.prefix + length f.rest = ap length f.all ∙ length-append f.prefix f.rest in
      let parts : length (f.prefix ++ text ++ 10 ∷ []) ≡ length (f.prefix ++ text) + 1 = length-append (f.prefix ++ text) (10 ∷ []) in
      let inner : length (f.prefix ++ text) ≡ length f.prefix + length text = length-append f.prefix text in
      let cut = cut_within f.rest rest text more left (omega (arith, long, size, parts, inner, fits)) in
      f.no_more line text cut.0 cut.1 bare utf8 fits spelled may;
}

pub refused_input : (old new : Option Bytes) (bytes : Bytes) (said : Status) → ReadsAll script_max old new bytes → IsRefusedBy bytes said → IfSome old (λ all. IsRefusedBy all said)
refused_input None new bytes said reads is = tt
refused_input (Some all) None bytes said reads is = absurd reads.0
refused_input (Some all) (Some rest) bytes status.Ok reads is = tt
refused_input (Some all) (Some rest) bytes status.Usage reads is = tt
refused_input (Some all) (Some rest) bytes (status.Script n) reads is = by (nat_le (length bytes) script_max) refl
  where
    by : (b : Bool) → nat_le (length bytes) script_max ≡ b → IsFirstFault all n
    by true h = subst (λ (b : Bytes). IsFirstFault b n) (sym (whole_input all bytes rest reads.0 reads.1 (grind (arith, nat_tests)))) is
    by false h = subst (λ (b : Bytes). IsFirstFault b n) (sym reads.0) (fault_longer bytes rest n (grind (arith, nat_tests)) is)
refused_input (Some all) (Some rest) bytes status.ReadFault reads is = tt
refused_input (Some all) (Some rest) bytes status.WriteFault reads is = tt
refused_input (Some all) (Some rest) bytes status.StoreFault reads is = tt
refused_input (Some all) (Some rest) bytes status.Memory reads is = tt
refused_input (Some all) (Some rest) bytes (status.NotEmpty n) reads is = tt
refused_input (Some all) (Some rest) bytes status.DoorFault reads is = tt
refused_input (Some all) (Some rest) bytes (status.Layout n) reads is = tt
