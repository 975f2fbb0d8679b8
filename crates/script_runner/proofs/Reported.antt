-- A text is written part by part: what is whole grows, and a prefix of a text is a prefix of a longer one.
use Rattle.std.proofs.Common.{◌≡◌, ℕ, ◌+◌, ◌≤◌, List, [], ◌++◌, length, take, Option, None, Some, refl, sym, subst, arith, length-append}
use Rattle.std.specs.Prelude.{◌-◌}
use Rattle.std.proofs.lemmas.List.{take-append-le}
use Rattle.std.proofs.Math.Seq.{take-append-add}
use Rattle.wiki_model.specs.Bytes.{Bytes}
use Rattle.wiki_model.specs.Steps.{Rose}
use Rattle.farm_base.specs.Exposed.{Adds, AddsPrefix}
use Rattle.farm_base.proofs.Chains.{adds_then}
use Rattle.script_runner.specs.declared.report_state.ReportState.{ReportState}
use Rattle.script_runner.specs.declared.report_state.ReportState.TheVariants as state
use Rattle.script_runner.specs.RunScript.{IsReported, Continues}

pub prefix_then : (a b c : Option Bytes) (xs ys : Bytes) → Adds a b xs → AddsPrefix b c ys → AddsPrefix a c (xs ++ ys)
prefix_then a b c xs ys adds (n, few, part) =
    let size : length (xs ++ ys) ≡ length xs + length ys = length-append xs ys in
    (length xs + n, omega (arith, size, few), subst (Adds a c) (sym (take-append-add xs ys n)) (adds_then a b c xs (take n ys) adds part))

pub prefix_more : (a b : Option Bytes) (xs ys : Bytes) → AddsPrefix a b xs → AddsPrefix a b (xs ++ ys)
prefix_more a b xs ys (n, few, part) =
    let size : length (xs ++ ys) ≡ length xs + length ys = length-append xs ys in
    (n, omega (arith, size, few), subst (Adds a b) (sym (take-append-le n xs ys few)) part)

pub rose_after : (a b c : ℕ) → a ≤ b → Rose b c → Rose a c
rose_after a b c later rose = grind (arith)

pub rose_before : (a b c : ℕ) → Rose a b → b ≤ c → Rose a c
rose_before a b c rose later = grind (arith)

-- what is reported whole is followed by what is reported of more
reported_then : (s : ReportState) (a b c : Option Bytes) (f g h : ℕ) (xs ys : Bytes) → Adds a b xs → f ≤ g → IsReported s b c g h ys → IsReported s a c f h (xs ++ ys)
reported_then state.Whole a b c f g h xs ys adds later (more, after) = (adds_then a b c xs ys adds more, omega (arith, later, after))
reported_then state.Failed a b c f g h xs ys adds later (more, rose) = (prefix_then a b c xs ys adds more, rose_after f g h later rose)
reported_then state.Memory a b c f g h xs ys adds later (more, after) = (prefix_then a b c xs ys adds more, omega (arith, later, after))

-- the state of a text goes over to the longer one
pub reported_more : (s t : ReportState) (a b c : Option Bytes) (f g h : ℕ) (xs ys : Bytes) → IsReported s a b f g xs → Continues s t b c g h ys → IsReported t a c f h (xs ++ ys)
reported_more state.Whole t a b c f g h xs ys (adds, later) more = reported_then t a b c f g h xs ys adds later more
reported_more state.Failed t a b c f g h xs ys (part, rose) (same, kept, still) =
    subst (λ s. IsReported s a c f h (xs ++ ys)) (sym same)
    (subst (λ w. AddsPrefix a w (xs ++ ys)) (sym kept) (prefix_more a b xs ys part), subst (λ n. Rose f n) (sym still) rose)
reported_more state.Memory t a b c f g h xs ys (part, later) (same, kept, still) =
    subst (λ s. IsReported s a c f h (xs ++ ys)) (sym same)
    (subst (λ w. AddsPrefix a w (xs ++ ys)) (sym kept) (prefix_more a b xs ys part), subst (λ n. f ≤ n) (sym still) later)

-- nothing was written yet
pub reported_none : (a : Option Bytes) (f : ℕ) → IsReported state.Whole a a f f []
reported_none None f = (tt, omega arith)
reported_none (Some xs) f = (sym (Rattle.std.proofs.lemmas.List.append-nil xs), omega arith)

-- a head that was written only in part is so of the head and what follows it
pub parts_cut : (s : ReportState) (a b : Option Bytes) (f g : ℕ) (xs ys : Bytes) → (s ≡ state.Whole → ⊥) → IsReported s a b f g xs → IsReported s a b f g (xs ++ ys)
parts_cut state.Whole a b f g xs ys cut is = absurd (cut refl)
parts_cut state.Failed a b f g xs ys cut (part, rose) = (prefix_more a b xs ys part, rose)
parts_cut state.Memory a b f g xs ys cut (part, later) = (prefix_more a b xs ys part, later)

pub whole_then : (s t : ReportState) (a b c : Option Bytes) (f g h : ℕ) (xs ys : Bytes) → s ≡ state.Whole → IsReported s a b f g xs → IsReported t b c g h ys → IsReported t a c f h (xs ++ ys)
whole_then state.Whole t a b c f g h xs ys is (adds, later) more = reported_then t a b c f g h xs ys adds later more
whole_then state.Failed t a b c f g h xs ys is first more = let no : ⊥ = cc in absurd no
whole_then state.Memory t a b c f g h xs ys is first more = let no : ⊥ = cc in absurd no
