-- If nothing fails, a command is done or memory runs out: each other end has a cause that is not there.
use Rattle.std.proofs.Common.{◌≡◌, ℕ, ◌<◌, ◌⊎◌, inl, inr, List, [], length, Option, None, Some, Result, Ok, Err, refl, sym, ◌∙◌, subst, arith}
use Rattle.std.specs.Prelude.{IfSome}
use Rattle.wiki_model.specs.Bytes.{Bytes}
use Rattle.wiki_model.specs.History.{Entry}
use Rattle.wiki_model.specs.Steps.{Rose}
use Rattle.wiki_model.specs.Script.{Line, IsScript}
use Rattle.drill_script.proofs.OneReading.{scripts-have-no-fault}
use Rattle.wiki_layout.specs.Layout.{Plan, layout_of}
use Rattle.wiki_cli.specs.Serving.{IsLayout}
use Rattle.wiki_cli.specs.Ends.{IsRefusedBy, EndsSummary, HasRisen, IsExposed}
use Rattle.wiki_cli.specs.Commands.{CountsEntries, IsScriptEnd, IsServeEnd, IsCommandEnd, OfKeepers}
use Rattle.wiki_cli.specs.declared.command.Command.{Command}
use Rattle.wiki_cli.specs.declared.command.Command.TheVariants as command
use Rattle.wiki_cli.specs.declared.status.Status.{Status}
use Rattle.wiki_cli.specs.declared.status.Status.TheVariants as status

-- a script that is exposed is refused by no line
not_refused : (left : Option Bytes) (n : ℕ) → IsExposed left (λ input. (lines : List Line) × IsScript lines input) → IfSome left (λ input. IsRefusedBy input (status.Script n)) → ⊥
not_refused None n script refused = script
not_refused (Some input) n script refused = scripts-have-no-fault script.0 input n script.1 refused

not_counted : (content : Option (List Entry)) (n : ℕ) → content ≡ Some [] → IfSome content (λ history. CountsEntries history (status.NotEmpty n)) → ⊥
not_counted content n empty counts = by (subst (λ (c : Option (List Entry)). IfSome c (λ history. CountsEntries history (status.NotEmpty n))) empty counts)
  where
    by : (length {A = Entry} [] ≡ n) × (0 < n) → ⊥
    by (none, some_of) = omega (arith, none, some_of)

module _ {K : Type 0} (content : K → Option (List Entry)) (faults : K → ℕ) (write : Type 0) where
  -- what is asked of the keepers
  abbrev Calm : (before after : K) → Type 0
  Calm before after = (content before ≡ Some []) × (Rose (faults before) (faults after) → ⊥)

  ends_well : (said : Status) (before after : Option K) → IsScriptEnd said → ((n : ℕ) → said ≡ status.Script n → ⊥) → (said ≡ status.ReadFault → ⊥) → (write → ⊥) → OfKeepers before after Calm
      → OfKeepers before after (λ b a. IfSome (content b) (λ history. CountsEntries history said)) → OfKeepers before after (λ b a. HasRisen write (Rose (faults b) (faults a)) said) → (said ≡ status.Ok) ⊎ (said ≡ status.Memory)
  ends_well status.Ok (Some b) (Some a) end script reading writing calm counts cause = inl refl
  ends_well status.Memory (Some b) (Some a) end script reading writing calm counts cause = inr refl
  ends_well status.Usage (Some b) (Some a) end script reading writing calm counts cause = absurd end
  ends_well (status.Script n) (Some b) (Some a) end script reading writing calm counts cause = absurd (script n refl)
  ends_well status.ReadFault (Some b) (Some a) end script reading writing calm counts cause = absurd (reading refl)
  ends_well status.WriteFault (Some b) (Some a) end script reading writing calm counts cause = absurd (writing cause)
  ends_well status.StoreFault (Some b) (Some a) end script reading writing calm counts cause = absurd (calm.1 cause)
  ends_well (status.NotEmpty n) (Some b) (Some a) end script reading writing calm counts cause = absurd (not_counted (content b) n calm.0 counts)
  ends_well status.DoorFault (Some b) (Some a) end script reading writing calm counts cause = absurd end
  ends_well (status.Layout n) (Some b) (Some a) end script reading writing calm counts cause = absurd end
  ends_well said None None end script reading writing calm counts cause = absurd calm
  ends_well said None (Some a) end script reading writing calm counts cause = absurd calm
  ends_well said (Some b) None end script reading writing calm counts cause = absurd calm

  pub drill_ends_well : (said : Status) (left : Option Bytes) (before after : Option K) → IsScriptEnd said → IsExposed left (λ input. (lines : List Line) × IsScript lines input) → IfSome left (λ input. IsRefusedBy input said) → (said ≡ status.ReadFault → ⊥) → (write → ⊥) → OfKeepers before after Calm
      → OfKeepers before after (λ b a. IfSome (content b) (λ history. CountsEntries history said)) → OfKeepers before after (λ b a. HasRisen write (Rose (faults b) (faults a)) said) → (said ≡ status.Ok) ⊎ (said ≡ status.Memory)
  drill_ends_well said left before after end script refused reading writing calm counts cause =
      ends_well said before after end (λ n e. not_refused left n script (subst (λ (s : Status). IfSome left (λ input. IsRefusedBy input s)) e refused)) reading writing calm counts cause

  pub stir_ends_well : (said : Status) (before after : Option K) (Whole : K → K → Bytes → Type 0) (old new : Option Bytes) → (write → ⊥) → OfKeepers before after Calm
      → OfKeepers before after (λ b a. content b ≡ Some [] → EndsSummary (Whole b a) write old new said) → OfKeepers before after (λ b a. HasRisen write (Rose (faults b) (faults a)) said) → (said ≡ status.Ok) ⊎ (said ≡ status.Memory)
  stir_ends_well status.Ok (Some b) (Some a) Whole old new writing calm stirs cause = inl refl
  stir_ends_well status.Memory (Some b) (Some a) Whole old new writing calm stirs cause = inr refl
  stir_ends_well status.WriteFault (Some b) (Some a) Whole old new writing calm stirs cause = absurd (writing cause)
  stir_ends_well status.StoreFault (Some b) (Some a) Whole old new writing calm stirs cause = absurd (calm.1 cause)
  stir_ends_well status.Usage (Some b) (Some a) Whole old new writing calm stirs cause = absurd (stirs calm.0)
  stir_ends_well (status.Script n) (Some b) (Some a) Whole old new writing calm stirs cause = absurd (stirs calm.0)
  stir_ends_well status.ReadFault (Some b) (Some a) Whole old new writing calm stirs cause = absurd (stirs calm.0)
  stir_ends_well (status.NotEmpty n) (Some b) (Some a) Whole old new writing calm stirs cause = absurd (stirs calm.0)
  stir_ends_well status.DoorFault (Some b) (Some a) Whole old new writing calm stirs cause = absurd (stirs calm.0)
  stir_ends_well (status.Layout n) (Some b) (Some a) Whole old new writing calm stirs cause = absurd (stirs calm.0)
  stir_ends_well said None None Whole old new writing calm stirs cause = absurd calm
  stir_ends_well said None (Some a) Whole old new writing calm stirs cause = absurd calm
  stir_ends_well said (Some b) None Whole old new writing calm stirs cause = absurd calm

  -- a layout breaks no rule
  no_rule : (left : Option Bytes) (n : ℕ) → IsExposed left IsLayout → IfSome left (λ layout. layout_of layout ≡ Err n) → ⊥
  no_rule None n is breaks = is
  no_rule (Some layout) n (plan, is) breaks = not_err (sym is ∙ breaks)
    where
      not_err : {p : Plan} → (let o : Result Plan ℕ = Ok p in o) ≡ Err n → ⊥
      not_err e = let wrong : ⊥ = cc in wrong

  pub serve_ends_well : (said : Status) (left : Option Bytes) (before after : Option K) → IsServeEnd said → IsExposed left IsLayout → ((rule : ℕ) → said ≡ status.Layout rule → IfSome left (λ layout. layout_of layout ≡ Err rule))
      → (said ≡ status.ReadFault → ⊥) → (said ≡ status.DoorFault → ⊥) → (write → ⊥) → OfKeepers before after (λ b a. Rose (faults b) (faults a) → ⊥) → OfKeepers before after (λ b a. HasRisen write (Rose (faults b) (faults a)) said) → (said ≡ status.Ok) ⊎ (said ≡ status.Memory)
  serve_ends_well status.Ok left before after end layout rules reading door writing calm cause = inl refl
  serve_ends_well status.Memory left before after end layout rules reading door writing calm cause = inr refl
  serve_ends_well status.Usage left before after end layout rules reading door writing calm cause = absurd end
  serve_ends_well (status.Script n) left before after end layout rules reading door writing calm cause = absurd end
  serve_ends_well (status.NotEmpty n) left before after end layout rules reading door writing calm cause = absurd end
  serve_ends_well status.ReadFault left before after end layout rules reading door writing calm cause = absurd (reading refl)
  serve_ends_well status.DoorFault left before after end layout rules reading door writing calm cause = absurd (door refl)
  serve_ends_well (status.Layout n) left before after end layout rules reading door writing calm cause = absurd (no_rule left n layout (rules n refl))
  serve_ends_well status.WriteFault left (Some b) (Some a) end layout rules reading door writing calm cause = absurd (writing cause)
  serve_ends_well status.StoreFault left (Some b) (Some a) end layout rules reading door writing calm cause = absurd (calm cause)
  serve_ends_well said left None None end layout rules reading door writing calm cause = absurd calm
  serve_ends_well said left None (Some a) end layout rules reading door writing calm cause = absurd calm
  serve_ends_well said left (Some b) None end layout rules reading door writing calm cause = absurd calm

-- no command ends with the usage line
pub no_usage : (c : Command) (said : Status) → IsCommandEnd c said → said ≡ status.Usage → ⊥
no_usage (command.Script s) said end is = subst IsScriptEnd is end
no_usage (command.Serve n) said end is = subst IsServeEnd is end
