-- What the asks and answers of this crate stand for in the model.
use Rattle.std.specs.Prelude.{◌≡◌, Result, Ok, Err}
use Rattle.wiki_model.specs.History.{Edit}
use Rattle.wiki_model.specs.Answers as model
use Rattle.revision_keeper.specs.declared.keeper.KeepFault.{KeepFault}
use Rattle.revision_keeper.specs.declared.keeper.KeepFault.TheVariants as fault
use Rattle.edit_core.specs.declared.edit_ask.EditAsk.{EditAsk}
use Rattle.edit_core.specs.declared.edit_ask.SavedNote.{SavedNote}
use Rattle.edit_core.specs.declared.edit_ask.EditRefusal.{EditRefusal}
use Rattle.edit_core.specs.declared.edit_ask.EditRefusal.TheVariants as refusal
use Rattle.edit_core.specs.declared.decide.Decided.{Decided}
use Rattle.edit_core.specs.declared.decide.Decided.TheVariants as decided

abbrev pub edit_of : EditAsk → Edit
edit_of ask = record { client = ask.client; token = ask.token; title = ask.title; base = ask.base; text = ask.text }

abbrev pub saved_of : SavedNote → model.Saved
saved_of s = record { entry = s.entry; revision = s.revision; client = s.client; index = s.index; seconds = s.seconds }

abbrev pub decided_of : Decided → model.Answer
decided_of (decided.Saved note) = model.EditSaved (saved_of note)
decided_of (decided.Token entry) = model.TokenUsed entry
decided_of (decided.Conflict base current) = model.Conflict base current

-- how a fault of the keeper is answered
abbrev pub refusal_of : KeepFault → EditRefusal
refusal_of fault.Fault = refusal.Store
refusal_of fault.Memory = refusal.Memory

-- what is answered to a refused edit
abbrev pub refused_of : EditRefusal → model.Answer
refused_of (refusal.Conflict base current) = model.Conflict base current
refused_of (refusal.TokenReused entry) = model.TokenUsed entry
refused_of refusal.Store = model.StoreFault
refused_of refusal.Memory = model.NoMemory

-- a decided edit was saved, or is refused so
abbrev pub IsRefusal : Decided → Result SavedNote EditRefusal → Type 0
IsRefusal decided (Ok note) = decided_of decided ≡ model.EditSaved (saved_of note)
IsRefusal decided (Err refusal.Store) = ⊥
IsRefusal decided (Err refusal.Memory) = ⊥
IsRefusal decided (Err why) = decided_of decided ≡ refused_of why
