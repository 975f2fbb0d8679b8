-- What a store finds after any calls: the position with the greatest index that was told for the client, until it
-- expires.
use Rattle.std.specs.Prelude.{ℕ, ◌≡◌, ◌<◌, ◌≤◌, ◌⊎◌, List, [], ◌∷◌, None, option_map}
use Rattle.wiki_model.specs.Titles.{Client}
use Rattle.chronology_store.specs.declared.position_row.HeldPosition.{HeldPosition}
use Rattle.chronology_store.specs.declared.ClientCommit.{ClientCommit}
use Rattle.chronology_store.specs.PositionRow.{with_told, with_reserved, held_by, unless_past, known_by}
use Rattle.chronology_store.specs.ChronologyStore.{Positions, row_of, find_in, Changes, Sweeps, TellsAll}

-- a note or a relay tells a client's position, a rebuild those of its rows, a sweep has a moment, and a row may be
-- reserved
pub data Call : Type 0 where
  Told : Client → HeldPosition → Call
  Swept : (now : ℕ) → Call
  Rebuilt : List ClientCommit → Call
  Reserved : Client → Call

-- a store as these calls have left it, the newest first
abbrev pub IsAfter : List Call → Positions → Type 0
IsAfter [] positions = (client : Client) → (row_of positions client).held ≡ None
IsAfter (Told client held ∷ calls) positions =
    (before : Positions) × IsAfter calls before × Changes client (with_told held) before positions
IsAfter (Swept now ∷ calls) positions = (before : Positions) × IsAfter calls before × Sweeps now before positions
IsAfter (Rebuilt rows ∷ calls) positions = (before : Positions) × IsAfter calls before × TellsAll rows before positions
IsAfter (Reserved client ∷ calls) positions =
    (before : Positions) × IsAfter calls before × Changes client with_reserved before positions

abbrev pub IsWritten : Client → HeldPosition → List ClientCommit → Type 0
IsWritten client held [] = ⊥
IsWritten client held (written ∷ rows) =
    ((written.client ≡ client) × (held_by written ≡ held)) ⊎ IsWritten client held rows

abbrev pub IsTold : Client → HeldPosition → List Call → Type 0
IsTold client held [] = ⊥
IsTold client held (Told other told ∷ calls) = ((other ≡ client) × (told ≡ held)) ⊎ IsTold client held calls
IsTold client held (Swept now ∷ calls) = IsTold client held calls
IsTold client held (Rebuilt rows ∷ calls) = IsWritten client held rows ⊎ IsTold client held calls
IsTold client held (Reserved other ∷ calls) = IsTold client held calls

-- an index has one position, and a greater index never has an earlier expiry
abbrev pub IsConsistent : Client → List Call → Type 0
IsConsistent client calls =
    (a b : HeldPosition) → IsTold client a calls → IsTold client b calls → (a.index ≡ b.index → a ≡ b)
    × (a.index < b.index → a.expires ≤ b.expires)

-- no sweep has a moment after this one
abbrev pub AreSweptBy : (now : ℕ) → List Call → Type 0
AreSweptBy now [] = Unit {0}
AreSweptBy now (Told client held ∷ calls) = AreSweptBy now calls
AreSweptBy now (Swept at ∷ calls) = (at ≤ now) × AreSweptBy now calls
AreSweptBy now (Rebuilt rows ∷ calls) = AreSweptBy now calls
AreSweptBy now (Reserved client ∷ calls) = AreSweptBy now calls

pub record IsGreatest (client : Client) (held : HeldPosition) (calls : List Call) : Type 0 where
  pub told : IsTold client held calls
  pub greatest : (other : HeldPosition) → IsTold client other calls → other.index ≤ held.index

abbrev pub FindsGreatest : Type 0
FindsGreatest =
    (calls : List Call) (positions : Positions) (client : Client) (now : ℕ) → IsAfter calls positions
    → IsConsistent client calls → AreSweptBy now calls
    → ((held : HeldPosition) → IsGreatest client held calls
    → find_in positions client now ≡ option_map known_by (unless_past now held))
    × (((held : HeldPosition) → ¬ IsTold client held calls) → find_in positions client now ≡ None)
