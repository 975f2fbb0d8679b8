-- What reads and writes do to the bytes that a source or a sink exposes.
-- A sink may cease to expose them for good, if it could not keep a piece; it never begins to.
use Rattle.std.specs.Prelude.{◌≡◌, ℕ, ◌≤◌, List, ◌++◌, length, take, ⊤, Option, None, Some, Result, MatchResult}
use Rattle.std.specs.Io.KnownBytes.{Consumes, IsAtEnd}

-- the exposed bytes grow by these, or are exposed no more
abbrev pub Adds : (old new : Option (List ℕ)) → (bytes : List ℕ) → Type 0
Adds old None bytes = ⊤
Adds None (Some after) bytes = ⊥
Adds (Some before) (Some after) bytes = after ≡ before ++ bytes

-- the exposed bytes stay, or are exposed no more
abbrev pub Stays : (old new : Option (List ℕ)) → Type 0
Stays old None = ⊤
Stays None (Some after) = ⊥
Stays (Some before) (Some after) = after ≡ before

-- a write adds the bytes of the piece that it took, and none if it fails
abbrev pub WriteAdds : {E : Type 0}
    → (old new : Option (List ℕ)) → Result ℕ E → (piece : List ℕ) → Type 0
WriteAdds old new result piece =
    MatchResult result (λ n. Adds old new (take n piece)) (λ _. Stays old new)

-- some prefix of the bytes was added
abbrev pub AddsPrefix : (old new : Option (List ℕ)) → (bytes : List ℕ) → Type 0
AddsPrefix old new bytes = (n : ℕ) × (n ≤ length bytes) × Adds old new (take n bytes)

-- all that was left was read, or one byte more than the limit
abbrev pub ReadsAll : (limit : ℕ) → (old new : Option (List ℕ)) → (bytes : List ℕ) → Type 0
ReadsAll limit old new bytes = Consumes old new bytes × (length bytes ≤ limit → IsAtEnd new)
