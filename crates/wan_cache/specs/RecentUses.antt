-- The order of last use: each use has a number, a later one a greater, and each number has the key that was used.
use Rattle.std.specs.Prelude.{List, ℕ, ◌≡◌, ◌≢◌, ◌+◌, ◌<◌, ◌≤◌, Option, Some, None}
use Rattle.std.specs.BTreeMap.{BTreeMap, get, is_at}
use Rattle.std.specs.Map.{lookup}
use Rattle.std.specs.Ordering.{nat_cmp}
use Rattle.wiki_model.specs.Titles.{Title}

-- the key of each use by its number, and the number of the next use
pub record UseOrder : Type 0 where
  pub keys : List (ℕ × Title)
  pub next : ℕ

abbrev pub key_in : List (ℕ × Title) → ℕ → Option Title
key_in keys number = lookup (is_at (nat_cmp number)) keys

abbrev pub key_at : BTreeMap ℕ Title → ℕ → Option Title
key_at keys number = get nat_cmp keys number

-- every use is below the next
abbrev pub AreBelow : (keys : List (ℕ × Title)) → (next : ℕ) → Type 0
AreBelow keys next = (number : ℕ) (key : Title) → key_in keys number ≡ Some key → number < next

-- The key has got a new use, which is above all others; they stay.
pub record AddsUse (old new : UseOrder) (key : Title) : Type 0 where
  pub free : key_in old.keys old.next ≡ None
  pub newest : key_in new.keys old.next ≡ Some key
  pub others : (number : ℕ) → number ≢ old.next → key_in new.keys number ≡ key_in old.keys number
  pub next : new.next ≡ old.next + 1

-- This use is gone; all others stay.
pub record ForgetsUse (old new : UseOrder) (gone : ℕ) : Type 0 where
  pub left : key_in new.keys gone ≡ None
  pub others : (number : ℕ) → number ≢ gone → key_in new.keys number ≡ key_in old.keys number
  pub next : new.next ≡ old.next

-- each use has the key that it had
abbrev pub HasSameUses : (old new : List (ℕ × Title)) → Type 0
HasSameUses old new = (number : ℕ) → key_in new number ≡ key_in old number

-- no use is before this one
abbrev pub IsFirstUse : List (ℕ × Title) → ℕ → Type 0
IsFirstUse keys first = (number : ℕ) (key : Title) → key_in keys number ≡ Some key → first ≤ number

abbrev pub HasNoUse : List (ℕ × Title) → Type 0
HasNoUse keys = (number : ℕ) → key_in keys number ≡ None

-- Uses by key and keys by use are one relation.
pub record IsInOrder (uses : Title → Option ℕ) (keys : ℕ → Option Title) : Type 0 where
  pub there : (key : Title) (number : ℕ) → uses key ≡ Some number → keys number ≡ Some key
  pub back : (number : ℕ) (key : Title) → keys number ≡ Some key → uses key ≡ Some number
