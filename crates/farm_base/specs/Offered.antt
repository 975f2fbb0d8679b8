-- The connections of a door that exposes them, and what each call does to them.
-- Whoever hands back only what the door gave keeps them exposed; of a connection from elsewhere nothing is said.
use Rattle.std.specs.Prelude.{◌≡◌, ℕ, ◌+◌, ◌-◌, ◌<◌, Bool, true, false, List, [], ◌∷◌, ◌++◌, drop, Option, None, Some, IfSome, option_map, Result, Ok, Err}

-- those that are left, in the order in which they are given; how many were given and not yet handed back; and
-- those handed back, each as it was then, in that order
pub record Offered (A : Type 0) : Type 0 where
  pub left : List A
  pub out : ℕ
  pub returned : List A

-- the first of them is given
abbrev pub one_out : {A : Type 0} → Offered A → Offered A
one_out offered = record offered { left = drop 1 offered.left; out = offered.out + 1 }

abbrev pub one_back : {A : Type 0} → A → Offered A → Offered A
one_back conn offered = record {
  left = offered.left;
  out = offered.out - 1;
  returned = offered.returned ++ conn ∷ [];
}

-- the connection was the first of those left
pub record GivesFirst {A : Type 0} (old new : Option (Offered A)) (conn : A) : Type 0 where
  pub first : IfSome old (λ offered. offered.left ≡ conn ∷ drop 1 offered.left)
  pub rest : new ≡ option_map one_out old

-- none is left
pub record GivesNone {A : Type 0} (old new : Option (Offered A)) : Type 0 where
  pub none_left : IfSome old (λ offered. offered.left ≡ [])
  pub same : new ≡ old

-- the first is given, or none if none is left
abbrev pub GivesOne : {A : Type 0} → (old new : Option (Offered A)) → Option A → Type 0
GivesOne old new (Some conn) = GivesFirst old new conn
GivesOne old new None = GivesNone old new

-- a call that fails changes nothing
abbrev pub GivesNext : {A E : Type 0} → (old new : Option (Offered A)) → Result (Option A) E → Type 0
GivesNext old new (Ok found) = GivesOne old new found
GivesNext old new (Err _) = new ≡ old

-- a connection that was given is handed back
pub record TakesBack {A : Type 0} (old new : Option (Offered A)) (conn : A) : Type 0 where
  pub back : IfSome old (λ offered. 0 < offered.out → new ≡ Some (one_back conn offered))
  pub hidden : old ≡ None → new ≡ None

-- whether a call said that there are no more
abbrev pub is_none_left : {A E : Type 0} → Result (Option A) E → Bool
is_none_left (Ok None) = true
is_none_left (Ok (Some _)) = false
is_none_left (Err _) = false
