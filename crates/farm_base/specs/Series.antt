-- What a clock or lots expose: each call gives the first of those to come, and the last one for good when they are
-- used up.
use Rattle.std.specs.Prelude.{◌≡◌, List, [], ◌∷◌, drop, Option, IfSome, option_map}

pub record Series (A : Type 0) : Type 0 where
  pub coming : List A
  pub last : A

abbrev pub first_or : {A : Type 0} → A → List A → A
first_or last [] = last
first_or last (first ∷ _) = first

abbrev pub next_of : {A : Type 0} → Series A → A
next_of series = first_or series.last series.coming

abbrev pub without_next : {A : Type 0} → Series A → Series A
without_next series = record series { coming = drop 1 series.coming }

-- the value is the next one, and those after it are left
pub record Gives {A : Type 0} (old new : Option (Series A)) (value : A) : Type 0 where
  pub next : IfSome old (λ series. value ≡ next_of series)
  pub rest : new ≡ option_map without_next old
