-- Whether two messages say the same.
use Rattle.std.specs.Prelude.{◌≡◌, ◌↔◌, Bool, true, false, ◌==◌, ◌&&◌, bytes_eq}
use Rattle.wiki_model.specs.World as model

abbrev pub is_same_body : model.Body → model.Body → Bool
is_same_body (model.Purge p t i) (model.Purge q u j) = (p == q) && bytes_eq t u && (i == j)
is_same_body (model.Position c x n s) (model.Position d y m t) = bytes_eq c d && (x == y) && (n == m) && (s == t)
is_same_body (model.Purge p t i) (model.Position d y m s) = false
is_same_body (model.Position c x n s) (model.Purge q u j) = false

-- Bodies say the same if and only if they are equal.
abbrev pub SameSaysEqual : Type 0
SameSaysEqual = (a b : model.Body) → (is_same_body a b ≡ true) ↔ (a ≡ b)
