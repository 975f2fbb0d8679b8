-- Where a byte stands in a text.
use Rattle.std.specs.Prelude.{ℕ, not, ◌==◌}
use Rattle.std.specs.List.{prefix_len}
use Rattle.wiki_model.specs.Bytes.{Bytes}

-- how many bytes stand before the first such byte, or all
abbrev pub first_place : (byte : ℕ) → Bytes → ℕ
first_place byte bytes = prefix_len (λ c. not (c == byte)) bytes
