-- What a mark encloses in a text that ends before the whole text does.
use Rattle.std.specs.Prelude.{ℕ, ◌+◌, ◌-◌, take, drop, Option, option_map}
use Rattle.wiki_model.specs.Bytes.{Bytes}

abbrev pub between : (from to : ℕ) → Bytes → Bytes
between from to text = take (to - from) (drop from text)

-- the text that marks of this width enclose, from a place to where the second one stands, and the text behind it
abbrev pub cut_within : (width at to : ℕ) → Bytes → Option ℕ → Option (Bytes × Bytes)
cut_within width at to text found =
    option_map (λ close. (between (at + width) close text, between (close + width) to text)) found
