-- The readings of a clock in memory.
use Rattle.std.specs.Prelude.{min}
use Rattle.wiki_model.specs.declared.Readings.{Readings}
use Rattle.wiki_model.specs.Limits.{greatest_moment}

-- a greater reading counts as the last moment
abbrev pub cut : Readings → Readings
cut readings = record { home = min readings.home greatest_moment; west = min readings.west greatest_moment }
