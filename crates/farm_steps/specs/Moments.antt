-- The moments of the two regions, and what the readings of a step make of them.
use Rattle.std.specs.Prelude.{ℕ, max}
use Rattle.wiki_model.specs.declared.Region.{Region}
use Rattle.wiki_model.specs.declared.Region.TheVariants.{Home, West}
use Rattle.wiki_model.specs.declared.Readings.{Readings}
use Rattle.wiki_model.specs.World.{cut}

abbrev pub moment_of : Region → Readings → ℕ
moment_of Home at = at.home
moment_of West at = at.west

-- no moment falls, and a reading counts up to the greatest moment
abbrev pub moments_at : Readings → Readings → Readings
moments_at at now = record { home = max now.home (cut at.home); west = max now.west (cut at.west) }
