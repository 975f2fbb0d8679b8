-- A script's first lines set what a farm may be opened with: their weights and bounds are within the limits, as they are spelled,
-- and so are those that stand where no line sets them.
use Rattle.std.proofs.Common.{ℕ, ◌≤◌, ◌<◌, Bool, List, [], ◌∷◌, length, arith}
use Rattle.wiki_model.specs.declared.Region.{Region}
use Rattle.wiki_model.specs.Bytes.{Bytes}
use Rattle.wiki_model.specs.Titles.{Title}
use Rattle.wiki_model.specs.Limits.{Bounds, default_bounds, replicas_max}
use Rattle.wiki_model.specs.Script.{Line, AreLines, IsBounds}
use Rattle.wiki_model.specs.Script.Line.{FarmLine, BoundsLine, At, BeatLine, ApplyLine, EditLine, ViewLine, Open, BeginLine, CommitLine, WaitLine, LookLine, SnapLine, StoreLine, CarryLine, DropLine, MarkupLine, End}
use Rattle.wiki_model.specs.Report.{script_setting, bounds_of}
use Rattle.script_runner.specs.RunScript.{IsAllowed}

default_allowed : IsBounds default_bounds
default_allowed = (omega arith, omega arith, omega arith, omega arith)

one_replica : (0 < length {A = ℕ} (1 ∷ [])) × (length {A = ℕ} (1 ∷ []) ≤ replicas_max)
one_replica = (omega arith, omega arith)

-- the bounds of the line after the line `farm`
second_bounds : (home west : List ℕ) (epoch : ℕ) (earlier lines : List Line) (bytes : Bytes) → AreLines earlier lines bytes → IsBounds (bounds_of (FarmLine home west epoch ∷ lines))
second_bounds home west epoch earlier [] bytes are = default_allowed
second_bounds home west epoch earlier (FarmLine home2 west2 epoch2 ∷ lines) bytes are = default_allowed
second_bounds home west epoch earlier (BoundsLine b ∷ lines) bytes (text, rest, whole, bare, utf8, spelled, may, more) = spelled.0
second_bounds home west epoch earlier (At at ∷ lines) bytes are = default_allowed
second_bounds home west epoch earlier (BeatLine ∷ lines) bytes are = default_allowed
second_bounds home west epoch earlier (ApplyLine r replica count ∷ lines) bytes are = default_allowed
second_bounds home west epoch earlier (EditLine edit ∷ lines) bytes are = default_allowed
second_bounds home west epoch earlier (ViewLine view ∷ lines) bytes are = default_allowed
second_bounds home west epoch earlier (Open id asked ∷ lines) bytes are = default_allowed
second_bounds home west epoch earlier (BeginLine id ∷ lines) bytes are = default_allowed
second_bounds home west epoch earlier (CommitLine id ∷ lines) bytes are = default_allowed
second_bounds home west epoch earlier (WaitLine id ∷ lines) bytes are = default_allowed
second_bounds home west epoch earlier (LookLine id ∷ lines) bytes are = default_allowed
second_bounds home west epoch earlier (SnapLine id ∷ lines) bytes are = default_allowed
second_bounds home west epoch earlier (StoreLine id ∷ lines) bytes are = default_allowed
second_bounds home west epoch earlier (CarryLine number ∷ lines) bytes are = default_allowed
second_bounds home west epoch earlier (DropLine number ∷ lines) bytes are = default_allowed
second_bounds home west epoch earlier (MarkupLine markup ∷ lines) bytes are = default_allowed
second_bounds home west epoch earlier (End ∷ lines) bytes are = default_allowed

-- what the setting has of them
allowed : (together : Region → Title → Title → Bool) (home west : List ℕ) (epoch : ℕ) (bounds : Bounds) → IsBounds bounds → (0 < length home) × (length home ≤ replicas_max) → (0 < length west) × (length west ≤ replicas_max)
    → IsAllowed (record { home_weights = home; west_weights = west; epoch = epoch; workers = 1; bounds = bounds; together = together; opened = 0 })
allowed together home west epoch bounds (delay, lag, skew, skew_most) (home_some, home_few) (west_some, west_few) = record {
  home_some = home_some;
  home_few = home_few;
  west_some = west_some;
  west_few = west_few;
  delay = delay;
  skew = skew;
  holds = omega (arith, skew);
  short = omega (arith, delay, lag, skew_most);
}

pub script_allowed : (together : Region → Title → Title → Bool) (lines : List Line) (bytes : Bytes) → AreLines [] lines bytes → IsAllowed (script_setting together lines)
script_allowed together [] bytes are = allowed together (1 ∷ []) (1 ∷ []) 0 default_bounds default_allowed one_replica one_replica
script_allowed together (FarmLine home west epoch ∷ lines) bytes (text, rest, whole, bare, utf8, spelled, may, more) =
    allowed together home west epoch (bounds_of (FarmLine home west epoch ∷ lines)) (second_bounds home west epoch (FarmLine home west epoch ∷ []) lines rest more) (spelled.0.0, spelled.0.1) (spelled.1.0, spelled.1.1)
script_allowed together (BoundsLine b ∷ lines) bytes (text, rest, whole, bare, utf8, spelled, may, more) = allowed together (1 ∷ []) (1 ∷ []) 0 b spelled.0 one_replica one_replica
script_allowed together (At at ∷ lines) bytes are = allowed together (1 ∷ []) (1 ∷ []) 0 default_bounds default_allowed one_replica one_replica
script_allowed together (BeatLine ∷ lines) bytes are = allowed together (1 ∷ []) (1 ∷ []) 0 default_bounds default_allowed one_replica one_replica
script_allowed together (ApplyLine r replica count ∷ lines) bytes are = allowed together (1 ∷ []) (1 ∷ []) 0 default_bounds default_allowed one_replica one_replica
script_allowed together (EditLine edit ∷ lines) bytes are = allowed together (1 ∷ []) (1 ∷ []) 0 default_bounds default_allowed one_replica one_replica
script_allowed together (ViewLine view ∷ lines) bytes are = allowed together (1 ∷ []) (1 ∷ []) 0 default_bounds default_allowed one_replica one_replica
script_allowed together (Open id asked ∷ lines) bytes are = allowed together (1 ∷ []) (1 ∷ []) 0 default_bounds default_allowed one_replica one_replica
script_allowed together (BeginLine id ∷ lines) bytes are = allowed together (1 ∷ []) (1 ∷ []) 0 default_bounds default_allowed one_replica one_replica
script_allowed together (CommitLine id ∷ lines) bytes are = allowed together (1 ∷ []) (1 ∷ []) 0 default_bounds default_allowed one_replica one_replica
script_allowed together (WaitLine id ∷ lines) bytes are = allowed together (1 ∷ []) (1 ∷ []) 0 default_bounds default_allowed one_replica one_replica
script_allowed together (LookLine id ∷ lines) bytes are = allowed together (1 ∷ []) (1 ∷ []) 0 default_bounds default_allowed one_replica one_replica
script_allowed together (SnapLine id ∷ lines) bytes are = allowed together (1 ∷ []) (1 ∷ []) 0 default_bounds default_allowed one_replica one_replica
script_allowed together (StoreLine id ∷ lines) bytes are = allowed together (1 ∷ []) (1 ∷ []) 0 default_bounds default_allowed one_replica one_replica
script_allowed together (CarryLine number ∷ lines) bytes are = allowed together (1 ∷ []) (1 ∷ []) 0 default_bounds default_allowed one_replica one_replica
script_allowed together (DropLine number ∷ lines) bytes are = allowed together (1 ∷ []) (1 ∷ []) 0 default_bounds default_allowed one_replica one_replica
script_allowed together (MarkupLine markup ∷ lines) bytes are = allowed together (1 ∷ []) (1 ∷ []) 0 default_bounds default_allowed one_replica one_replica
script_allowed together (End ∷ lines) bytes are = allowed together (1 ∷ []) (1 ∷ []) 0 default_bounds default_allowed one_replica one_replica
