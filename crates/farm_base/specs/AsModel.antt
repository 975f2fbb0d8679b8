-- What the values of this crate stand for in the model's definitions.
-- The bounds that a person sets are within a minute, and the clocks may always differ by something.
use Rattle.std.specs.Prelude.{Bool, ◌&&◌, nat_lt, nat_le}
use Rattle.wiki_model.specs.Limits as model
use Rattle.wiki_model.specs.Limits.{bound_max}
use Rattle.farm_base.specs.declared.bounds.Bounds.{Bounds}

abbrev pub bounds_of : Bounds → model.Bounds
bounds_of b = record { commit_delay = b.commit_delay; read_lag = b.read_lag; skew = b.skew }

abbrev pub are_allowed : model.Bounds → Bool
are_allowed b =
    nat_le b.commit_delay bound_max
    && nat_le b.read_lag bound_max
    && nat_lt 0 b.skew
    && nat_le b.skew bound_max
