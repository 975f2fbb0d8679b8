use Rattle.std.proofs.Common.{◌≡◌, ◌+◌, drop, ◌==◌, ◌||◌}
use Rattle.std.specs.Prelude.{not}
use Rattle.std.specs.List.{prefix_len}
use Rattle.sticky_routes.proofs.region.host_length.Given as goal

abbrev pub invariant-loop-i : goal.invariant-loop-i
invariant-loop-i l = prefix_len (λ c. not ((c == 46) || (c == 58))) l.host ≡ l.i + prefix_len (λ c. not ((c == 46) || (c == 58))) (drop l.i l.host)
