use Rattle.std.proofs.Common.{◌-◌, ◌+◌, length, codes, option_map}
use Rattle.sticky_routes.proofs.Fields.{Left}
use Rattle.sticky_routes.proofs.cookies.values_in.Given as goal

abbrev pub invariant-loop-at : goal.invariant-loop-at
invariant-loop-at l = record {
  position : Left (codes "cpPosIndex") l.field l.at (option_map (λ value. value.now) l.values.position);
  master : Left (codes "UseDC") l.field l.at (option_map (λ value. value.now) l.values.master);
  edge : Left (codes "UseCDNCache") l.field l.at (option_map (λ value. value.now) l.values.edge);
}

abbrev pub decreases-loop-at : goal.decreases-loop-at
decreases-loop-at l = length l.field + 1 - l.at
