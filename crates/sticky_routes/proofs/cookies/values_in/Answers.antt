use Rattle.std.proofs.Common.{codes, option_map}
use Rattle.sticky_routes.proofs.Fields.{read_piece}
use Rattle.sticky_routes.proofs.cookies.values_in.Goals as goal

pub loop-at-preserved : goal.loop-at-preserved
loop-at-preserved c = record {
  position = read_piece (codes "cpPosIndex") c.args.field.now c.split_at.result.1.now c.split_at-in-loop-at.result.0.now (option_map (λ value. value.now) c.loop-at.values.position) (option_map (λ value. value.now) c.with_piece-values.result.position) c.loop-at.at c.first_place-count.result
      c.loop-at-test.true c.loop-at.invariant.position c.split_at.ensures.back c.first_place-count.ensures.place c.split_at-in-loop-at.ensures.front c.with_piece-values.ensures.position;
  master = read_piece (codes "UseDC") c.args.field.now c.split_at.result.1.now c.split_at-in-loop-at.result.0.now (option_map (λ value. value.now) c.loop-at.values.master) (option_map (λ value. value.now) c.with_piece-values.result.master) c.loop-at.at c.first_place-count.result
      c.loop-at-test.true c.loop-at.invariant.master c.split_at.ensures.back c.first_place-count.ensures.place c.split_at-in-loop-at.ensures.front c.with_piece-values.ensures.master;
  edge = read_piece (codes "UseCDNCache") c.args.field.now c.split_at.result.1.now c.split_at-in-loop-at.result.0.now (option_map (λ value. value.now) c.loop-at.values.edge) (option_map (λ value. value.now) c.with_piece-values.result.edge) c.loop-at.at c.first_place-count.result
      c.loop-at-test.true c.loop-at.invariant.edge c.split_at.ensures.back c.first_place-count.ensures.place c.split_at-in-loop-at.ensures.front c.with_piece-values.ensures.edge;
}
