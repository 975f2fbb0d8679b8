use Rattle.region_state.proofs.ChangingParts.{swept_region}
use Rattle.region_state.proofs.region_state.RegionState.sweep.Goals as goal

pub returns : goal.returns
returns g c = swept_region _ _ c.args.now c.sweep_doubled.new.positions c.sweep_doubled.new.swept_rows c.self.view_is c.sweep_doubled.ensures
