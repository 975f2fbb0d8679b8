use Rattle.farm_steps.proofs.view_steps.apply.Goals as goal

pub returns : goal.returns
returns g c = (c.apply_in.result, c.applied.ensures, c.apply_in.ensures)
