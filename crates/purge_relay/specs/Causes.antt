-- What a fault of a wire has to show for itself.
use Rattle.std.specs.Prelude.{ℕ, ◌≤◌, Result, IsErrOf}
use Rattle.wiki_model.specs.Steps.{Rose}
use Rattle.purge_relay.specs.declared.wire.WireFault.{WireFault}

-- the count does not fall, and has risen if Failed is answered
pub record HasWireFault {T : Type 0} (before now : ℕ) (result : Result T WireFault) : Type 0 where
  pub later : before ≤ now
  pub failed : IsErrOf result WireFault.Failed → Rose before now
