-- Why a source was not read to its end.
use Rattle.std.specs.Prelude.{ℕ, List, Result, IsErrOf, codes}
use Rattle.farm_base.specs.declared.read_write.InputFault.{InputFault}
use Rattle.farm_base.specs.declared.read_write.InputFault.TheVariants.{Failed, Memory}

-- this holds if a read failed
abbrev pub OnFailed : {T : Type 0} → Result T InputFault → Type 0 → Type 0
OnFailed result claim = IsErrOf result Failed → claim

-- what a person reads
abbrev pub fault_text : InputFault → List ℕ
fault_text Failed = codes "a read failed"
fault_text Memory = codes "out of memory"
