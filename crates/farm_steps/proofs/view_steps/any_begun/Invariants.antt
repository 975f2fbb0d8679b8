use Rattle.std.proofs.Common.{◌≡◌}
use Rattle.farm_steps.specs.ViewSteps.{any_begun}
use Rattle.farm_steps.proofs.view_steps.any_begun.Given as goal

abbrev pub invariant-loop-request : goal.invariant-loop-request
invariant-loop-request l = any_begun l.title l.request-iterator ≡ any_begun l.title l.requests.entries
