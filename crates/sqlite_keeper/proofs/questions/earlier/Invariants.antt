use Rattle.std.proofs.Common.{◌<◌, ◌^◌, IfSome}
use Rattle.sqlite_keeper.proofs.questions.earlier.Given as goal

-- what is found so far came out of a row
abbrev pub invariant-loop : goal.invariant-loop
invariant-loop g l = IfSome l.found (λ n. n < 2 ^ 63)
