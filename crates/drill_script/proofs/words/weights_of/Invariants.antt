use denote.Shadow.{shadow}
use denote.Text.{Utf8}
use Rattle.std.proofs.Common.{◌≡◌, ◌++◌, ◌-◌, ◌≤◌, length, option_map}
use Rattle.wiki_model.specs.Limits.{replicas_max}
use Rattle.drill_script.specs.Words.{weights_in}
use Rattle.drill_script.proofs.words.weights_of.Given as goal

abbrev pub invariant-loop-rest : goal.invariant-loop-rest
invariant-loop-rest l =
    shadow (Utf8 l.rest)
    × (length l.weights.items ≤ replicas_max)
    × (option_map (λ tail. l.weights.items ++ tail) (weights_in (replicas_max - length l.weights.items) l.rest) ≡ weights_in replicas_max l.word)

abbrev pub decreases-loop-rest : goal.decreases-loop-rest
decreases-loop-rest l = replicas_max - length l.weights.items
