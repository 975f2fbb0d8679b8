use denote.Shadow.{shadow}
use denote.Text.{Utf8}
use Rattle.std.proofs.Common.{◌≡◌, ◌++◌, length, option_map, string_bytes}
use Rattle.wiki_model.specs.Script.{unescaped}
use Rattle.drill_script.proofs.words.unescaped.Given as goal

abbrev pub invariant-loop-prefix : goal.invariant-loop-prefix
invariant-loop-prefix l = shadow (Utf8 l.rest) × (option_map (λ tail. string_bytes l.plain ++ tail) (unescaped l.rest) ≡ unescaped l.fn.word)

abbrev pub decreases-loop-prefix : goal.decreases-loop-prefix
decreases-loop-prefix l = length l.rest
