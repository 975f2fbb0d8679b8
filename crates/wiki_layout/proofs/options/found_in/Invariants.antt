use Rattle.std.proofs.Common.{◌≡◌, length}
use Rattle.wiki_layout.specs.Options.{found_from, nothing}
use Rattle.wiki_layout.specs.AsModel.{found_of, texts_of}
use Rattle.wiki_layout.proofs.options.found_in.Given as goal

abbrev pub invariant-loop-rest : goal.invariant-loop-rest
invariant-loop-rest l = found_from (found_of l.found) (texts_of l.rest) ≡ found_from nothing (texts_of l.fn.words)

abbrev pub decreases-loop-rest : goal.decreases-loop-rest
decreases-loop-rest l = length l.rest
