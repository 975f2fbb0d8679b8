use Rattle.std.proofs.Common.{arith}
use Rattle.page_markup.proofs.Closes.{next_within}
use Rattle.page_markup.proofs.find_mark.next_place.Goals as goal

pub returns-then-from-known-clause-end : goal.returns-then-from-known-clause-end
returns-then-from-known-clause-end c =
    omega (arith, c.requires.remembered c.if-from-known.true, next_within c.args.mark.now c.args.from c.args.text.now c.requires.within)
