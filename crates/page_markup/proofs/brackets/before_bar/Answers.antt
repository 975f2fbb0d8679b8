use Rattle.std.proofs.Common.{arith, ◌∙◌, []}
use Rattle.page_markup.proofs.Cuts.{cut_before}
use Rattle.std.proofs.lemmas.Str.{IsCharBoundary-start}
use Rattle.page_markup.proofs.Places.{target_at}
use Rattle.page_markup.proofs.brackets.before_bar.Goals as goal

pub part-requires-clause-first : goal.part-requires-clause-first
part-requires-clause-first c = IsCharBoundary-start c.args.inner.now c.utf8.inner

pub part-requires-clause-last : goal.part-requires-clause-last
part-requires-clause-last c = cut_before 124 [] c.args.inner.now 0 c.find_byte-bar.result (omega arith) (c.find_byte-bar.ensures.place) c.find_byte-bar.ensures.end

pub returns : goal.returns
returns c = c.part.ensures ∙ target_at c.args.inner.now c.find_byte-bar.result c.find_byte-bar.ensures.place
