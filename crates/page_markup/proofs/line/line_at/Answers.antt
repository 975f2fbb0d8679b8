use Rattle.std.proofs.Common.{arith, [], ◌∷◌}
use Rattle.page_markup.proofs.Cuts.{cut_before, cut_after_one, first_of, found_at}
use Rattle.page_markup.proofs.line.line_at.Goals as goal

pub part-requires-clause-last : goal.part-requires-clause-last
part-requires-clause-last c = cut_before 10 [] c.args.text.now c.args.at c.find_byte-end.result (omega arith) c.find_byte-end.ensures.place c.find_byte-end.ensures.end

pub returns-clause-cut : goal.returns-clause-cut
returns-clause-cut c = cut_before 10 [] c.args.text.now c.args.at c.find_byte-end.result (omega arith) c.find_byte-end.ensures.place c.find_byte-end.ensures.end

pub returns-clause-next : goal.returns-clause-next
returns-clause-next c = λ l. cut_after_one 10 c.args.text.now c.args.at c.find_byte-end.result c.utf8.text (omega arith) c.find_byte-end.ensures.place l

pub returns-clause-feed : goal.returns-clause-feed
returns-clause-feed c = λ l. first_of 10 [] c.args.text.now c.find_byte-end.result l (found_at (10 ∷ []) c.args.text.now c.args.at c.find_byte-end.result c.find_byte-end.ensures.place l)
