use Rattle.std.proofs.Common.{◌∙◌, ap, ◌++◌, arith, [], ◌∷◌}
use Rattle.page_markup.proofs.Cuts.{cut_before, cut_after_one, last_line, inner_line}
use Rattle.std.specs.String.{string_bytes}
use Rattle.page_markup.proofs.one_line.push_line.Goals as goal

pub part-requires-clause-last : goal.part-requires-clause-last
part-requires-clause-last c = cut_before 10 [] c.args.text.now c.args.at c.find_byte-end.result (omega arith) c.find_byte-end.ensures.place c.find_byte-end.ensures.end

pub returns-then-end-text-clause-spaced : goal.returns-then-end-text-clause-spaced
returns-then-end-text-clause-spaced c =
    last_line c.args.text.now (string_bytes c.args.made.now) (string_bytes c.push_str.new.self) c.args.at c.find_byte-end.result (omega (arith, c.requires.within)) c.find_byte-end.ensures.place (omega (arith, c.if-end-text.true))
    (c.in_ok-push_str.ensures.bytes ∙ ap (λ x. string_bytes c.args.made.now ++ x) c.part.ensures)

pub returns-clause-cut : goal.returns-clause-cut
returns-clause-cut c = λ l. cut_after_one 10 c.args.text.now c.args.at c.find_byte-end.result c.utf8.text (omega arith) c.find_byte-end.ensures.place (omega (arith, c.if-end-text.false))

pub returns-clause-spaced : goal.returns-clause-spaced
returns-clause-spaced c =
    inner_line c.args.text.now (string_bytes c.args.made.now) (string_bytes c.push_str-2.new.self) c.args.at c.find_byte-end.result c.find_byte-end.ensures.place (omega (arith, c.if-end-text.false))
    (c.in_ok-push_str-2.ensures.bytes ∙ ap (λ x. x ++ (32 ∷ [])) (c.in_ok-push_str.ensures.bytes ∙ ap (λ x. string_bytes c.args.made.now ++ x) c.part.ensures))
