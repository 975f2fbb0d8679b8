use Rattle.std.proofs.Common.{◌∙◌, sym, arith, None}
use Rattle.std.proofs.lemmas.Str.Pattern.{strip_prefix_char}
use Rattle.page_markup.proofs.LineKinds.{plain_line}
use Rattle.page_markup.proofs.line.line_of.Goals as goal

pub returns-in-None-clause-line : goal.returns-in-None-clause-line
returns-in-None-clause-line c =
    plain_line c.args.line.now (sym c.is_blank.ensures ∙ c.if-is_blank.false) c.in_default.ensures.none (strip_prefix_char 42 c.args.line.now None c.in-None.ensures.cases (omega arith))
