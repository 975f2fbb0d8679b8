use Rattle.std.proofs.Common.{◌∙◌, sym, arith, None}
use Rattle.std.proofs.lemmas.Str.Pattern.{strip_suffix_char}
use Rattle.page_markup.proofs.LineKinds.{back_none}
use Rattle.page_markup.proofs.line.skip_back.Goals as goal

pub returns-clause-value : goal.returns-clause-value
returns-clause-value c = sym (back_none c.loop-shorter.rest.now (strip_suffix_char 32 c.loop-shorter.rest.now None c.in_default.ensures.cases (omega arith))) ∙ c.loop-shorter.invariant.1
