use Rattle.std.proofs.Common.{◌≡◌, true, rules, sym}
use Rattle.wiki_layout.specs.Options.{is_numeral}
use Rattle.wiki_layout.proofs.ParsedNumbers.{count_refused}
use Rattle.wiki_layout.proofs.options.count_in.Goals as goal

pub returns-in-Err : goal.returns-in-Err
returns-in-Err c =
    let t : is_numeral c.args.word.now ≡ true = search rules in
    sym (count_refused c.args.word.now c.in-Err.field-0 c.in-Err.ensures.value.0 t)
