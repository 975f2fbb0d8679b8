use Rattle.std.proofs.Common.{◌≡◌, true, rules}
use Rattle.drill_script.specs.Words.{is_number}
use Rattle.drill_script.proofs.Numbers.{number_refused}
use Rattle.drill_script.proofs.words.number_of.Goals as goal

pub returns-in_default-2-clause-value : goal.returns-in_default-2-clause-value
returns-in_default-2-clause-value c =
    let t : is_number c.args.word.now ≡ true = search rules in
    number_refused c.args.most c.args.word.now c.in_default.field-0 c.ranges.most.fits c.in_default.ensures.value.0 t
