use Rattle.script_generator.specs.Stir.{stirred_of}
use Rattle.script_generator.proofs.Stirs.{after_is, within_on}
use Rattle.script_generator.proofs.make_script.after_step.Goals as goal

pub returns-clause-value : goal.returns-clause-value
returns-clause-value c = after_is c.args.state c.args.draws.now (stirred_of c.after_by.result) c.requires.drawn c.after_by.ensures

pub returns-clause-within : goal.returns-clause-within
returns-clause-within c = within_on c.args.done c.args.state c.args.draws.now (stirred_of c.after_by.result) c.requires.within c.requires.below c.after_by.ensures
