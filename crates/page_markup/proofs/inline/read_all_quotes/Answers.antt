use Rattle.std.proofs.Common.{◌+◌, arith}
use Rattle.std.specs.Prelude.{codes}
use Rattle.page_markup.proofs.Places.{remembers_past}
use Rattle.page_markup.proofs.inline.read_all_quotes.Goals as goal

pub returns-clause-known : goal.returns-clause-known
returns-clause-known c = record {
  five = remembers_past (codes "'''''") c.args.text.now (c.args.at + 5 + 1) (c.args.at + 1 + 6) c.in_ok-five.five c.in_ok-five.ensures.remembers (omega arith);
  three = remembers_past (codes "'''") c.args.text.now (c.args.at + 3 + 1) (c.args.at + 1 + 4) c.in_ok-three.three c.in_ok-three.ensures.remembers (omega arith);
  two = remembers_past (codes "''") c.args.text.now (c.args.at + 2 + 1) (c.args.at + 1 + 3) c.in_ok-two.two c.in_ok-two.ensures.remembers (omega arith);
  brackets = remembers_past (codes "]]") c.args.text.now (c.args.at + 2) (c.args.at + 1 + 2) c.args.known.brackets c.requires.known.brackets (omega arith);
  braces = remembers_past (codes "}}") c.args.text.now (c.args.at + 2) (c.args.at + 1 + 2) c.args.known.braces c.requires.known.braces (omega arith);
}
