use Rattle.std.proofs.Common.{rules, ◌∙◌}
use Rattle.wiki_titles.proofs.Digits.{hex_more}
use Rattle.wiki_titles.proofs.client.write_hex.Goals as goal

pub loop-i-preserved : goal.loop-i-preserved
loop-i-preserved c = record {
  room = search rules;
  all = hex_more _ c.loop-i.i c.loop-i.rest c.low_hex.result c.loop-i.digits c.loop-i.invariant.room c.loop-i-test.true c.low_hex.ensures ∙ c.loop-i.invariant.all;
}
