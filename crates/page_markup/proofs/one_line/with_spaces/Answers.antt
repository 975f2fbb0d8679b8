use Rattle.std.proofs.Common.{ap, ◌++◌}
use Rattle.wiki_model.specs.Bytes.{replaced, line_feed, space}
use Rattle.std.proofs.lemmas.Str.{IsCharBoundary-start}
use Rattle.page_markup.proofs.one_line.with_spaces.Goals as goal

pub loop-at-init : goal.loop-at-init
loop-at-init c = (λ l. IsCharBoundary-start c.args.text.now c.utf8.text, ap (λ x. x ++ replaced line_feed space c.args.text.now) c.new-made.ensures.bytes)
