use Rattle.std.proofs.Common.{refl}
use Rattle.std.proofs.lemmas.Str.{IsCharBoundary-start}
use Rattle.page_render.proofs.write_blocks.write_blocks.Goals as goal

pub loop-at-init : goal.loop-at-init
loop-at-init c = record {
  cut = λ l. IsCharBoundary-start c.args.text.now c.utf8.text;
  html = refl;
}
