use Rattle.std.proofs.Common.{ap, ◌++◌}
use Rattle.std.proofs.lemmas.Str.{IsCharBoundary-start}
use Rattle.page_markup.specs.Tree.{tree_from}
use Rattle.page_markup.proofs.tree.read_tree.Goals as goal

pub loop-at-init : goal.loop-at-init
loop-at-init c = (λ l. IsCharBoundary-start c.args.text.now c.utf8.text, ap (λ bs. bs ++ tree_from c.args.text.now) c.new-blocks.ensures.items)
