use Rattle.std.proofs.Common.{IsTrue, subst, sym}
use Rattle.wiki_model.specs.Titles.{is_client}
use Rattle.wiki_titles.proofs.Digits.{hex_is_client}
use Rattle.wiki_titles.proofs.client.numbered.Goals as goal

pub invariant_of-result : goal.invariant_of-result
invariant_of-result c = subst (λ digits. IsTrue (is_client digits)) (sym c.hex_digits.ensures) (hex_is_client c.args.n)
