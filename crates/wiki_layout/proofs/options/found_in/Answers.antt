use Rattle.std.proofs.Common.{rules, ◌≡◌, true, false, Some, None, length, sym, ap, ◌∙◌}
use Rattle.std.specs.Prelude.{◌==◌}
use Rattle.wiki_layout.specs.Options.{begun, has, found_from}
use Rattle.wiki_layout.specs.AsModel.{found_of, given_of, texts_of}
use Rattle.wiki_layout.proofs.OptionTurns.{none_begun, has_begun, begun_on, texts_filled}
use Rattle.wiki_layout.proofs.options.found_in.Goals as goal

pub returns-in_default : goal.returns-in_default
returns-in_default c =
    let l = c.loop-rest in
    let filled : (length l.rest.now == 0) ≡ false = search rules in
    let at : begun (texts_of l.rest.now) ≡ None = search rules in
    sym (sym l.invariant ∙ none_begun (found_of l.found) (texts_of l.rest.now) (texts_filled l.rest.now filled) at)

pub returns-then-has : goal.returns-then-has
returns-then-has c =
    let l = c.loop-rest in
    let filled : (length l.rest.now == 0) ≡ false = search rules in
    let at : begun (texts_of l.rest.now) ≡ Some (given_of c.in-Some.given, texts_of c.in-Some.more.now) =
    search rules in
    let twice : has (given_of c.in-Some.given) (found_of l.found) ≡ true = search rules in
    sym (sym l.invariant ∙ has_begun (found_of l.found) (texts_of l.rest.now) (given_of c.in-Some.given)
    (texts_of c.in-Some.more.now) (texts_filled l.rest.now filled) at twice)

pub loop-rest-preserved : goal.loop-rest-preserved
loop-rest-preserved c =
    let l = c.loop-rest in
    let filled : (length l.rest.now == 0) ≡ false = search rules in
    let at : begun (texts_of l.rest.now) ≡ Some (given_of c.in-Some.given, texts_of c.in-Some.more.now) =
    search rules in
    let once : has (given_of c.in-Some.given) (found_of l.found) ≡ false = search rules in
    ap (λ f. found_from f (texts_of c.in-Some.more.now)) c.with-found.ensures
    ∙ (sym (begun_on (found_of l.found) (texts_of l.rest.now) (given_of c.in-Some.given) (texts_of c.in-Some.more.now)
    (texts_filled l.rest.now filled) at once) ∙ l.invariant)
