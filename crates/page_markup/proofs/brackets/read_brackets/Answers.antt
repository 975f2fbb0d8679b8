use Rattle.std.proofs.Common.{◌≡◌, ◌∙◌, sym, ap, ◌++◌, ◌<◌, ◌≤◌, ◌-◌, ◌+◌, length, arith, take, drop, Some, [], ◌∷◌, true}
use Rattle.wiki_model.specs.Bytes.{begins}
use Rattle.page_markup.specs.Mark.{next_place, named_by, rule_of, opening_of, closing_of}
use Rattle.page_markup.proofs.Cuts.{opening_cut, closing_cut, two_long}
use Rattle.page_markup.proofs.Places.{brackets_found, inner_at}
use Rattle.page_markup.proofs.brackets.read_brackets.Goals as goal

pub part-requires-clause-first : goal.part-requires-clause-first
part-requires-clause-first c =
    opening_cut c.args.names c.args.text.now c.args.at c.utf8.text (ap (λ m. begins m (drop c.args.at c.args.text.now)) (sym c.opening.ensures) ∙ sym c.stands_at.ensures.value ∙ c.if-not-stands_at.false)

pub part-requires-clause-last : goal.part-requires-clause-last
part-requires-clause-last c =
    closing_cut c.args.names c.args.text.now (c.args.at + 2) c.next_place-close.result (c.next_place-close.ensures.place ∙ ap (λ m. next_place m (c.args.at + 2) c.args.text.now) c.closing.ensures) (omega (arith, c.if-close-text.false))

pub returns-in_ok-push-clause-read : goal.returns-in_ok-push-clause-read
returns-in_ok-push-clause-read c =
    let text = c.args.text.now in
    let names = c.args.names in
    let start = c.args.at + 2 in
    let e : c.next_place-close.result ≡ next_place (closing_of names) start text = c.next_place-close.ensures.place ∙ ap (λ m. next_place m start text) c.closing.ensures in
    let found : next_place (closing_of names) start text < length text = omega (arith, e, c.if-close-text.false) in
    let few : next_place (closing_of names) start text - start ≤ 512 = omega (arith, e, c.if-close-start-gt-BRACKET_MAX.false) in
    let inner : inner_at (closing_of names) start text ≡ c.part.result.now = ap (λ n. take (n - start) (drop start text)) (sym e) ∙ sym c.part.ensures in
    let name : named_by names (inner_at (closing_of names) start text) ≡ Some c.in-Some.title = ap (named_by names) inner ∙ sym c.in_ok-title.ensures ∙ c.in-Some.is in
    let begun : begins (opening_of names) (drop c.args.at text) ≡ true = ap (λ m. begins m (drop c.args.at text)) (sym c.opening.ensures) ∙ sym c.stands_at.ensures.value ∙ c.if-not-stands_at.false in
    c.in_ok-push.ensures.items
    ∙ ap (λ r. c.args.marks.now.items ++ record { place = c.args.at; rule = r; close = c.next_place-close.result; title = Some c.in-Some.title } ∷ []) c.rule.ensures
    ∙ ap (λ k. c.args.marks.now.items ++ record { place = c.args.at; rule = rule_of names; close = k; title = Some c.in-Some.title } ∷ []) e
    ∙ ap (λ ms. c.args.marks.now.items ++ ms) (sym (brackets_found (rule_of names) (opening_of names) (closing_of names) (named_by names) c.args.at text c.in-Some.title begun (two_long names) found few name))
