use Rattle.std.proofs.Common.{◌∙◌, ap, sym, ◌++◌, get_or, ℕ, ◌≡◌}
use Rattle.page_markup.proofs.Places.{known_next}
use Rattle.page_markup.proofs.Firsts.{only_links, only_templates, no_marks}
use Rattle.page_markup.proofs.inline.read_place.Goals as goal

pub returns-in_ok-brackets-clause-known : goal.returns-in_ok-brackets-clause-known
returns-in_ok-brackets-clause-known c =
    known_next c.args.text.now c.args.at _ c.requires.known.five c.requires.known.three c.requires.known.two c.in_ok-brackets.ensures.remembers c.requires.known.braces

pub returns-in_ok-braces-clause-known : goal.returns-in_ok-braces-clause-known
returns-in_ok-braces-clause-known c =
    known_next c.args.text.now c.args.at _ c.requires.known.five c.requires.known.three c.requires.known.two c.requires.known.brackets c.in_ok-braces.ensures.remembers

pub returns-else-first-eq123-clause-known : goal.returns-else-first-eq123-clause-known
returns-else-first-eq123-clause-known c =
    known_next c.args.text.now c.args.at _ c.requires.known.five c.requires.known.three c.requires.known.two c.requires.known.brackets c.requires.known.braces

pub returns-in_ok-brackets-clause-read : goal.returns-in_ok-brackets-clause-read
returns-in_ok-brackets-clause-read c =
    c.in_ok-brackets.ensures.read
    ∙ ap (λ ms. c.args.marks.now.items ++ ms) (only_links c.args.text.now c.args.at c.requires.within (ap (λ s. get_or s c.args.at 0) (sym c.as_bytes.ensures.value) ∙ c.if-first-eq91.true))

pub returns-in_ok-braces-clause-read : goal.returns-in_ok-braces-clause-read
returns-in_ok-braces-clause-read c =
    c.in_ok-braces.ensures.read
    ∙ ap (λ ms. c.args.marks.now.items ++ ms) (only_templates c.args.text.now c.args.at c.requires.within (ap (λ s. get_or s c.args.at 0) (sym c.as_bytes.ensures.value) ∙ c.if-first-eq123.true))

pub returns-else-first-eq123-clause-read : goal.returns-else-first-eq123-clause-read
returns-else-first-eq123-clause-read c =
    let same : (k : ℕ) → get_or c.args.text.now c.args.at 0 ≡ k → get_or c.as_bytes.result.now c.args.at 0 ≡ k = λ k e. ap (λ s. get_or s c.args.at 0) c.as_bytes.ensures.value ∙ e in
    no_marks c.args.marks.now.items c.args.text.now c.args.at c.requires.within (λ e. c.if-first-eq39.false (same 39 e)) (λ e. c.if-first-eq91.false (same 91 e)) (λ e. c.if-first-eq123.false (same 123 e))
