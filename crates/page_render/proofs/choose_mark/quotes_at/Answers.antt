use Rattle.page_markup.proofs.Places.{known_next}
use Rattle.page_render.proofs.choose_mark.quotes_at.Goals as goal

pub returns-in-Some-clause-known : goal.returns-in-Some-clause-known
returns-in-Some-clause-known c =
    rw c.quotes.ensures.known (known_next c.args.text.now c.args.at _ c.quotes_within-five.ensures.remembers c.requires.known.three c.requires.known.two c.requires.known.brackets c.requires.known.braces)

pub returns-in-Some-close-clause-known : goal.returns-in-Some-close-clause-known
returns-in-Some-close-clause-known c =
    rw c.quotes-in-Some-close.ensures.known (known_next c.args.text.now c.args.at _ c.quotes_within-five.ensures.remembers c.quotes_within-three.ensures.remembers c.requires.known.two c.requires.known.brackets c.requires.known.braces)

pub returns-in-Some-close-2-clause-known : goal.returns-in-Some-close-2-clause-known
returns-in-Some-close-2-clause-known c =
    rw c.quotes-in-Some-close-2.ensures.known (known_next c.args.text.now c.args.at _ c.quotes_within-five.ensures.remembers c.quotes_within-three.ensures.remembers c.quotes_within-two.ensures.remembers c.requires.known.brackets c.requires.known.braces)

pub returns-in-None-clause-known : goal.returns-in-None-clause-known
returns-in-None-clause-known c =
    rw c.byte.ensures.known (known_next c.args.text.now c.args.at _ c.quotes_within-five.ensures.remembers c.quotes_within-three.ensures.remembers c.quotes_within-two.ensures.remembers c.requires.known.brackets c.requires.known.braces)
