use Rattle.page_markup.proofs.Places.{known_next}
use Rattle.page_render.proofs.choose_mark.link_at.Goals as goal

pub returns-in-None-clause-known : goal.returns-in-None-clause-known
returns-in-None-clause-known c =
    rw c.byte.ensures.known (known_next c.args.text.now c.args.at _ c.requires.known.five c.requires.known.three c.requires.known.two c.brackets_within-brackets.ensures.remembers c.requires.known.braces)

pub returns-in-Some-2-clause-known : goal.returns-in-Some-2-clause-known
returns-in-Some-2-clause-known c =
    known_next c.args.text.now c.args.at _ c.requires.known.five c.requires.known.three c.requires.known.two c.brackets_within-brackets.ensures.remembers c.requires.known.braces

pub returns-in-None-2-clause-known : goal.returns-in-None-2-clause-known
returns-in-None-2-clause-known c =
    rw c.byte-in-None-2.ensures.known (known_next c.args.text.now c.args.at _ c.requires.known.five c.requires.known.three c.requires.known.two c.brackets_within-brackets.ensures.remembers c.requires.known.braces)
