use Rattle.std.proofs.Common.{rules, ◌≡◌, false}
use Rattle.std.specs.Str.Iter.{chars_rest}
use Rattle.std.specs.String.{string_bytes}
use Rattle.wiki_titles.proofs.Words.{is_gap, added_none, added_character}
use Rattle.wiki_titles.proofs.clean.spaced.Goals as goal

pub loop-character-init : goal.loop-character-init
loop-character-init c =
    let rest : chars_rest c.into_iter-character-iterator.result ≡ c.args.text.now = search rules in
    rw (c.in_ok-made.ensures.bytes, rest) (added_none false c.args.text.now)

pub loop-character-preserved : goal.loop-character-preserved
loop-character-preserved c =
    let character = c.in-Some.character in
    let step : is_gap character ≡ false = search rules in
    let before = added_character (string_bytes c.loop-character.made) c.loop-character.gap character (chars_rest c.next.new.self) step in
    rw (c.in_ok-push_character.ensures, ← before, ← c.in-Some.ensures.steps.0) c.loop-character.invariant
