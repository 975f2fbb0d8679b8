use Rattle.std.proofs.Common.{rules, ◌≡◌, ◌≢◌, true, append_assoc}
use Rattle.std.specs.Str.Iter.{chars_rest}
use Rattle.wiki_titles.proofs.Words.{name_character}
use Rattle.wiki_titles.proofs.clean.push_name.Goals as goal

pub loop-character-preserved-then-character-ne32 : goal.loop-character-preserved-then-character-ne32
loop-character-preserved-then-character-ne32 c =
    let character = c.in-Some.character in
    let apart : character ≢ 32 = search rules in
    let bare : c.loop-character.bare ≡ true = search rules in
    let step = name_character character (chars_rest c.next.new.self) apart in
    let held = rw (bare, c.in-Some.ensures.steps.0, step) at c.loop-character.invariant in
    rw (c.in_ok-push-2.ensures.bytes, c.to_ascii_uppercase.ensures.value, append_assoc) held
