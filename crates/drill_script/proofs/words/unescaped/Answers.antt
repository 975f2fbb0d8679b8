use Rattle.std.proofs.Common.{rules, string_bytes}
use Rattle.wiki_model.specs.Script.{unescaped}
use Rattle.drill_script.proofs.Escapes.{map_nothing, bad_character, character_pushed}
use Rattle.drill_script.proofs.words.unescaped.Goals as goal

pub loop-prefix-init : goal.loop-prefix-init
loop-prefix-init c = (c.utf8.word, rw c.new-plain.ensures.bytes (map_nothing (unescaped c.args.word.now)))

pub returns-in_default-character_at : goal.returns-in_default-character_at
returns-in_default-character_at c =
    bad_character (string_bytes c.loop-prefix.plain) c.loop-prefix.rest.now (unescaped c.args.word.now) c.in-Some.prefix.now c.in-Some.after_slash.now
    c.loop-prefix.invariant.1 c.in-Some.ensures.cut c.in_default-character_at.ensures.character

pub loop-prefix-preserved : goal.loop-prefix-preserved
loop-prefix-preserved c = (
  search rules,
  character_pushed (string_bytes c.loop-prefix.plain) c.loop-prefix.rest.now (unescaped c.args.word.now) (string_bytes c.push_str.new.self) (string_bytes c.push_str-in-Some.new.self) c.in-Some.prefix.now c.in-Some.after_slash.now c.in-Some-character_at.character.now c.in-Some-character_at.after.now
      c.loop-prefix.invariant.1 c.in-Some.ensures.cut c.in-Some-character_at.ensures.character c.in_ok-push_str.ensures.bytes c.in_ok-push_str-2.ensures.bytes,
)
