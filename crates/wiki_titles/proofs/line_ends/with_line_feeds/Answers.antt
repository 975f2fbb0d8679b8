use Rattle.std.proofs.Common.{append_assoc}
use Rattle.std.specs.Str.Iter.{chars_rest}
use Rattle.wiki_titles.proofs.Ends.{ends_step}
use Rattle.wiki_titles.proofs.line_ends.with_line_feeds.Goals as goal

pub loop-character-preserved : goal.loop-character-preserved
loop-character-preserved c =
    let step = ends_step c.loop-character.returned c.in-Some.character (chars_rest c.next.new.self) in
    let held = rw (c.in-Some.ensures.steps.0, step) at c.loop-character.invariant in
    rw (c.in_ok-push_ended.ensures, append_assoc) held
