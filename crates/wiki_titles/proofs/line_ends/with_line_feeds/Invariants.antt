use Rattle.std.proofs.Common.{◌≡◌, ◌++◌, string_bytes}
use Rattle.std.specs.Str.Iter.{chars_rest}
use Rattle.wiki_model.specs.Titles.{with_line_feeds}
use Rattle.wiki_titles.proofs.Ends.{ends}
use Rattle.wiki_titles.proofs.line_ends.with_line_feeds.Given as goal

abbrev pub invariant-loop-character : goal.invariant-loop-character
invariant-loop-character l = string_bytes l.made ++ ends l.returned (chars_rest l.character-iterator) ≡ with_line_feeds l.fn.text
