use Rattle.std.proofs.Common.{◌≡◌, string_bytes}
use Rattle.std.specs.Str.Iter.{chars_rest}
use Rattle.wiki_model.specs.Titles.{with_class, title_text}
use Rattle.wiki_titles.proofs.Words.{added}
use Rattle.wiki_titles.proofs.clean.spaced.Given as goal

-- what is made, and what is still to come, make the title
abbrev pub invariant-loop-character : goal.invariant-loop-character
invariant-loop-character l = with_class (added (string_bytes l.made) l.gap (chars_rest l.character-iterator)) ≡ title_text l.fn.text
