use Rattle.std.proofs.Common.{◌≡◌, ◌++◌, string_bytes}
use Rattle.std.specs.Str.Iter.{chars_rest}
use Rattle.wiki_model.specs.Bytes.{skip_spaces}
use Rattle.wiki_model.specs.Titles.{raised}
use Rattle.wiki_titles.proofs.Words.{named}
use Rattle.wiki_titles.proofs.clean.push_name.Given as goal

abbrev pub invariant-loop-character : goal.invariant-loop-character
invariant-loop-character l = string_bytes l.made ++ named l.bare (chars_rest l.character-iterator) ≡ string_bytes l.fn.made ++ raised (skip_spaces l.fn.name)
