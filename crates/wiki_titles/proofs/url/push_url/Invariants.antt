use Rattle.std.proofs.Common.{◌≡◌, ◌++◌, take, flat_map, string_bytes}
use Rattle.wiki_model.specs.Titles.{in_path}
use Rattle.wiki_titles.proofs.url.push_url.Given as goal

abbrev pub invariant-loop-byte : goal.invariant-loop-byte
invariant-loop-byte l = string_bytes l.url ≡ string_bytes l.fn.url ++ flat_map in_path (take l.byte-index l.bytes)
