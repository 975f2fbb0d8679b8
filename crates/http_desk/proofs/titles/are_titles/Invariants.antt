use Rattle.std.proofs.Common.{◌≡◌, map, drop}
use Rattle.std.specs.Prelude.{string_bytes}
use Rattle.std.specs.List.{list_all}
use Rattle.http_desk.specs.Calls.{is_title}
use Rattle.http_desk.proofs.titles.are_titles.Given as goal

abbrev pub invariant-loop-text : goal.invariant-loop-text
invariant-loop-text l = list_all is_title (map string_bytes (drop l.text-index l.texts)) ≡ list_all is_title (map string_bytes l.texts)
