use Rattle.std.proofs.Common.{◌≡◌, ◌++◌, map}
use Rattle.std.specs.Prelude.{string_bytes}
use Rattle.form_urlencoded.specs.Parse.{pairs_left}
use Rattle.form_urlencoded.specs.Form.{raw_pairs}
use Rattle.http_desk.specs.Calls.{named_raw}
use Rattle.http_desk.proofs.titles.values_named.Given as goal

abbrev pub invariant-loop-pair : goal.invariant-loop-pair
invariant-loop-pair l = map string_bytes l.values.items ++ named_raw l.name (pairs_left l.pair-iterator) ≡ named_raw l.name (raw_pairs l.form)
