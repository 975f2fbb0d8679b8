use Rattle.std.proofs.Common.{◌≡◌, ◌++◌, map}
use Rattle.std.specs.Prelude.{codes, string_bytes}
use Rattle.form_urlencoded.specs.Parse.{pairs_left}
use Rattle.form_urlencoded.specs.Form.{raw_pairs}
use Rattle.http_desk.specs.Calls.{named_raw}
use Rattle.http_desk.proofs.calls.edit_form.Given as goal

abbrev pub invariant-loop-pair : goal.invariant-loop-pair
invariant-loop-pair l = record {
  titles : map string_bytes l.titles.items ++ named_raw (codes "title") (pairs_left l.pair-iterator) ≡ named_raw (codes "title") (raw_pairs l.body);
  bases : map string_bytes l.bases.items ++ named_raw (codes "base") (pairs_left l.pair-iterator) ≡ named_raw (codes "base") (raw_pairs l.body);
  tokens : map string_bytes l.tokens.items ++ named_raw (codes "token") (pairs_left l.pair-iterator) ≡ named_raw (codes "token") (raw_pairs l.body);
  texts : map string_bytes l.texts.items ++ named_raw (codes "text") (pairs_left l.pair-iterator) ≡ named_raw (codes "text") (raw_pairs l.body);
}
