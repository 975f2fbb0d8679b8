use Rattle.std.proofs.Common.{rules, ◌≡◌, ℕ, Some, None, Option, unwrap_or, option_map, sym, ap, ◌∙◌}
use Rattle.std.specs.Prelude.{option_and_then}
use Rattle.std.specs.BTreeMap.{get, get_by_text, is_at}
use Rattle.std.specs.Map.{lookup}
use Rattle.std.specs.String.{string_bytes}
use Rattle.wiki_titles.specs.Order.{bytes_cmp}
use Rattle.wiki_model.specs.Titles.{Token}
use Rattle.commit_feed.specs.declared.feed.Writes.{Writes}
use Rattle.revision_keeper.specs.declared.client_index.ClientRow.{ClientRow}
use Rattle.revision_keeper.specs.Indexes.{no_writes}
use Rattle.revision_keeper.proofs.Rows.{row_same}
use Rattle.revision_keeper.proofs.client_index.ClientIndex.open.Goals as goal

-- what is seen of a row
abbrev writes_seen : Option ClientRow → Writes
writes_seen o = unwrap_or (option_map (λ row. row.writes) o) no_writes

abbrev number_seen : Token → Option ClientRow → Option ℕ
number_seen t o = option_and_then (λ row. get_by_text row.tokens t) o

pub returns-in_ok-insert-clause-same : goal.returns-in_ok-insert-clause-same
returns-in_ok-insert-clause-same c =
    let client = c.args.client.now in
    let none : get bytes_cmp c.args.self.now.rows client ≡ None = search rules in
    let rows = c.args.self.now.rows in
    let row : Option ClientRow = Some c.new.result in
    let updates = c.in_ok-insert.ensures.updates in
    record {
      writes = λ k. row_same writes_seen rows c.insert.new.self client k row (updates.0 k) (c.new.ensures.writes ∙ sym (ap writes_seen none));
      tokens = λ k t. row_same (number_seen t) rows c.insert.new.self client k row (updates.0 k) (ap (lookup (is_at (λ k. bytes_cmp t (string_bytes k)))) c.new.ensures.tokens ∙ sym (ap (number_seen t) none));
    }
