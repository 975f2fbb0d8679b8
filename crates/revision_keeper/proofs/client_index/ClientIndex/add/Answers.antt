use Rattle.std.proofs.Common.{◌≡◌, ℕ, Some, Option, cond, unwrap_or, option_map, sym, ap, ◌∙◌}
use Rattle.std.specs.Prelude.{option_and_then, bytes_eq}
use Rattle.std.specs.Option.{option_copied_mut}
use Rattle.std.specs.BTreeMap.{get, get_by_text, is_at}
use Rattle.std.specs.Map.{lookup}
use Rattle.std.specs.String.{string_bytes}
use Rattle.wiki_titles.specs.Order.{bytes_cmp}
use Rattle.wiki_model.specs.Titles.{Token}
use Rattle.commit_feed.specs.declared.feed.Writes.{Writes}
use Rattle.revision_keeper.specs.declared.client_index.ClientRow.{ClientRow}
use Rattle.revision_keeper.specs.Indexes.{no_writes, one_more, number_in}
use Rattle.revision_keeper.proofs.Rows.{row_grown, row_same, cond_both, on_ok_both, on_err_both}
use Rattle.revision_keeper.proofs.client_index.ClientIndex.add.Goals as goal

-- what is seen of a row
abbrev writes_seen : Option ClientRow → Writes
writes_seen o = unwrap_or (option_map (λ row. row.writes) o) no_writes

abbrev number_seen : Token → Option ClientRow → Option ℕ
number_seen t o = option_and_then (λ row. get_by_text row.tokens t) o

pub returns-in-Some-clause-ok : goal.returns-in-Some-clause-ok
returns-in-Some-clause-ok c =
    let found : get bytes_cmp c.args.self.now.rows c.args.client.now ≡ Some c.in-Some.row.now = sym c.get_mut.ensures.value ∙ ap option_copied_mut c.in-Some.is in
    let rows = c.args.self.now.rows in
    let grown = c.get_mut.follows.lender c.add.new.self in
    let row : Option ClientRow = Some c.add.new.self in
    let client = c.args.client.now in
    let updates = (c.get_mut.follows.holds c.add.new.self).3 c.requires.row in
    let number = c.args.number in
    let stamp = c.args.stamp in
    let token = c.args.token in
    on_ok_both c.add.result
    (λ writes tokens. record {
      writes = λ k. row_grown writes_seen (λ w. one_more w number stamp) rows grown client k row (updates.0 k) (writes ∙ sym (ap (λ o. one_more (writes_seen o) number stamp) found));
      tokens = λ k t. row_grown (number_seen t) (λ o. cond (bytes_eq token t) (Some number) o) rows grown client k row (updates.0 k)
          (tokens t ∙ sym (ap (λ o. cond (bytes_eq token t) (Some number) (number_seen t o)) found))
          ∙ cond_both (bytes_eq client k) (bytes_eq token t) (Some number) (number_in c.args.self.now k t);
    })
    c.add.ensures.writes c.add.ensures.tokens

pub returns-in-Some-clause-err : goal.returns-in-Some-clause-err
returns-in-Some-clause-err c =
    let found : get bytes_cmp c.args.self.now.rows c.args.client.now ≡ Some c.in-Some.row.now = sym c.get_mut.ensures.value ∙ ap option_copied_mut c.in-Some.is in
    let rows = c.args.self.now.rows in
    let grown = c.get_mut.follows.lender c.add.new.self in
    let row : Option ClientRow = Some c.add.new.self in
    let client = c.args.client.now in
    let updates = (c.get_mut.follows.holds c.add.new.self).3 c.requires.row in
    on_err_both c.add.result
    (λ writes tokens. record {
      writes = λ k. row_same writes_seen rows grown client k row (updates.0 k) (writes ∙ sym (ap writes_seen found));
      tokens = λ k t. row_same (number_seen t) rows grown client k row (updates.0 k) (ap (lookup (is_at (λ k. bytes_cmp t (string_bytes k)))) tokens ∙ sym (ap (number_seen t) found));
    })
    c.add.ensures.writes_stay c.add.ensures.tokens_stay
