use Rattle.std.proofs.Common.{rules, ◌≡◌, [], Some, None, unwrap_or, sym, ap, ◌∙◌}
use Rattle.std.specs.BTreeMap.{get}
use Rattle.wiki_titles.specs.Order.{bytes_cmp}
use Rattle.revision_keeper.proofs.Rows.{row_same}
use Rattle.revision_keeper.proofs.title_index.TitleIndex.open.Goals as goal

pub returns-in_ok-insert-clause-same : goal.returns-in_ok-insert-clause-same
returns-in_ok-insert-clause-same c =
    let none : get bytes_cmp c.args.self.now.rows c.in_ok-clone.field-0 ≡ None = search rules in
    λ t. row_same (λ o. unwrap_or o []) c.args.self.now.rows c.insert.new.self c.in_ok-clone.field-0 t (Some c.new.result)
    (c.in_ok-insert.ensures.updates.0 t) (c.new.ensures ∙ sym (ap (λ o. unwrap_or o []) none))
