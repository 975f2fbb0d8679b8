use Rattle.std.proofs.Common.{◌≡◌, [], ◌∷◌, ◌++◌, Some, unwrap_or, sym, ap, ◌∙◌}
use Rattle.std.specs.Option.{option_copied_mut}
use Rattle.std.specs.BTreeMap.{get}
use Rattle.wiki_titles.specs.Order.{bytes_cmp}
use Rattle.revision_keeper.proofs.Rows.{row_grown, row_same, on_ok, on_err}
use Rattle.revision_keeper.proofs.title_index.TitleIndex.push.Goals as goal

pub returns-in-Some-clause-ok : goal.returns-in-Some-clause-ok
returns-in-Some-clause-ok c =
    let found : get bytes_cmp c.args.self.now.rows c.args.title.now ≡ Some c.in-Some.numbers.now = sym c.get_mut.ensures.value ∙ ap option_copied_mut c.in-Some.is in
    on_ok c.push.result
    (λ grown t. row_grown (λ o. unwrap_or o []) (λ ns. ns ++ c.args.number ∷ []) c.args.self.now.rows (c.get_mut.follows.lender c.push.new.self) c.args.title.now t (Some c.push.new.self)
    (((c.get_mut.follows.holds c.push.new.self).3 c.requires).0 t) (grown ∙ sym (ap (λ o. unwrap_or o [] ++ c.args.number ∷ []) found)))
    c.push.ensures.ok

pub returns-in-Some-clause-err : goal.returns-in-Some-clause-err
returns-in-Some-clause-err c =
    let found : get bytes_cmp c.args.self.now.rows c.args.title.now ≡ Some c.in-Some.numbers.now = sym c.get_mut.ensures.value ∙ ap option_copied_mut c.in-Some.is in
    on_err c.push.result
    (λ same t. row_same (λ o. unwrap_or o []) c.args.self.now.rows (c.get_mut.follows.lender c.push.new.self) c.args.title.now t (Some c.push.new.self)
    (((c.get_mut.follows.holds c.push.new.self).3 c.requires).0 t) (same ∙ sym (ap (λ o. unwrap_or o []) found)))
    c.push.ensures.err
