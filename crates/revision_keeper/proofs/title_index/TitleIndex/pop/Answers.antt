use Rattle.std.proofs.Common.{◌≡◌, ◌-◌, [], take, length, Some, unwrap_or, sym, ap, ◌∙◌}
use Rattle.std.specs.Option.{option_copied_mut}
use Rattle.std.specs.BTreeMap.{get}
use Rattle.wiki_titles.specs.Order.{bytes_cmp}
use Rattle.revision_keeper.proofs.Rows.{row_grown, found_some}
use Rattle.revision_keeper.proofs.title_index.TitleIndex.pop.Goals as goal

pub returns-in-Some : goal.returns-in-Some
returns-in-Some c =
    let found : get bytes_cmp c.args.self.now.rows c.args.title.now ≡ Some c.in-Some.numbers.now = sym c.get_mut.ensures.value ∙ ap option_copied_mut c.in-Some.is in
    let has = found_some (get bytes_cmp c.args.self.now.rows c.args.title.now) c.in-Some.numbers.now found in
    λ t. row_grown (λ o. unwrap_or o []) (λ ns. take (length ns - 1) ns) c.args.self.now.rows (c.get_mut.follows.lender c.pop.new.self) c.args.title.now t (Some c.pop.new.self)
    (((c.get_mut.follows.holds c.pop.new.self).3 has).0 t) (c.pop.ensures ∙ sym (ap (λ o. take (length (unwrap_or o []) - 1) (unwrap_or o [])) found))
