use Rattle.std.specs.Prelude.{bytes_eq}
use Rattle.std.proofs.lemmas.List.Filters.{dedup_is}
use Rattle.page_markup.proofs.Named.{rising, same_titles}
use Rattle.page_markup.proofs.collect_names.in_order.Goals as goal

pub returns : goal.returns
returns c =
    let once = dedup_is bytes_eq c.sort.new.self.items c.dedup.new.self.items c.dedup.ensures.filtered in
    record {
      sorted = rising c.sort.new.self.items c.dedup.new.self.items c.in_ok-sort.ensures.sorted once;
      same = same_titles c.args.titles.items c.sort.new.self.items c.dedup.new.self.items c.in_ok-sort.ensures.permutation once;
    }
