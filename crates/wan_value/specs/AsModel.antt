-- What values and asks of the code stand for in the model's definitions: a page is seen without its place in memory.
use Rattle.std.specs.Arc.{arc_value}
use Rattle.wiki_model.specs.Cache as model
use Rattle.wan_value.specs.declared.Value.{Value}
use Rattle.wan_value.specs.declared.Ask.{Ask}

abbrev pub value_of : {P : Type 0} → Value P → model.Cached P
value_of v = record {
  page = arc_value v.page;
  upto = v.upto;
  stamp = v.stamp;
  set_at = v.set_at;
  life = v.life;
  lagged = v.lagged;
  version = v.version;
}

abbrev pub ask_of : Ask → model.Ask
ask_of a = record { epoch = a.epoch; version = a.version; need = a.need }
