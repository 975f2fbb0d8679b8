use Rattle.std.proofs.Common.{drop, sym, ap, ◌∙◌}
use Rattle.std.proofs.lemmas.List.{drop-drop}
use Rattle.purge_relay.proofs.farm_wire.Script.advance.Goals as goal

pub returns-then-self-len-clause-deals : goal.returns-then-self-len-clause-deals
returns-then-self-len-clause-deals c =
    sym (drop-drop 1 c.self.inside.done c.self.inside.deals.items) ∙ ap (λ s. drop 1 s.deals) c.self.view_is
