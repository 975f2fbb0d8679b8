use Rattle.std.proofs.Common.{◌≡◌, ◌<◌, List, Some, length, sym, ap, subst, ◌∙◌}
use Rattle.std.proofs.lemmas.Option.{slice_get-get_or}
use Rattle.wiki_model.specs.History.{Entry}
use Rattle.region_state.specs.RegionState.{RegionParts}
use Rattle.region_state.specs.ApplyEntries.{AppliesTo}
use Rattle.region_state.proofs.ChangingParts.{changed_replica}
use Rattle.region_state.proofs.region_state.RegionState.apply.Goals as goal

pub returns-clause-applies : goal.returns-clause-applies
returns-clause-applies g c =
    let before = c.index_mut.result.now in
    let i = c.args.replica in
    let less = subst (λ (p : RegionParts g.row.S.Denot). i < length p.replicas) (sym c.self.view_is) c.requires in
    changed_replica _ _ i before c.apply_all.new.replica
    (λ old new. (h : List Entry) → g.K.Keeper.content c.args.keeper.now ≡ Some h → AppliesTo h c.args.count old new c.apply_all.result)
    c.self.view_is (slice_get-get_or c.self.inside.replicas.items i before less ∙ ap Some (sym c.index_mut.ensures.value)) c.apply_all.ensures.applies
