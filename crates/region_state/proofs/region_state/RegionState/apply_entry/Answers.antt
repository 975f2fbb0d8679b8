use Rattle.std.proofs.Common.{◌<◌, Some, length, sym, ap, subst, ◌∙◌}
use Rattle.std.proofs.lemmas.Option.{slice_get-get_or}
use Rattle.commit_feed.specs.AsModel.{entry_of}
use Rattle.region_state.specs.RegionState.{RegionParts}
use Rattle.region_state.specs.ApplyEntries.{TakesEntry}
use Rattle.region_state.proofs.ChangingParts.{changed_replica}
use Rattle.region_state.proofs.region_state.RegionState.apply_entry.Goals as goal

pub returns : goal.returns
returns g c =
    let before = c.index_mut.result.now in
    let i = c.args.replica in
    let less = subst (λ (p : RegionParts g.row.S.Denot). i < length p.replicas) (sym c.self.view_is) c.requires in
    changed_replica _ _ i before c.apply.new.self (λ old new. TakesEntry old new c.args.n (entry_of c.args.entry.now) c.apply.result)
    c.self.view_is (slice_get-get_or c.self.inside.replicas.items i before less ∙ ap Some (sym c.index_mut.ensures.value))
    (record { applies = c.apply.ensures.applies; follows = c.apply.ensures.follows; goes_on = c.apply.ensures.goes_on })
