use Rattle.std.proofs.Common.{◌≡◌, ◌<◌, ◌^◌, Option, List, length, sym, ap, subst, option_map, ◌∙◌}
use Rattle.std.specs.Prelude.{IfSome, Result, Bool}
use Rattle.wiki_model.specs.History.{Entry, entry_at}
use Rattle.commit_feed.specs.AsModel.{entry_of}
use Rattle.revision_keeper.specs.declared.keeper.KeepFault.{KeepFault}
use Rattle.region_state.specs.ApplyEntries.{EndsOne}
use Rattle.region_state.proofs.ApplyingEntries.{one_applied, next_is}
use Rattle.region_state.proofs.apply_entries.apply_one.Goals as goal

pub returns-in-Ok-Some-clause-applies : goal.returns-in-Ok-Some-clause-applies
returns-in-Ok-Some-clause-applies g c = λ h is prefix within.
    let n = c.next_of-n.result in
    let entry = entry_of c.in-Ok-Some.entry in
    let old = c.args.replica.now in
    let new = c.apply.new.self in
    let value = ap (option_map entry_of) (sym c.in-Ok-Some.field-0-is) ∙ subst (λ (o : Option (List Entry)). IfSome o (λ hs. option_map entry_of c.in-Ok-Some.field-0 ≡ entry_at hs n)) is c.in-Ok-Some.ensures.value in
    let short = subst (λ (o : Option (List Entry)). IfSome o (λ hs. length hs < 2 ^ 63)) is c.known.ensures.short in
    let next = next_is c.applied.result old.applied n (length h) c.applied.ensures c.next_of-n.ensures within short in
    subst (λ (b : Result Bool KeepFault). EndsOne h old new b) (sym c.applied_of.ensures)
    (one_applied h old new n entry c.apply.result next value c.apply.ensures.applies c.apply.ensures.goes_on prefix within)
