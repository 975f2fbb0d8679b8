use Rattle.std.proofs.Common.{subst}
use Rattle.farm_steps.specs.ViewSteps.{region_at}
use Rattle.region_state.specs.AsModel.{answer_of}
use Rattle.region_state.specs.RegionState.{RegionParts}
use Rattle.region_round.specs.declared.prepare_view.ViewTerms.{ViewTerms}
use Rattle.region_round.specs.Alone.{Kept, LooksAlone, PutsAlone}
use Rattle.region_round.specs.Views.{DoesView}
use Rattle.region_round.proofs.do_jobs.view_alone.Goals as goal

pub returns-clause-views : goal.returns-clause-views
returns-clause-views g c = (
  c.pending-pending.result,
  c.pending-pending.ensures,
  c.known.ensures,
  subst (λ (t : ViewTerms). DoesView LooksAlone PutsAlone (region_at c.args.lent.now.region c.args.farm.now.home c.args.farm.now.west) c.args.view.now t c.args.lent.now.cache c.do_view-answer.new.place (answer_of c.do_view-answer.result)) c.view_terms-terms.ensures
      (subst (λ (p : RegionParts Kept). DoesView LooksAlone PutsAlone p c.args.view.now c.view_terms-terms.result c.args.lent.now.cache c.do_view-answer.new.place (answer_of c.do_view-answer.result)) c.region-region.ensures c.do_view-answer.ensures.does),
)
