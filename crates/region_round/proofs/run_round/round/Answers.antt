use Rattle.std.proofs.Common.{List, ◌≡◌, ◌∙◌, ap}
use Rattle.farm_core.specs.LendCache.{purges_of}
use Rattle.region_round.specs.declared.job.Job.{Job}
use Rattle.region_round.specs.AsModel.{answers_of, jobs_of}
use Rattle.region_round.proofs.Going.{ends_done, ends_lost, proper_there}
use Rattle.region_round.proofs.run_round.round.Goals as goal

pub do_round-answers-requires-clause-proper : goal.do_round-answers-requires-clause-proper
do_round-answers-requires-clause-proper g c = λ places ordered.
    proper_there c.args.farm.now c.lend-cache.new.self c.args.ask.region c.args.ask.at c.args.ask.jobs.items c.deref-2.result.now c.lend-cache.ensures.farm c.deref-2.ensures.value c.requires.proper

pub returns-clause-done : goal.returns-clause-done
returns-clause-done g c =
    ends_done g.K.Keeper.content g.K.Keeper.faults c.args.farm.now c.lend-cache.new.self c.give_back.new.self c.args.ask.region c.args.ask.at c.args.ask.jobs.items c.do_round-answers.result (λ v. answers_of v.items) c.lend-cache.result.cache c.do_round-answers.new.lent.cache c.lend-cache.result.now
    c.as_slice.result.now c.is_err-lost.result c.lend-cache.ensures.farm c.lend-cache.ensures.cache c.lend-cache.ensures.now c.requires.proper (c.as_slice.ensures.value ∙ c.purges_in-purges.ensures ∙ ap (λ (js : List Job). purges_of (jobs_of js)) c.deref.ensures.value) c.is_err-lost.ensures.value c.give_back.ensures.farm c.give_back.ensures.stands
    c.deref-2.result.now c.terms_at-terms.result c.deref-2.ensures.value c.terms_at-terms.ensures c.do_round-answers.ensures.done

pub returns-clause-lost : goal.returns-clause-lost
returns-clause-lost g c =
    ends_lost g.K.Keeper.content g.K.Keeper.faults c.args.farm.now c.lend-cache.new.self c.give_back.new.self c.args.ask.region c.args.ask.at c.args.ask.jobs.items c.do_round-answers.result c.lend-cache.result.cache c.do_round-answers.new.lent.cache c.lend-cache.result.now
    c.as_slice.result.now c.is_err-lost.result c.lend-cache.ensures.farm c.lend-cache.ensures.cache c.lend-cache.ensures.now c.requires.proper (c.as_slice.ensures.value ∙ c.purges_in-purges.ensures ∙ ap (λ (js : List Job). purges_of (jobs_of js)) c.deref.ensures.value) c.is_err-lost.ensures.value c.give_back.ensures.farm c.give_back.ensures.stands
    c.deref-2.result.now c.terms_at-terms.result c.deref-2.ensures.value c.terms_at-terms.ensures c.do_round-answers.ensures.lost
