use Rattle.std.proofs.Common.{max, ap, ◌∙◌}
use Rattle.wiki_model.specs.declared.Readings.{Readings}
use Rattle.wiki_model.specs.World.{cut}
use Rattle.wiki_model.specs.Positions.{young_commits}
use Rattle.farm_core.proofs.open_farm.start.Goals as goal

pub returns-in-Ok-start_regions-clause-started : goal.returns-in-Ok-start_regions-clause-started
returns-in-Ok-start_regions-clause-started g c = λ h is.
    let stamp = c.in-Ok.ensures.stamp h is in
    let young = c.deref.ensures.value ∙ c.in-Ok-young_commits.ensures.commits h (c.last_stamp.ensures.content ∙ is) in
    record {
      moments_are = c.first_moments-moments.ensures ∙ ap (λ n. let m : Readings = record { home = max (cut c.args.at.home) n; west = cut c.args.at.west } in m) stamp;
      home = c.in-Ok-start_regions.ensures.home (young_commits c.first_moments-moments.result.home h) young;
      west = c.in-Ok-start_regions.ensures.west (young_commits c.first_moments-moments.result.home h) young;
    }
