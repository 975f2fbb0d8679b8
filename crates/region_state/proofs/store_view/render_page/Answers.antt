use Rattle.std.specs.Option.{option_copied}
use Rattle.region_state.proofs.StoringPages.{rendered_is}
use Rattle.region_state.proofs.store_view.render_page.Goals as goal

pub returns : goal.returns
returns c = rendered_is c.render.result c.args.markup c.args.title.now c.args.text.now c.args.snapshot.now c.as_slice.result.now (option_copied c.as_ref.result) c.as_slice.ensures c.as_ref.ensures.value c.render.ensures
