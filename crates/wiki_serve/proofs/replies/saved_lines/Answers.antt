use Rattle.std.proofs.Common.{ap, ◌∙◌}
use Rattle.edit_core.specs.AsModel.{saved_of}
use Rattle.http_reply.specs.AsModel.{lines_of}
use Rattle.wiki_serve.specs.Replies.{cookie_of_saved}
use Rattle.wiki_serve.proofs.Replying.{saved_are}
use Rattle.wiki_serve.proofs.replies.saved_lines.Goals as goal

pub returns : goal.returns
returns c =
    let saved = saved_of c.args.saved.now in
    saved_are (lines_of c.new-lines.result.items) (lines_of c.push_line.new.lines.items) (lines_of c.push_line-2.new.lines.items) (lines_of c.push_line-3.new.lines.items) (lines_of c.push_line-4.new.lines.items)
    c.args.location.now saved c.as_str.result.now c.use_master_value.result.now c.no_edge_value.result.now
    (ap lines_of c.new-lines.ensures.items) c.in_ok-push_line.ensures c.in_ok-push_line-2.ensures c.in_ok-push_line-3.ensures c.in_ok-push_line-4.ensures
    (c.as_str.ensures.value ∙ c.in_ok-position.ensures) (c.use_master_value.ensures (cookie_of_saved saved)) (c.no_edge_value.ensures (cookie_of_saved saved))
