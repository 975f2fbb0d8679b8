use Rattle.std.proofs.Common.{ap, ◌∙◌}
use Rattle.http_reply.specs.AsModel.{lines_of}
use Rattle.wiki_serve.proofs.Replying.{if_ok_map, page_start, text_start}
use Rattle.wiki_serve.proofs.replies.answer_start.Goals as goal

pub returns-in-Ok : goal.returns-in-Ok
returns-in-Ok c = if_ok_map _ _ c.page_head.result (λ v e. page_start c.args.answer.now c.in-Ok.page v.items (lines_of c.deref.result.now) c.args.location.now c.args.head c.args.close c.in-Ok.is (ap lines_of c.deref.ensures.value ∙ c.in_ok-lines.ensures) e) c.page_head.ensures

pub returns-in_default : goal.returns-in_default
returns-in_default c = if_ok_map _ _ c.text_response.result (λ v e. text_start c.args.answer.now v.items (lines_of c.in_ok-lines.lines.items) c.args.location.now c.args.head c.args.close c.in_default.not-Ok c.in_ok-lines.ensures e) c.text_response.ensures
