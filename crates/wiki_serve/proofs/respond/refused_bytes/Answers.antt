use Rattle.std.proofs.Common.{◌≡◌, subst}
use Rattle.std.specs.Prelude.{IfOk}
use Rattle.http_reply.specs.Reply.{answer_bytes}
use Rattle.wiki_serve.proofs.respond.refused_bytes.Goals as goal

pub returns : goal.returns
returns c = subst (λ reply. IfOk c.answer_bytes.result (λ bytes. bytes.items ≡ answer_bytes reply)) c.in_ok-reply.ensures c.answer_bytes.ensures
