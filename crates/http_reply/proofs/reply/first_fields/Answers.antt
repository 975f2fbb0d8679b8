use Rattle.std.specs.Prelude.{codes, if◌then◌else◌}
use Rattle.http_reply.specs.AsModel.{status_of}
use Rattle.http_reply.specs.Reply.{phrase, first_fields, printed_first_fields}
use Rattle.http_reply.proofs.Pieces.{first_fields_are, string_is}
use Rattle.http_reply.proofs.reply.first_fields.Goals as goal

pub returns : goal.returns
returns c =
    let code = status_of c.args.status in
    string_is c.printed_first_fields.result (printed_first_fields code (phrase code) (if c.args.html then codes "html" else codes "plain") c.args.count) (first_fields code c.args.html c.args.count)
    (first_fields_are code c.args.html c.args.count) (rw (← c.phrase.ensures, ← c.code.ensures, ← c.kind.ensures) c.printed_first_fields.ensures)
