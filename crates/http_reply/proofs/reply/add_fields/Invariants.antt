use Rattle.std.proofs.Common.{◌≡◌, ◌++◌, drop}
use Rattle.std.specs.Prelude.{flat_map, string_bytes}
use Rattle.http_reply.specs.AsModel.{lines_of}
use Rattle.http_reply.specs.Reply.{field_line}
use Rattle.http_reply.proofs.reply.add_fields.Given as goal

abbrev pub invariant-loop-line : goal.invariant-loop-line
invariant-loop-line l =
    string_bytes l.text ++ flat_map field_line (lines_of (drop l.line-index l.lines))
    ≡ string_bytes l.fn.text ++ flat_map field_line (lines_of l.lines)
