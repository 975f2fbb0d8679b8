use Rattle.std.proofs.Common.{◌≡◌, ◌≤◌, ◌+◌, ◌-◌, [], length, false, sym, ◌∙◌, rules, arith}
use Rattle.std.proofs.lemmas.Bool.Decides.{nat_tests}
use Rattle.drill_script.proofs.ReadLines.{long_reads, form_reads, open_reads, reads_on, empty_not}
use Rattle.drill_script.proofs.whole_script.read_lines.Goals as goal
use Rattle.drill_script.proofs.whole_script.read_lines.Goals.{else-is_empty-via-then-is_empty+else-has_ended, else-is_empty-via-else-is_empty}

pub returns-then-room-line : goal.returns-then-room-line
returns-then-room-line c =
    let long : c.loop-line.room ≤ length c.in-Some.line.now = search (rules, nat_tests) in
    long_reads c.args.bytes.now c.loop-line.rest.now c.in-Some.line.now c.in-Some.after.now c.loop-line.lines.items c.loop-line.state c.loop-line.room c.fault_at.result
    c.loop-line.invariant c.in-Some.ensures.cut long c.fault_at.ensures

pub returns-in-Err-Form : goal.returns-in-Err-Form
returns-in-Err-Form c =
    form_reads c.args.bytes.now c.loop-line.rest.now c.in-Some.line.now c.in-Some.after.now c.loop-line.lines.items c.loop-line.state c.loop-line.room c.fault_at-in-Err-Form.result c.read_line.new.state c.in-Err-Form.field-0 c.in-Err-Form.field-0-is
    c.loop-line.invariant c.in-Some.ensures.cut c.in-Err-Form.ensures c.fault_at-in-Err-Form.ensures

pub loop-line-preserved : goal.loop-line-preserved
loop-line-preserved c =
    let fewer : (c.loop-line.room - (length c.in-Some.line.now + 1)) + (length c.in-Some.line.now + 1) ≡ c.loop-line.room = let f = c.if-room-line.false in grind (arith, nat_tests, f) in
    reads_on c.args.bytes.now c.loop-line.rest.now c.in-Some.line.now c.in-Some.after.now c.loop-line.lines.items c.push_line.new.lines.items c.in-Ok.read c.loop-line.state c.read_line.new.state c.loop-line.room (c.loop-line.room - (length c.in-Some.line.now + 1))
    c.loop-line.invariant c.in-Some.ensures.cut c.in-Ok.ensures c.in_ok-push_line-in-Ok.ensures fewer

pub returns : goal.returns
returns c =
    let open_end : c.loop-line.rest.now ≡ [] → c.loop-line.state.ended ≡ false = elim c.else-is_empty.branch [
      | else-is_empty-via-then-is_empty+else-has_ended w ↦ (λ e. sym w.has_ended.ensures ∙ w.if-has_ended.false)
      | else-is_empty-via-else-is_empty w ↦ (λ e. absurd (empty_not c.loop-line.rest.now c.is_empty.result c.is_empty.ensures w.if-is_empty.false e))
    ] in
    open_reads c.args.bytes.now c.loop-line.rest.now [] [] c.loop-line.lines.items c.loop-line.state c.loop-line.room c.fault_at-2.result
    c.loop-line.invariant c.in_default.ensures.cut open_end c.fault_at-2.ensures
