use Rattle.std.proofs.Common.{◌<◌, Ok, Err, sym, arith}
use Rattle.std.proofs.lemmas.List.Sorted.{searched}
use Rattle.revision_keeper.proofs.Rising.{rise_weak, found_at, found_before, found_none}
use Rattle.revision_keeper.proofs.entry_numbers.last_up_to.Goals as goal

pub returns-in-Ok : goal.returns-in-Ok
returns-in-Ok c =
    let found = searched c.args.numbers.now c.args.bound (Ok c.in-Ok.field-0) c.in-Ok.ensures.position (rise_weak c.args.numbers.now c.requires) in
    sym (found_at c.args.numbers.now c.args.bound c.in-Ok.field-0 c.requires found.0 found.1)

pub returns-in-Err-eq0 : goal.returns-in-Err-eq0
returns-in-Err-eq0 c =
    let found = searched c.args.numbers.now c.args.bound (Err c.in-Err-eq0.field-0) c.in-Err-eq0.ensures.position (rise_weak c.args.numbers.now c.requires) in
    let first = c.in-Err-eq0.field-0-test in
    sym (found_none c.args.numbers.now c.args.bound (λ i least lt. found.2 i (omega (arith, first)) lt))

pub returns-in-Err : goal.returns-in-Err
returns-in-Err c =
    let found = searched c.args.numbers.now c.args.bound (Err c.in-Err.place) c.in-Err.ensures.position (rise_weak c.args.numbers.now c.requires) in
    let some : 0 < c.in-Err.place = let other = c.in-Err.place-test.1 in omega (arith, other) in
    sym (found_before c.args.numbers.now c.args.bound c.in-Err.place some found.0 found.1 found.2)
