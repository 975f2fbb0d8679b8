use Rattle.std.proofs.Common.{◌≡◌, ◌+◌, ◌++◌, ◌∙◌, sym, ap, subst, length, arith}
use Rattle.std.specs.Prelude.{nat_lt}
use Rattle.std.specs.List.{list_all}
use Rattle.page_markup.specs.ClosingPlaces.{between}
use Rattle.page_markup.proofs.Places.{known_later}
use Rattle.page_render.specs.Draft.{put, with_text}
use Rattle.page_render.specs.Use.{IsUse, is_bare, place_after}
use Rattle.page_render.proofs.Steps.{some_width, ended, place_past, use_goes}
use Rattle.page_render.proofs.Runs.{run_goes}
use Rattle.page_render.proofs.writer.Writer.+texts.Goals as goal

pub write_place-returns-then-at-end-clause-known : goal.write_place-returns-then-at-end-clause-known
write_place-returns-then-at-end-clause-known t c =
    known_later c.args.text.now c.args.at c.run_end-end.result c.args.known c.requires.1.1.1.1 c.run_end-end.ensures.order

pub write_place-returns-then-at-end-clause-text : goal.write_place-returns-then-at-end-clause-text
write_place-returns-then-at-end-clause-text t c =
    let text = c.args.text.now in
    let at = c.args.at in
    let end = c.run_end-end.result in
    let same = c.as_bytes-bytes.ensures.value in
    run_goes c.args.self.now c.put.new.self c.args.depth at end c.args.to text
    c.run_end-end.ensures.order c.run_end-end.ensures.within (ap (λ s. list_all is_bare (between at end s)) (sym same) ∙ c.run_end-end.ensures.bare)
    (c.in_ok-put.ensures ∙ ap (put c.args.self.now) (c.part.ensures ∙ ap (between at end) same))

pub write_place-returns-clause-text : goal.write_place-returns-clause-text
write_place-returns-clause-text t c =
    let text = c.args.text.now in
    subst (λ p. with_text c.write_used.new.self c.args.depth (between p c.args.to text) ≡ with_text c.args.self.now c.args.depth (between c.args.at c.args.to text))
    (sym c.place_after-next.ensures)
    (use_goes c.args.self.now c.write_used.new.self c.args.depth c.args.at c.args.to text c.in_ok-chosen.chosen.used
    c.requires.1.1.0 c.requires.1.1.1.0 c.in_ok-chosen.ensures.bounds c.in_ok-chosen.ensures.used c.in_ok-known.ensures.shown)

pub write_used-write_text-requires : goal.write_used-write_text-requires
write_used-write_text-requires t c =
    let text = c.args.text.now in
    let b = subst (IsUse c.args.at (length text) c.args.self.now.included (nat_lt 0 c.args.depth)) c.in-Quotes.is c.requires.1.1.1.0 in
    let end = ap (place_after c.args.at) c.in-Quotes.is in
    let w = c.width.ensures in
    let some = some_width c.in-Quotes.emphasis in (
      omega (arith, b.0, b.1, w, some, end, c.requires.1.0),
      (
        omega (arith, b.0, w),
        (
          omega (arith, b.1),
          known_later text (c.args.at + 1) (c.args.at + c.width.result) c.args.known c.requires.1.1.1.1 (omega (arith, w, some)),
        ),
      ),
    )

pub write_used-returns-in_ok-put-in-Quotes-2-clause-known : goal.write_used-returns-in_ok-put-in-Quotes-2-clause-known
write_used-returns-in_ok-put-in-Quotes-2-clause-known t c =
    let end = ap (place_after c.args.at) c.in-Quotes.is in
    known_later c.args.text.now c.in-Quotes.close (place_after c.args.at c.args.used.now) c.in_ok-after-in-Quotes.after c.in_ok-after-in-Quotes.ensures.known (omega (arith, end))

pub write_used-returns-in_ok-put_link-in-Link-clause-known : goal.write_used-returns-in_ok-put_link-in-Link-clause-known
write_used-returns-in_ok-put_link-in-Link-clause-known t c =
    let text = c.args.text.now in
    let place = place_past c.args.at (length text) c.args.self.now.included (nat_lt 0 c.args.depth) c.args.used.now c.requires.1.1.0 c.requires.1.1.1.0 in
    known_later text (c.args.at + 1) (place_after c.args.at c.args.used.now) c.args.known c.requires.1.1.1.1 (omega (arith, place.0))

pub write_used-returns-in_ok-write_line-in-Include-clause-known : goal.write_used-returns-in_ok-write_line-in-Include-clause-known
write_used-returns-in_ok-write_line-in-Include-clause-known t c =
    let text = c.args.text.now in
    let place = place_past c.args.at (length text) c.args.self.now.included (nat_lt 0 c.args.depth) c.args.used.now c.requires.1.1.0 c.requires.1.1.1.0 in
    known_later text (c.args.at + 1) (place_after c.args.at c.args.used.now) c.args.known c.requires.1.1.1.1 (omega (arith, place.0))

pub write_whole-write_text-requires : goal.write_whole-write_text-requires
write_whole-write_text-requires t c = (omega (arith, c.requires.1), (omega arith, (omega arith, c.nothing.ensures c.args.text.now)))

pub write_text-returns-clause-text : goal.write_text-returns-clause-text
write_text-returns-clause-text t c =
    sym (ended c.loop-at.self c.args.depth c.loop-at.at c.args.to c.args.text.now (omega (arith, c.loop-at-test.false))) ∙ c.loop-at.invariant.text
