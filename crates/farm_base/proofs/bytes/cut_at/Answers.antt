use Rattle.std.proofs.Common.{◌≡◌, ◌<◌, length, take, drop, sym, ◌∙◌, ap, arith}
use Rattle.farm_base.specs.Bytes.{first_place}
use Rattle.farm_base.proofs.Places.{cut_none, cut_some}
use Rattle.farm_base.proofs.bytes.cut_at.Goals as goal

pub returns-then-place-bytes : goal.returns-then-place-bytes
returns-then-place-bytes c = sym (cut_none c.args.byte c.args.bytes.now (sym c.first_place-place.ensures.place ∙ c.if-place-bytes.true))

pub returns : goal.returns
returns c =
    let text = c.args.bytes.now in
    let place = c.first_place-place.ensures.place in
    let inside : first_place c.args.byte text < length text = omega (arith, place, c.first_place-place.ensures.within, c.if-place-bytes.false) in
    let prefix : c.split_at.result.0.now ≡ take (first_place c.args.byte text) text = c.split_at.ensures.front ∙ ap (λ n. take n text) place in
    let after : c.split_at-2.result.1.now ≡ drop 1 (drop (first_place c.args.byte text) text) = c.split_at-2.ensures.back ∙ ap (drop 1) (c.split_at.ensures.back ∙ ap (λ n. drop n text) place) in
    let whole = cut_some c.args.byte text inside in
    cc
