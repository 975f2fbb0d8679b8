use Rattle.std.proofs.Common.{◌≡◌, ◌≤◌, false, subst, sym, ◌∙◌, refl}
use Rattle.http_head.specs.Input.{is_full, line_limit, IsHeadIn}
use Rattle.http_head.specs.Window.{later_feeds}
use Rattle.http_head.proofs.Heads.{few_lines, open_kept, head_kept}
use Rattle.httparse.specs.Grammar.{RequestHead}
use Rattle.http_head.specs.declared.head_place.HeadPlace.{HeadPlace}
use Rattle.http_head.proofs.head_place.find_head.Goals as goal

pub parse_window-requires : goal.parse_window-requires
parse_window-requires c = subst (λ z. later_feeds z ≤ line_limit) (sym (c.split_at.ensures.front ∙ c.window-seen.ensures.bytes)) (few_lines c.args.kept.now)

pub returns-in-Whole-clause-whole : goal.returns-in-Whole-clause-whole
returns-in-Whole-clause-whole c = λ at is.
    let found = head_kept c.args.kept.now c.split_at.result.0.now c.window-seen.result.length c.parse_window.new.fields c.in-Whole.spans c.window-seen.ensures.within c.split_at.ensures.front
    (c.split_at.ensures.front ∙ c.window-seen.ensures.bytes) (c.in-Whole.ensures.within c.in-Whole.spans refl) (c.in-Whole.ensures.whole c.in-Whole.spans refl) in
    let same : record { spans = c.in-Whole.spans; seen = c.window-seen.result.length } ≡ at = cc is in
    subst (λ (z : HeadPlace). (h : RequestHead) × IsHeadIn c.args.kept.now z.seen c.parse_window.new.fields z.spans h) same found

pub returns-in-Open-2-clause-open : goal.returns-in-Open-2-clause-open
returns-in-Open-2-clause-open c = λ is.
    let e : is_full c.args.kept.now ≡ false = sym c.window-seen.ensures.full ∙ c.if-seen.false in
    (e, open_kept c.args.kept.now c.split_at.result.0.now (c.split_at.ensures.front ∙ c.window-seen.ensures.bytes) e (c.in-Open-2.ensures.open refl))
