-- What is found in the window is found in all that is kept, and in all that comes: the window is a prefix of both, and
-- a head that is found in it is within the limits, since the window is.
use Rattle.std.proofs.Common.{◌≡◌, ◌≤◌, ◌<◌, ℕ, ◌+◌, false, List, [], ◌++◌, length, take, drop, sym, ap, ◌∙◌, subst, arith, append_assoc, length-append, take-append-drop}
use Rattle.std.proofs.Math.Seq.{drop-append_seam}
use Rattle.httparse.specs.declared.spans.HeaderSpan.{HeaderSpan}
use Rattle.httparse.specs.declared.spans.RequestSpans.{RequestSpans}
use Rattle.httparse.specs.Grammar.{RequestHead, NeverHasRequest, print_request}
use Rattle.httparse.specs.Spans.{IsRequestAt, IsRequestOf, IsRequestWithin}
use Rattle.wiki_model.specs.Bytes.{Bytes}
use Rattle.http_head.specs.Window.{later_feeds}
use Rattle.wiki_model.specs.Limits.{head_max}
use Rattle.http_head.specs.Input.{line_limit, window, is_full, IsOpen, IsHeadIn}
use Rattle.http_head.proofs.Windows.{Looks, looks, window_short, not_long}
use Rattle.http_head.proofs.Counts.{window_few, few_fields}

pub few_lines : (kept : Bytes) → later_feeds (window kept) ≤ line_limit
unfolding window
few_lines kept = window_few head_max line_limit kept

pub short : (kept : Bytes) → length (window kept) ≤ head_max
unfolding window
short kept = window_short head_max line_limit kept

pub looks_at : (a b : Bytes) → Looks head_max line_limit a b
looks_at a b = looks head_max line_limit a b

pub all_seen : (kept : Bytes) → is_full kept ≡ false → window kept ≡ kept
unfolding window is_full
all_seen kept e = (looks_at kept []).all e

pub open_kept : (kept prefix : Bytes) → prefix ≡ window kept → is_full kept ≡ false → IsOpen prefix → IsOpen kept
open_kept kept prefix is e opens = subst IsOpen (is ∙ all_seen kept e) opens

prefix_reads : (p t a b : Bytes) → a ≡ p ++ t → a ++ b ≡ p ++ drop (length p) (a ++ b)
prefix_reads p t a b e =
    let all : a ++ b ≡ p ++ (t ++ b) = ap (λ z. z ++ b) e ∙ append_assoc p t b in
    all ∙ ap (λ z. p ++ z) (sym (ap (drop (length p)) all ∙ drop-append_seam p (t ++ b)))

pub head_kept : (kept prefix : Bytes) (seen : ℕ) (headers : List HeaderSpan) (r : RequestSpans) → seen ≤ length kept → prefix ≡ take seen kept → prefix ≡ window kept
    → IsRequestWithin prefix headers r → IsRequestOf prefix headers r → (h : RequestHead) × IsHeadIn kept seen headers r h
head_kept kept prefix seen headers r within taken looked inside (h, at) =
    let p = print_request h in
    let e : prefix ≡ p ++ drop r.len prefix = at.reads.1 in
    let whole : prefix ++ drop seen kept ≡ kept = ap (λ z. z ++ drop seen kept) taken ∙ take-append-drop seen kept in
    let reads : kept ≡ p ++ drop (length p) kept = subst (λ z. z ≡ p ++ drop (length p) z) whole (prefix_reads p (drop r.len prefix) prefix (drop seen kept) e) in
    let few : length h.fields + 2 ≤ line_limit = few_fields line_limit prefix h (drop r.len prefix) (subst (λ z. later_feeds z ≤ line_limit) (sym looked) (few_lines kept)) at.reads in
    let small : length prefix ≤ head_max = subst (λ z. length z ≤ head_max) (sym looked) (short kept) in
    let parts : length prefix ≡ length p + length (drop r.len prefix) = ap length e ∙ length-append p (drop r.len prefix) in (
      h,
      record {
        within = within;
        inside = subst (λ z. IsRequestWithin z headers r) taken inside;
        at = subst (λ z. IsRequestAt z headers r h) taken at;
        head = record {
          reads = (at.reads.0, reads ∙ ap (λ k. p ++ drop k kept) (sym at.len));
          small = omega (arith, small, parts);
          few = omega (arith, few);
        };
      },
    )

pub unfilled : (kept : Bytes) → is_full kept ≡ false → length kept < head_max
unfolding is_full
unfilled kept e = not_long head_max line_limit kept e

-- no continuation of longer bytes is one that shorter bytes did not have
pub never_more : (a b : Bytes) → NeverHasRequest a → NeverHasRequest (a ++ b)
never_more a b never = λ more h rest reads. never (b ++ more) h rest (reads.0, sym (append_assoc a b more) ∙ reads.1)
