-- A refusal of the head stays when bytes come: a full window does not change, and no continuation of a longer text is
-- one that a shorter text did not have.
use Rattle.std.proofs.Common.{◌++◌, subst, sym, ⊎_elim, []}
use Rattle.httparse.specs.Grammar.{RequestHead, ReadsRequest, NeverHasRequest, EndsInTarget}
use Rattle.wiki_model.specs.Bytes.{Bytes}
use Rattle.wiki_model.specs.Asking as asking
use Rattle.http_head.specs.Input.{window, is_full, IsOpen, Shows}
use Rattle.http_head.specs.Laws.{RefusalsStay, RefusalsAreOne, MalformedLinesAreSeen, WindowsAreLimited}
use Rattle.http_head.proofs.Heads.{looks_at, few_lines, short, all_seen, never_more}

large_stays : (prefix after : Bytes) → Shows prefix asking.HeadTooLarge → Shows (prefix ++ after) asking.HeadTooLarge
unfolding window is_full
large_stays prefix after (full, opens) = ((looks_at prefix after).stays full, subst IsOpen (sym ((looks_at prefix after).same full)) opens)

never_stays : (prefix after : Bytes) → NeverHasRequest (window prefix) → NeverHasRequest (window (prefix ++ after))
unfolding window
never_stays prefix after never = let more = (looks_at prefix after).prefix in subst NeverHasRequest (sym more.1) (never_more (window prefix) more.0 never)

pub refusals_stay : RefusalsStay
refusals_stay prefix after asking.HeadTooLarge shown = large_stays prefix after shown
refusals_stay prefix after asking.NoHead shown = never_stays prefix after shown
refusals_stay prefix after asking.Transfer shown = shown
refusals_stay prefix after asking.BadHost shown = shown
refusals_stay prefix after asking.BadLength shown = shown
refusals_stay prefix after (asking.LargeBody bytes) shown = shown
refusals_stay prefix after asking.BadTarget shown = shown
refusals_stay prefix after asking.NoRoute shown = shown
refusals_stay prefix after (asking.WrongMethod post) shown = shown
refusals_stay prefix after asking.BadTitle shown = shown
refusals_stay prefix after asking.BadField shown = shown
refusals_stay prefix after (asking.LargeText bytes) shown = shown

pub refusals_are_one : RefusalsAreOne
refusals_are_one bytes (full, opens) never = ⊎_elim
    (λ (x : (more : Bytes) × (h : RequestHead) × ReadsRequest (window bytes ++ more) h []). absurd (never x.0 x.1 [] x.2))
    (λ (ends : EndsInTarget (window bytes)). ends)
    opens.may_become

pub malformed_lines_are_seen : MalformedLinesAreSeen
malformed_lines_are_seen prefix after e never = never_stays prefix after (subst NeverHasRequest (sym (all_seen prefix e)) never)

pub windows_are_limited : WindowsAreLimited
windows_are_limited bytes = (short bytes, few_lines bytes)
