-- When an input is refused because it begins with no head: laws of the window.
use Rattle.std.specs.Prelude.{◌≡◌, ◌≤◌, false, ◌++◌, length}
use Rattle.httparse.specs.Grammar.{RequestHead, NeverHasRequest, EndsInTarget}
use Rattle.wiki_model.specs.Bytes.{Bytes}
use Rattle.wiki_model.specs.Asking.{Fault, HeadTooLarge, NoHead}
use Rattle.http_head.specs.Window.{later_feeds}
use Rattle.wiki_model.specs.Limits.{head_max}
use Rattle.http_head.specs.Input.{line_limit, window, is_full, HasHead, Shows}

-- an input that begins with a head within the limits is not refused as one without a head
abbrev pub HeadsAreFound : Type 0
HeadsAreFound =
    (input : Bytes) (h : RequestHead) (rest : Bytes) (fault : Fault) → HasHead input h rest → Shows input fault → ⊥

-- what a prefix shows, every input shows that begins with it
abbrev pub RefusalsStay : Type 0
RefusalsStay = (prefix after : Bytes) (fault : Fault) → Shows prefix fault → Shows (prefix ++ after) fault

-- one cause is shown, unless the window ends inside a target, which is tested when it has ended
abbrev pub RefusalsAreOne : Type 0
RefusalsAreOne = (bytes : Bytes) → Shows bytes HeadTooLarge → Shows bytes NoHead → EndsInTarget (window bytes)

-- a prefix within the limits that no continuation makes a head shows it
abbrev pub MalformedLinesAreSeen : Type 0
MalformedLinesAreSeen =
    (prefix after : Bytes) → is_full prefix ≡ false → NeverHasRequest prefix → Shows (prefix ++ after) NoHead

-- no more is looked at than a head may have
abbrev pub WindowsAreLimited : Type 0
WindowsAreLimited =
    (bytes : Bytes) → (length (window bytes) ≤ head_max) × (later_feeds (window bytes) ≤ line_limit)
