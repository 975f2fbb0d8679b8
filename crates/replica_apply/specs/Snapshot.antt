-- What a snapshot has, and of which prefix of a history it is.
use Rattle.std.specs.Prelude.{ℕ, ◌≡◌, ◌≤◌, ◌-◌, ◌++◌, List, length, Option, option_map}
use Rattle.wiki_model.specs.Bytes.{Bytes}
use Rattle.wiki_model.specs.Titles.{Title}
use Rattle.wiki_model.specs.History.{Entry, page_text, stamp_at}
use Rattle.wiki_model.specs.Html.{html, page_html, notice_title}
use Rattle.page_render.specs.AsModel.{template_text}
use Rattle.replica_apply.specs.declared.snapshot.Snapshot.{Snapshot}
use Rattle.replica_apply.specs.Replica.{ReplicaState, page_in, IsPrefixOf}
use Rattle.replica_apply.specs.Reached.{AreTemplatesOf}

-- what is rendered from a snapshot; nothing if it has no page
abbrev pub rendered : (markup : ℕ) → Title → Snapshot → Option Bytes
rendered markup title s = option_map (λ text. page_html markup title text (template_text s.templates) s.notice) s.page

-- A snapshot of the title, taken at this reading of the clock; a clock that reads less than the stamp finds no lag.
pub record IsSnapshot (kept : ReplicaState) (title : Title) (reading : ℕ) (s : Snapshot) : Type 0 where
  pub upto : s.upto ≡ kept.applied
  pub stamp : s.stamp ≡ kept.stamp
  pub since : s.since ≡ reading
  pub lag : s.lag ≡ reading - kept.stamp
  pub page : s.page ≡ page_in kept title
  pub notice : s.notice ≡ page_in kept notice_title
  pub templates : AreTemplatesOf (page_in kept) (page_in kept title) s.templates

-- A snapshot of a title as the first entries of this history have it, taken at this reading of the clock.
pub record IsOf (history : List Entry) (title : Title) (reading : ℕ) (s : Snapshot) : Type 0 where
  -- the history has so many entries
  pub within : s.upto ≤ length history
  -- the stamp is that of the last of them
  pub stamp : s.stamp ≡ stamp_at history s.upto
  pub since : s.since ≡ reading
  pub lag : s.lag ≡ reading - stamp_at history s.upto
  pub text : s.page ≡ page_text history s.upto title
  -- the page that is rendered from the snapshot is the prefix's, in every markup
  pub page : (markup : ℕ) → html history s.upto title markup ≡ rendered markup title s

-- of whichever history the replica has applied the first entries
abbrev pub IsOfEach : (kept : ReplicaState) → Title → (reading : ℕ) → Snapshot → Type 0
IsOfEach kept title reading s = (history : List Entry) → IsPrefixOf history kept → IsOf history title reading s

-- a snapshot of a prefix stays one of it as the history grows
abbrev pub SnapshotsLast : Type 0
SnapshotsLast =
    (history more : List Entry) (title : Title) (reading : ℕ) (s : Snapshot) → IsOf history title reading s
    → IsOf (history ++ more) title reading s
