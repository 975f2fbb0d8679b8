-- How one world follows another: what only grows, and what may have happened to a region's cache in between.
-- The laws of caches speak of these in place of single steps.
use Rattle.std.specs.Prelude.{ℕ, ◌≡◌, ◌≢◌, ◌+◌, ◌≤◌, List, [], ◌∷◌, ◌++◌, length, None}
use Rattle.wiki_model.specs.declared.Region.{Region}
use Rattle.wiki_model.specs.Bytes.{IsIn}
use Rattle.wiki_model.specs.Titles.{Title}
use Rattle.wiki_model.specs.History.{Entry, Committed, Commit, commits_on, commits_by, commit_with_token}
use Rattle.wiki_model.specs.World.{World, site, moment, Event}
use Rattle.wiki_model.specs.HoldOff.{IsIssued}

-- From v to w the history only grew, no moment fell, and the setting stayed.
pub record Goes (v w : World) : Type 0 where
  pub more : List Entry
  pub history : w.history ≡ v.history ++ more
  pub setting : w.setting ≡ v.setting
  pub home : v.home.moment ≤ w.home.moment
  pub west : v.west.moment ≤ w.west.moment

-- From v to w nothing happened to the region's cache: moments and history grew.
pub record IsGrown (v w : World) (r : Region) : Type 0 where
  pub more : List Entry
  pub history : w.history ≡ v.history ++ more
  pub setting : w.setting ≡ v.setting
  pub events : (site r w).events ≡ (site r v).events
  pub moment : moment r v ≤ moment r w

-- From v to w this one event happened in the region.
pub record IsEvent (v w : World) (r : Region) (event : Event) : Type 0 where
  pub history : w.history ≡ v.history
  pub setting : w.setting ≡ v.setting
  pub events : (site r w).events ≡ event ∷ (site r v).events
  pub moment : moment r w ≡ moment r v

-- From v to w nothing changed but what happened to this region's cache.
pub record SameButEvents (v w : World) (r : Region) : Type 0 where
  pub history : w.history ≡ v.history
  pub setting : w.setting ≡ v.setting
  pub faults : w.faults ≡ v.faults
  pub messages : w.messages ≡ v.messages
  pub repeated : w.repeated ≡ v.repeated
  pub requests : w.requests ≡ v.requests
  pub markup : w.markup ≡ v.markup
  pub moments : (q : Region) → moment q w ≡ moment q v
  pub applied : (q : Region) → (site q w).applied ≡ (site q v).applied
  pub heard : (q : Region) → (site q w).heard ≡ (site q v).heard
  -- the other region's events stay too
  pub others : (q : Region) → q ≢ r → (site q w).events ≡ (site q v).events

-- From v to w the commit was appended, heard at home and told to west, perhaps with a second purge.
pub record IsAppended (v w : World) (commit : Commit) : Type 0 where
  pub history : w.history ≡ v.history ++ Committed commit ∷ []
  pub setting : w.setting ≡ v.setting
  pub faults : w.faults ≡ v.faults
  pub requests : w.requests ≡ v.requests
  pub markup : w.markup ≡ v.markup
  pub moments : (q : Region) → moment q w ≡ moment q v
  pub applied : (q : Region) → (site q w).applied ≡ (site q v).applied
  pub heard_home : w.home.heard ≡ (length v.history + 1) ∷ v.home.heard
  pub heard_west : w.west.heard ≡ v.west.heard
  pub events_west : w.west.events ≡ v.west.events
  -- what was issued still is
  pub issued : (purge : ℕ) (title : Title) (at : ℕ) → IsIssued v purge title at
      → IsIssued w purge title at

-- Each event of the region in v is one in w.
pub record HasMore (v w : World) (r : Region) : Type 0 where
  pub setting : w.setting ≡ v.setting
  pub events : (e : Event) → IsIn e (site r v).events → IsIn e (site r w).events

-- What a commit must be to be the next of the history.
pub record IsNext (h : List Entry) (c : Commit) : Type 0 where
  pub revision : c.revision ≡ length (commits_on h c.edit.title) + 1
  pub index : c.index ≡ length (commits_by h c.edit.client) + 1
  pub token : commit_with_token h c.edit.client c.edit.token ≡ None
