-- What contracts see of a replica, and when that is a prefix of the history.
use Rattle.std.specs.Prelude.{ℕ, ◌≡◌, List, length, take, Option, Some, if◌then◌else◌, bytes_eq}
use Rattle.std.specs.BTreeMap.{BTreeMap, get, is_at}
use Rattle.std.specs.Map.{lookup}
use Rattle.wiki_titles.specs.Order.{bytes_cmp}
use Rattle.wiki_model.specs.Titles.{Title, Text}
use Rattle.wiki_model.specs.History.{Entry, stamp_at, page_text}

pub record ReplicaState : Type 0 where
  -- how many entries are applied
  pub applied : ℕ
  -- when the last of them was appended; 0 for none
  pub stamp : ℕ
  pub pages : List (Title × Text)

abbrev pub page_in : ReplicaState → Title → Option Text
page_in kept title = lookup (is_at (bytes_cmp title)) kept.pages

-- the same of a map
abbrev pub page_at : BTreeMap Title Text → Title → Option Text
page_at pages title = get bytes_cmp pages title

-- the title has this text, and every other title what it had
abbrev pub Puts : (old new : BTreeMap Title Text) → Title → Text → Type 0
Puts old new title text =
    (name : Title) → page_at new name ≡ (if bytes_eq title name then Some text else page_at old name)

-- What is kept is all of this history:
-- 1. as many entries are applied as it has;
-- 2. the stamp is that of its last entry, and 0 before the first;
-- 3. by title the text is that of the title's last commit, and there is none if it has no commit.
pub record IsPrefix (history : List Entry) (kept : ReplicaState) : Type 0 where
  pub applied : kept.applied ≡ length history
  pub stamp : kept.stamp ≡ stamp_at history (length history)
  pub pages : (title : Title) → page_in kept title ≡ page_text history (length history) title

-- what is kept is the first entries of this history, as many as are applied
abbrev pub IsPrefixOf : List Entry → ReplicaState → Type 0
IsPrefixOf history kept = IsPrefix (take kept.applied history) kept
