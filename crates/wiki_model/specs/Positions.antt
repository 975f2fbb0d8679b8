-- What a region's store of positions finds: for each client the last commit that the region heard of, as long as that
-- commit is young. A position that is heard late, twice or after a newer one changes nothing that is found.
use Rattle.std.specs.Prelude.{ℕ, ◌≡◌, ◌⊎◌, ◌+◌, ◌≤◌, false, ◌==◌, if◌then◌else◌, List, [], ◌∷◌, Option, Some, None, IfSome, option_and_then, filter, nat_lt, bytes_eq}
use Rattle.wiki_model.specs.declared.Region.{Region}
use Rattle.wiki_model.specs.Titles.{Client}
use Rattle.wiki_model.specs.History.{Entry, Commit, Numbered, commits, commit_at}
use Rattle.wiki_model.specs.Limits.{position_life}
use Rattle.wiki_model.specs.World.{World, moment}
use Rattle.wiki_model.specs.Sessions.{Known, known_at}

-- what a store finds for a client at a moment
abbrev pub Finder : Type 0
Finder = Client → (now : ℕ) → Option Known

abbrev pub as_found : Known → Option Known
as_found known = if known.position == 0 then None else Some known

-- What is found for each client, from the region's moment on, is what the region knows.
abbrev pub PositionsStand : World → Region → Finder → Type 0
PositionsStand w r find =
    (client : Client) (now : ℕ) → moment r w ≤ now
    → find client now ≡ as_found (known_at w r client now)

-- the later of two positions of a client
abbrev pub later_of : Option Known → Option Known → Option Known
later_of None other = other
later_of (Some a) None = Some a
later_of (Some a) (Some b) = if nat_lt a.index b.index then Some b else Some a

abbrev pub if_young : (now stamp : ℕ) → Known → Option Known
if_young now stamp known = if nat_lt now (stamp + position_life) then Some known else None

-- A store takes a position: from this moment on it finds the later of what it found and this one while it is young.
-- Other clients are as before.
pub record TakesPosition (from : ℕ) (client : Client) (position : Known) (stamp : ℕ)
    (old new : Finder) : Type 0 where
  pub own : (now : ℕ) → from ≤ now → new client now ≡ later_of (old client now)
      (if_young now stamp position)
  pub others : (other : Client) (now : ℕ) → from ≤ now → bytes_eq client other ≡ false
      → new other now ≡ old other now

-- Rows of a store

-- what a store holds of a client, and until when it counts
pub record Held : Type 0 where
  -- the commit's index and number
  pub index : ℕ
  pub position : ℕ
  -- it is found before this moment
  pub expires : ℕ

abbrev pub Rows : Type 0
Rows = Client → Option Held

abbrev pub unexpired : (now : ℕ) → Held → Option Known
unexpired now held =
    if nat_lt now held.expires then Some (record { index = held.index; position = held.position }) else None

-- what rows find
abbrev pub finds : Rows → Finder
finds rows client now = option_and_then (unexpired now) (rows client)

-- the row of a commit of the client
pub record IsRowOf (history : List Entry) (client : Client) (held : Held) : Type 0 where
  pub commit : Commit
  pub there : commit_at history held.position ≡ Some commit
  pub of : commit.edit.client ≡ client
  pub index_is : held.index ≡ commit.index
  pub expires_is : held.expires ≡ commit.stamp + position_life

-- What rows stand for. A row that has expired hides what is told later with a lesser index, so the second counts for it
-- too.
pub record RowsStand (w : World) (r : Region) (rows : Rows) : Type 0 where
  -- 1. What the rows find is what the region knows.
  pub found : PositionsStand w r (finds rows)
  -- 2. Each row is of a commit of its client, also one that has expired.
  pub held : (client : Client) → IfSome (rows client) (IsRowOf w.history client)

-- the row with the greater index stays
abbrev pub later_row : Option Held → Held → Held
later_row None told = told
later_row (Some held) told = if nat_lt held.index told.index then told else held

abbrev pub row_for : (n : ℕ) → Commit → Held
row_for n commit = record { index = commit.index; position = n; expires = commit.stamp + position_life }

-- A position is told to the rows.
pub record TellsRow (client : Client) (told : Held) (old new : Rows) : Type 0 where
  pub own : new client ≡ Some (later_row (old client) told)
  pub others : (other : Client) → bytes_eq client other ≡ false → new other ≡ old other

-- Rows that have expired may be forgotten.
abbrev pub SweepsRows : (now : ℕ) → (old new : Rows) → Type 0
SweepsRows now old new =
    (client : Client) → (new client ≡ old client)
    ⊎ ((new client ≡ None) × IfSome (old client) (λ held. held.expires ≤ now))

-- the rows after these commits were told in turn
abbrev pub told_all : List Numbered → Rows → Rows
told_all [] rows = rows
told_all (n ∷ ns) rows =
    told_all ns
    (λ client. if bytes_eq n.commit.edit.client client then Some (later_row (rows client) (row_for n.number n.commit))
    else rows client)

abbrev pub no_rows : Rows
no_rows client = None

-- the commits that are young at this moment
abbrev pub young_commits : (now : ℕ) → List Entry → List Numbered
young_commits now history =
    filter (λ n. nat_lt now (n.commit.stamp + position_life)) (commits history)
