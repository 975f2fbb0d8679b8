-- The ordered indexes over a list of entries: what they hold, and when they agree with the list.
use Rattle.std.specs.Prelude.{◌≡◌, ℕ, ◌+◌, ◌-◌, ◌≤◌, ◌&&◌, if◌then◌else◌, List, [], ◌∷◌, ◌++◌, map, filter, take, length, Option, Some, unwrap_or, option_map, option_and_then, nat_le, bytes_eq, ⊤}
use Rattle.std.specs.BTreeMap.{BTreeMap, get, get_by_text}
use Rattle.std.specs.declared.alloc.Global.{Global}
use Rattle.std.specs.declared.string.String.{String}
use Rattle.wiki_model.specs.Bytes.{last_of}
use Rattle.wiki_model.specs.Titles.{Title, Client, Token}
use Rattle.wiki_model.specs.History.{Entry, Numbered, IsHistory, commits_on, commit_with_token, number_of}
use Rattle.wiki_titles.specs.Order.{bytes_cmp}
use Rattle.commit_feed.specs.declared.feed.Writes.{Writes}
use Rattle.revision_keeper.specs.declared.title_index.TitleIndex.{TitleIndex}
use Rattle.revision_keeper.specs.declared.client_index.ClientIndex.{ClientIndex}
use Rattle.revision_keeper.specs.Bounds.{writes_of}

-- each number is above the one before, and the first is at least the one given
abbrev pub RiseFrom : ℕ → List ℕ → Type 0
RiseFrom least [] = ⊤
RiseFrom least (n ∷ numbers) = (least ≤ n) × RiseFrom (n + 1) numbers

-- the last that is at most the bound
abbrev pub last_up_to : (bound : ℕ) → List ℕ → Option ℕ
last_up_to bound numbers = last_of (filter (λ n. nat_le n bound) numbers)

abbrev pub numbers_of : List Numbered → List ℕ
numbers_of found = map (λ n. n.number) found

-- what the indexes hold for a key; nothing is held if there is no row

abbrev pub numbers_on : TitleIndex → Title → List ℕ
numbers_on index title = unwrap_or (get bytes_cmp index.rows title) []

abbrev pub no_writes : Writes
no_writes = record { count = 0; last = 0; stamp = 0 }

abbrev pub writes_in : ClientIndex → Client → Writes
writes_in index client = unwrap_or (option_map (λ row. row.writes) (get bytes_cmp index.rows client)) no_writes

abbrev pub number_in : ClientIndex → Client → Token → Option ℕ
number_in index client token =
    option_and_then (λ row. get_by_text row.tokens token) (get bytes_cmp index.rows client)

-- nothing that is held changes

abbrev pub AreSameNumbers : (old new : TitleIndex) → Type 0
AreSameNumbers old new = (title : Title) → numbers_on new title ≡ numbers_on old title

pub record AreSameWrites (old new : ClientIndex) : Type 0 where
  pub writes : (client : Client) → writes_in new client ≡ writes_in old client
  pub tokens : (client : Client) (token : Token) → number_in new client token ≡ number_in old client token

-- one commit more

abbrev pub AddsNumber : (old new : TitleIndex) → Title → (number : ℕ) → Type 0
AddsNumber old new title number =
    (t : Title) → numbers_on new t ≡ (if bytes_eq title t then numbers_on old t ++ number ∷ [] else numbers_on old t)

-- the client's next commit
abbrev pub one_more : Writes → (number stamp : ℕ) → Writes
one_more writes number stamp = record { count = writes.count + 1; last = number; stamp = stamp }

-- one token has this number, and the others have what they had
abbrev pub AddsToken : (old new : BTreeMap (String Global) ℕ) → Token → (number : ℕ) → Type 0
AddsToken old new token number =
    (t : Token) → get_by_text new t ≡ (if bytes_eq token t then Some number else get_by_text old t)

-- one title loses its last number
abbrev pub DropsNumber : (old new : TitleIndex) → Title → Type 0
DropsNumber old new title =
    (t : Title)
    → numbers_on new t
    ≡ (if bytes_eq title t then take (length (numbers_on old t) - 1) (numbers_on old t) else numbers_on old t)

pub record AddsWrite (old new : ClientIndex) (client : Client) (token : Token) (number stamp : ℕ) : Type 0 where
  pub writes :
      (c : Client)
      → writes_in new c ≡ (if bytes_eq client c then one_more (writes_in old c) number stamp else writes_in old c)
  pub tokens :
      (c : Client) (t : Token)
      → number_in new c t ≡ (if bytes_eq client c && bytes_eq token t then Some number else number_in old c t)

-- The indexes hold of each key what the list has.
pub record AreIndexed (history : List Entry) (titles : TitleIndex) (clients : ClientIndex) : Type 0 where
  pub is_history : IsHistory history
  pub numbers : (title : Title) → numbers_on titles title ≡ numbers_of (commits_on history title)
  pub writes : (client : Client) → writes_in clients client ≡ writes_of history client
  pub tokens :
      (client : Client) (token : Token)
      → number_in clients client token ≡ number_of (commit_with_token history client token)
