-- The places of the commits that pass a test, as a pass over the entries finds them.
-- The first entry of the list has the number that is given.
use Rattle.std.specs.Prelude.{ℕ, Bool, false, ◌&&◌, List, length, filter, find, Option, bytes_eq}
use Rattle.wiki_model.specs.Bytes.{last_of}
use Rattle.wiki_model.specs.Titles.{Title, Client, Token}
use Rattle.wiki_model.specs.History.{Entry, Beat, Committed, Commit, Numbered, commits_from, number_of}

abbrev pub passes : (Commit → Bool) → Entry → Bool
passes test (Beat stamp) = false
passes test (Committed commit) = test commit

abbrev pub on : Title → Commit → Bool
on title commit = bytes_eq commit.edit.title title

abbrev pub by : Client → Commit → Bool
by client commit = bytes_eq commit.edit.client client

abbrev pub of : Client → Token → Commit → Bool
of client token commit = by client commit && bytes_eq commit.edit.token token

abbrev pub passing : (Commit → Bool) → ℕ → List Entry → List Numbered
passing test n entries = filter (λ k. test k.commit) (commits_from n entries)

abbrev pub last_number : (Commit → Bool) → ℕ → List Entry → Option ℕ
last_number test n entries = number_of (last_of (passing test n entries))

abbrev pub first_number : (Commit → Bool) → ℕ → List Entry → Option ℕ
first_number test n entries = number_of (find (λ k. test k.commit) (commits_from n entries))

abbrev pub number_passing : (Commit → Bool) → ℕ → List Entry → ℕ
number_passing test n entries = length (passing test n entries)
