-- How the options of a served farm are read, word by word, and what reading them answers.
use Rattle.std.specs.Prelude.{ℕ, Bool, true, false, ◌&&◌, ◌||◌, if◌then◌else◌, List, [], ◌∷◌, length, drop, Option, Some, None, is_some, option_map, option_and_then, codes, nat_lt, nat_le, slice_index, bytes_eq, unwrap_or}
use Rattle.std.specs.List.{list_all}
use Rattle.std.specs.Str.Parse.{digits_value}
use Rattle.wiki_model.specs.Bytes.{Bytes, begins}
use Rattle.wiki_model.specs.Limits.{connections_max, connections_default}
use Rattle.wiki_model.specs.Titles.{is_digit}
use Rattle.wiki_model.specs.Commands.{Options, AreOptions, Given, Connections, Store, Link, is_path}

-- digits without a leading zero
abbrev pub is_numeral : Bytes → Bool
is_numeral word =
    nat_lt 0 (length word) && list_all is_digit word && (nat_lt (length word) 2 || nat_lt 48 (slice_index word 0))

abbrev pub is_in_limit : ℕ → Bool
is_in_limit n = nat_lt 0 n && nat_le n connections_max

abbrev pub limited : ℕ → Option ℕ
limited n = if is_in_limit n then Some n else None

-- a number of connections
unfoldable pub count_in : Bytes → Option ℕ
count_in word = if is_numeral word then limited (digits_value 10 word) else None

abbrev pub path_in : Bytes → Option Bytes
path_in word = if is_path word then Some word else None

abbrev pub after_prefix : (prefix word : Bytes) → Option Bytes
after_prefix prefix word = if begins prefix word then Some (drop (length prefix) word) else None

-- an option with its value
abbrev pub with_value : (is_count : Bool) → (value : Bytes) → Option Given
with_value true value = option_map Connections (count_in value)
with_value false value = option_map Store (path_in value)

-- an option in one word
abbrev pub store_of : Option Bytes → Option Given
store_of None = None
store_of (Some value) = with_value false value

abbrev pub count_or_store : Option Bytes → (word : Bytes) → Option Given
count_or_store None word = store_of (after_prefix (codes "--store=") word)
count_or_store (Some value) word = with_value true value

abbrev pub in_one : (word : Bytes) → Option Given
in_one word =
    if bytes_eq word (codes "--link") then Some Link
    else count_or_store (after_prefix (codes "--connections=") word) word

-- a word whose value is the next one, and whether that is a number
abbrev pub name_in : (word : Bytes) → Option Bool
name_in word =
    if bytes_eq word (codes "--connections") then Some true
    else (if bytes_eq word (codes "--store") then Some false
    else None)

-- what was found so far, each option at most once
pub record Found : Type 0 where
  pub connections : Option ℕ
  pub store : Option Bytes
  pub link : Bool

abbrev pub nothing : Found
nothing = record { connections = None; store = None; link = false }

abbrev pub has : Given → Found → Bool
has (Connections n) found = is_some found.connections
has (Store path) found = is_some found.store
has Link found = found.link

abbrev pub with : Given → Found → Found
with (Connections n) found = record found { connections = Some n }
with (Store path) found = record found { store = Some path }
with Link found = record found { link = true }

-- none if one of them was found before
abbrev pub put_all : Found → List Given → Option Found
put_all found [] = Some found
put_all found (given ∷ more) = if has given found then None else put_all (with given found) more

-- the first option of the words, and the words after it
abbrev pub begun_named : (is_count : Bool) → (words : List Bytes) → Option (Given × List Bytes)
begun_named is_count [] = None
begun_named is_count (value ∷ rest) = option_map (λ given. (given, rest)) (with_value is_count value)

abbrev pub begun_by : Option Bool → (word : Bytes) → (rest : List Bytes) → Option (Given × List Bytes)
begun_by None word rest = option_map (λ given. (given, rest)) (in_one word)
begun_by (Some is_count) word rest = begun_named is_count rest

abbrev pub begun : (words : List Bytes) → Option (Given × List Bytes)
begun [] = None
begun (word ∷ rest) = begun_by (name_in word) word rest

-- all options of the words, in order; those after one word and those after two are handed in
abbrev pub joined : Option Given → Option (List Given) → Option (List Given)
joined None more = None
joined (Some given) more = option_map (λ given_more. given ∷ given_more) more

abbrev pub chosen : Option Bool → (one : Option Given) → (value : Bytes) → (after_one after_two : Option (List Given))
    → Option (List Given)
chosen None one value after_one after_two = joined one after_one
chosen (Some is_count) one value after_one after_two = joined (with_value is_count value) after_two

abbrev pub alone : Option Bool → (one : Option Given) → Option (List Given)
alone None one = joined one (Some [])
alone (Some is_count) one = None

abbrev pub given_in : (words : List Bytes) → Option (List Given)
given_in [] = Some []
given_in (word ∷ []) = alone (name_in word) (in_one word)
given_in (word ∷ value ∷ rest) =
    chosen (name_in word) (in_one word) value (given_in (value ∷ rest)) (given_in rest)

abbrev pub found_from : Found → (words : List Bytes) → Option Found
found_from found words = option_and_then (put_all found) (given_in words)

abbrev pub options_found : Found → Options
options_found found =
    record {
      connections = unwrap_or found.connections connections_default;
      store = found.store;
      link = found.link;
    }

abbrev pub options_read : (words : List Bytes) → Option Options
options_read words = option_map options_found (found_from nothing words)

-- these options, or none if no options are these words
abbrev pub OptionsAre : (words : List Bytes) → Option Options → Type 0
OptionsAre words None = (options : Options) → AreOptions options words → ⊥
OptionsAre words (Some options) = AreOptions options words
