-- What the reader of options takes is an option, and each option is taken: a number's decimal digits are the only
-- numeral of it, and the names of options are no beginnings of each other.
use Rattle.std.proofs.Common.{◌≡◌, ◌≢◌, inl, inr, ℕ, suc, ◌<◌, ◌≤◌, ◌^◌, Bool, true, false, ◌||◌, if◌then◌else◌, List, [], ◌∷◌, ◌++◌, Option, Some, None, option_map, length, drop, refl, sym, ap, ◌∙◌, arith, codes, decimal}
use Rattle.std.specs.Prelude.{⊤, bytes_eq, nat_lt, slice_index}
use Rattle.std.specs.List.{list_all}
use Rattle.std.specs.Str.Parse.{digits_value}
use Rattle.std.proofs.lemmas.Bool.Decides.{nat_tests}
use Rattle.std.proofs.lemmas.Fmt.{decimal-digits_value, decimal_is_IsNumeral, decimal_nonempty, first_decimal}
use Rattle.std.proofs.lemmas.Slice.Eq.{bytes_eq-Decides}
use Rattle.wiki_model.specs.Bytes.{Bytes, begins}
use Rattle.wiki_model.specs.Titles.{is_digit}
use Rattle.wiki_model.specs.Commands.{Given, Connections, Store, Link, AreNamed, IsGiven, AreGiven, is_path}
use Rattle.wiki_layout.specs.Options.{is_numeral, is_in_limit, count_in, path_in, after_prefix, with_value, store_of, count_or_store, in_one, name_in, begun, given_in, joined, chosen, alone}
use Rattle.wiki_layout.proofs.ParsedNumbers.{own}
use Rattle.wiki_layout.proofs.OptionTurns.{go_on, turn}

-- numbers

pub record IsCount (word : Bytes) (n : ℕ) : Type 0 where
  pub some : 0 < n
  pub most : n ≤ 1_000_000
  pub spelled : word ≡ decimal n

abbrev pub CountIs : (word : Bytes) → Option ℕ → Type 0
CountIs word None = ⊤
CountIs word (Some n) = IsCount word n

first_alone : (len first : ℕ) → 0 < len → (nat_lt len 2 || nat_lt 48 first) ≡ true → first ≡ 48 → len ≡ 1
first_alone len first a b c = grind (arith, nat_tests)

spelled_by : (word : Bytes) → is_numeral word ≡ true → is_in_limit (digits_value 10 word) ≡ true
    → IsCount word (digits_value 10 word)
spelled_by word a b =
    let filled : 0 < length word = grind (arith, nat_tests) in
    let digits : list_all is_digit word ≡ true = grind (arith, nat_tests) in
    let first : (nat_lt (length word) 2 || nat_lt 48 (slice_index word 0)) ≡ true = grind (arith, nat_tests) in
    let some : 0 < digits_value 10 word = grind (arith, nat_tests) in
    let most : digits_value 10 word ≤ 1_000_000 = grind (arith, nat_tests) in
    record {
      some = some;
      most = most;
      spelled =
          sym (decimal-digits_value own word digits filled
          (first_alone (length word) (slice_index word 0) filled first) (omega (arith, most)));
    }

pub count_is : (word : Bytes) → CountIs word (count_in word)
unfolding count_in
count_is word = by (is_numeral word) refl (is_in_limit (digits_value 10 word)) refl
  where
    by : (a : Bool) → is_numeral word ≡ a → (b : Bool) → is_in_limit (digits_value 10 word) ≡ b
        → CountIs word (if a then (if b then Some (digits_value 10 word) else None) else None)
    by true ea true eb = spelled_by word ea eb
    by true ea false eb = tt
    by false ea b eb = tt

decimal_digits : (n : ℕ) → n < 2 ^ 64 → list_all is_digit (decimal n) ≡ true
decimal_digits n h = own.from (decimal n) (decimal_is_IsNumeral n h).0.1

numeral_decimal : (n : ℕ) → 0 < n → n < 2 ^ 64 → is_numeral (decimal n) ≡ true
numeral_decimal n some h =
    let filled : nat_lt 0 (length (decimal n)) ≡ true = let d = decimal_nonempty n h in grind (arith, nat_tests, d) in
    let first : nat_lt 48 (slice_index (decimal n) 0) ≡ true = let d = first_decimal n some h in
    grind (arith, nat_tests, d) in
    rw (filled, decimal_digits n h, first) (by_or (nat_lt (length (decimal n)) 2))
  where
    by_or : (b : Bool) → (b || true) ≡ true
    by_or true = refl
    by_or false = refl

pub count_decimal : (n : ℕ) → 0 < n → n ≤ 1_000_000 → count_in (decimal n) ≡ Some n
unfolding count_in
count_decimal n some most =
    let wide : n < 2 ^ 64 = omega (arith, most) in
    let within : is_in_limit n ≡ true = grind (arith, nat_tests) in
    rw (numeral_decimal n some wide, (decimal_is_IsNumeral n wide).1, within) refl

-- prefixes

split : (prefix word : Bytes) → begins prefix word ≡ true → word ≡ prefix ++ drop (length prefix) word
split [] word e = refl
split (c ∷ prefix) [] e = search
split (c ∷ prefix) (d ∷ word) e =
    let same : d ≡ c = grind (arith, nat_tests) in
    let rest : begins prefix word ≡ true = grind (arith, nat_tests) in
    ap (λ x. x ∷ word) same ∙ ap (λ xs. c ∷ xs) (split prefix word rest)

abbrev AfterIs : (prefix word : Bytes) → Option Bytes → Type 0
AfterIs prefix word None = ⊤
AfterIs prefix word (Some rest) = word ≡ prefix ++ rest

after_is : (prefix word : Bytes) → AfterIs prefix word (after_prefix prefix word)
after_is prefix word = by (begins prefix word) refl
  where
    by : (b : Bool) → begins prefix word ≡ b
        → AfterIs prefix word (if b then Some (drop (length prefix) word) else None)
    by true e = split prefix word e
    by false e = tt

-- what is begun is an option

abbrev pub BeginsWith : (words : List Bytes) → Option (Given × List Bytes) → Type 0
BeginsWith words None = ⊤
BeginsWith words (Some x) = IsGiven x.0 words x.1

abbrev with_rest : List Bytes → Option Given → Option (Given × List Bytes)
with_rest rest one = option_map (λ given. (given, rest)) one

count_begins : (value : Bytes) (words rest : List Bytes)
    → ((n : ℕ) → value ≡ decimal n → AreNamed (codes "--connections") (decimal n) words rest)
    → (c : Option ℕ) → CountIs value c → BeginsWith words (with_rest rest (option_map Connections c))
count_begins value words rest named None is = tt
count_begins value words rest named (Some n) is = (is.some, is.most, named n is.spelled)

path_begins : (value : Bytes) (words rest : List Bytes) → AreNamed (codes "--store") value words rest
    → BeginsWith words (with_rest rest (option_map Store (path_in value)))
path_begins value words rest named = by (is_path value) refl
  where
    by : (b : Bool) → is_path value ≡ b
        → BeginsWith words (with_rest rest (option_map Store (if b then Some value else None)))
    by true e = (e, named)
    by false e = tt

named_begins : (word value : Bytes) (rest : List Bytes) (name : Option Bool) → name_in word ≡ name → (is_count : Bool)
    → name ≡ Some is_count
    → BeginsWith (word ∷ value ∷ rest) (with_rest rest (with_value is_count value))
named_begins word value rest name e true same =
    count_begins value (word ∷ value ∷ rest) rest
    (λ n spelled. inl (ap (λ x. x ∷ value ∷ rest) is ∙ ap (λ v. codes "--connections" ∷ v ∷ rest) spelled))
    (count_in value) (count_is value)
  where
    is : word ≡ codes "--connections"
    is = by (bytes_eq word (codes "--connections")) refl (bytes_eq word (codes "--store")) refl (e ∙ same)
      where
        by : (a : Bool) → bytes_eq word (codes "--connections") ≡ a → (b : Bool) → bytes_eq word (codes "--store") ≡ b
            → (if a then Some true else (if b then Some false else None)) ≡ Some true → word ≡ codes "--connections"
        by true ea b eb h = (bytes_eq-Decides word (codes "--connections")).0 ea
        by false ea true eb h = search
        by false ea false eb h = search
named_begins word value rest name e false same =
    path_begins value (word ∷ value ∷ rest) rest (inl (ap (λ x. x ∷ value ∷ rest) is))
  where
    is : word ≡ codes "--store"
    is = by (bytes_eq word (codes "--connections")) refl (bytes_eq word (codes "--store")) refl (e ∙ same)
      where
        by : (a : Bool) → bytes_eq word (codes "--connections") ≡ a → (b : Bool) → bytes_eq word (codes "--store") ≡ b
            → (if a then Some true else (if b then Some false else None)) ≡ Some false → word ≡ codes "--store"
        by true ea b eb h = search
        by false ea true eb h = (bytes_eq-Decides word (codes "--store")).0 eb
        by false ea false eb h = search

one_begins : (word : Bytes) (rest : List Bytes) → BeginsWith (word ∷ rest) (with_rest rest (in_one word))
one_begins word rest = by_link (bytes_eq word (codes "--link")) refl
  where
    by_store : (v : Option Bytes) → AfterIs (codes "--store=") word v
        → BeginsWith (word ∷ rest) (with_rest rest (store_of v))
    by_store None is = tt
    by_store (Some value) is = path_begins value (word ∷ rest) rest (inr (ap (λ x. x ∷ rest) is))

    by_count : (v : Option Bytes) → AfterIs (codes "--connections=") word v
        → BeginsWith (word ∷ rest) (with_rest rest (count_or_store v word))
    by_count None is = by_store (after_prefix (codes "--store=") word) (after_is (codes "--store=") word)
    by_count (Some value) is =
        count_begins value (word ∷ rest) rest
        (λ n spelled. inr (ap (λ x. x ∷ rest) (is ∙ ap (λ v. codes "--connections=" ++ v) spelled))) (count_in value)
        (count_is value)

    by_link : (b : Bool) → bytes_eq word (codes "--link") ≡ b
        → BeginsWith (word ∷ rest)
        (with_rest rest (if b then Some Link else count_or_store (after_prefix (codes "--connections=") word) word))
    by_link true e = ap (λ x. x ∷ rest) ((bytes_eq-Decides word (codes "--link")).0 e)
    by_link false e = by_count (after_prefix (codes "--connections=") word) (after_is (codes "--connections=") word)

-- an option is begun

pub begun_given : (given : Given) (words rest : List Bytes) → IsGiven given words rest
    → begun words ≡ Some (given, rest)
begun_given (Connections n) words rest (some, most, inl e) =
    ap begun e ∙ ap (λ c. with_rest rest (option_map Connections c)) (count_decimal n some most)
begun_given (Connections n) words rest (some, most, inr e) =
    ap begun e ∙ ap (λ c. with_rest rest (option_map Connections c)) (count_decimal n some most)
begun_given (Store path) words rest (is, inl e) =
    ap begun e ∙ ap (λ b. with_rest rest (option_map Store (if b then Some path else None))) is
begun_given (Store path) words rest (is, inr e) =
    ap begun e ∙ ap (λ b. with_rest rest (option_map Store (if b then Some path else None))) is
begun_given Link words rest e = ap begun e

absurd_length : (words rest : List Bytes) (word : Bytes) → words ≡ word ∷ rest → length words ≡ 0 → ⊥
absurd_length words rest word e h =
    let long : length words ≡ suc (length rest) = ap length e in
    omega (arith, h, long)

filled_by : (given : Given) (words rest : List Bytes) → IsGiven given words rest → length words ≢ 0
filled_by (Connections n) words rest (some, most, inl e) h =
    absurd_length words (decimal n ∷ rest) (codes "--connections") e h
filled_by (Connections n) words rest (some, most, inr e) h =
    absurd_length words rest (codes "--connections" ++ 61 ∷ decimal n) e h
filled_by (Store path) words rest (is, inl e) h = absurd_length words (path ∷ rest) (codes "--store") e h
filled_by (Store path) words rest (is, inr e) h = absurd_length words rest (codes "--store" ++ 61 ∷ path) e h
filled_by Link words rest e h = absurd_length words rest (codes "--link") e h

-- all options

abbrev pub AllGiven : (words : List Bytes) → Option (List Given) → Type 0
AllGiven words None = ⊤
AllGiven words (Some given) = AreGiven given words

join_given : (words : List Bytes) (one : Option Given) (rest : List Bytes) → BeginsWith words (with_rest rest one)
    → (more : Option (List Given)) → AllGiven rest more → AllGiven words (joined one more)
join_given words None rest b more is = tt
join_given words (Some given) rest b None is = tt
join_given words (Some given) rest b (Some more) is = (rest, b, is)

pub given_sound : (words : List Bytes) → AllGiven words (given_in words)
given_sound [] = refl
given_sound (word ∷ []) = by (name_in word)
  where
    by : (name : Option Bool) → AllGiven (word ∷ []) (alone name (in_one word))
    by None = join_given (word ∷ []) (in_one word) [] (one_begins word []) (Some []) refl
    by (Some is_count) = tt
given_sound (word ∷ value ∷ rest) =
    by (name_in word) refl (given_in (value ∷ rest)) (given_sound (value ∷ rest)) (given_in rest) (given_sound rest)
  where
    by : (name : Option Bool) → name_in word ≡ name → (one : Option (List Given)) → AllGiven (value ∷ rest) one
        → (two : Option (List Given)) → AllGiven rest two
        → AllGiven (word ∷ value ∷ rest) (chosen name (in_one word) value one two)
    by None e one is_one two is_two =
        join_given (word ∷ value ∷ rest) (in_one word) (value ∷ rest) (one_begins word (value ∷ rest)) one is_one
    by (Some is_count) e one is_one two is_two =
        join_given (word ∷ value ∷ rest) (with_value is_count value) rest
        (named_begins word value rest (name_in word) refl is_count e) two is_two

pub given_complete : (given : List Given) (words : List Bytes) → AreGiven given words → given_in words ≡ Some given
given_complete [] words e = ap given_in e
given_complete (given ∷ more) words (rest, b, is) =
    turn words (filled_by given words rest b)
    ∙ (ap go_on (begun_given given words rest b) ∙ ap (option_map (λ gs. given ∷ gs)) (given_complete more rest is))
