-- The reader takes one option after another, and the definition reads all of the words at once. A turn is what the two
-- share: what the words begin with, and then what is read of the rest.
use Rattle.std.proofs.Common.{◌≡◌, ◌≢◌, Bool, true, false, List, [], ◌∷◌, Option, Some, None, option_map, length, refl, ap, ◌∙◌, arith, true≢false}
use Rattle.std.specs.Prelude.{option_and_then, String, ◌==◌}
use Rattle.std.specs.declared.alloc.Global.{Global}
use Rattle.wiki_model.specs.Bytes.{Bytes}
use Rattle.wiki_model.specs.Commands.{Given}
use Rattle.wiki_layout.specs.AsModel.{texts_of}
use Rattle.wiki_layout.specs.Options.{Found, has, with, put_all, begun_by, begun, name_in, in_one, with_value, given_in, joined, chosen, alone, found_from}

-- the options of what is begun
abbrev pub go_on : Option (Given × List Bytes) → Option (List Given)
go_on None = None
go_on (Some x) = option_map (λ more. x.0 ∷ more) (given_in x.1)

join : (one : Option Given) (rest : List Bytes)
    → joined one (given_in rest) ≡ go_on (option_map (λ given. (given, rest)) one)
join None rest = refl
join (Some given) rest = refl

last : (name : Option Bool) (word : Bytes) → alone name (in_one word) ≡ go_on (begun_by name word [])
last None word = join (in_one word) []
last (Some is_count) word = refl

inner : (name : Option Bool) (word value : Bytes) (rest : List Bytes)
    → chosen name (in_one word) value (given_in (value ∷ rest)) (given_in rest)
    ≡ go_on (begun_by name word (value ∷ rest))
inner None word value rest = join (in_one word) (value ∷ rest)
inner (Some is_count) word value rest = join (with_value is_count value) rest

pub turn : (words : List Bytes) → (filled : length words ≢ 0) → given_in words ≡ go_on (begun words)
turn [] filled = absurd (filled refl)
turn (word ∷ []) filled = last (name_in word) word
turn (word ∷ value ∷ rest) filled = inner (name_in word) word value rest

put_on : (found : Found) (given : Given) (more : Option (List Given)) → has given found ≡ false
    → option_and_then (put_all found) (option_map (λ gs. given ∷ gs) more)
    ≡ option_and_then (put_all (with given found)) more
put_on found given None e = refl
put_on found given (Some gs) e = rw e refl

put_twice : (found : Found) (given : Given) (more : Option (List Given)) → has given found ≡ true
    → option_and_then (put_all found) (option_map (λ gs. given ∷ gs) more) ≡ None
put_twice found given None e = refl
put_twice found given (Some gs) e = rw e refl

pub none_begun : (found : Found) (words : List Bytes) → length words ≢ 0 → begun words ≡ None
    → found_from found words ≡ None
none_begun found words filled e = ap (option_and_then (put_all found)) (turn words filled ∙ ap go_on e)

pub has_begun : (found : Found) (words : List Bytes) (given : Given) (rest : List Bytes) → length words ≢ 0
    → begun words ≡ Some (given, rest) → has given found ≡ true → found_from found words ≡ None
has_begun found words given rest filled e h =
    ap (option_and_then (put_all found)) (turn words filled ∙ ap go_on e) ∙ put_twice found given (given_in rest) h

pub begun_on : (found : Found) (words : List Bytes) (given : Given) (rest : List Bytes) → length words ≢ 0
    → begun words ≡ Some (given, rest) → has given found ≡ false
    → found_from found words ≡ found_from (with given found) rest
begun_on found words given rest filled e h =
    ap (option_and_then (put_all found)) (turn words filled ∙ ap go_on e) ∙ put_on found given (given_in rest) h

pub texts_filled : (words : List (String Global)) → (length words == 0) ≡ false → length (texts_of words) ≢ 0
texts_filled [] e h = absurd (true≢false e)
texts_filled (word ∷ words) e h = omega (arith, h)
