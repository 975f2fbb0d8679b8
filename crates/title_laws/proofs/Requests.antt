-- A request for a title's location asks for its page: the location has no `?`, so it is a path as a whole; the path
-- leads to a page, and what it says of the title is decoded to a text that reads as it.
use Rattle.std.proofs.Common.{◌≡◌, ℕ, ◌/◌, ◌%◌, ◌<◌, Bool, true, false, not, ◌==◌, [], ◌∷◌, ◌++◌, length, codes, Some, Ok, refl, sym, ap, ◌∙◌, subst, ⊎_elim, arith}
use Rattle.std.specs.List.{AllByRecursion}
use Rattle.std.specs.Str.{IsUtf8, is_utf8}
use Rattle.std.proofs.lemmas.Bool.{cases_Bool, cond-true, lt-ltb, eqb-true}
use Rattle.std.proofs.lemmas.Bool.Decides.{nat_tests}
use Rattle.std.proofs.lemmas.List.Sums.{take_while-cons}
use Rattle.std.proofs.lemmas.Str.{is_utf8-from_IsUtf8}
use Rattle.percent_encoding.specs.Percent.{percent_decode}
use Rattle.wiki_model.specs.Bytes.{Bytes, space}
use Rattle.wiki_model.specs.Titles.{Title, title_of, url_of, in_path, hex_digit, has_no_name}
use Rattle.wiki_model.specs.Asking.{PageCall}
use Rattle.wiki_titles.specs.Title.{stays_in_path}
use Rattle.http_desk.specs.Calls.{PageRoute, wiki_path, path_of, query_of, route_of, page_call, call_on, call_in}
use Rattle.title_laws.proofs.Gaps.{lacks}
use Rattle.title_laws.proofs.ReadBack.{was_read}
use Rattle.title_laws.proofs.Escapes.{in_path_plain, in_path_escaped}
use Rattle.title_laws.proofs.Locations.{locations-read-back}
use Rattle.title_laws.proofs.Characters.{marked_utf8, utf8_bytes}

-- No `?`

abbrev IsPath : Bytes → Type 0
IsPath text = AllByRecursion (λ c. (c == 63) ≡ false) text

whole_path : (text : Bytes) → IsPath text → path_of text ≡ text
whole_path [] none = refl
whole_path (c ∷ text) none = take_while-cons (λ d. not (d == 63)) c text ∙ rw none.0 (ap (λ rest. c ∷ rest) (whole_path text none.1))

joined_path : (before after : Bytes) → IsPath before → IsPath after → IsPath (before ++ after)
joined_path [] after none others = others
joined_path (c ∷ before) after none others = (none.0, joined_path before after none.1 others)

plain_is_no_mark : (c : ℕ) → stays_in_path c ≡ true → (c == 63) ≡ false
plain_is_no_mark c plain = ⊎_elim (λ mark. let wrong : false ≡ true = subst (λ d. stays_in_path d ≡ true) (eqb-true c 63 mark) plain in let none : ⊥ = cc in absurd none) (λ other. other) (cases_Bool (c == 63))

digit_is_no_mark : (n : ℕ) → (hex_digit n == 63) ≡ false
digit_is_no_mark n = grind (arith, nat_tests)

byte_path : (c : ℕ) → IsPath (in_path c)
byte_path c = ⊎_elim
    (λ at_space. rw at_space (refl, tt))
    (λ other. ⊎_elim
    (λ plain. subst IsPath (sym (in_path_plain c other plain)) (plain_is_no_mark c plain, tt))
    (λ escaped. subst IsPath (sym (in_path_escaped c other escaped)) (refl, (digit_is_no_mark (c / 16), (digit_is_no_mark (c % 16), tt))))
    (cases_Bool (stays_in_path c)))
    (cases_Bool (c == space))

url_path : (title : Title) → IsPath (url_of title)
url_path [] = tt
url_path (c ∷ title) = joined_path (in_path c) (url_of title) (byte_path c) (url_path title)

location_path : (title : Title) → path_of (wiki_path ++ url_of title) ≡ wiki_path ++ url_of title
location_path title = whole_path (wiki_path ++ url_of title) (joined_path wiki_path (url_of title) (lacks (λ c. c == 63) wiki_path refl) (url_path title))

-- The route

byte_long : (c : ℕ) (rest : Bytes) → 0 < length (in_path c ++ rest)
byte_long c rest = ⊎_elim
    (λ at_space. rw at_space (omega arith))
    (λ other. ⊎_elim
    (λ plain. rw (in_path_plain c other plain) (omega arith))
    (λ escaped. rw (in_path_escaped c other escaped) (omega arith))
    (cases_Bool (stays_in_path c)))
    (cases_Bool (c == space))

url_long : (title : Title) → has_no_name title ≡ false → 0 < length (url_of title)
url_long [] named = let wrong : ⊥ = cc in absurd wrong
url_long (c ∷ title) named = byte_long c (url_of title)

page_route : (linked : Bool) (url : Bytes) → 0 < length url → route_of linked (wiki_path ++ url) ≡ Some (PageRoute url)
page_route linked url long = cond-true _ _ _ (lt-ltb 6 (length (wiki_path ++ url)) (omega (arith, long)))

-- The call

page_called : (url : Bytes) (title : Title) → is_utf8 (percent_decode url) ≡ true → title_of (percent_decode url) ≡ Ok title → page_call url ≡ Ok (PageCall title)
page_called url title utf8 read = rw (utf8, read) refl

location_called : (linked : Bool) (title : Title) (body : Bytes) → 0 < length (url_of title) → page_call (url_of title) ≡ Ok (PageCall title)
    → call_in linked (codes "GET") (wiki_path ++ url_of title) body ≡ Ok (PageCall title)
location_called linked title body long called =
    let target = wiki_path ++ url_of title in
    ap (λ path. call_on (route_of linked path) (codes "GET") (query_of target) body) (location_path title)
    ∙ ap (λ route. call_on route (codes "GET") (query_of target) body) (page_route linked (url_of title) long)
    ∙ called

pub locations-lead-back : (linked : Bool) (text body : Bytes) (title : Title) → IsUtf8 title → title_of text ≡ Ok title
    → call_in linked (codes "GET") (wiki_path ++ url_of title) body ≡ Ok (PageCall title)
locations-lead-back linked text body title is read =
    let back = locations-read-back text title (utf8_bytes title is) read in
    let utf8 : is_utf8 (percent_decode (url_of title)) ≡ true = is_utf8-from_IsUtf8 _ (subst IsUtf8 (sym back.0) (marked_utf8 title is)) in
    location_called linked title body (url_long title (was_read text title read).named) (page_called (url_of title) title utf8 back.1)
