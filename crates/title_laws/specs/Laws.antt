-- What is proved of reading titles. Each law stands in the contract of a function of `src/lib.rt`, so that its proof is
-- asked for.
use Rattle.std.specs.Prelude.{◌≡◌, ◌<◌, ◌++◌, Bool, Ok, codes}
use Rattle.std.specs.Str.{IsUtf8}
use Rattle.std.specs.List.{AllByRecursion}
use Rattle.percent_encoding.specs.Percent.{percent_decode}
use Rattle.wiki_model.specs.Bytes.{Bytes, space, replaced}
use Rattle.wiki_model.specs.Titles.{Title, title_of, url_of}
use Rattle.wiki_model.specs.Asking.{PageCall}
use Rattle.http_desk.specs.Calls.{wiki_path, call_in}

-- a title's own text reads as the title
abbrev pub TitlesReadBack : Type 0
TitlesReadBack = (text : Bytes) (title : Title) → title_of text ≡ Ok title → title_of title ≡ Ok title

-- each number is one that a byte can have; the definitions speak of lists of any numbers
abbrev pub AreBytes : Bytes → Type 0
AreBytes text = AllByRecursion (λ c. c < 256) text

-- the title's text with an underscore for each space
abbrev pub underscored : Title → Bytes
underscored title = replaced space 95 title

-- what a path says of a title, decoded, is the title's text with underscores, and reads as the title
abbrev pub LocationsReadBack : Type 0
LocationsReadBack =
    (text : Bytes) (title : Title) → AreBytes title → title_of text ≡ Ok title
    → (percent_decode (url_of title) ≡ underscored title)
    × (title_of (percent_decode (url_of title)) ≡ Ok title)

-- a request for the location of a title, as an edit is answered with it, asks for the title's page, whether the wiki is
-- linked or not; the text of every title that the program holds is UTF-8
abbrev pub LocationsLeadBack : Type 0
LocationsLeadBack =
    (linked : Bool) (text body : Bytes) (title : Title) → IsUtf8 title → title_of text ≡ Ok title
    → call_in linked (codes "GET") (wiki_path ++ url_of title) body ≡ Ok (PageCall title)
