-- The values that set the cookies of an answer, one by one, and the lines of all.
-- `cookies_set` of the model is their list.
use Rattle.std.specs.Prelude.{ℕ, [], ◌∷◌, ◌++◌, codes, flat_map, get_or}
use Rattle.wiki_model.specs.Bytes.{Bytes}
use Rattle.wiki_model.specs.World.{Cookie}
use Rattle.wiki_model.specs.Cookies.{cookies_set}

-- first the position, then the stay with home, then the way past the edge caches
abbrev pub value_at : (place : ℕ) → Cookie → Bytes
value_at place cookie = get_or (cookies_set cookie) place []

abbrev pub set_cookie : Bytes → Bytes
set_cookie value = codes "Set-Cookie: " ++ value ++ (13 ∷ 10 ∷ [])

-- each value in a line of its own, ended by CR LF
abbrev pub cookie_lines : Cookie → Bytes
cookie_lines cookie = flat_map set_cookie (cookies_set cookie)

-- a position's text as a value
abbrev pub position_value : Bytes → Bytes
position_value position = codes "cpPosIndex=" ++ (position ++ codes "; Max-Age=10; Path=/")

-- three values in their lines
abbrev pub three_lines : (first second third : Bytes) → Bytes
three_lines first second third =
    codes "Set-Cookie: "
    ++ (first
    ++ (codes "\r\nSet-Cookie: "
    ++ (second
    ++ (codes "\r\nSet-Cookie: "
    ++ (third
    ++ codes "\r\n")))))
