-- The lines of three values are those of their list: joining is associative, and after the last comes nothing.
use Rattle.std.proofs.Common.{◌≡◌, [], ◌∷◌, ◌++◌, codes, flat_map, sym, ap, ◌∙◌, append_assoc}
use Rattle.wiki_model.specs.Bytes.{Bytes}
use Rattle.wiki_model.specs.World.{Cookie}
use Rattle.sticky_routes.specs.SetCookies.{value_at, set_cookie, cookie_lines, three_lines}

-- a line before what follows
line_before : (value rest : Bytes) → set_cookie value ++ rest ≡ codes "Set-Cookie: " ++ (value ++ (13 ∷ 10 ∷ rest))
line_before value rest =
    append_assoc (codes "Set-Cookie: " ++ value) (13 ∷ 10 ∷ []) rest ∙ append_assoc (codes "Set-Cookie: ") value (13 ∷ 10 ∷ rest)

lines_are : (first second third : Bytes) → flat_map set_cookie (first ∷ second ∷ third ∷ []) ≡ three_lines first second third
lines_are first second third =
    line_before first (set_cookie second ++ (set_cookie third ++ []))
    ∙ ap (λ (t : Bytes). codes "Set-Cookie: " ++ (first ++ (13 ∷ 10 ∷ t)))
    (line_before second (set_cookie third ++ [])
    ∙ ap (λ (t : Bytes). codes "Set-Cookie: " ++ (second ++ (13 ∷ 10 ∷ t))) (line_before third []))

-- three texts that are the values, in their lines
pub in_their_lines : (cookie : Cookie) (first second third : Bytes) → first ≡ value_at 0 cookie → second ≡ value_at 1 cookie → third ≡ value_at 2 cookie
    → three_lines first second third ≡ cookie_lines cookie
in_their_lines cookie first second third a b c =
    ap (λ (t : Bytes). three_lines t second third) a
    ∙ ap (λ (t : Bytes). three_lines (value_at 0 cookie) t third) b
    ∙ ap (λ (t : Bytes). three_lines (value_at 0 cookie) (value_at 1 cookie) t) c
    ∙ sym (lines_are (value_at 0 cookie) (value_at 1 cookie) (value_at 2 cookie))
