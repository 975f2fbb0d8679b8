-- What the types of this crate stand for in the model.
use Rattle.std.specs.Prelude.{option_map, Result, Ok, Err}
use Rattle.wiki_model.specs.World as model
use Rattle.wiki_model.specs.Cookies as cookies
use Rattle.wiki_model.specs.Cookies.{CookieRefusal}
use Rattle.sticky_routes.specs.declared.pos_cookie.PosCookie.{PosCookie}
use Rattle.sticky_routes.specs.declared.pos_cookie.CookieFault.{CookieFault}
use Rattle.sticky_routes.specs.declared.pos_cookie.CookieFault.TheVariants.{Form, Index, Client}
use Rattle.sticky_routes.specs.declared.cookies.Cookies.{Cookies}

abbrev pub cookie_of : PosCookie → model.Cookie
cookie_of cookie = record { index = cookie.index; seconds = cookie.seconds; client = cookie.client }

abbrev pub refusal_of : CookieFault → CookieRefusal
refusal_of Form = cookies.Form
refusal_of Index = cookies.Index
refusal_of Client = cookies.ClientId

abbrev pub reading_of : Result PosCookie CookieFault → Result model.Cookie CookieRefusal
reading_of (Ok cookie) = Ok (cookie_of cookie)
reading_of (Err fault) = Err (refusal_of fault)

abbrev pub cookies_of : Cookies → cookies.Cookies
cookies_of c = record {
  position = option_map cookie_of c.position;
  use_master = c.use_master;
  no_edge = c.no_edge;
}
