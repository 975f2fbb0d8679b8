-- What a position cookie's text is put together from, and what a person reads of a faulty one.
use Rattle.std.specs.Prelude.{ℕ, List, ◌++◌, codes, decimal}
use Rattle.sticky_routes.specs.declared.pos_cookie.CookieFault.{CookieFault}
use Rattle.sticky_routes.specs.declared.pos_cookie.CookieFault.TheVariants.{Form, Index, Client}
use Rattle.wiki_model.specs.Bytes.{Bytes}

abbrev pub joined : (index seconds : ℕ) → (client : Bytes) → Bytes
joined index seconds client =
    decimal index ++ (codes "@" ++ (decimal seconds ++ (codes "#" ++ client)))

abbrev pub fault_text : CookieFault → List ℕ
fault_text Form = codes "the cookie is not INDEX@SECONDS#CLIENT"
fault_text Index = codes "the cookie's index is no number of a commit"
fault_text Client = codes "the cookie's client is not 32 digits of 0-9a-f"
