-- The laws at one title. Each premise is computed by the prover.
use Rattle.std.specs.Prelude.{◌≡◌, [], ◌∷◌, ◌++◌, false, Ok, codes, refl}
use Rattle.std.specs.Str.{IsUtf8}
use lib.Utf8.{encode}
use Rattle.wiki_model.specs.Titles.{Title, title_of}
use Rattle.wiki_model.specs.Asking.{PageCall}
use Rattle.http_desk.specs.Calls.{call_in}
use Rattle.title_laws.proofs.ReadBack.{titles-read-back}
use Rattle.title_laws.proofs.Requests.{locations-lead-back}

menu : Title
menu = codes "Caf" ++ 195 ∷ 169 ∷ codes " menu"

menu_text : IsUtf8 menu
unfolding menu encode
menu_text = (codes "Caf" ++ 233 ∷ codes " menu", (refl, refl))

menu_reads_back : title_of menu ≡ Ok menu
unfolding menu
menu_reads_back = titles-read-back (codes "_caf" ++ 195 ∷ 169 ∷ codes "__menu ") menu refl

menu_is_led_to : call_in false (codes "GET") (codes "/wiki/Caf%C3%A9_menu") [] ≡ Ok (PageCall menu)
unfolding menu
menu_is_led_to = locations-lead-back false menu [] menu menu_text menu_reads_back
