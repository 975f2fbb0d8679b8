-- What is put into the found options, one given option after another, is refused exactly if one stands twice; and what
-- is found then is what the given options say. So the reader is exact.
use Rattle.std.proofs.Common.{◌≡◌, ℕ, suc, ◌+◌, ◌≤◌, Bool, true, false, List, [], ◌∷◌, Option, Some, None, option_map, unwrap_or, refl, sym, ap, subst, ◌∙◌, arith}
use Rattle.std.specs.Prelude.{is_some, option_and_then, nat_lt}
use Rattle.std.proofs.lemmas.Bool.Decides.{nat_tests}
use Rattle.wiki_model.specs.Bytes.{Bytes}
use Rattle.wiki_model.specs.Commands.{Given, Connections, Store, Link, Options, AreGiven, AreOptions, is_connections, is_store, is_link, how_many, connections_in, store_in, options_in}
use Rattle.wiki_layout.specs.Options.{Found, nothing, put_all, given_in, options_found, options_read, OptionsAre}
use Rattle.wiki_layout.proofs.OptionWords.{AllGiven, given_sound, given_complete}

abbrev one : Bool → ℕ
one true = 1
one false = 0

-- how often each option was found or is given
record AreOnce (found : Found) (given : List Given) : Type 0 where
  connections : one (is_some found.connections) + how_many is_connections given ≤ 1
  store : one (is_some found.store) + how_many is_store given ≤ 1
  link : one found.link + how_many is_link given ≤ 1

-- what is found first, and then what is given
abbrev number_with : Option ℕ → List Given → ℕ
number_with None given = connections_in given
number_with (Some n) given = n

abbrev store_with : Option Bytes → List Given → Option Bytes
store_with None given = store_in given
store_with (Some path) given = Some path

abbrev link_with : Bool → List Given → Bool
link_with true given = true
link_with false given = nat_lt 0 (how_many is_link given)

abbrev options_with : Found → List Given → Options
options_with found given = record {
  connections = number_with found.connections given;
  store = store_with found.store given;
  link = link_with found.link given;
}

abbrev Puts : Found → List Given → Option Found → Type 0
Puts found given None = AreOnce found given → ⊥
Puts found given (Some last) = AreOnce found given × (options_found last ≡ options_with found given)

positive : (n : ℕ) → true ≡ nat_lt 0 (suc n)
positive n = grind (arith, nat_tests)

all_put : (given : List Given) (connections : Option ℕ) (store : Option Bytes) (link : Bool)
    → Puts (record { connections = connections; store = store; link = link }) given
    (put_all (record { connections = connections; store = store; link = link }) given)
all_put [] None None true = (record { connections = omega arith; store = omega arith; link = omega arith }, refl)
all_put [] None None false = (record { connections = omega arith; store = omega arith; link = omega arith }, refl)
all_put [] None (Some p) true = (record { connections = omega arith; store = omega arith; link = omega arith }, refl)
all_put [] None (Some p) false = (record { connections = omega arith; store = omega arith; link = omega arith }, refl)
all_put [] (Some n) None true = (record { connections = omega arith; store = omega arith; link = omega arith }, refl)
all_put [] (Some n) None false = (record { connections = omega arith; store = omega arith; link = omega arith }, refl)
all_put [] (Some n) (Some p) true =
    (record { connections = omega arith; store = omega arith; link = omega arith }, refl)
all_put [] (Some n) (Some p) false =
    (record { connections = omega arith; store = omega arith; link = omega arith }, refl)
all_put (Connections m ∷ given) (Some n) store link = λ once. let too = once.connections in omega (arith, too)
all_put (Connections m ∷ given) None store link =
    step (put_all (record { connections = Some m; store = store; link = link }) given)
    (all_put given (Some m) store link)
  where
    step : (o : Option Found) → Puts (record { connections = Some m; store = store; link = link }) given o
        → Puts (record { connections = None; store = store; link = link }) (Connections m ∷ given) o
    step None refused = λ once. let a = once.connections in let b = once.store in let d = once.link in refused
        (record { connections = omega (arith, a); store = omega (arith, b); link = omega (arith, d) })
    step (Some last) is =
        let a = is.0.connections in
        let b = is.0.store in
        let d = is.0.link in (
          record { connections = omega (arith, a); store = omega (arith, b); link = omega (arith, d) },
          is.1
              ∙ same store link,
        )
      where
        same : (s : Option Bytes) (b : Bool)
            → options_with (record { connections = Some m; store = s; link = b }) given
            ≡ options_with (record { connections = None; store = s; link = b }) (Connections m ∷ given)
        same None true = refl
        same None false = refl
        same (Some p) true = refl
        same (Some p) false = refl
all_put (Store p ∷ given) connections (Some q) link = λ once. let too = once.store in omega (arith, too)
all_put (Store p ∷ given) connections None link =
    step (put_all (record { connections = connections; store = Some p; link = link }) given)
    (all_put given connections (Some p) link)
  where
    step : (o : Option Found) → Puts (record { connections = connections; store = Some p; link = link }) given o
        → Puts (record { connections = connections; store = None; link = link }) (Store p ∷ given) o
    step None refused = λ once. let a = once.connections in let b = once.store in let d = once.link in refused
        (record { connections = omega (arith, a); store = omega (arith, b); link = omega (arith, d) })
    step (Some last) is =
        let a = is.0.connections in
        let b = is.0.store in
        let d = is.0.link in (
          record { connections = omega (arith, a); store = omega (arith, b); link = omega (arith, d) },
          is.1
              ∙ same connections,
        )
      where
        same : (c : Option ℕ)
            → options_with (record { connections = c; store = Some p; link = link }) given
            ≡ options_with (record { connections = c; store = None; link = link }) (Store p ∷ given)
        same None = same_link link
          where
            same_link : (b : Bool)
                → options_with (record { connections = None; store = Some p; link = b }) given
                ≡ options_with (record { connections = None; store = None; link = b }) (Store p ∷ given)
            same_link true = refl
            same_link false = refl
        same (Some n) = same_link link
          where
            same_link : (b : Bool)
                → options_with (record { connections = Some n; store = Some p; link = b }) given
                ≡ options_with (record { connections = Some n; store = None; link = b }) (Store p ∷ given)
            same_link true = refl
            same_link false = refl
all_put (Link ∷ given) connections store true = λ once. let too = once.link in omega (arith, too)
all_put (Link ∷ given) connections store false =
    step (put_all (record { connections = connections; store = store; link = true }) given)
    (all_put given connections store true)
  where
    step : (o : Option Found) → Puts (record { connections = connections; store = store; link = true }) given o
        → Puts (record { connections = connections; store = store; link = false }) (Link ∷ given) o
    step None refused = λ once. let a = once.connections in let b = once.store in let d = once.link in refused
        (record { connections = omega (arith, a); store = omega (arith, b); link = omega (arith, d) })
    step (Some last) is =
        let a = is.0.connections in
        let b = is.0.store in
        let d = is.0.link in (
          record { connections = omega (arith, a); store = omega (arith, b); link = omega (arith, d) },
          is.1
              ∙ same connections store,
        )
      where
        same : (c : Option ℕ) (s : Option Bytes)
            → options_with (record { connections = c; store = s; link = true }) given
            ≡ options_with (record { connections = c; store = s; link = false }) (Link ∷ given)
        same None None =
            ap (λ b. record { connections = connections_in given; store = store_in given; link = b })
            (positive (how_many is_link given))
        same None (Some p) =
            ap (λ b. record { connections = connections_in given; store = Some p; link = b })
            (positive (how_many is_link given))
        same (Some n) None =
            ap (λ b. record { connections = n; store = store_in given; link = b }) (positive (how_many is_link given))
        same (Some n) (Some p) =
            ap (λ b. record { connections = n; store = Some p; link = b }) (positive (how_many is_link given))

-- the reader is exact

pub read_exact : (words : List Bytes) → OptionsAre words (options_read words)
read_exact words = by (given_in words) refl (given_sound words)
  where
    by : (o : Option (List Given)) → given_in words ≡ o → AllGiven words o
        → OptionsAre words (option_map options_found (option_and_then (put_all nothing) o))
    by None e is = λ options are. none_is_some (sym e ∙ given_complete are.0 words are.1)
      where
        none_is_some : {X : Type 0} {x : X} → None ≡ Some x → ⊥
        none_is_some h = let no : ⊥ = cc in absurd no
    by (Some given) e is = by_put (put_all nothing given) (all_put given None None false)
      where
        by_put : (o : Option Found) → Puts nothing given o → OptionsAre words (option_map options_found o)
        by_put None refused = λ options are. again are.0 are.1 (are.3, are.4, are.5)
          where
            again : (others : List Given) → AreGiven others words
                → (how_many is_connections others ≤ 1) × (how_many is_store others ≤ 1) × (how_many is_link others ≤ 1)
                → ⊥
            again others a counts =
                let same : others ≡ given = ap (λ o. unwrap_or o []) (sym (given_complete others words a) ∙ e) in
                let connections = counts.0 in
                let store = counts.1 in
                let link = counts.2 in
                let once : AreOnce nothing others =
                record {
                  connections = omega (arith, connections);
                  store = omega (arith, store);
                  link = omega (arith, link);
                } in
                refused (subst (AreOnce nothing) same once)
        by_put (Some last) put =
            let a = put.0.connections in
            let b = put.0.store in
            let d = put.0.link in
            (given, is, put.1, omega (arith, a), omega (arith, b), omega (arith, d))

-- words are one list of options at most
pub same_options : (words : List Bytes) (one other : Options) → AreOptions one words → AreOptions other words
    → one ≡ other
same_options words one other (given, a, same, c, s, l) (more, b, even, d, t, m) =
    let equal : given ≡ more =
    ap (λ o. unwrap_or o []) (sym (given_complete given words a) ∙ given_complete more words b) in
    same ∙ (ap options_in equal ∙ sym even)
