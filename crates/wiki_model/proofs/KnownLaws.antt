-- What a store of positions finds at the region's moment is what the region knows, with 0 and 0 for nothing.
-- What is found is never at entry 0, so that nothing known and nothing found are the same.
use Rattle.std.proofs.Common.{◌≡◌, ◌+◌, ◌<◌, Bool, true, false, cond, Option, Some, None, refl, ap, ◌∙◌, arith, nat_eq}
use Rattle.std.proofs.lemmas.Bool.Decides.{nat_tests}
use Rattle.std.specs.Prelude.{unwrap_or, option_map, nat_lt, bytes_eq}
use Rattle.std.specs.List.{list_any}
use Rattle.wiki_model.specs.declared.Region.{Region}
use Rattle.wiki_model.specs.Bytes.{last_of}
use Rattle.wiki_model.specs.Titles.{Client}
use Rattle.wiki_model.specs.History.{Numbered, commits, commits_by}
use Rattle.wiki_model.specs.Limits.{position_life}
use Rattle.wiki_model.specs.World.{World, site, moment}
use Rattle.wiki_model.specs.Sessions.{Known, unknown, known_of, known, heard_commits}
use Rattle.wiki_model.specs.Positions.{Finder, PositionsStand, as_found}
use Rattle.wiki_model.proofs.SessionLaws.{last-get, filter-get, numbered-at}

whole : (k : Known) → 0 < k.position → unwrap_or (as_found k) unknown ≡ k
whole k some = by (nat_eq k.position 0) refl
  where
    by : (b : Bool) → nat_eq k.position 0 ≡ b → unwrap_or (cond b None (Some k)) unknown ≡ k
    by true e = let no : ⊥ = grind (arith, nat_tests, e, some) in absurd no
    by false e = refl

-- a commit's number is not 0
positive : (w : World) (r : Region) (client : Client) (n : Numbered) → last_of (heard_commits w r client) ≡ Some n → 0 < n.number
positive w r client n last =
    let a = last-get (heard_commits w r client) n last in
    let b = filter-get (λ m. list_any (nat_eq m.number) (site r w).heard) (commits_by w.history client) a.0 n a.2 in
    let c = filter-get (λ m. bytes_eq m.commit.edit.client client) (commits w.history) b.0 n b.1 in
    let d = numbered-at 1 w.history c.0 n c.1 in
    let e = d.1 in
    omega (arith, e)

pub known-found : (w : World) (r : Region) (find : Finder) (client : Client) → PositionsStand w r find
    → unwrap_or (find client (moment r w)) unknown ≡ known w r client
known-found w r find client stands =
    ap (λ o. unwrap_or o unknown) (stands client (moment r w) (omega arith)) ∙ by (last_of (heard_commits w r client)) refl
  where
    known_by : Option Numbered → Known
    known_by o = unwrap_or (option_map (known_of (moment r w)) o) unknown

    by_test : (n : Numbered) → 0 < n.number → (b : Bool)
        → unwrap_or (as_found (cond b (let k : Known = record { index = n.commit.index; position = n.number } in k) unknown)) unknown
        ≡ cond b (let k : Known = record { index = n.commit.index; position = n.number } in k) unknown
    by_test n some true = whole (record { index = n.commit.index; position = n.number }) some
    by_test n some false = refl

    by : (o : Option Numbered) → last_of (heard_commits w r client) ≡ o
        → unwrap_or (as_found (unwrap_or (option_map (known_of (moment r w)) o) unknown)) unknown
        ≡ unwrap_or (option_map (known_of (moment r w)) o) unknown
    by None e = refl
    by (Some n) e = by_test n (positive w r client n e) (nat_lt (moment r w) (n.commit.stamp + position_life))
