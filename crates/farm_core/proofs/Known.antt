-- What a region's store of positions says is what the world knows.
use Rattle.std.proofs.Common.{◌≡◌, ◌+◌, ◌<◌, Bool, true, false, cond, Option, Some, None, refl, sym, ap, ◌∙◌, arith, nat_eq}
use Rattle.std.proofs.lemmas.Bool.Decides.{nat_tests}
use Rattle.std.specs.Prelude.{unwrap_or, option_map, nat_lt}
use Rattle.wiki_model.specs.declared.Region.{Region}
use Rattle.wiki_model.specs.Bytes.{last_of}
use Rattle.wiki_model.specs.Titles.{Client}
use Rattle.wiki_model.specs.History.{Numbered, commits, commits_by}
use Rattle.wiki_model.specs.World.{World, moment}
use Rattle.wiki_model.specs.Sessions.{Known, unknown, known_of, known_at, heard_commits}
use Rattle.wiki_model.specs.Positions.{RowsStand, as_found}
use Rattle.wiki_model.proofs.SessionLaws.{last-get, filter-get, numbered-at}
use Rattle.chronology_store.specs.ChronologyStore.{Positions}
use Rattle.chronology_store.specs.AsModel.{rows_in}
use Rattle.chronology_store.proofs.ModelRows.{finds_in}
use Rattle.region_state.specs.WaitView.{known_in}

-- what is known is nothing, or a commit
whole : (k : Known) → (0 < k.position) → unwrap_or (as_found k) unknown ≡ k
whole k some = by (nat_eq k.position 0) refl
  where
    by : (b : Bool) → nat_eq k.position 0 ≡ b → unwrap_or (cond b None (Some k)) unknown ≡ k
    by true e = let no : ⊥ = grind (arith, nat_tests, e, some) in absurd no
    by false e = refl

positive : (w : World) (r : Region) (client : Client) (n : Numbered) → last_of (heard_commits w r client) ≡ Some n → 0 < n.number
positive w r client n last =
    let a = last-get (heard_commits w r client) n last in
    let b = filter-get (λ m. Rattle.std.specs.List.list_any (nat_eq m.number) (Rattle.wiki_model.specs.World.site r w).heard) (commits_by w.history client) a.0 n a.2 in
    let c = filter-get (λ m. Rattle.std.specs.Prelude.bytes_eq m.commit.edit.client client) (commits w.history) b.0 n b.1 in
    let d = numbered-at 1 w.history c.0 n c.1 in
    let e = d.1 in omega (arith, e)

pub known_is : (w : World) (r : Region) (positions : Positions) (client : Client) → RowsStand w r (rows_in positions) → known_in positions client (moment r w) ≡ known_at w r client (moment r w)
known_is w r positions client stands =
    ap (λ o. unwrap_or o unknown) (sym (finds_in positions client (moment r w)) ∙ stands.found client (moment r w) (omega arith)) ∙ by (last_of (heard_commits w r client)) refl
  where
    by_test : (n : Numbered) → 0 < n.number → (b : Bool) → unwrap_or (as_found (cond b (let k : Known = record { index = n.commit.index; position = n.number } in k) unknown)) unknown ≡ cond b (let k : Known = record { index = n.commit.index; position = n.number } in k) unknown
    by_test n some true = whole (record { index = n.commit.index; position = n.number }) some
    by_test n some false = refl

    by : (o : Option Numbered) → last_of (heard_commits w r client) ≡ o → unwrap_or (as_found (unwrap_or (option_map (known_of (moment r w)) o) unknown)) unknown ≡ unwrap_or (option_map (known_of (moment r w)) o) unknown
    by None e = refl
    by (Some n) e = by_test n (positive w r client n e) (nat_lt (moment r w) (n.commit.stamp + 60_000))
