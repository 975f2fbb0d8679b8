-- The rows of a store of positions stand: as moments grow, over an entry, where a position is told, and where expired rows are forgotten.
use Rattle.std.proofs.Common.{◌≡◌, ℕ, zero, suc, ◌+◌, ◌<◌, ◌≤◌, ◌⊎◌, Bool, true, false, cond, List, [], ◌∷◌, ◌++◌, Option, Some, None, refl, sym, ◌∙◌, ap, arith, subst, inl, inr, nat_lt}
use Rattle.std.specs.Prelude.{bytes_eq, IfSome, option_and_then, filter, map, nat_eq, ◌||◌}
use Rattle.std.specs.List.{list_any}
use Rattle.std.proofs.lemmas.Bool.Decides.{nat_tests}
use Rattle.std.proofs.lemmas.Slice.Eq.{bytes_eq-Decides}
use Rattle.wiki_model.specs.declared.Region.{Region}
use Rattle.wiki_model.specs.declared.Region.TheVariants.{Home, West}
use Rattle.wiki_model.specs.declared.Readings.{Readings}
use Rattle.wiki_model.specs.Bytes.{IsIn, last_of}
use Rattle.wiki_model.specs.Titles.{Client}
use Rattle.wiki_model.specs.History.{Entry, Commit, Numbered, commits, commits_by, IsHistory, commit_at}
use Rattle.wiki_model.specs.World.{World, Setting, site, moment}
use Rattle.wiki_model.specs.Sessions.{Known}
use Rattle.wiki_model.specs.Consistent.{IsConsistent}
use Rattle.wiki_model.specs.Runs.{opening}
use Rattle.wiki_model.specs.Positions.{PositionsStand, as_found, told_all, no_rows, young_commits, later_of, if_young, Held, Rows, unexpired, finds, IsRowOf, RowsStand, later_row, row_for, TellsRow, SweepsRows}
use Rattle.wiki_model.proofs.PositionLaws.{positions-entry, positions-hear, are-commits, AreCommits, filter-same, is_heard}
use Rattle.wiki_model.proofs.HeadlineLaws.{positions-moments}
use Rattle.wiki_model.proofs.SessionLaws.{last_known, in-filter, in-filter-from, in-get, numbered-in, numbered-commit, committed-at}
use Rattle.wiki_model.proofs.HistoryGrowth.{commit-before}

-- of two commits of a client, the one with the lesser index has no later stamp
among : (h : List Entry) (x : Client) (n : ℕ) (c : Commit) → commit_at h n ≡ Some c → c.edit.client ≡ x → IsIn (let y : Numbered = record { number = n; commit = c } in y) (commits_by h x)
among h x n c at of = in-filter (λ y. bytes_eq y.commit.edit.client x) (commits h) (record { number = n; commit = c }) (go n refl at) ((bytes_eq-Decides c.edit.client x).1 of)
  where
    go : (k : ℕ) → n ≡ k → commit_at h k ≡ Some c → IsIn (let y : Numbered = record { number = n; commit = c } in y) (commits h)
    go zero e f = let no : ⊥ = cc in absurd no
    go (suc k) e f = let plus : 1 + k ≡ n = omega (arith, e) in subst (λ i. IsIn (let y : Numbered = record { number = i; commit = c } in y) (commits h)) plus (numbered-in 1 h k c (committed-at h k c f))

stamps-rise : (h : List Entry) → IsHistory h → (x : Client) (m n : ℕ) (c d : Commit) → commit_at h m ≡ Some c → c.edit.client ≡ x → commit_at h n ≡ Some d → d.edit.client ≡ x → c.index ≤ d.index → c.stamp ≤ d.stamp
stamps-rise h is x m n c d at of bt pf le =
    let are : AreCommits (commits_by h x) = are-commits h is x in
    let a : Numbered = record { number = m; commit = c } in
    let b : Numbered = record { number = n; commit = d } in
    let i = in-get (commits_by h x) a (among h x m c at of) in
    let j = in-get (commits_by h x) b (among h x n d bt pf) in
    let p = are.indexed i.0 a i.1 in let q = are.indexed j.0 b j.1 in
    are.stamps i.0 j.0 a b i.1 j.1 (omega (arith, p, q, le))

-- what is found after one more is told
told-found : (now index position index2 position2 s t : ℕ) → (index < index2 → s ≤ t) → (index2 ≤ index → t ≤ s)
    → unexpired now (cond (nat_lt index index2) (let h : Held = record { index = index2; position = position2; expires = t + 60_000 } in h) (record { index = index; position = position; expires = s + 60_000 }))
    ≡ later_of (unexpired now (record { index = index; position = position; expires = s + 60_000 })) (if_young now t (record { index = index2; position = position2 }))
told-found now index position index2 position2 s t up down = by (nat_lt index index2) (nat_lt now (s + 60_000)) (nat_lt now (t + 60_000)) refl refl refl
  where
    by : (x y z : Bool) → nat_lt index index2 ≡ x → nat_lt now (s + 60_000) ≡ y → nat_lt now (t + 60_000) ≡ z
        → unexpired now (cond x (let h : Held = record { index = index2; position = position2; expires = t + 60_000 } in h) (record { index = index; position = position; expires = s + 60_000 }))
        ≡ later_of (cond y (Some (let k : Known = record { index = index; position = position } in k)) None) (cond z (Some (record { index = index2; position = position2 })) None)
    by true true true e f g = ap (λ b. cond b (Some (let k : Known = record { index = index2; position = position2 } in k)) None) g ∙ sym (ap (λ b. cond b (Some (let k : Known = record { index = index2; position = position2 } in k)) (Some (record { index = index; position = position }))) e)
    by true true false e f g = let le = up (grind (arith, nat_tests, e)) in let no : ⊥ = grind (arith, nat_tests, f, g, le) in absurd no
    by true false z e f g = ap (λ b. cond b (Some (let k : Known = record { index = index2; position = position2 } in k)) None) g
    by false true true e f g = ap (λ b. cond b (Some (let k : Known = record { index = index; position = position } in k)) None) f ∙ sym (ap (λ b. cond b (Some (let k : Known = record { index = index2; position = position2 } in k)) (Some (record { index = index; position = position }))) e)
    by false true false e f g = ap (λ b. cond b (Some (let k : Known = record { index = index; position = position } in k)) None) f
    by false false true e f g = let le = down (grind (arith, nat_tests, e)) in let no : ⊥ = grind (arith, nat_tests, f, g, le) in absurd no
    by false false false e f g = ap (λ b. cond b (Some (let k : Known = record { index = index; position = position } in k)) None) f

-- the row that stays is one of a commit
later-of_commit : (h : List Entry) (x : Client) (o : Option Held) (told : Held) → IfSome o (IsRowOf h x) → IsRowOf h x told → IsRowOf h x (later_row o told)
later-of_commit h x None told old is = is
later-of_commit h x (Some held) told old is = by (nat_lt held.index told.index)
  where
    by : (b : Bool) → IsRowOf h x (cond b told held)
    by true = is
    by false = old

pub rows-hear : (v w : World) (r : Region) (n : ℕ) (commit : Commit) (old new : Rows) → IsHistory v.history → commit_at v.history n ≡ Some commit → w.history ≡ v.history
    → (site r w).heard ≡ n ∷ (site r v).heard → moment r v ≤ moment r w → TellsRow commit.edit.client (row_for n commit) old new → RowsStand v r old → RowsStand w r new
rows-hear v w r n commit old new is at same heard up tells stands = record {
  found = positions-hear v w r n commit (finds old) (finds new) is at same heard up (record { own = own; others = others }) stands.found;
  held = held;
}
  where
    x : Client
    x = commit.edit.client

    told : IsRowOf v.history commit.edit.client (row_for n commit)
    told = record { commit = commit; there = at; of = refl; index_is = refl; expires_is = refl }

    own : (now : ℕ) → moment r w ≤ now → finds new commit.edit.client now ≡ later_of (finds old commit.edit.client now) (if_young now commit.stamp (record { index = commit.index; position = n }))
    own now later = ap (option_and_then (unexpired now)) tells.own ∙ by (old commit.edit.client) (stands.held commit.edit.client)
      where
        by : (o : Option Held) → IfSome o (IsRowOf v.history commit.edit.client) → unexpired now (later_row o (row_for n commit)) ≡ later_of (option_and_then (unexpired now) o) (if_young now commit.stamp (record { index = commit.index; position = n }))
        by None h = refl
        by (Some held) h =
            subst (λ (e : ℕ). unexpired now (cond (nat_lt held.index commit.index) (row_for n commit) (record held { expires = e })) ≡ later_of (unexpired now (record held { expires = e })) (if_young now commit.stamp (record { index = commit.index; position = n }))) (sym h.expires_is)
            (told-found now held.index held.position commit.index n h.commit.stamp commit.stamp
            (λ less. let i = h.index_is in stamps-rise v.history is commit.edit.client held.position n h.commit commit h.there h.of at refl (omega (arith, less, i)))
            (λ le. let i = h.index_is in stamps-rise v.history is commit.edit.client n held.position commit h.commit at refl h.there h.of (omega (arith, le, i))))

    others : (other : Client) (now : ℕ) → moment r w ≤ now → bytes_eq commit.edit.client other ≡ false → finds new other now ≡ finds old other now
    others other now later differ = ap (option_and_then (unexpired now)) (tells.others other differ)

    held : (client : Client) → IfSome (new client) (IsRowOf w.history client)
    held client = subst (λ (h : List Entry). IfSome (new client) (IsRowOf h client)) (sym same) (by (bytes_eq commit.edit.client client) refl)
      where
        by : (b : Bool) → bytes_eq commit.edit.client client ≡ b → IfSome (new client) (IsRowOf v.history client)
        by true e = let one : commit.edit.client ≡ client = (bytes_eq-Decides commit.edit.client client).0 e in
            subst (λ (y : Client). IfSome (new y) (IsRowOf v.history y)) one
            (subst (λ (o : Option Held). IfSome o (IsRowOf v.history commit.edit.client)) (sym tells.own) (later-of_commit v.history commit.edit.client (old commit.edit.client) (row_for n commit) (stands.held commit.edit.client) told))
        by false e = subst (λ (o : Option Held). IfSome o (IsRowOf v.history client)) (sym (tells.others client e)) (stands.held client)

if-some : {A : Type 0} (P Q : A → Type 0) (o : Option A) → ((a : A) → P a → Q a) → IfSome o P → IfSome o Q
if-some P Q None f h = tt
if-some P Q (Some a) f h = f a h

-- an entry that the region has not heard
pub rows-entry : (v w : World) (r : Region) (entry : Entry) (rows : Rows) → IsConsistent v → w.history ≡ v.history ++ entry ∷ [] → (site r w).heard ≡ (site r v).heard → moment r v ≤ moment r w
    → RowsStand v r rows → RowsStand w r rows
rows-entry v w r entry rows c more heard up stands = record {
  found = positions-entry v w r entry (finds rows) c more heard up stands.found;
  held = λ x. if-some (IsRowOf v.history x) (IsRowOf w.history x) (rows x) (λ h is. record { commit = is.commit; there = subst (λ (hs : List Entry). commit_at hs h.position ≡ Some is.commit) (sym more) (commit-before v.history entry h.position is.commit is.there); of = is.of; index_is = is.index_is; expires_is = is.expires_is }) (stands.held x);
}

-- moments grow, and expired rows may be forgotten
pub rows-swept : (v w : World) (r : Region) (now : ℕ) (old new : Rows) → w.history ≡ v.history → (site r w).heard ≡ (site r v).heard → moment r v ≤ moment r w → now ≤ moment r w → SweepsRows now old new
    → RowsStand v r old → RowsStand w r new
rows-swept v w r now old new same heard up by_now sweeps stands = record {
  found = λ x t later. found x t later (sweeps x) ∙ grown x t later;
  held = λ x. subst (λ (h : List Entry). IfSome (new x) (IsRowOf h x)) (sym same) (held x (sweeps x));
}
  where
    grown : PositionsStand w r (finds old)
    grown = positions-moments v w r (finds old) same heard up stands.found

    found : (x : Client) (t : ℕ) → moment r w ≤ t → (new x ≡ old x) ⊎ ((new x ≡ None) × IfSome (old x) (λ held. held.expires ≤ now)) → finds new x t ≡ finds old x t
    found x t later (inl e) = ap (option_and_then (unexpired t)) e
    found x t later (inr e) = ap (option_and_then (unexpired t)) e.0 ∙ by (old x) e.1
      where
        by : (o : Option Held) → IfSome o (λ held. held.expires ≤ now) → None ≡ option_and_then (unexpired t) o
        by None h = refl
        by (Some held) h = let test : nat_lt t held.expires ≡ false = grind (arith, nat_tests, h, later, by_now) in sym (ap (λ b. cond b (Some (let k : Known = record { index = held.index; position = held.position } in k)) None) test)

    held : (x : Client) → (new x ≡ old x) ⊎ ((new x ≡ None) × IfSome (old x) (λ held. held.expires ≤ now)) → IfSome (new x) (IsRowOf v.history x)
    held x (inl e) = subst (λ (o : Option Held). IfSome o (IsRowOf v.history x)) (sym e) (stands.held x)
    held x (inr e) = subst (λ (o : Option Held). IfSome o (IsRowOf v.history x)) (sym e.0) tt

-- moments grow, and no row is forgotten
pub rows-moments : (v w : World) (r : Region) (rows : Rows) → w.history ≡ v.history → (site r w).heard ≡ (site r v).heard
    → moment r v ≤ moment r w → RowsStand v r rows → RowsStand w r rows
rows-moments v w r rows same heard up = rows-swept v w r (moment r w) rows rows same heard up (omega arith) (λ x. inl refl)

-- At the opening: the young commits are told in turn.

abbrev with_heard : List ℕ → World → World
with_heard hs w = record w { home = record w.home { heard = hs }; west = record w.west { heard = hs } }

abbrev back : List Numbered → List ℕ → List ℕ
back [] hs = hs
back (n ∷ ns) hs = back ns (n.number ∷ hs)

abbrev AreOf : List Entry → List Numbered → Type 0
AreOf h [] = Unit {0}
AreOf h (n ∷ ns) = (commit_at h n.number ≡ Some n.commit) × AreOf h ns

heard-next : (r : Region) (o : World) (n : ℕ) (hs : List ℕ) → (site r (with_heard (n ∷ hs) o)).heard ≡ n ∷ (site r (with_heard hs o)).heard
heard-next Home o n hs = refl
heard-next West o n hs = refl

moment-same : (r : Region) (o : World) (gs hs : List ℕ) → moment r (with_heard gs o) ≡ moment r (with_heard hs o)
moment-same Home o gs hs = refl
moment-same West o gs hs = refl

hear-all : (o : World) (r : Region) (ns : List Numbered) (hs : List ℕ) (rows : Rows) → IsHistory o.history → AreOf o.history ns → RowsStand (with_heard hs o) r rows → RowsStand (with_heard (back ns hs) o) r (told_all ns rows)
hear-all o r [] hs rows is of stands = stands
hear-all o r (n ∷ ns) hs rows is of stands = hear-all o r ns (n.number ∷ hs) next is of.1
    (rows-hear (with_heard hs o) (with_heard (n.number ∷ hs) o) r n.number n.commit rows next is of.0 refl (heard-next r o n.number hs) (let e = moment-same r o (n.number ∷ hs) hs in omega (arith, e)) tells stands)
  where
    next : Rows
    next = λ client. cond (bytes_eq n.commit.edit.client client) (Some (later_row (rows client) (row_for n.number n.commit))) (rows client)

    tells : TellsRow n.commit.edit.client (row_for n.number n.commit) rows (λ client. cond (bytes_eq n.commit.edit.client client) (Some (later_row (rows client) (row_for n.number n.commit))) (rows client))
    tells = record {
      own = ap (λ b. cond b (Some (later_row (rows n.commit.edit.client) (row_for n.number n.commit))) (rows n.commit.edit.client)) ((bytes_eq-Decides n.commit.edit.client n.commit.edit.client).1 refl);
      others = λ other differ. ap (λ b. cond b (Some (later_row (rows other) (row_for n.number n.commit))) (rows other)) differ;
    }

-- nothing was heard, and there are no rows
none-passes : {X : Type 0} (xs : List X) → filter (λ _. false) xs ≡ []
none-passes [] = refl
none-passes (x ∷ xs) = none-passes xs

nothing-stands : (o : World) (r : Region) → RowsStand (with_heard [] o) r no_rows
nothing-stands o Home = record { found = λ x now later. sym (ap (λ (xs : List Numbered). as_found (last_known now (last_of xs))) (none-passes (commits_by o.history x))); held = λ x. tt }
nothing-stands o West = record { found = λ x now later. sym (ap (λ (xs : List Numbered). as_found (last_known now (last_of xs))) (none-passes (commits_by o.history x))); held = λ x. tt }

-- in which order it was heard does not matter
any-back : (k : ℕ) (ns : List Numbered) (hs : List ℕ) → list_any (nat_eq k) (back ns hs) ≡ (list_any (nat_eq k) (map (λ n. n.number) ns) || list_any (nat_eq k) hs)
any-back k [] hs = refl
any-back k (n ∷ ns) hs = any-back k ns (n.number ∷ hs) ∙ by (nat_eq k n.number) (list_any (nat_eq k) (map (λ m. m.number) ns)) (list_any (nat_eq k) hs)
  where
    by : (a b c : Bool) → (b || (a || c)) ≡ ((a || b) || c)
    by true true c = refl
    by true false c = refl
    by false true c = refl
    by false false c = refl

or-false : (b : Bool) → (b || false) ≡ b
or-false true = refl
or-false false = refl

same-heard : (o : World) (r : Region) (ns : List Numbered) (rows : Rows) → (site r o).heard ≡ map (λ n. n.number) ns → RowsStand (with_heard (back ns []) o) r rows → RowsStand o r rows
same-heard o Home ns rows e stands = record {
  found = λ x now later. stands.found x now later ∙ ap (λ (xs : List Numbered). as_found (last_known now (last_of xs))) (filter-same (is_heard o.home.heard) (is_heard (back ns [])) (commits_by o.history x)
      (λ m there. any-back m.number ns [] ∙ or-false (list_any (nat_eq m.number) (map (λ n. n.number) ns)) ∙ ap (list_any (nat_eq m.number)) (sym e)));
  held = stands.held;
}
same-heard o West ns rows e stands = record {
  found = λ x now later. stands.found x now later ∙ ap (λ (xs : List Numbered). as_found (last_known now (last_of xs))) (filter-same (is_heard o.west.heard) (is_heard (back ns [])) (commits_by o.history x)
      (λ m there. any-back m.number ns [] ∙ or-false (list_any (nat_eq m.number) (map (λ n. n.number) ns)) ∙ ap (list_any (nat_eq m.number)) (sym e)));
  held = stands.held;
}

are-of : (h : List Entry) (ns : List Numbered) → ((n : Numbered) → IsIn n ns → commit_at h n.number ≡ Some n.commit) → AreOf h ns
are-of h [] f = tt
are-of h (n ∷ ns) f = (f n (inl refl), are-of h ns (λ m e. f m (inr e)))

pub opening-rows : (setting : Setting) (history : List Entry) (faults : ℕ) (at : Readings) (r : Region) → IsHistory history
    → RowsStand (opening setting history faults at) r (told_all (young_commits (moment Home (opening setting history faults at)) history) no_rows)
opening-rows setting history faults at r is = same-heard o r ns (told_all ns no_rows) (heard r) (hear-all o r ns [] no_rows is (are-of history ns of) (nothing-stands o r))
  where
    o : World
    o = opening setting history faults at

    ns : List Numbered
    ns = young_commits (moment Home (opening setting history faults at)) history

    heard : (r : Region) → (site r (opening setting history faults at)).heard ≡ map (λ n. n.number) (young_commits (moment Home (opening setting history faults at)) history)
    heard Home = refl
    heard West = refl

    of : (n : Numbered) → IsIn n (young_commits (moment Home (opening setting history faults at)) history) → commit_at history n.number ≡ Some n.commit
    of n there = numbered-commit history n (in-filter-from (λ m. nat_lt (moment Home (opening setting history faults at)) (m.commit.stamp + 60_000)) (commits history) n there)
