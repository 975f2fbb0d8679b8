-- A snapshot is of a prefix of each history whose first entries its replica has applied, and stays so as the history grows.
-- What a prefix has is what the whole history has at the prefix's length: stamps, texts and pages look at no later entry.
use Rattle.std.proofs.Common.{◌≡◌, ℕ, zero, suc, ◌≤◌, ◌-◌, List, [], ◌∷◌, ◌++◌, length, take, drop, Option, refl, sym, ap, subst, ◌∙◌, arith}
use Rattle.std.specs.Prelude.{option_map}
use Rattle.std.proofs.lemmas.List.{take-append-le}
use Rattle.wiki_model.specs.Bytes.{last_of}
use Rattle.wiki_model.specs.Titles.{Title, Text}
use Rattle.wiki_model.specs.History.{Entry, Numbered, commits_on, stamp_at, page_text}
use Rattle.wiki_model.specs.Html.{html}
use Rattle.wiki_model.proofs.HistoryGrowth.{html-grows, stamp-grows}
use Rattle.replica_apply.specs.declared.snapshot.Snapshot.{Snapshot}
use Rattle.replica_apply.specs.Replica.{ReplicaState, page_in, IsPrefixOf}
use Rattle.replica_apply.specs.Snapshot.{IsSnapshot, IsOf, IsOfEach, SnapshotsLast}
use Rattle.replica_apply.proofs.Enough.{enough}

abbrev last_text : List Numbered → Option Text
last_text found = option_map (λ n. n.commit.edit.text) (last_of found)

text_grows : (h more : List Entry) (k : ℕ) (title : Title) → k ≤ length h → page_text (h ++ more) k title ≡ page_text h k title
text_grows h more k title within = ap (λ (xs : List Entry). last_text (commits_on xs title)) (take-append-le k h more within)

longer : (h more : List Entry) (n : ℕ) → n ≤ length h → n ≤ length (h ++ more)
longer h more zero within = omega arith
longer [] more (suc n) within = let no : ⊥ = omega (arith, within) in absurd no
longer (e ∷ h) more (suc n) within = let rest = longer h more n (omega (arith, within)) in omega (arith, rest)

pub of_grows : SnapshotsLast
of_grows h more title reading s is =
    let stamps = stamp-grows h more s.upto is.within in
    record {
      within = longer h more s.upto is.within;
      stamp = is.stamp ∙ sym stamps;
      since = is.since;
      lag = is.lag ∙ ap (λ n. reading - n) (sym stamps);
      text = is.text ∙ sym (text_grows h more s.upto title is.within);
      page = λ markup. html-grows h more s.upto title markup is.within ∙ is.page markup;
    }

parts_of : (h : List Entry) (n : ℕ) → take n h ++ drop n h ≡ h
parts_of h zero = refl
parts_of [] (suc n) = refl
parts_of (e ∷ h) (suc n) = ap (λ xs. e ∷ xs) (parts_of h n)

-- of the prefix alone
of_prefix : (kept : ReplicaState) (title : Title) (reading : ℕ) (s : Snapshot) (h : List Entry) → IsSnapshot kept title reading s → IsPrefixOf h kept → IsOf (take kept.applied h) title reading s
of_prefix kept title reading s h is prefix =
    let whole = take kept.applied h in
    let all : s.upto ≡ length whole = is.upto ∙ prefix.applied in
    let stamp : kept.stamp ≡ stamp_at whole s.upto = prefix.stamp ∙ ap (stamp_at whole) (sym all) in
    record {
      within = omega (arith, all);
      stamp = is.stamp ∙ stamp;
      since = is.since;
      lag = is.lag ∙ ap (λ n. reading - n) stamp;
      text = is.page ∙ prefix.pages title ∙ ap (λ k. page_text whole k title) (sym all);
      page = λ markup. enough kept title reading s whole markup is prefix;
    }

pub of_each : (kept : ReplicaState) (title : Title) (reading : ℕ) (s : Snapshot) → IsSnapshot kept title reading s → IsOfEach kept title reading s
of_each kept title reading s is h prefix =
    subst (λ (xs : List Entry). IsOf xs title reading s) (parts_of h kept.applied)
    (of_grows (take kept.applied h) (drop kept.applied h) title reading s (of_prefix kept title reading s h is prefix))
