-- A replica of a history, with one entry more.
use Rattle.std.proofs.Common.{◌≡◌, ℕ, suc, Bool, true, false, cond, List, [], ◌∷◌, ◌++◌, length, take, Option, None, Some, Result, Ok, Err, refl, sym, ap, ◌∙◌, subst, arith, ◌<◌, zero}
use Rattle.std.specs.Prelude.{option_map, unwrap_or, slice_get, bytes_eq, if◌then◌else◌}
use Rattle.std.specs.Map.{lookup}
use Rattle.std.specs.BTreeMap.{BTreeMap, Updates, is_at}
use Rattle.std.specs.Cmp.Lexicographic.{texts_ties}
use Rattle.std.proofs.Math.Seq.{take-length}
use Rattle.wiki_titles.specs.Order.{bytes_cmp}
use Rattle.wiki_model.specs.Bytes.{last_of}
use Rattle.wiki_model.specs.Titles.{Title, Text}
use Rattle.wiki_model.specs.History.{Entry, Beat, Committed, Numbered, commits_on, entry_at, stamp_at, page_text}
use Rattle.wiki_model.specs.Html.{notice_title}
use Rattle.wiki_model.proofs.HistoryLaws.{on-push_beat, on-push_same, on-push_other, length-push}
use Rattle.wiki_model.proofs.HistoryGrowth.{stamp-after, take-snoc}
use Rattle.farm_base.specs.declared.memory.Memory.{Memory}
use Rattle.replica_apply.specs.declared.replica.Applied.{Applied}
use Rattle.replica_apply.specs.declared.replica.Applied.TheVariants.{Applied as Done, Repeat, Gap}
use Rattle.replica_apply.specs.Replica.{ReplicaState, page_at, Puts, IsPrefix, IsPrefixOf}
use Rattle.replica_apply.specs.Applied.{page_after, Takes, Applies, Follows, GoesOn}

abbrev last_text : List Numbered → Option Text
last_text found = option_map (λ n. n.commit.edit.text) (last_of found)

whole : (h : List Entry) (t : Title) → page_text h (length h) t ≡ last_text (commits_on h t)
whole h t = ap (λ prefix. last_text (commits_on prefix t)) (take-length h)

pushed : (h : List Entry) (e : Entry) (t : Title) → last_text (commits_on (h ++ e ∷ []) t) ≡ page_after e t (last_text (commits_on h t))
pushed h (Beat stamp) t = ap last_text (on-push_beat h stamp t)
pushed h (Committed c) t = by (bytes_eq c.edit.title t) refl
  where
    by : (b : Bool) → bytes_eq c.edit.title t ≡ b → last_text (commits_on (h ++ Committed c ∷ []) t) ≡ cond (bytes_eq c.edit.title t) (Some c.edit.text) (last_text (commits_on h t))
    by true is = ap (option_map (λ (n : Numbered). n.commit.edit.text)) (on-push_same h c t is) ∙ sym (ap (λ b. cond b (Some c.edit.text) (last_text (commits_on h t))) is)
    by false is = ap (option_map (λ (n : Numbered). n.commit.edit.text)) (on-push_other h c t is) ∙ sym (ap (λ b. cond b (Some c.edit.text) (last_text (commits_on h t))) is)

taken : (old new : ReplicaState) (e : Entry) (h : List Entry) → Takes old new e → IsPrefix h old → IsPrefix (h ++ e ∷ []) new
taken old new e h takes is =
    let long : length (h ++ e ∷ []) ≡ suc (length h) = length-push h e in
    record {
      applied = let a = takes.applied in let b = is.applied in omega (arith, a, b, long);
      stamp = takes.stamp ∙ sym (ap (stamp_at (h ++ e ∷ [])) long ∙ stamp-after h e);
      pages = λ t. takes.pages t ∙ ap (page_after e t) (is.pages t ∙ whole h t) ∙ sym (whole (h ++ e ∷ []) t ∙ pushed h e t);
    }

pub follows : (old new : ReplicaState) (n : ℕ) (e : Entry) (result : Result Applied Memory) → Applies old new n e result → Follows old new e result
follows old new n e (Ok Done) does = λ h is. taken old new e h does.1 is
follows old new n e (Ok (Repeat have)) does = tt
follows old new n e (Ok (Gap have got)) does = tt
follows old new n e (Err want) does = tt

-- an update, told for each title
put_by : (k t : Title) (x : Text) (old : Option Text) (a b : Bool) → a ≡ b → cond b (Some x) old ≡ (if a then Some x else old)
put_by k t x old true b e = ap (λ c. cond c (Some x) old) (sym e)
put_by k t x old false b e = ap (λ c. cond c (Some x) old) (sym e)

pub put_there : (m n : BTreeMap Title Text) (k : Title) (x : Text) → Updates bytes_cmp m n k (Some x) → Puts m n k x
put_there m n k x u t = u.0 t ∙ put_by k t x (page_at m t) (bytes_eq k t) (is_at (bytes_cmp k) t) (texts_ties k t)

-- the next entry of a history, applied
goes : (old new : ReplicaState) (e : Entry) (h : List Entry) → Takes old new e → IsPrefixOf h old → slice_get h old.applied ≡ Some e → IsPrefixOf h new
goes old new e h takes is at =
    let less = at_within h old.applied e at in
    let next = take-snoc h old.applied less in
    let same : next.0 ≡ e = ap (λ o. unwrap_or o e) (sym next.1 ∙ at) in
    let count : suc old.applied ≡ new.applied = let t = takes.applied in omega (arith, t) in
    let grown : take old.applied h ++ e ∷ [] ≡ take new.applied h = ap (λ x. take old.applied h ++ x ∷ []) (sym same) ∙ sym next.2 ∙ ap (λ k. take k h) count in
    subst (λ (xs : List Entry). IsPrefix xs new) grown (taken old new e (take old.applied h) takes is)
  where
    at_within : (xs : List Entry) (k : ℕ) (x : Entry) → slice_get xs k ≡ Some x → k < length xs
    at_within [] k x found = let no : ⊥ = cc in absurd no
    at_within (y ∷ xs) zero x found = omega arith
    at_within (y ∷ xs) (suc k) x found = let less = at_within xs k x found in omega (arith, less)

pub goes_on : (old new : ReplicaState) (n : ℕ) (e : Entry) (result : Result Applied Memory) → Applies old new n e result → GoesOn old new n e result
goes_on old new n e (Ok Done) does = λ h is at.
    let count : n ≡ suc old.applied = let t = does.0 in omega (arith, t) in
    goes old new e h does.1 is (subst (λ k. entry_at h k ≡ Some e) count at)
goes_on old new n e (Ok (Repeat have)) does = tt
goes_on old new n e (Ok (Gap have got)) does = tt
goes_on old new n e (Err want) does = tt

-- the notice that is kept ready
pub notice_after : (m n : BTreeMap Title Text) (k : Title) (x : Text) (old new : Option Text) → Puts m n k x → old ≡ page_at m notice_title
    → new ≡ (if bytes_eq k notice_title then Some x else old) → new ≡ page_at n notice_title
notice_after m n k x old new u e f = f ∙ ap (λ o. if bytes_eq k notice_title then Some x else o) e ∙ sym (u notice_title)

pub notice_stays : (m n : BTreeMap Title Text) (o : Option Text) → n.entries ≡ m.entries → o ≡ page_at m notice_title → o ≡ page_at n notice_title
notice_stays m n o e f = f ∙ ap (lookup (is_at (bytes_cmp notice_title))) (sym e)
