-- What a later world still says of an open request.
use Rattle.std.proofs.Common.{◌≡◌, ℕ, zero, suc, ◌+◌, ◌≤◌, List, [], ◌∷◌, ◌++◌, length, Option, Some, None, sym, ap, subst, ◌∙◌, arith}
use Rattle.std.proofs.lemmas.List.{take-append-le}
use Rattle.std.specs.Prelude.{option_map}
use Rattle.wiki_model.specs.Bytes.{last_of}
use Rattle.wiki_model.specs.Titles.{Title}
use Rattle.wiki_model.specs.History.{Entry, stamp_at, page_text, commits_on}
use Rattle.wiki_model.specs.Html.{html}
use Rattle.wiki_model.specs.World as world
use Rattle.wiki_model.specs.World.{World, Setting, Request}
use Rattle.wiki_model.specs.HoldOff.{IsIssued}
use Rattle.wiki_model.proofs.HistoryGrowth.{html-grows, stamp-grows}
use Rattle.replica_apply.specs.declared.snapshot.Snapshot.{Snapshot}
use Rattle.farm_steps.specs.declared.open_request.OpenRequest.{OpenRequest}
use Rattle.farm_steps.specs.declared.open_request.OpenRequest.TheVariants as point
use Rattle.farm_steps.specs.RequestMap.{HasPage, IsRequest, AgreeAt}

-- From v to w the history only grew, each message is still issued, and the setting stayed.
pub record Follows (v w : World) : Type 0 where
  pub more : List Entry
  pub history : w.history ≡ v.history ++ more
  pub setting : w.setting ≡ v.setting
  pub issued : (purge : ℕ) (t : Title) (q : ℕ) → IsIssued v purge t q → IsIssued w purge t q

pub text-grows : (h more : List Entry) (k : ℕ) (title : Title) → k ≤ length h → page_text (h ++ more) k title ≡ page_text h k title
text-grows h more k title within = ap (λ (xs : List Entry). option_map (λ (n : Rattle.wiki_model.specs.History.Numbered). n.commit.edit.text) (last_of (commits_on xs title))) (take-append-le k h more within)

longer : (h more : List Entry) (n : ℕ) → n ≤ length h → n ≤ length (h ++ more)
longer h more zero within = omega arith
longer [] more (suc n) within = let no : ⊥ = omega (arith, within) in absurd no
longer (e ∷ h) more (suc n) within = let rest = longer h more n (omega (arith, within)) in omega (arith, rest)

pub page-later : (v w : World) → Follows v w → (title : Title) (s : Snapshot) → HasPage v title s → HasPage w title s
page-later v w f title s has = record {
  within = subst (λ (h : List Entry). s.upto ≤ length h) (sym f.history) (longer v.history f.more s.upto has.within);
  stamp = has.stamp ∙ sym (ap (λ (h : List Entry). stamp_at h s.upto) f.history ∙ stamp-grows v.history f.more s.upto has.within);
  page = λ markup. ap (λ (h : List Entry). html h s.upto title markup) f.history ∙ html-grows v.history f.more s.upto title markup has.within ∙ has.page markup;
  text = ap (λ (h : List Entry). page_text h s.upto title) f.history ∙ text-grows v.history f.more s.upto title has.within ∙ has.text;
}

pub request-later : (v w : World) → Follows v w → (o : OpenRequest) (request : Request) → IsRequest v o request → IsRequest w o request
request-later v w f (point.EditArrived ask) request is = is
request-later v w f (point.EditBegun begun) request (edit, purge, is, b) =
    (edit, purge, is, record { ask = b.ask; title = b.title; purge_is = b.purge_is; issued = b.issued; is_issued = f.issued purge edit.title b.issued b.is_issued; due = b.due ∙ ap (λ (s : Setting). b.issued + s.bounds.commit_delay) (sym f.setting) })
request-later v w f (point.ViewArrived view) request is = is
request-later v w f (point.ViewWaited view need) request is = is
request-later v w f (point.ViewLooked view need) request is = is
request-later v w f (point.ViewSnapped view snapped) request (floor, is, has) = (floor, is, page-later v w f view.ask.title snapped.snapshot has)
request-later v w f point.Taken request is = absurd is

pub agree-later : (v w : World) → Follows v w → (o : Option OpenRequest) (request : Option Request) → AgreeAt v o request → AgreeAt w o request
agree-later v w f None None is = tt
agree-later v w f (Some o) (Some request) is = request-later v w f o request is
agree-later v w f None (Some request) is = absurd is
agree-later v w f (Some o) None is = absurd is

-- a message more
pub issued-more : (v w : World) → (m : world.Message) → w.messages ≡ v.messages ++ m ∷ [] → (purge : ℕ) (t : Title) (q : ℕ) → IsIssued v purge t q → IsIssued w purge t q
issued-more v w m same zero t q i = let no : ⊥ = (let e = i.1 in cc) in absurd no
issued-more v w m same (suc n) t q i = (i.0, ap (λ (ms : List world.Message). Rattle.std.specs.Prelude.slice_get ms n) same ∙ get-more v.messages n m i.0 i.1, i.2)
  where
    get-more : (ms : List world.Message) (n : ℕ) (m x : world.Message) → Rattle.std.specs.Prelude.slice_get ms n ≡ Some x → Rattle.std.specs.Prelude.slice_get (ms ++ m ∷ []) n ≡ Some x
    get-more [] n m x e = let no : ⊥ = cc in absurd no
    get-more (y ∷ ms) zero m x e = e
    get-more (y ∷ ms) (suc n) m x e = get-more ms n m x e
