-- The list of a snapshot's templates.
use Rattle.std.proofs.Common.{◌≡◌, ℕ, List, Option, Ok, refl, sym, subst}
use Rattle.std.specs.BTreeMap.{BTreeMap, IsOrdered}
use Rattle.std.specs.Cmp.Lexicographic.{nat_list_cmp_total}
use Rattle.std.proofs.lemmas.Map.Lookups.{exact_bytes}
use Rattle.std.proofs.lemmas.Map.Views.{btree_map_get_iff}
use Rattle.wiki_titles.specs.Order.{bytes_cmp}
use Rattle.wiki_model.specs.Bytes.{Bytes}
use Rattle.wiki_model.specs.Titles.{Title, Text, title_of}
use Rattle.wiki_model.specs.Html.{Templates, notice_title}
use Rattle.replica_apply.specs.Replica.{page_at}
use Rattle.replica_apply.specs.Reached.{IsListOf, AreTemplates, AreTemplatesOf}
use Rattle.replica_apply.specs.Gather.{IsStage}

pub listed : (m : BTreeMap Title Text) (list : List (Title × Text)) → IsOrdered bytes_cmp m → list ≡ m.entries → IsListOf (page_at m) list
listed m list ordered e = subst (IsListOf (page_at m)) (sym e) (record {
  sorted = ordered;
  same = λ name inner. let iff = btree_map_get_iff nat_list_cmp_total exact_bytes m ordered name inner in (iff.1, iff.0);
})

pub are_templates : (P M : Templates) (text : Bytes) (k : ℕ) (unread : List Text) (list : List (Title × Text)) → IsStage P text k M unread → IsListOf M list → AreTemplates P k text list
are_templates P M text k unread list s is = record {
  sorted = is.sorted;
  same = λ name inner. (λ c. s.sound name inner ((is.same name inner).0 c), λ h. (is.same name inner).1 (s.whole name inner h.0 h.1));
}

pub for_page : (T : Templates) (page known : Option Text) (list items : List (Title × Text)) → page ≡ known → list ≡ items → AreTemplatesOf T page items → AreTemplatesOf T known list
for_page T page known list items e f are = subst (λ o. AreTemplatesOf T o list) e (subst (AreTemplatesOf T page) (sym f) are)

pub notice_named : (title : Title) → title_of notice_title ≡ Ok title → title ≡ notice_title
notice_named title is = let known : title_of notice_title ≡ Ok notice_title = refl in cc
