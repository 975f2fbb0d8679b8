-- Pages entered one after another, and then in title order.
use Rattle.std.proofs.Common.{zero, suc, [], ◌∷◌, ◌++◌, length, drop, ◌≡◌, ℕ, ◌<◌, ◌+◌, Bool, true, false, refl, arith, ap, sym, ◌∙◌, Some, get_or, cond, subst, List}
use Rattle.std.specs.Prelude.{Option, if◌then◌else◌}
use Rattle.std.specs.List.Sorted.{IsStrictlySortedBy}
use Rattle.std.specs.Map.{keys_of, lookup}
use Rattle.std.specs.Str.{bytes_eq}
use Rattle.std.specs.BTreeMap.{BTreeMap, IsOrdered, get, Updates, is_at}
use Rattle.std.specs.declared.cmp.Ordering.TheVariants.{Less}
use Rattle.std.specs.Cmp.Lexicographic.{texts_ties, nat_list_eq_equiv}
use Rattle.std.proofs.Math.Seq.{drop-cons}
use Rattle.wiki_titles.specs.Order.{bytes_cmp}
use Rattle.wiki_model.specs.Bytes.{Bytes}
use Rattle.wiki_model.specs.Titles.{Title, Text}
use Rattle.page_render.specs.AsModel.{Pairs, template_text}
use Rattle.page_render.specs.Templates.{IsRising}

-- a page entered before others
entered_by : (b c : Bool) (text : Text) (old : Option Text) → b ≡ c → cond c (Some text) old ≡ (if b then Some text else old)
entered_by true c text old e = ap (λ x. cond x (Some text) old) (sym e)
entered_by false c text old e = ap (λ x. cond x (Some text) old) (sym e)

-- what is read at a place that is there does not depend on what is read elsewhere
same_read : (pairs : Pairs) (place : ℕ) (d e : Bytes × Bytes) → place < length pairs → get_or pairs place e ≡ get_or pairs place d
same_read pairs place d e l =
    let both : (get_or pairs place e ∷ drop (suc place) pairs) ≡ (get_or pairs place d ∷ drop (suc place) pairs) = sym (drop-cons pairs place e l) ∙ drop-cons pairs place d l in cc

pub entered : (old new : BTreeMap Title Text) (pairs : Pairs) (place : ℕ) (title : Title) (d e : Bytes × Bytes) → place < length pairs
    → ((t : Title) → get bytes_cmp old t ≡ template_text (drop (place + 1) pairs) t)
    → Updates bytes_cmp old new (get_or pairs place d).0 (Some (get_or pairs place e).1)
    → get bytes_cmp new title ≡ template_text (drop place pairs) title
entered old new pairs place title d e l h v =
    let p = get_or pairs place d in
    let next : suc place ≡ place + 1 = omega arith in
    let u : Updates bytes_cmp old new p.0 (Some p.1) = subst (λ (q : Bytes × Bytes). Updates bytes_cmp old new p.0 (Some q.1)) (same_read pairs place d e l) v in
    u.0 title
    ∙ entered_by (bytes_eq p.0 title) (is_at (bytes_cmp p.0) title) p.1 (get bytes_cmp old title) (texts_ties p.0 title)
    ∙ ap (λ o. if bytes_eq p.0 title then Some p.1 else o) (h title ∙ ap (λ k. template_text (drop k pairs) title) (sym next))
    ∙ ap (λ ps. template_text ps title) (sym (drop-cons pairs place d l))

-- the entries of a map, in order
listed_by : (b c : Bool) (text : Text) (x y : Option Text) → c ≡ b → x ≡ y → (if b then Some text else x) ≡ cond c (Some text) y
listed_by true c text x y e f = ap (λ z. cond z (Some text) y) (sym e)
listed_by false c text x y e f = f ∙ ap (λ z. cond z (Some text) y) (sym e)

same_both : (x y : Bytes) → is_at (bytes_cmp x) y ≡ bytes_eq y x
same_both x y = sym (texts_ties x y) ∙ nat_list_eq_equiv.symm x y

listed : (pairs : Pairs) (title : Title) → template_text pairs title ≡ lookup (is_at (bytes_cmp title)) pairs
listed [] title = refl
listed (p ∷ pairs) title =
    listed_by (bytes_eq p.0 title) (is_at (bytes_cmp title) p.0) p.1 (template_text pairs title) (lookup (is_at (bytes_cmp title)) pairs) (same_both title p.0) (listed pairs title)

pub listed_same : (m : BTreeMap Title Text) (list : Pairs) → list ≡ m.entries → (title : Title) → get bytes_cmp m title ≡ template_text list title
listed_same m list e title = sym (ap (λ l. template_text l title) e ∙ listed m.entries title)

rising : (pairs : Pairs) → IsStrictlySortedBy bytes_cmp (keys_of pairs) → IsRising pairs
unfolding IsStrictlySortedBy
rising [] h i d l = let no : ⊥ = omega (arith, l) in absurd no
rising (p ∷ []) h i d l = let no : ⊥ = omega (arith, l) in absurd no
rising (p ∷ q ∷ rest) h zero d l = h.0.0
rising (p ∷ q ∷ rest) h (suc i) d l =
    let e : suc (i + 1) ≡ suc i + 1 = omega arith in
    subst (λ n. bytes_cmp (get_or (p ∷ q ∷ rest) (suc i) d).0 (get_or (p ∷ q ∷ rest) n d).0 ≡ Less) e (rising (q ∷ rest) h.1 i d (omega (arith, l)))

pub listed_rises : (m : BTreeMap Title Text) (list : Pairs) → IsOrdered bytes_cmp m → list ≡ m.entries → IsRising list
listed_rises m list ordered e = subst IsRising (sym e) (rising m.entries ordered)
