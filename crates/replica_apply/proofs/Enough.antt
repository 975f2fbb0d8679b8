-- A snapshot is enough to render its page.
use Rattle.std.proofs.Common.{suc, [], ◌∷◌, ◌++◌, List, length, map, ◌≡◌, ℕ, arith, Bool, true, false, cond, refl, ap, sym, ◌∙◌, subst, Some, None, inl, inr, ◌⊎◌, nat_eq}
use Rattle.std.specs.Prelude.{Option, option_map, unwrap_or, codes, bytes_eq, if◌then◌else◌}
use Rattle.std.specs.List.{Contains}
use Rattle.std.proofs.lemmas.List.Elements.{Contains-append_left, Contains-append_right, Contains-append_cases, Contains-push, Contains-push_cases}
use Rattle.std.specs.Cmp.Lexicographic.{same_text, nat_list_eq_equiv}
use Rattle.wiki_model.specs.Bytes.{Bytes, pieces, line_feed}
use Rattle.wiki_model.specs.Titles.{Title, Text}
use Rattle.wiki_model.specs.History.{Entry, page_text}
use Rattle.wiki_model.specs.Html.{Templates, Reading, inline, blocks, blocks_of, line_of, notice, html, page_html, notice_title, element, escaped, line_end, between}
use Rattle.page_render.specs.AsModel.{template_text}
use Rattle.replica_apply.specs.declared.snapshot.Snapshot.{Snapshot}
use Rattle.replica_apply.specs.Replica.{ReplicaState, page_in, IsPrefix}
use Rattle.replica_apply.specs.Reached.{AreTemplates, AreTemplatesOf, in_line}
use Rattle.replica_apply.specs.Snapshot.{IsSnapshot, rendered}
use Rattle.replica_apply.proofs.Agreed.{Agree, agree_closed, agree_less, inline_same}
use Rattle.replica_apply.proofs.Lines.{blocks_held, blocks_same}

-- a page in which the templates agree
notice_same : (T U : Templates) (text : Option Text) → notice T text ≡ notice U text
notice_same T U None = refl
notice_same T U (Some text) = ap (between (codes "<div>") (codes "</div>" ++ line_end)) (inline_same T U 0 0 (in_line text) (λ name r. absurd r))

body_same : (T U : Templates) (d n : ℕ) (text : Bytes) → Agree T U (suc d) text
    → blocks (inline T (suc d)) n (blocks_of (map line_of (pieces line_feed text))) ≡ blocks (inline U (suc d)) n (blocks_of (map line_of (pieces line_feed text)))
body_same T U d n text a =
    blocks_same (inline T (suc d)) (inline U (suc d)) (Agree T U (suc d)) (λ part b m. inline_same T U (suc d) m part b) (blocks_of (map line_of (pieces line_feed text)))
    (blocks_held (Agree T U (suc d)) (agree_closed T U d) text a) n

abbrev framed : Title → (above body : Reading) → Bytes
framed title above body =
    codes "<!DOCTYPE html>" ++ line_end
    ++ element (codes "<title>") (codes "</title>" ++ line_end) (escaped title)
    ++ above.html
    ++ element (codes "<h1>") (codes "</h1>" ++ line_end) (escaped title)
    ++ body.html

abbrev page_deep : (depth : ℕ) → Title → Text → Templates → Option Text → Bytes
page_deep depth title text T above = framed title (notice T above) (blocks (inline T depth) (notice T above).included (blocks_of (map line_of (pieces line_feed text))))

deep_same : (T U : Templates) (d : ℕ) (title : Title) (text : Text) (above : Option Text) → Agree T U (suc d) text → page_deep (suc d) title text T above ≡ page_deep (suc d) title text U above
deep_same T U d title text above a =
    ap (λ (n : Reading). framed title n (blocks (inline T (suc d)) n.included (blocks_of (map line_of (pieces line_feed text))))) (notice_same T U above)
    ∙ ap (framed title (notice U above)) (body_same T U d (notice U above).included text a)

page_same_by : (T U : Templates) (title : Title) (text : Text) (above : Option Text) (b : Bool) → Agree T U 4 text → page_deep (if b then 1 else 4) title text T above ≡ page_deep (if b then 1 else 4) title text U above
page_same_by T U title text above true a = deep_same T U 0 title text above (agree_less T U 1 text (agree_less T U 2 text (agree_less T U 3 text a)))
page_same_by T U title text above false a = deep_same T U 3 title text above a

pub page_same : (T U : Templates) (markup : ℕ) (title : Title) (text : Text) (above : Option Text) → Agree T U 4 text → page_html markup title text T above ≡ page_html markup title text U above
page_same T U markup title text above a = page_same_by T U title text above (nat_eq markup 1) a

-- what the list of a snapshot has for a title
same_title : (a b : Title) → bytes_eq a b ≡ true → a ≡ b
same_title a b e = same_text a b (sym e)

none_some : {A : Type 0} (x : A) → Some x ≡ None → ⊥
none_some x e = cc

found_by : (p : Title × Text) (t : Title) (y : Text) (rest : List (Title × Text)) (b : Bool) → bytes_eq p.0 t ≡ b → (template_text rest t ≡ Some y → Contains rest (t, y))
    → cond b (Some p.1) (template_text rest t) ≡ Some y → Contains (p ∷ rest) (t, y)
found_by p t y rest true h ih e =
    let q : p ≡ (t, y) = ap (λ a. (a, p.1)) (same_title p.0 t h) ∙ ap (λ o. (t, unwrap_or o y)) e in
    subst (Contains (p ∷ rest)) q (Contains-append_left (p ∷ []) rest p (Contains-push [] p))
found_by p t y rest false h ih e = Contains-append_right (p ∷ []) rest (t, y) (ih e)

found : (list : List (Title × Text)) (t : Title) (y : Text) → template_text list t ≡ Some y → Contains list (t, y)
found [] t y e = let no : ⊥ = cc in absurd no
found (p ∷ rest) t y e = found_by p t y rest (bytes_eq p.0 t) refl (found rest t y) e

not_both : (b : Bool) → b ≡ true → b ≡ false → ⊥
not_both true e f = cc
not_both false e f = cc

missed_by : (p : Title × Text) (t : Title) (y : Text) (rest : List (Title × Text)) (b : Bool) → bytes_eq p.0 t ≡ b → (template_text rest t ≡ None → Contains rest (t, y) → ⊥)
    → cond b (Some p.1) (template_text rest t) ≡ None → (Contains (p ∷ []) (t, y)) ⊎ Contains rest (t, y) → ⊥
missed_by p t y rest true h ih e c = absurd (none_some p.1 e)
missed_by p t y rest false h ih e (inr c) = ih e c
missed_by p t y rest false h ih e (inl c) = by (Contains-push_cases [] p (t, y) c)
  where
    by : (let none : List (Title × Text) = [] in Contains none (t, y)) ⊎ (p ≡ (t, y)) → ⊥
    by (inl d) = omega (arith, d.1)
    by (inr q) = not_both (bytes_eq p.0 t) (ap (λ a. bytes_eq a t) (ap (λ a. a.0) q) ∙ nat_list_eq_equiv.refl t) h

missed : (list : List (Title × Text)) (t : Title) (y : Text) → template_text list t ≡ None → Contains list (t, y) → ⊥
missed [] t y e c = omega (arith, c.1)
missed (p ∷ rest) t y e c = missed_by p t y rest (bytes_eq p.0 t) refl (missed rest t y) e (Contains-append_cases (p ∷ []) rest (t, y) c)

agreed_by : (T : Templates) (list : List (Title × Text)) (t : Title) (page listed : Option Text) → T t ≡ page → template_text list t ≡ listed
    → ((y : Text) → Contains list (t, y) → T t ≡ Some y) → ((y : Text) → T t ≡ Some y → Contains list (t, y)) → T t ≡ template_text list t
agreed_by T list t page (Some y) e f g h = g y (found list t y f) ∙ sym f
agreed_by T list t None None e f g h = e ∙ sym f
agreed_by T list t (Some x) None e f g h = absurd (missed list t x f (h x e))

agreed : (T : Templates) (text : Text) (list : List (Title × Text)) → AreTemplates T 4 text list → Agree T (template_text list) 4 text
agreed T text list are t r = agreed_by T list t (T t) (template_text list t) refl refl (λ y c. ((are.same t y).0 c).1) (λ y e. (are.same t y).1 (r, e))

page_by : (T : Templates) (list : List (Title × Text)) (markup : ℕ) (title : Title) (above page : Option Text) → AreTemplatesOf T page list
    → option_map (λ text. page_html markup title text T above) page ≡ option_map (λ text. page_html markup title text (template_text list) above) page
page_by T list markup title above None are = refl
page_by T list markup title above (Some text) are = ap Some (page_same T (template_text list) markup title text above (agreed T text list are))

pub enough : (kept : ReplicaState) (title : Title) (reading : ℕ) (s : Snapshot) (history : List Entry) (markup : ℕ) → IsSnapshot kept title reading s → IsPrefix history kept
    → html history s.upto title markup ≡ rendered markup title s
enough kept title reading s history markup is prefix =
    let page_of : Templates → Option Bytes = λ T. option_map (λ text. page_html markup title text T (T notice_title)) (T title) in
    let pages : page_in kept ≡ page_text history (length history) = λ i t. prefix.pages t i in
    ap (λ k. page_of (page_text history k)) (is.upto ∙ prefix.applied)
    ∙ ap page_of (sym pages)
    ∙ page_by (page_in kept) s.templates markup title (page_in kept notice_title) (page_in kept title) is.templates
    ∙ ap (λ n. option_map (λ text. page_html markup title text (template_text s.templates) n) (page_in kept title)) (sym is.notice)
    ∙ ap (option_map (λ text. page_html markup title text (template_text s.templates) s.notice)) (sym is.page)
