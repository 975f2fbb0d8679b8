-- Which marks can stand at a place, by its first byte.
use Rattle.std.proofs.Common.{suc, [], ◌∷◌, ◌++◌, List, length, drop, ◌≡◌, ℕ, ◌<◌, refl, arith, ap, sym, ◌∙◌, get_or, append-nil}
use Rattle.std.specs.Prelude.{codes}
use Rattle.std.proofs.Math.Seq.{drop-cons}
use Rattle.wiki_model.specs.Bytes.{Bytes}
use Rattle.wiki_model.specs.Html.{template_named}
use Rattle.page_markup.specs.declared.inline.Mark.{Mark}
use Rattle.page_markup.specs.Mark.{link_target, marks_here, all_quotes, bracket_marks}
use Rattle.page_markup.proofs.Singles.{differs}

abbrev pub links : (at : ℕ) (text : Bytes) → List Mark
links at text = bracket_marks 4 (codes "[[") (codes "]]") link_target at text

abbrev pub templates : (at : ℕ) (text : Bytes) → List Mark
templates at text = bracket_marks 5 (codes "{{") (codes "}}") template_named at text

quotes_none : (at c : ℕ) (rest : Bytes) → (c ≡ 39 → ⊥) → all_quotes at (c ∷ rest) ≡ []
quotes_none at c rest h = rw (differs 39 c (λ e. h (sym e))) refl

links_none : (at c : ℕ) (rest : Bytes) → (c ≡ 91 → ⊥) → bracket_marks 4 (codes "[[") (codes "]]") link_target at (c ∷ rest) ≡ []
links_none at c rest h = rw (differs 91 c (λ e. h (sym e))) refl

templates_none : (at c : ℕ) (rest : Bytes) → (c ≡ 123 → ⊥) → bracket_marks 5 (codes "{{") (codes "}}") template_named at (c ∷ rest) ≡ []
templates_none at c rest h = rw (differs 123 c (λ e. h (sym e))) refl

links_here : (at c : ℕ) (rest : Bytes) → c ≡ 91 → marks_here at (c ∷ rest) ≡ links at (c ∷ rest)
links_here at c rest e =
    let q : all_quotes at (c ∷ rest) ≡ [] = quotes_none at c rest (λ x. let no : ⊥ = omega (arith, e, x) in no) in
    let t : templates at (c ∷ rest) ≡ [] = templates_none at c rest (λ x. let no : ⊥ = omega (arith, e, x) in no) in
    ap (λ ms. ms ++ (links at (c ∷ rest) ++ templates at (c ∷ rest))) q ∙ ap (λ ms. links at (c ∷ rest) ++ ms) t ∙ append-nil (links at (c ∷ rest))

templates_here : (at c : ℕ) (rest : Bytes) → c ≡ 123 → marks_here at (c ∷ rest) ≡ templates at (c ∷ rest)
templates_here at c rest e =
    let q : all_quotes at (c ∷ rest) ≡ [] = quotes_none at c rest (λ x. let no : ⊥ = omega (arith, e, x) in no) in
    let l : links at (c ∷ rest) ≡ [] = links_none at c rest (λ x. let no : ⊥ = omega (arith, e, x) in no) in
    ap (λ ms. ms ++ (links at (c ∷ rest) ++ templates at (c ∷ rest))) q ∙ ap (λ ms. ms ++ templates at (c ∷ rest)) l

none_here : (at c : ℕ) (rest : Bytes) → (c ≡ 39 → ⊥) → (c ≡ 91 → ⊥) → (c ≡ 123 → ⊥) → marks_here at (c ∷ rest) ≡ []
none_here at c rest x y z =
    ap (λ ms. ms ++ (links at (c ∷ rest) ++ templates at (c ∷ rest))) (quotes_none at c rest x)
    ∙ ap (λ ms. ms ++ templates at (c ∷ rest)) (links_none at c rest y) ∙ templates_none at c rest z

at_place : (f g : Bytes → List Mark) (text : Bytes) (at : ℕ) → at < length text
    → f (get_or text at 0 ∷ drop (suc at) text) ≡ g (get_or text at 0 ∷ drop (suc at) text) → g (drop at text) ≡ f (drop at text)
at_place f g text at h e = let t = drop-cons text at 0 h in ap g t ∙ sym e ∙ ap f (sym t)

pub only_links : (text : Bytes) (at : ℕ) → at < length text → get_or text at 0 ≡ 91 → links at (drop at text) ≡ marks_here at (drop at text)
only_links text at h e = at_place (marks_here at) (links at) text at h (links_here at (get_or text at 0) (drop (suc at) text) e)

pub only_templates : (text : Bytes) (at : ℕ) → at < length text → get_or text at 0 ≡ 123 → templates at (drop at text) ≡ marks_here at (drop at text)
only_templates text at h e = at_place (marks_here at) (templates at) text at h (templates_here at (get_or text at 0) (drop (suc at) text) e)

pub no_marks : (marks : List Mark) (text : Bytes) (at : ℕ) → at < length text → (get_or text at 0 ≡ 39 → ⊥) → (get_or text at 0 ≡ 91 → ⊥) → (get_or text at 0 ≡ 123 → ⊥)
    → marks ≡ marks ++ marks_here at (drop at text)
no_marks marks text at h x y z =
    sym (append-nil marks) ∙ ap (λ ms. marks ++ ms) (at_place (marks_here at) (λ _. []) text at h (none_here at (get_or text at 0) (drop (suc at) text) x y z))
