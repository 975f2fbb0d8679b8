-- Templates that agree on what a text reaches give the same HTML of it.
use Rattle.std.proofs.Common.{zero, suc, [], ◌∷◌, ◌++◌, length, take, drop, ◌≡◌, ℕ, ◌+◌, Bool, true, false, refl, ap, ◌∙◌, Some, None, nat_le, inl, inr}
use Rattle.std.specs.Prelude.{Option, option_map, option_and_then, unwrap_or, if◌then◌else◌, codes, IfSome}
use Rattle.std.specs.List.{Contains}
use Rattle.std.proofs.lemmas.List.Elements.{Contains-append_left, Contains-push}
use Rattle.wiki_model.specs.Bytes.{Bytes}
use Rattle.wiki_model.specs.Titles.{Title, Text, title_of, url_of}
use Rattle.wiki_model.specs.Html.{Templates, Mark, BoldItalic, Bold, Italic, Link, Include, Byte, two, enclosed, bracketed, ok_of, target_and_label, link, template_named, include, or_else, mark_at, Reading, Reader, element, escaped, escaped_byte, then_rest, read_mark, inline_from, inline}
use Rattle.page_markup.specs.Names.{listed, name_here, names_from}
use Rattle.replica_apply.specs.Reached.{Reached, in_line}
use Rattle.replica_apply.proofs.Stages.{through, reached_more}
use Rattle.replica_apply.proofs.Slices.{IsClosed, Both, named_in, enclosed_parts, bracketed_parts, names_take, names_drop}

-- the parts of a mark, and the text that it includes
abbrev pub Held : (P : Bytes → Type 0) (Q : Text → Type 0) → Mark → Type 0
Held P Q (BoldItalic inner rest) = P inner × P rest
Held P Q (Bold inner rest) = P inner × P rest
Held P Q (Italic inner rest) = P inner × P rest
Held P Q (Link target label rest) = P rest
Held P Q (Include text rest) = Q text × P rest
Held P Q (Byte c rest) = P rest

named_one : (u : Title) → Contains (listed (Some u)) u
named_one u = Contains-push [] u

-- the same mark
include_same : (T U : Templates) (n : ℕ) (rest : Bytes) (q : Option Title) → ((t : Title) → Contains (listed q) t → T t ≡ U t)
    → option_and_then (λ text. if nat_le (n + length text) 262144 then Some (Include text rest) else None) (option_and_then T q)
    ≡ option_and_then (λ text. if nat_le (n + length text) 262144 then Some (Include text rest) else None) (option_and_then U q)
include_same T U n rest None h = refl
include_same T U n rest (Some u) h = ap (option_and_then (λ text. if nat_le (n + length text) 262144 then Some (Include text rest) else None)) (h u (named_one u))

include_all : (T U : Templates) (n : ℕ) (o : Option (Bytes × Bytes)) → ((t : Title) → Contains (named_in o) t → T t ≡ U t) → option_and_then (include T n) o ≡ option_and_then (include U n) o
include_all T U n None h = refl
include_all T U n (Some p) h = include_same T U n p.1 (template_named p.0) h

mark_same : (T U : Templates) (n c : ℕ) (rest : Bytes) → ((t : Title) → Contains (name_here (c ∷ rest)) t → T t ≡ U t) → mark_at T true n c rest ≡ mark_at U true n c rest
mark_same T U n c rest h =
    let text = c ∷ rest in
    ap
    (λ o. unwrap_or
    (or_else (two BoldItalic (enclosed (codes "'''''") text))
    (or_else (two Bold (enclosed (codes "'''") text))
    (or_else (two Italic (enclosed (codes "''") text))
    (or_else (option_and_then link (bracketed (codes "[[") (codes "]]") text)) o))))
    (Byte c rest))
    (include_all T U n (bracketed (codes "{{") (codes "}}") text) h)

-- a mark holds parts of the text, and the text of a template that is named at its place
module _ (P : Bytes → Type 0) (Q : Text → Type 0) where
  held_or : (a b : Option Mark) → IfSome a (Held P Q) → IfSome b (Held P Q) → IfSome (or_else a b) (Held P Q)
  held_or None b h i = i
  held_or (Some m) b h i = h

  held_mark : (o : Option Mark) (m : Mark) → IfSome o (Held P Q) → Held P Q m → Held P Q (unwrap_or o m)
  held_mark None m h i = i
  held_mark (Some k) m h i = h

  held_two : (f : Bytes → Bytes → Mark) → ((a b : Bytes) → P a × P b → Held P Q (f a b)) → (o : Option (Bytes × Bytes)) → IfSome o (Both P) → IfSome (two f o) (Held P Q)
  held_two f g None h = tt
  held_two f g (Some p) h = g p.0 p.1 h

  link_by : (label rest : Bytes) (q : Option Title) → P rest → IfSome (option_map (λ target. Link target label rest) q) (Held P Q)
  link_by label rest None h = tt
  link_by label rest (Some t) h = h

  held_link : (o : Option (Bytes × Bytes)) → IfSome o (Both P) → IfSome (option_and_then link o) (Held P Q)
  held_link None h = tt
  held_link (Some p) h = link_by (target_and_label p.0).1 p.1 (ok_of (title_of (target_and_label p.0).0)) h.1

  fits_by : (text rest : Bytes) (b : Bool) → Q text → P rest → IfSome (if b then Some (Include text rest) else None) (Held P Q)
  fits_by text rest true q h = (q, h)
  fits_by text rest false q h = tt

  text_by : (n : ℕ) (rest : Bytes) (w : Option Text) → ((x : Text) → w ≡ Some x → Q x) → P rest
      → IfSome (option_and_then (λ text. if nat_le (n + length text) 262144 then Some (Include text rest) else None) w) (Held P Q)
  text_by n rest None g h = tt
  text_by n rest (Some x) g h = fits_by x rest (nat_le (n + length x) 262144) (g x refl) h

  title_by : (T : Templates) (n : ℕ) (rest : Bytes) (q : Option Title) → ((t : Title) (x : Text) → Contains (listed q) t → T t ≡ Some x → Q x) → P rest
      → IfSome (option_and_then (λ text. if nat_le (n + length text) 262144 then Some (Include text rest) else None) (option_and_then T q)) (Held P Q)
  title_by T n rest None g h = tt
  title_by T n rest (Some u) g h = text_by n rest (T u) (λ x e. g u x (named_one u) e) h

  held_include : (T : Templates) (n : ℕ) (o : Option (Bytes × Bytes)) → ((t : Title) (x : Text) → Contains (named_in o) t → T t ≡ Some x → Q x) → IfSome o (Both P) → IfSome (option_and_then (include T n) o) (Held P Q)
  held_include T n None g h = tt
  held_include T n (Some p) g h = title_by T n p.1 (template_named p.0) g h.1

  pub mark_held : IsClosed P → (T : Templates) (n c : ℕ) (rest : Bytes) → ((t : Title) (x : Text) → Contains (name_here (c ∷ rest)) t → T t ≡ Some x → Q x) → P (c ∷ rest) → Held P Q (mark_at T true n c rest)
  mark_held closed T n c rest g h =
      let text = c ∷ rest in
      let five = two BoldItalic (enclosed (codes "'''''") text) in
      let three = two Bold (enclosed (codes "'''") text) in
      let pair = two Italic (enclosed (codes "''") text) in
      let linked = option_and_then link (bracketed (codes "[[") (codes "]]") text) in
      let included = option_and_then (include T n) (bracketed (codes "{{") (codes "}}") text) in
      held_mark (or_else five (or_else three (or_else pair (or_else linked included)))) (Byte c rest)
      (held_or five (or_else three (or_else pair (or_else linked included))) (held_two BoldItalic (λ a b i. i) (enclosed (codes "'''''") text) (enclosed_parts P closed (codes "'''''") text h))
      (held_or three (or_else pair (or_else linked included)) (held_two Bold (λ a b i. i) (enclosed (codes "'''") text) (enclosed_parts P closed (codes "'''") text h))
      (held_or pair (or_else linked included) (held_two Italic (λ a b i. i) (enclosed (codes "''") text) (enclosed_parts P closed (codes "''") text h))
      (held_or linked included (held_link (bracketed (codes "[[") (codes "]]") text) (bracketed_parts P closed (codes "[[") (codes "]]") text h))
      (held_include T n (bracketed (codes "{{") (codes "}}") text) g (bracketed_parts P closed (codes "{{") (codes "}}") text h))))))
      (closed.backs 1 text h)

-- two readers that agree on the parts of a mark
then_same : (r s : Reader) (opening closing rest : Bytes) (a b : Reading) → a ≡ b → ((n : ℕ) → r n rest ≡ s n rest) → then_rest r opening closing rest a ≡ then_rest s opening closing rest b
then_same r s opening closing rest a b e h =
    ap (then_rest r opening closing rest) e
    ∙ ap (λ tail. let t : Reading = record { html = element opening closing b.html ++ tail.html; included = tail.included } in t) (h b.included)

read_same : (r s i j : Reader) (P : Bytes → Type 0) (Q : Text → Type 0) → ((text : Bytes) → P text → (n : ℕ) → r n text ≡ s n text) → ((text : Text) → Q text → (n : ℕ) → i n (in_line text) ≡ j n (in_line text))
    → (m : Mark) → Held P Q m → (n : ℕ) → read_mark r i n m ≡ read_mark s j n m
read_same r s i j P Q f g (BoldItalic inner rest) h n = then_same r s (codes "<b><i>") (codes "</i></b>") rest (r n inner) (s n inner) (f inner h.0 n) (f rest h.1)
read_same r s i j P Q f g (Bold inner rest) h n = then_same r s (codes "<b>") (codes "</b>") rest (r n inner) (s n inner) (f inner h.0 n) (f rest h.1)
read_same r s i j P Q f g (Italic inner rest) h n = then_same r s (codes "<i>") (codes "</i>") rest (r n inner) (s n inner) (f inner h.0 n) (f rest h.1)
read_same r s i j P Q f g (Link target label rest) h n =
    then_same r s (codes "<a href=\"/wiki/" ++ url_of target ++ codes "\">") (codes "</a>") rest (record { html = escaped label; included = n }) (record { html = escaped label; included = n }) refl (f rest h)
read_same r s i j P Q f g (Include text rest) h n = then_same r s [] [] rest (i (n + length text) (in_line text)) (j (n + length text) (in_line text)) (g text h.0 (n + length text)) (f rest h.1)
read_same r s i j P Q f g (Byte c rest) h n = then_same r s [] [] rest (record { html = escaped_byte c; included = n }) (record { html = escaped_byte c; included = n }) refl (f rest h)

-- where no template is read
plain_same : (T U : Templates) (i : Reader) (fuel n : ℕ) (text : Bytes) → inline_from T false i fuel n text ≡ inline_from U false i fuel n text
plain_same T U i zero n text = refl
plain_same T U i (suc fuel) n [] = refl
plain_same T U i (suc fuel) n (c ∷ rest) = ap (λ (r : Reader). read_mark r i n (mark_at T false n c rest)) (λ k m text. plain_same T U i fuel m text k)

-- the templates agree on what the text reaches
abbrev pub Agree : (T U : Templates) (depth : ℕ) (text : Bytes) → Type 0
Agree T U depth text = (name : Title) → Reached T depth text name → T name ≡ U name

reached_wide : (T : Templates) (d : ℕ) (a b : Bytes) (t : Title) → ((u : Title) → Contains (names_from a) u → Contains (names_from b) u) → Reached T (suc d) a t → Reached T (suc d) b t
reached_wide T d a b t sub (inl c) = inl (sub t c)
reached_wide T d a b t sub (inr v) = through T d b t v.0 v.1 (sub v.0 v.2) v.3 v.4

pub agree_closed : (T U : Templates) (d : ℕ) → IsClosed (Agree T U (suc d))
agree_closed T U d = record {
  prefixes = λ k s h t r. h t (reached_wide T d (take k s) s t (λ u c. names_take k s u c) r);
  backs = λ k s h t r. h t (reached_wide T d (drop k s) s t (λ u c. names_drop k s u c) r);
}

deeper : (T U : Templates) (d : ℕ) → ((text : Bytes) → Agree T U d text → (n : ℕ) → inline T d n text ≡ inline U d n text)
    → (fuel n : ℕ) (text : Bytes) → Agree T U (suc d) text → inline_from T true (inline T d) fuel n text ≡ inline_from U true (inline U d) fuel n text
deeper T U d ih zero n text a = refl
deeper T U d ih (suc fuel) n [] a = refl
deeper T U d ih (suc fuel) n (c ∷ rest) a =
    let here : (t : Title) → Contains (name_here (c ∷ rest)) t → Contains (names_from (c ∷ rest)) t = λ t h. Contains-append_left (name_here (c ∷ rest)) (names_from rest) t h in
    read_same (inline_from T true (inline T d) fuel) (inline_from U true (inline U d) fuel) (inline T d) (inline U d) (Agree T U (suc d)) (λ x. Agree T U d (in_line x))
    (λ text b m. deeper T U d ih fuel m text b) (λ x b m. ih (in_line x) b m) (mark_at T true n c rest)
    (mark_held (Agree T U (suc d)) (λ x. Agree T U d (in_line x)) (agree_closed T U d) T n c rest (λ u x h e t r. a t (through T d (c ∷ rest) t u x (here u h) e r)) a) n
    ∙ ap (read_mark (inline_from U true (inline U d) fuel) (inline U d) n) (mark_same T U n c rest (λ t h. a t (inl (here t h))))

pub inline_same : (T U : Templates) (d n : ℕ) (text : Bytes) → Agree T U d text → inline T d n text ≡ inline U d n text
inline_same T U zero n text a = plain_same T U (λ m inner. record { html = []; included = m }) (length text) n text
inline_same T U (suc d) n text a = deeper T U d (λ inner b m. inline_same T U d m inner b) (length text) n text a

pub agree_less : (T U : Templates) (d : ℕ) (text : Bytes) → Agree T U (suc d) text → Agree T U d text
agree_less T U d text a t r = a t (reached_more T d text t r)
