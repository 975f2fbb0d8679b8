-- Template pages are taken by title, by text and by stage.
use Rattle.std.proofs.Common.{◌≡◌, ℕ, zero, suc, ◌+◌, ◌<◌, ◌≤◌, Bool, true, false, List, [], ◌∷◌, ◌++◌, length, take, Option, None, Some, refl, sym, ap, ◌∙◌, subst, arith, inl, inr, ◌⊎◌, get_or}
use Rattle.std.specs.Prelude.{IsSome, is_some, bytes_eq, if◌then◌else◌, unwrap_or}
use Rattle.std.specs.List.{Contains}
use Rattle.std.specs.BTreeMap.{BTreeMap}
use Rattle.std.specs.Cmp.Lexicographic.{same_text as same_bytes, nat_list_eq_equiv}
use Rattle.std.proofs.lemmas.List.{take_all}
use Rattle.std.proofs.lemmas.List.Elements.{Contains-append_left, Contains-push, Contains-push_cases}
use Rattle.std.proofs.Math.Seq.{take-suc}
use Rattle.wiki_model.specs.Bytes.{Bytes}
use Rattle.wiki_model.specs.Titles.{Title, Text}
use Rattle.wiki_model.specs.Html.{Templates}
use Rattle.page_markup.specs.Names.{AreNames, names_from}
use Rattle.replica_apply.specs.Replica.{page_at, Puts}
use Rattle.replica_apply.specs.Reached.{Reached, in_line}
use Rattle.replica_apply.specs.Gather.{IsPart, IsTaken, Gathers, IsNamedBy, IsStage}
use Rattle.replica_apply.proofs.Stages.{IsBehind, reached_more, reached_back, reached_on}

clash : (o : Option Text) (x : Text) → o ≡ None → o ≡ Some x → ⊥
clash None x e f = cc
clash (Some y) x e f = cc

same_text : (x y : Text) → Some x ≡ Some y → x ≡ y
same_text x y e = ap (λ o. unwrap_or o x) e

there_of : (o : Option Text) → IsSome o → (x : Text) × (o ≡ Some x)
there_of None h = let no : ⊥ = cc in absurd no
there_of (Some x) h = (x, refl)

no_element : {X : Type 0} (x : X) → let none : List X = [] in Contains none x → ⊥
no_element x h = omega (arith, h.1)

-- one title
pub known_one : (P M : Templates) (F : List Text) (k : Title) → IsPart P M → IsSome (M k) → Gathers P M M F F (λ name. name ≡ k)
known_one P M F k part some =
    let z = there_of (M k) some in
    record {
      there = part;
      stays = λ t x e. e;
      all = λ t x e p. ap M e ∙ z.1 ∙ sym (part k z.0 z.1) ∙ sym (ap P e) ∙ p;
      only = λ t x e. inl e;
      lists = λ t x e. inl e;
      keeps = λ x h. h;
      fresh = λ x h. inl h;
    }

pub absent_one : (P M : Templates) (F : List Text) (k : Title) → IsPart P M → P k ≡ None → Gathers P M M F F (λ name. name ≡ k)
absent_one P M F k part absent = record {
  there = part;
  stays = λ t x e. e;
  all = λ t x e p. absurd (clash (P t) x (ap P e ∙ absent) p);
  only = λ t x e. inl e;
  lists = λ t x e. inl e;
  keeps = λ x h. h;
  fresh = λ x h. inl h;
}

not_there : (o : Option Text) → is_some o ≡ false → o ≡ None
not_there None e = refl
not_there (Some x) e = let no : ⊥ = cc in absurd no

-- after a title has got a text, a title is this one or has what it had
put_by : (m n : BTreeMap Title Text) (k : Title) (x : Text) (q : Title) (b : Bool) → bytes_eq k q ≡ b → page_at n q ≡ (if b then Some x else page_at m q) → ((q ≡ k) × (page_at n q ≡ Some x)) ⊎ (page_at n q ≡ page_at m q)
put_by m n k x q true h e = inl (sym (same_bytes k q (sym h)), e)
put_by m n k x q false h e = inr e

put_on : (m n : BTreeMap Title Text) (k : Title) (x : Text) → Puts m n k x → (q : Title) → ((q ≡ k) × (page_at n q ≡ Some x)) ⊎ (page_at n q ≡ page_at m q)
put_on m n k x u q = put_by m n k x q (bytes_eq k q) refl (u q)

put_here : (m n : BTreeMap Title Text) (k : Title) (x : Text) → Puts m n k x → page_at n k ≡ Some x
put_here m n k x u = u k ∙ ap (λ b. if b then Some x else page_at m k) (nat_list_eq_equiv.refl k)

pub new_one : (P : Templates) (m n : BTreeMap Title Text) (F G : List Text) (k : Title) (x : Text) → IsPart P (page_at m) → P k ≡ Some x → is_some (page_at m k) ≡ false
    → Puts m n k x → G ≡ F ++ (x ∷ []) → Gathers P (page_at m) (page_at n) F G (λ name. name ≡ k)
new_one P m n F G k x part page fresh u e = record {
  there = λ t y f. by_there t y f (put_on m n k x u t);
  stays = λ t y f. by_stays t y f (put_on m n k x u t);
  all = λ t y f p. ap (page_at n) f ∙ here ∙ sym page ∙ sym (ap P f) ∙ p;
  only = λ t y f. by_only t y f (put_on m n k x u t);
  lists = λ t y f. by_lists t y f (put_on m n k x u t);
  keeps = λ y h. subst (λ l. Contains l y) (sym e) (Contains-append_left F (x ∷ []) y h);
  fresh = λ y h. by_fresh y (Contains-push_cases F x y (subst (λ l. Contains l y) e h));
}
  where
    here : page_at n k ≡ Some x
    here = put_here m n k x u

    by_there : (t : Title) (y : Text) → page_at n t ≡ Some y → ((t ≡ k) × (page_at n t ≡ Some x)) ⊎ (page_at n t ≡ page_at m t) → P t ≡ Some y
    by_there t y f (inl h) = ap P h.0 ∙ page ∙ sym h.1 ∙ f
    by_there t y f (inr h) = part t y (sym h ∙ f)

    by_stays : (t : Title) (y : Text) → page_at m t ≡ Some y → ((t ≡ k) × (page_at n t ≡ Some x)) ⊎ (page_at n t ≡ page_at m t) → page_at n t ≡ Some y
    by_stays t y f (inl h) = absurd (clash (page_at m t) y (ap (page_at m) h.0 ∙ not_there (page_at m k) fresh) f)
    by_stays t y f (inr h) = h ∙ f

    by_only : (t : Title) (y : Text) → page_at n t ≡ Some y → ((t ≡ k) × (page_at n t ≡ Some x)) ⊎ (page_at n t ≡ page_at m t) → (page_at m t ≡ Some y) ⊎ (t ≡ k)
    by_only t y f (inl h) = inr h.0
    by_only t y f (inr h) = inl (sym h ∙ f)

    by_lists : (t : Title) (y : Text) → page_at n t ≡ Some y → ((t ≡ k) × (page_at n t ≡ Some x)) ⊎ (page_at n t ≡ page_at m t) → (page_at m t ≡ Some y) ⊎ Contains G y
    by_lists t y f (inl h) = inr (subst (λ l. Contains l y) (sym e) (subst (Contains (F ++ (x ∷ []))) (same_text x y (sym h.1 ∙ f)) (Contains-push F x)))
    by_lists t y f (inr h) = inl (sym h ∙ f)

    by_fresh : (y : Text) → Contains F y ⊎ (x ≡ y) → Contains F y ⊎ IsTaken (page_at n) y
    by_fresh y (inl h) = inl h
    by_fresh y (inr h) = inr (k, here ∙ ap Some h)

-- two steps, and the same titles in other words
pub both : (P M N O : Templates) (F G H : List Text) (A B : Title → Type 0) → Gathers P M N F G A → Gathers P N O G H B → Gathers P M O F H (λ name. A name ⊎ B name)
both P M N O F G H A B f g = record {
  there = g.there;
  stays = λ t x e. g.stays t x (f.stays t x e);
  all = λ t x h p. by_all t x p h;
  only = λ t x e. by_only t x (g.only t x e);
  lists = λ t x e. by_lists t x (g.lists t x e);
  keeps = λ x h. g.keeps x (f.keeps x h);
  fresh = λ x h. by_fresh x (g.fresh x h);
}
  where
    by_all : (t : Title) (x : Text) → P t ≡ Some x → A t ⊎ B t → O t ≡ Some x
    by_all t x p (inl a) = g.stays t x (f.all t x a p)
    by_all t x p (inr b) = g.all t x b p

    first_only : (t : Title) (x : Text) → (M t ≡ Some x) ⊎ A t → (M t ≡ Some x) ⊎ (A t ⊎ B t)
    first_only t x (inl e) = inl e
    first_only t x (inr a) = inr (inl a)

    by_only : (t : Title) (x : Text) → (N t ≡ Some x) ⊎ B t → (M t ≡ Some x) ⊎ (A t ⊎ B t)
    by_only t x (inl e) = first_only t x (f.only t x e)
    by_only t x (inr b) = inr (inr b)

    first_lists : (t : Title) (x : Text) → (M t ≡ Some x) ⊎ Contains G x → (M t ≡ Some x) ⊎ Contains H x
    first_lists t x (inl e) = inl e
    first_lists t x (inr c) = inr (g.keeps x c)

    by_lists : (t : Title) (x : Text) → (N t ≡ Some x) ⊎ Contains H x → (M t ≡ Some x) ⊎ Contains H x
    by_lists t x (inl e) = first_lists t x (f.lists t x e)
    by_lists t x (inr c) = inr c

    first_fresh : (x : Text) → Contains F x ⊎ IsTaken N x → Contains F x ⊎ IsTaken O x
    first_fresh x (inl h) = inl h
    first_fresh x (inr k) = inr (k.0, g.stays k.0 x k.1)

    by_fresh : (x : Text) → Contains G x ⊎ IsTaken O x → Contains F x ⊎ IsTaken O x
    by_fresh x (inl h) = first_fresh x (f.fresh x h)
    by_fresh x (inr k) = inr k

pub renamed : (P M N : Templates) (F G : List Text) (A B : Title → Type 0) → ((name : Title) → A name → B name) → ((name : Title) → B name → A name) → Gathers P M N F G A → Gathers P M N F G B
renamed P M N F G A B to from f = record {
  there = f.there;
  stays = f.stays;
  all = λ t x b p. f.all t x (from t b) p;
  only = λ t x e. by_only t x (f.only t x e);
  lists = f.lists;
  keeps = f.keeps;
  fresh = f.fresh;
}
  where
    by_only : (t : Title) (x : Text) → (M t ≡ Some x) ⊎ A t → (M t ≡ Some x) ⊎ B t
    by_only t x (inl e) = inl e
    by_only t x (inr a) = inr (to t a)

nothing : (P M : Templates) (F : List Text) (A : Title → Type 0) → IsPart P M → ((name : Title) → A name → ⊥) → Gathers P M M F F A
nothing P M F A part none = record {
  there = part;
  stays = λ t x e. e;
  all = λ t x a p. absurd (none t a);
  only = λ t x e. inl e;
  lists = λ t x e. inl e;
  keeps = λ x h. h;
  fresh = λ x h. inl h;
}

-- titles in turn
more_of : {X : Type 0} (xs : List X) (i : ℕ) (d : X) → i < length xs → take (i + 1) xs ≡ take i xs ++ (get_or xs i d ∷ [])
more_of xs i d h = ap (λ n. take n xs) (let z : i + 1 ≡ suc i = omega arith in z) ∙ take-suc xs i d h

turned_by : {X : Type 0} {A : Type 0} (y x : X) → A ⊎ (y ≡ x) → A ⊎ (x ≡ y)
turned_by y x (inl a) = inl a
turned_by y x (inr e) = inr (sym e)

in_more : {X : Type 0} (xs : List X) (i : ℕ) (d x : X) → i < length xs → Contains (take (i + 1) xs) x → Contains (take i xs) x ⊎ (x ≡ get_or xs i d)
in_more xs i d x h c = turned_by (get_or xs i d) x (Contains-push_cases (take i xs) (get_or xs i d) x (subst (λ l. Contains l x) (more_of xs i d h) c))

more_in : {X : Type 0} (xs : List X) (i : ℕ) (d x : X) → i < length xs → Contains (take i xs) x ⊎ (x ≡ get_or xs i d) → Contains (take (i + 1) xs) x
more_in xs i d x h (inl c) = subst (λ l. Contains l x) (sym (more_of xs i d h)) (Contains-append_left (take i xs) (get_or xs i d ∷ []) x c)
more_in xs i d x h (inr e) = subst (λ l. Contains l x) (sym (more_of xs i d h)) (subst (Contains (take i xs ++ (get_or xs i d ∷ []))) (sym e) (Contains-push (take i xs) (get_or xs i d)))

pub no_titles : (P M : Templates) (F : List Text) (titles : List Title) → IsPart P M → Gathers P M M F F (Contains (take 0 titles))
no_titles P M F titles part = nothing P M F (Contains (take 0 titles)) part (λ t h. no_element t h)

pub title_more : (P M N O : Templates) (F G H : List Text) (titles : List Title) (d : Title) (i : ℕ) → i < length titles → d ≡ get_or titles i d → Gathers P M N F G (Contains (take i titles))
    → Gathers P N O G H (λ name. name ≡ d) → Gathers P M O F H (Contains (take (i + 1) titles))
title_more P M N O F G H titles d i h is f one =
    let g : Gathers P N O G H (λ name. name ≡ get_or titles i d) = subst (λ t. Gathers P N O G H (λ name. name ≡ t)) is one in
    renamed P M O F H (λ name. Contains (take i titles) name ⊎ (name ≡ get_or titles i d)) (Contains (take (i + 1) titles))
    (λ name c. more_in titles i d name h c) (λ name c. in_more titles i d name h c)
    (both P M N O F G H (Contains (take i titles)) (λ name. name ≡ get_or titles i d) f g)

pub all_titles : (P M N : Templates) (F G : List Text) (titles : List Title) (i : ℕ) → length titles ≤ i → Gathers P M N F G (Contains (take i titles)) → Gathers P M N F G (Contains titles)
all_titles P M N F G titles i h f = subst (λ l. Gathers P M N F G (Contains l)) (take_all i titles h) f

-- the titles that a text names
pub by_names : (P M N : Templates) (F G : List Text) (named names : List Title) → AreNames named names → Gathers P M N F G (Contains names) → Gathers P M N F G (Contains named)
by_names P M N F G named names are f = renamed P M N F G (Contains names) (Contains named) (λ t c. (are.same t).0 c) (λ t c. (are.same t).1 c) f

pub text_more : (P M N O : Templates) (F G H : List Text) (texts : List Text) (d : Text) (i : ℕ) → i < length texts → d ≡ get_or texts i d → Gathers P M N F G (IsNamedBy (take i texts))
    → Gathers P N O G H (Contains (names_from (in_line d))) → Gathers P M O F H (IsNamedBy (take (i + 1) texts))
text_more P M N O F G H texts d i h is f one =
    let g : Gathers P N O G H (Contains (names_from (in_line (get_or texts i d)))) = subst (λ x. Gathers P N O G H (Contains (names_from (in_line x)))) is one in
    renamed P M O F H (λ name. IsNamedBy (take i texts) name ⊎ Contains (names_from (in_line (get_or texts i d))) name) (IsNamedBy (take (i + 1) texts))
    to (λ name n. from name n (in_more texts i d n.text h n.one))
    (both P M N O F G H (IsNamedBy (take i texts)) (Contains (names_from (in_line (get_or texts i d)))) f g)
  where
    to : (name : Title) → IsNamedBy (take i texts) name ⊎ Contains (names_from (in_line (get_or texts i d))) name → IsNamedBy (take (i + 1) texts) name
    to name (inl n) = record { text = n.text; one = more_in texts i d n.text h (inl n.one); named = n.named }
    to name (inr c) = record { text = get_or texts i d; one = more_in texts i d (get_or texts i d) h (inr refl); named = c }

    from : (name : Title) (n : IsNamedBy (take (i + 1) texts) name) → Contains (take i texts) n.text ⊎ (n.text ≡ get_or texts i d) → IsNamedBy (take i texts) name ⊎ Contains (names_from (in_line (get_or texts i d))) name
    from name n (inl c) = inl (record { text = n.text; one = c; named = n.named })
    from name n (inr e) = inr (subst (λ x. Contains (names_from (in_line x)) name) e n.named)

-- stages
pub first_is : (P M N : Templates) (text : Bytes) (G : List Text) → ((name : Title) → M name ≡ None) → Gathers P M N [] G (Contains (names_from text)) → IsStage P text 1 N G
first_is P M N text G empty g = record {
  sound = λ t x e. (sound t x (g.only t x e), g.there t x e);
  whole = λ t x r p. whole t x p r;
  unread_ones = λ x h. unread x (g.fresh x h);
  others = λ u x e. others u x (g.lists u x e);
}
  where
    sound : (t : Title) (x : Text) → (M t ≡ Some x) ⊎ Contains (names_from text) t → Reached P 1 text t
    sound t x (inl e) = absurd (clash (M t) x (empty t) e)
    sound t x (inr c) = inl c

    whole : (t : Title) (x : Text) → P t ≡ Some x → Reached P 1 text t → N t ≡ Some x
    whole t x p (inl c) = g.all t x c p
    whole t x p (inr v) = absurd v.4

    unread : (x : Text) → (let none : List Text = [] in Contains none x) ⊎ IsTaken N x → IsTaken N x
    unread x (inl h) = absurd (no_element x h)
    unread x (inr k) = k

    others : (u : Title) (x : Text) → (M u ≡ Some x) ⊎ Contains G x → Contains G x ⊎ ((t : Title) (y : Text) → Contains (names_from (in_line x)) t → P t ≡ Some y → N t ≡ Some y)
    others u x (inl e) = absurd (clash (M u) x (empty u) e)
    others u x (inr c) = inl c

stage_on : (P M N : Templates) (text : Bytes) (j : ℕ) (F G : List Text) → IsStage P text (suc j) M F → Gathers P M N [] G (IsNamedBy F) → IsStage P text (suc (suc j)) N G
stage_on P M N text j F G s g = record {
  sound = λ t x e. (sound t x (g.only t x e), g.there t x e);
  whole = λ t x r p. whole t x p (reached_back P (suc j) text t r);
  unread_ones = λ x h. unread x (g.fresh x h);
  others = λ u x e. others u x (g.lists u x e);
}
  where
    named : (t : Title) (n : IsNamedBy F t) → IsTaken M n.text → Reached P (suc (suc j)) text t
    named t n k = let here = s.sound k.0 n.text k.1 in reached_on P (suc j) text t (record { via = k.0; inner = n.text; reached = here.0; there = here.1; named = n.named })

    sound : (t : Title) (x : Text) → (M t ≡ Some x) ⊎ IsNamedBy F t → Reached P (suc (suc j)) text t
    sound t x (inl e) = reached_more P (suc j) text t (s.sound t x e).0
    sound t x (inr n) = named t n (s.unread_ones n.text n.one)

    behind : (t : Title) (x : Text) → P t ≡ Some x → (b : IsBehind P (suc j) text t)
        → Contains F b.inner ⊎ ((name : Title) (y : Text) → Contains (names_from (in_line b.inner)) name → P name ≡ Some y → M name ≡ Some y) → N t ≡ Some x
    behind t x p b (inl c) = g.all t x (record { text = b.inner; one = c; named = b.named }) p
    behind t x p b (inr h) = g.stays t x (h t x b.named p)

    whole : (t : Title) (x : Text) → P t ≡ Some x → Contains (names_from text) t ⊎ IsBehind P (suc j) text t → N t ≡ Some x
    whole t x p (inl c) = g.stays t x (s.whole t x (inl c) p)
    whole t x p (inr b) = behind t x p b (s.others b.via b.inner (s.whole b.via b.inner b.reached b.there))

    unread : (x : Text) → (let none : List Text = [] in Contains none x) ⊎ IsTaken N x → IsTaken N x
    unread x (inl h) = absurd (no_element x h)
    unread x (inr k) = k

    read : (x : Text) → Contains F x ⊎ ((t : Title) (y : Text) → Contains (names_from (in_line x)) t → P t ≡ Some y → M t ≡ Some y)
        → Contains G x ⊎ ((t : Title) (y : Text) → Contains (names_from (in_line x)) t → P t ≡ Some y → N t ≡ Some y)
    read x (inl c) = inr (λ t y h p. g.all t y (record { text = x; one = c; named = h }) p)
    read x (inr h) = inr (λ t y c p. g.stays t y (h t y c p))

    others : (u : Title) (x : Text) → (M u ≡ Some x) ⊎ Contains G x → Contains G x ⊎ ((t : Title) (y : Text) → Contains (names_from (in_line x)) t → P t ≡ Some y → N t ≡ Some y)
    others u x (inl e) = read x (s.others u x e)
    others u x (inr c) = inl c

pub next_is : (P M N : Templates) (text : Bytes) (k : ℕ) (F G : List Text) → 0 < k → IsStage P text k M F → Gathers P M N [] G (IsNamedBy F) → IsStage P text (k + 1) N G
next_is P M N text zero F G some s g = let no : ⊥ = omega (arith, some) in absurd no
next_is P M N text (suc j) F G some s g = subst (λ n. IsStage P text n N G) (let z : suc (suc j) ≡ suc j + 1 = omega arith in z) (stage_on P M N text j F G s g)
