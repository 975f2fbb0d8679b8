-- The titles that a text names, found place by place; which of them were named before; and their order.
use Rattle.std.proofs.Common.{suc, [], ◌∷◌, ◌++◌, List, length, drop, ◌≡◌, ℕ, ◌≤◌, ◌<◌, ◌+◌, refl, arith, ap, sym, ◌∙◌, get_or, replicate, append-nil, inl, inr, Result, Ok, Err, subst, true}
use Rattle.std.specs.Prelude.{◌↔◌, ◌⊎◌, IfOk, bytes_eq, slice_set}
use Rattle.std.specs.List.{Contains, dedup}
use Rattle.std.specs.List.Sorted.{IsSorted, IsPermutation, IsStrictlySortedBy}
use Rattle.std.specs.Cmp.Lexicographic.{same_text, nat_list_eq_equiv, nat_list_cmp_total, texts_ties}
use Rattle.std.proofs.lemmas.List.{drop_all}
use Rattle.std.proofs.lemmas.List.Elements.{All-get_or, All-replicate, All-set, All-weaker, Contains-append_left, Contains-append_right, Contains-append_cases}
use Rattle.std.proofs.lemmas.List.Kept.{IsStrictlySortedBy-dedup, Contains-dedup, Contains-from_dedup}
use Rattle.std.proofs.lemmas.List.Sorted.{Contains-permutation, IsPermutation-sym}
use Rattle.std.proofs.Math.Seq.{drop-cons}
use Rattle.wiki_titles.specs.Order.{bytes_cmp}
use Rattle.wiki_model.specs.Bytes.{Bytes}
use Rattle.wiki_model.specs.Titles.{Title}
use Rattle.page_markup.specs.declared.collect_names.Lines.{Lines}
use Rattle.page_markup.specs.declared.collect_names.Lines.TheVariants.{Kept, AsSpaces}
use Rattle.page_markup.specs.declared.collect_names.Span.{Span}
use Rattle.page_markup.specs.ClosingPlaces.{between}
use Rattle.page_markup.specs.Names.{AddsNames, AreNames, AreRecent, IsRecent, name_here, named_between, names_from, nothing, read_as}

-- names more

pub adds_nothing : (old : List Title) → AddsNames old old []
adds_nothing old t = (
  λ h. Contains-append_left old [] t h,
  λ h. subst (λ ts. Contains ts t) (append-nil old) h,
)

pub adds_known : (old more : List Title) → ((t : Title) → Contains more t → Contains old t) → AddsNames old old more
adds_known old more known t = (
  λ h. Contains-append_left old more t h,
  λ h. by (Contains-append_cases old more t h),
) where
  by : Contains old t ⊎ Contains more t → Contains old t
  by (inl h) = h
  by (inr h) = known t h

pub adds_exactly : (old new more : List Title) → new ≡ old ++ more → AddsNames old new more
adds_exactly old new more e t = (λ h. subst (λ ts. Contains ts t) e h, λ h. subst (λ ts. Contains ts t) (sym e) h)

-- a place more

pub names_on : (lines : Lines) (text : Bytes) (at : ℕ) → at < length text
    → names_from (read_as lines (drop at text)) ≡ name_here (read_as lines (drop at text)) ++ names_from (read_as lines (drop (at + 1) text))
names_on lines text at h =
    let f : drop at text ≡ get_or text at 0 ∷ drop (suc at) text = drop-cons text at 0 h in
    let e : suc at ≡ at + 1 = omega arith in
    ap (λ s. names_from (read_as lines s)) f ∙ first lines (get_or text at 0) (drop (suc at) text)
    ∙ ap (λ s. name_here (read_as lines s) ++ names_from (read_as lines (drop (suc at) text))) (sym f)
    ∙ ap (λ k. name_here (read_as lines (drop at text)) ++ names_from (read_as lines (drop k text))) e
  where
    first : (lines : Lines) (c : ℕ) (rest : Bytes) → names_from (read_as lines (c ∷ rest)) ≡ name_here (read_as lines (c ∷ rest)) ++ names_from (read_as lines rest)
    first Kept c rest = refl
    first AsSpaces c rest = refl

-- these titles, with those that the text names from the place on, are all that it names
abbrev pub HasNames : Lines → (text : Bytes) → (at : ℕ) → List Title → Type 0
HasNames lines text at titles = (t : Title) → Contains (titles ++ names_from (read_as lines (drop at text))) t ↔ Contains (names_from (read_as lines text)) t

joined : (old new more rest : List Title) → AddsNames old new more → (t : Title) → Contains (new ++ rest) t ↔ Contains (old ++ (more ++ rest)) t
joined old new more rest adds t = (λ h. on (Contains-append_cases new rest t h), λ h. back (Contains-append_cases old (more ++ rest) t h)) where
  after : Contains old t ⊎ Contains more t → Contains (old ++ (more ++ rest)) t
  after (inl h) = Contains-append_left old (more ++ rest) t h
  after (inr h) = Contains-append_right old (more ++ rest) t (Contains-append_left more rest t h)

  on : Contains new t ⊎ Contains rest t → Contains (old ++ (more ++ rest)) t
  on (inl h) = after (Contains-append_cases old more t ((adds t).0 h))
  on (inr h) = Contains-append_right old (more ++ rest) t (Contains-append_right more rest t h)

  then : Contains more t ⊎ Contains rest t → Contains (new ++ rest) t
  then (inl h) = Contains-append_left new rest t ((adds t).1 (Contains-append_right old more t h))
  then (inr h) = Contains-append_right new rest t h

  back : Contains old t ⊎ Contains (more ++ rest) t → Contains (new ++ rest) t
  back (inl h) = Contains-append_left new rest t ((adds t).1 (Contains-append_left old more t h))
  back (inr h) = then (Contains-append_cases more rest t h)

pub name_more : (lines : Lines) (text : Bytes) (old new : List Title) (at : ℕ) → at < length text
    → AddsNames old new (name_here (read_as lines (drop at text))) → HasNames lines text at old → HasNames lines text (at + 1) new
name_more lines text old new at h adds has t =
    let here = name_here (read_as lines (drop at text)) in
    let rest = names_from (read_as lines (drop (at + 1) text)) in
    let same = joined old new here rest adds t in (
      λ c. (has t).0 (subst (λ ts. Contains (old ++ ts) t) (sym (names_on lines text at h)) (same.0 c)),
      λ c. same.1 (subst (λ ts. Contains (old ++ ts) t) (names_on lines text at h) ((has t).1 c)),
    )

pub begins_named : (lines : Lines) (text : Bytes) → HasNames lines text 0 []
begins_named lines text t = (λ h. h, λ h. h)

-- nothing is left
all_named : (lines : Lines) (text : Bytes) (titles names : List Title) (at : ℕ) → length text ≤ at → HasNames lines text at titles → AreNames titles names
    → AreNames (names_from (read_as lines text)) names
all_named lines text titles names at h has are = record {
  sorted = are.sorted;
  same = λ t. (λ c. (whole t).0 ((are.same t).0 c), λ c. (are.same t).1 ((whole t).1 c));
} where
  none : (lines : Lines) → names_from (read_as lines []) ≡ []
  none Kept = refl
  none AsSpaces = refl

  end : titles ++ names_from (read_as lines (drop at text)) ≡ titles
  end = ap (λ s. titles ++ names_from (read_as lines s)) (drop_all at text h) ∙ ap (λ ts. titles ++ ts) (none lines) ∙ append-nil titles

  whole : (t : Title) → Contains titles t ↔ Contains (names_from (read_as lines text)) t
  whole t = (λ c. (has t).0 (subst (λ ts. Contains ts t) (sym end) c), λ c. subst (λ ts. Contains ts t) end ((has t).1 c))

pub if_named : {V E : Type 0} (result : Result V E) (items : V → List Title) (lines : Lines) (text : Bytes) (titles : List Title) (at : ℕ) → length text ≤ at → HasNames lines text at titles
    → IfOk result (λ v. AreNames titles (items v)) → IfOk result (λ v. AreNames (names_from (read_as lines text)) (items v))
if_named (Ok v) items lines text titles at h has are = all_named lines text titles (items v) at h has are
if_named (Err e) items lines text titles at h has are = tt

-- what was named just now

pub begins_recent : (lines : Lines) (text : Bytes) (titles : List Title) (n : ℕ) → AreRecent lines text titles (replicate n nothing)
begins_recent lines text titles n = All-replicate (IsRecent lines text titles) n _ (nothing lines) where
  nothing : (lines : Lines) → IsRecent lines text titles (let s : Span = record { start = 0; end = 0 } in s)
  nothing Kept t c = let z : ⊥ = omega (arith, c.1) in elim z [ ]
  nothing AsSpaces t c = let z : ⊥ = omega (arith, c.1) in elim z [ ]

pub is_recent : (lines : Lines) (text name : Bytes) (titles : List Title) (spans : List Span) (place : ℕ) (d : Span) → place < length spans
    → between (get_or spans place d).start (get_or spans place d).end text ≡ name → AreRecent lines text titles spans → AddsNames titles titles (named_between lines name)
is_recent lines text name titles spans place d h e are =
    adds_known titles (named_between lines name)
    (λ t c. All-get_or (IsRecent lines text titles) spans place d h are t (subst (λ n. Contains (named_between lines n) t) (sym e) c))

pub stays_recent : (lines : Lines) (text : Bytes) (old new more : List Title) (spans : List Span) (place : ℕ) (span : Span) → new ≡ old ++ more
    → more ≡ named_between lines (between span.start span.end text) → AreRecent lines text old spans → AreRecent lines text new (slice_set spans place span)
stays_recent lines text old new more spans place span e m are =
    All-set (IsRecent lines text new) spans place span (λ t c. subst (λ ts. Contains ts t) (sym e) (Contains-append_right old more t (subst (λ ts. Contains ts t) (sym m) c)))
    (All-weaker (IsRecent lines text old) (IsRecent lines text new) (λ s known t c. subst (λ ts. Contains ts t) (sym e) (Contains-append_left old more t (known t c))) spans are)

-- sorted, each once
pub rising : (sorted names : List Title) → IsSorted bytes_cmp sorted → names ≡ dedup bytes_eq sorted → IsStrictlySortedBy bytes_cmp names
rising sorted names h e = subst (IsStrictlySortedBy bytes_cmp) (sym e) (IsStrictlySortedBy-dedup nat_list_cmp_total texts_ties sorted h)

same_title : (x y : Bytes) → bytes_eq x y ≡ true → x ≡ y
same_title x y e = same_text x y (sym e)

pub same_titles : (titles sorted names : List Title) → IsPermutation titles sorted → names ≡ dedup bytes_eq sorted → (t : Title) → Contains names t ↔ Contains titles t
same_titles titles sorted names p e t = (
  λ h. Contains-permutation sorted titles t (IsPermutation-sym titles sorted p) (Contains-from_dedup bytes_eq sorted t (subst (λ ns. Contains ns t) e h)),
  λ h. subst (λ ns. Contains ns t) (sym e) (Contains-dedup nat_list_eq_equiv same_title sorted t (Contains-permutation titles sorted t p h)),
)
