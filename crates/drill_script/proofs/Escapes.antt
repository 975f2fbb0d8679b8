-- A text's escapes, one after another.
use Rattle.std.proofs.Common.{◌≡◌, ◌≢◌, ℕ, suc, ◌<◌, ◌≤◌, ◌+◌, Bool, true, false, cond, if◌then◌else◌, not, nat_lt, ◌==◌, [], ◌∷◌, ◌++◌, length, take, drop, Option, None, Some, refl, sym, ap, ◌∙◌, append_assoc, arith, option_map}
use Rattle.std.specs.List.{position_or_len, before_first, after_first}
use Rattle.std.proofs.lemmas.Bool.Decides.{nat_tests}
use Rattle.std.proofs.lemmas.Option.{none-some}
use Rattle.wiki_model.specs.Bytes.{Bytes}
use Rattle.wiki_model.specs.Script.{unescaped, after_backslash}
use Rattle.drill_script.specs.Words.{cut_first, character_at}

abbrev is_backslash : ℕ → Bool
is_backslash b = b == 92

-- without a backslash a text stands for itself
plain_is : (text : Bytes) → length text ≤ position_or_len is_backslash text → unescaped text ≡ Some text
plain_is [] h = refl
plain_is (c ∷ []) h = by_test (c == 92) h
  where
    by_test : (t : Bool) → 1 ≤ cond (not t) (1 + 0) 0 → cond t None (Some (c ∷ [])) ≡ Some (c ∷ [])
    by_test true k = absurd (omega arith)
    by_test false k = refl
plain_is (c ∷ d ∷ text) h = by_test (c == 92) (plain_is (d ∷ text)) h
  where
    by_test : (t : Bool) → (length (d ∷ text) ≤ position_or_len is_backslash (d ∷ text) → unescaped (d ∷ text) ≡ Some (d ∷ text)) → length (c ∷ d ∷ text) ≤ cond (not t) (1 + position_or_len is_backslash (d ∷ text)) 0 → cond t (after_backslash (d ∷ []) (unescaped text)) (option_map (λ rest. c ∷ rest) (unescaped (d ∷ text))) ≡ Some (c ∷ d ∷ text)
    by_test true ih k = absurd (omega arith)
    by_test false ih k = ap (option_map (λ rest. c ∷ rest)) (ih (omega arith))

pub map_nothing : (o : Option Bytes) → option_map (λ tail. [] ++ tail) o ≡ o
map_nothing None = refl
map_nothing (Some x) = refl

map_twice : (prefix more : Bytes) (o : Option Bytes) → option_map (λ tail. prefix ++ tail) (option_map (λ tail. more ++ tail) o) ≡ option_map (λ tail. (prefix ++ more) ++ tail) o
map_twice prefix more None = refl
map_twice prefix more (Some x) = ap Some (sym (append_assoc prefix more x))

some_same : {A : Type 0} {x y : A} → Some x ≡ Some y → x ≡ y
some_same e = cc

with_first : (c : ℕ) (prefix : Bytes) (o : Option Bytes) → option_map (λ rest. c ∷ rest) (option_map (λ tail. prefix ++ tail) o) ≡ option_map (λ tail. (c ∷ prefix) ++ tail) o
with_first c prefix None = refl
with_first c prefix (Some x) = refl

one_on : (c : ℕ) (xs : Bytes) (p m n : ℕ) → m ≡ suc p → n ≡ suc (p + 1) →
    option_map (λ rest. c ∷ rest) (option_map (λ tail. take p xs ++ tail) (unescaped (92 ∷ drop (p + 1) xs))) ≡ option_map (λ tail. take m (c ∷ xs) ++ tail) (unescaped (92 ∷ drop n (c ∷ xs)))
one_on c xs p m n em en =
    with_first c (take p xs) (unescaped (92 ∷ drop (p + 1) xs))
    ∙ ap (λ k. option_map (λ tail. take k (c ∷ xs) ++ tail) (unescaped (92 ∷ drop (p + 1) xs))) (sym em)
    ∙ ap (λ k. option_map (λ tail. take m (c ∷ xs) ++ tail) (unescaped (92 ∷ drop k (c ∷ xs)))) (sym en)

-- up to its first backslash a text stands for itself
prefix_is : (text : Bytes) → position_or_len is_backslash text < length text → unescaped text ≡ option_map (λ tail. before_first is_backslash text ++ tail) (unescaped (92 ∷ after_first is_backslash text))
prefix_is [] h = absurd (omega arith)
prefix_is (c ∷ []) h = by_test (c == 92) h
  where
    by_test : (t : Bool) → cond (not t) (1 + 0) 0 < 1 → cond t None (Some (c ∷ [])) ≡ option_map (λ tail. take (cond (not t) (1 + 0) 0) (c ∷ []) ++ tail) (unescaped (92 ∷ drop (cond (not t) (1 + 0) 0 + 1) (c ∷ [])))
    by_test true k = refl
    by_test false k = absurd (omega arith)
prefix_is (c ∷ d ∷ text) h = by_test (c == 92) (prefix_is (d ∷ text)) h
  where
    by_test : (t : Bool) → (position_or_len is_backslash (d ∷ text) < length (d ∷ text) → unescaped (d ∷ text) ≡ option_map (λ tail. before_first is_backslash (d ∷ text) ++ tail) (unescaped (92 ∷ after_first is_backslash (d ∷ text)))) →
        cond (not t) (1 + position_or_len is_backslash (d ∷ text)) 0 < length (c ∷ d ∷ text) →
        cond t (after_backslash (d ∷ []) (unescaped text)) (option_map (λ rest. c ∷ rest) (unescaped (d ∷ text)))
        ≡ option_map (λ tail. take (cond (not t) (1 + position_or_len is_backslash (d ∷ text)) 0) (c ∷ d ∷ text) ++ tail) (unescaped (92 ∷ drop (cond (not t) (1 + position_or_len is_backslash (d ∷ text)) 0 + 1) (c ∷ d ∷ text)))
    by_test true ih k = sym (map_nothing (after_backslash (d ∷ []) (unescaped text)))
    by_test false ih k =
        ap (option_map (λ rest. c ∷ rest)) (ih (omega arith))
        ∙ one_on c (d ∷ text) (position_or_len is_backslash (d ∷ text)) (1 + position_or_len is_backslash (d ∷ text)) (1 + position_or_len is_backslash (d ∷ text) + 1) (omega arith) (omega arith)

-- a character behind a backslash
abbrev character_by : (feed slash : Bool) → Bytes → Option (Bytes × Bytes)
character_by feed slash text = if feed then Some (10 ∷ [], text) else (if slash then Some (92 ∷ [], text) else None)

abbrev cut_by : Bool → Bytes → Option (Bytes × Bytes)
cut_by found rest = if found then Some (before_first is_backslash rest, after_first is_backslash rest) else None

abbrev spelled : (feed slash : Bool) → Option Bytes → Option Bytes
spelled feed slash None = None
spelled feed slash (Some rest) = cond feed (Some (10 ∷ rest)) (cond slash (Some (92 ∷ rest)) None)

spelled_is : (d : ℕ) (o : Option Bytes) → after_backslash (d ∷ []) o ≡ spelled (d == 110) (d == 92) o
spelled_is d None = refl
spelled_is d (Some rest) = refl

feed_is : (slash : Bool) (o : Option Bytes) → spelled true slash o ≡ option_map (λ tail. (10 ∷ []) ++ tail) o
feed_is slash None = refl
feed_is slash (Some rest) = refl

slash_is : (o : Option Bytes) → spelled false true o ≡ option_map (λ tail. (92 ∷ []) ++ tail) o
slash_is None = refl
slash_is (Some rest) = refl

character_is : (behind character after : Bytes) → character_at behind ≡ Some (character, after) → unescaped (92 ∷ behind) ≡ option_map (λ tail. character ++ tail) (unescaped after)
character_is [] character after h = absurd (none-some _ h)
character_is (d ∷ text) character after h = spelled_is d (unescaped text) ∙ by_tests (d == 110) (d == 92) h
  where
    by_tests : (feed slash : Bool) → character_by feed slash text ≡ Some (character, after) → spelled feed slash (unescaped text) ≡ option_map (λ tail. character ++ tail) (unescaped after)
    by_tests true slash k = feed_is slash (unescaped text) ∙ ap (λ (p : Bytes × Bytes). option_map (λ tail. p.0 ++ tail) (unescaped p.1)) (some_same k)
    by_tests false true k = slash_is (unescaped text) ∙ ap (λ (p : Bytes × Bytes). option_map (λ tail. p.0 ++ tail) (unescaped p.1)) (some_same k)
    by_tests false false k = absurd (none-some _ k)

no_character : (behind : Bytes) → character_at behind ≡ None → unescaped (92 ∷ behind) ≡ None
no_character [] h = refl
no_character (d ∷ text) h = spelled_is d (unescaped text) ∙ by_tests (d == 110) (d == 92) (unescaped text) h
  where
    by_tests : (feed slash : Bool) (o : Option Bytes) → character_by feed slash text ≡ None → spelled feed slash o ≡ None
    by_tests true slash o k = absurd (none-some _ (sym k))
    by_tests false true o k = absurd (none-some _ (sym k))
    by_tests false false None k = refl
    by_tests false false (Some x) k = refl

-- neither an n nor a backslash stands at the prefix
pub no_character_at : (text : Bytes) → ((rest : Bytes) → text ≢ 110 ∷ rest) → ((rest : Bytes) → text ≢ 92 ∷ rest) → character_at text ≡ None
no_character_at [] no_n no_slash = refl
no_character_at (c ∷ text) no_n no_slash = by_tests (c == 110) (c == 92) refl refl
  where
    by_tests : (feed slash : Bool) → (c == 110) ≡ feed → (c == 92) ≡ slash → character_by feed slash text ≡ None
    by_tests true slash e f = absurd (no_n text (ap (λ (d : ℕ). d ∷ text) (grind (arith, nat_tests, e))))
    by_tests false true e f = absurd (no_slash text (ap (λ (d : ℕ). d ∷ text) (grind (arith, nat_tests, f))))
    by_tests false false e f = refl

cut_none : (rest : Bytes) → cut_first 92 rest ≡ None → length rest ≤ position_or_len is_backslash rest
unfolding cut_first
cut_none rest h = by_test (nat_lt (position_or_len is_backslash rest) (length rest)) refl h
  where
    by_test : (t : Bool) → nat_lt (position_or_len is_backslash rest) (length rest) ≡ t → cut_by t rest ≡ None → length rest ≤ position_or_len is_backslash rest
    by_test true q k = absurd (none-some _ (sym k))
    by_test false q k = grind (arith, nat_tests)

cut_some : (rest prefix behind : Bytes) → cut_first 92 rest ≡ Some (prefix, behind) → unescaped rest ≡ option_map (λ tail. prefix ++ tail) (unescaped (92 ∷ behind))
unfolding cut_first
cut_some rest prefix behind h = by_test (nat_lt (position_or_len is_backslash rest) (length rest)) refl h
  where
    by_test : (t : Bool) → nat_lt (position_or_len is_backslash rest) (length rest) ≡ t → cut_by t rest ≡ Some (prefix, behind) → unescaped rest ≡ option_map (λ tail. prefix ++ tail) (unescaped (92 ∷ behind))
    by_test true q k = prefix_is rest (grind (arith, nat_tests)) ∙ ap (λ (p : Bytes × Bytes). option_map (λ tail. p.0 ++ tail) (unescaped (92 ∷ p.1))) (some_same k)
    by_test false q k = absurd (none-some _ k)

module _ (made rest : Bytes) (all : Option Bytes) where
  abbrev pub So_far : Type 0
  So_far = option_map (λ tail. made ++ tail) (unescaped rest) ≡ all

  pub none_left : So_far → cut_first 92 rest ≡ None → all ≡ Some (made ++ rest)
  none_left so cut = sym so ∙ ap (option_map (λ tail. made ++ tail)) (plain_is rest (cut_none rest cut))

  pub bad_character : (prefix behind : Bytes) → So_far → cut_first 92 rest ≡ Some (prefix, behind) → character_at behind ≡ None → all ≡ None
  bad_character prefix behind so cut bad =
      sym so ∙ ap (option_map (λ tail. made ++ tail)) (cut_some rest prefix behind cut ∙ ap (option_map (λ tail. prefix ++ tail)) (no_character behind bad))

  character_read : (prefix behind character after : Bytes) → So_far → cut_first 92 rest ≡ Some (prefix, behind) → character_at behind ≡ Some (character, after) → option_map (λ tail. ((made ++ prefix) ++ character) ++ tail) (unescaped after) ≡ all
  character_read prefix behind character after so cut good =
      sym (map_twice (made ++ prefix) character (unescaped after)) ∙ sym (map_twice made prefix (option_map (λ tail. character ++ tail) (unescaped after)))
      ∙ ap (option_map (λ tail. made ++ tail)) (ap (option_map (λ tail. prefix ++ tail)) (sym (character_is behind character after good)) ∙ sym (cut_some rest prefix behind cut)) ∙ so

  -- the same where the two are pushed one after another
  pub character_pushed : (middle new prefix behind character after : Bytes) → So_far → cut_first 92 rest ≡ Some (prefix, behind) → character_at behind ≡ Some (character, after) → middle ≡ made ++ prefix → new ≡ middle ++ character → option_map (λ tail. new ++ tail) (unescaped after) ≡ all
  character_pushed middle new prefix behind character after so cut good first second =
      ap (λ (xs : Bytes). option_map (λ tail. xs ++ tail) (unescaped after)) (second ∙ ap (λ (xs : Bytes). xs ++ character) first) ∙ character_read prefix behind character after so cut good
