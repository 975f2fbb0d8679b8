-- Weights and cookies are read exactly as they are spelled.
use Rattle.std.proofs.Common.{◌≡◌, ℕ, zero, suc, ◌<◌, ◌≤◌, ◌-◌, ◌^◌, Bool, true, false, List, [], ◌∷◌, ◌++◌, length, All, Option, None, Some, refl, sym, ap, subst, ◌∙◌, arith, append-nil, append_assoc}
use Rattle.std.specs.Prelude.{codes, decimal, if◌then◌else◌}
use Rattle.std.specs.Str.{bytes_eq}
use Rattle.std.proofs.lemmas.List.Elements.{All-cons, All-nil, All-head, All-tail}
use Rattle.std.proofs.lemmas.Option.{none-some, same_Some}
use Rattle.wiki_model.specs.Bytes.{Bytes, is_empty}
use Rattle.wiki_model.specs.Limits.{number_limit, seconds_limit, weight_max}
use Rattle.wiki_model.specs.Titles.{Client}
use Rattle.wiki_model.specs.World.{Cookie}
use Rattle.wiki_model.specs.Script.{SpellsCookie, cookie_text, weights_word}
use Rattle.drill_script.specs.Words.{◌>>=◌, cut_first, number_of, positive_of, largest, one_weight, weights_cut, weights_in, plus_cut, before_plus, position_in, cookie_in}
use Rattle.drill_script.proofs.Cuts.{Without, cut_found, cut_made, cut_none}
use Rattle.drill_script.proofs.Exact.{bind_some, bind_is, ExactWord}
use Rattle.drill_script.proofs.WordsExact.{number_said, number_read, positive_said, positive_read, decimal_without, same_bytes, fits}

pub without_append : (c : ℕ) (a b : Bytes) → Without c a → Without c b → Without c (a ++ b)
without_append c [] b u v = v
without_append c (x ∷ a) b (n, u) v = (n, without_append c a b u v)

-- Weights

abbrev IsWeight : ℕ → Type 0
IsWeight n = n ≤ weight_max

abbrev pub AreWeights : ℕ → List ℕ → Bytes → Type 0
AreWeights most ws w = (0 < length ws) × (length ws ≤ most) × All IsWeight ws × (w ≡ weights_word ws)

small : 1_000 < 2 ^ 64
small = omega arith

one_said : (most : ℕ) (w : Bytes) (ws : List ℕ) → one_weight w ≡ Some ws → AreWeights (suc most) ws w
one_said most w ws e =
    let one = bind_some (number_of weight_max w) (λ n. Some (n ∷ [])) ws e in
    let said = number_said one.0 weight_max w small one.1 in
    subst (λ l. AreWeights (suc most) l w) (same_Some (one.0 ∷ []) ws one.2) (omega arith, omega arith, All-cons IsWeight one.0 [] said.0 (All-nil IsWeight), said.1)

joined : (n : ℕ) (ws : List ℕ) (a b w : Bytes) → 0 < length ws → w ≡ a ++ 44 ∷ b → a ≡ decimal n → b ≡ weights_word ws → w ≡ weights_word (n ∷ ws)
joined n [] a b w some whole is more = absurd (omega (arith, some))
joined n (m ∷ ws) a b w some whole is more = whole ∙ ap (λ l. l ++ 44 ∷ b) is ∙ ap (λ l. decimal n ++ 44 ∷ l) more

weights_said : (most : ℕ) (w : Bytes) (ws : List ℕ) → weights_in most w ≡ Some ws → AreWeights most ws w
weights_said zero w ws e = absurd (none-some _ e)
weights_said (suc most) w ws e = by_cut (weights_said most) (cut_first 44 w) refl e
  where
    by_cut : ((v : Bytes) (vs : List ℕ) → weights_in most v ≡ Some vs → AreWeights most vs v) → (o : Option (Bytes × Bytes)) → cut_first 44 w ≡ o → weights_cut o w (weights_in most) ≡ Some ws → AreWeights (suc most) ws w
    by_cut ih None q k = one_said most w ws k
    by_cut ih (Some p) q k =
        let one = bind_some (number_of weight_max p.0) (λ n. weights_in most p.1 >>= (λ more. Some (n ∷ more))) ws k in
        let others = bind_some (weights_in most p.1) (λ more. Some (one.0 ∷ more)) ws one.2 in
        let said = number_said one.0 weight_max p.0 small one.1 in
        let rest = ih p.1 others.0 others.1 in
        let parts = cut_found 44 w p.0 p.1 q in
        let few = rest.1 in
        subst (λ l. AreWeights (suc most) l w) (same_Some (one.0 ∷ others.0) ws others.2)
        (omega arith, omega (arith, few), All-cons IsWeight one.0 others.0 said.0 rest.2, joined one.0 others.0 p.0 p.1 w rest.0 parts.0 said.1 rest.3)

weights_read : (most : ℕ) (ws : List ℕ) → 0 < length ws → length ws ≤ most → All IsWeight ws → weights_in most (weights_word ws) ≡ Some ws
weights_read zero [] some few all = absurd (omega (arith, some))
weights_read zero (n ∷ ws) some few all = absurd (omega (arith, few))
weights_read (suc most) [] some few all = absurd (omega (arith, some))
weights_read (suc most) (n ∷ []) some few all =
    let le = All-head IsWeight n [] all in
    ap (λ o. weights_cut o (decimal n) (weights_in most)) (cut_none 44 (decimal n) (decimal_without 44 n (omega (arith, le)) refl))
    ∙ bind_is (number_of weight_max (decimal n)) n (λ k. Some (k ∷ [])) (number_read n weight_max le small)
weights_read (suc most) (n ∷ m ∷ ws) some few all =
    let le = All-head IsWeight n (m ∷ ws) all in
    let others = weights_read most (m ∷ ws) (omega arith) (omega (arith, few)) (All-tail IsWeight n (m ∷ ws) all) in
    ap (λ o. weights_cut o (weights_word (n ∷ m ∷ ws)) (weights_in most)) (cut_made 44 (decimal n) (weights_word (m ∷ ws)) (decimal_without 44 n (omega (arith, le)) refl))
    ∙ bind_is (number_of weight_max (decimal n)) n (λ k. weights_in most (weights_word (m ∷ ws)) >>= (λ more. Some (k ∷ more))) (number_read n weight_max le small)
    ∙ bind_is (weights_in most (weights_word (m ∷ ws))) (m ∷ ws) (λ more. Some (n ∷ more)) others

weights_without : (ws : List ℕ) → All IsWeight ws → Without 32 (weights_word ws)
weights_without [] all = tt
weights_without (n ∷ []) all = let le = All-head IsWeight n [] all in decimal_without 32 n (omega (arith, le)) refl
weights_without (n ∷ m ∷ ws) all =
    let le = All-head IsWeight n (m ∷ ws) all in
    without_append 32 (decimal n) (44 ∷ weights_word (m ∷ ws)) (decimal_without 32 n (omega (arith, le)) refl) ((λ e. omega (arith, e)), weights_without (m ∷ ws) (All-tail IsWeight n (m ∷ ws) all))

pub weights_exact : (most : ℕ) → ExactWord (weights_in most) (AreWeights most)
weights_exact most = record {
  sound = λ w ws u e. weights_said most w ws e;
  complete = λ w ws s. ap (weights_in most) s.3 ∙ weights_read most ws s.0 s.1 s.2;
  without = λ w ws s. subst (Without 32) (sym s.3) (weights_without ws s.2);
}

-- Cookies

abbrev with_plus : Bool → Bytes → Option (Bytes × Bool)
with_plus t a = if t then Some (a, true) else None

abbrev dash_or : Bool → Option (Option Cookie × Bool) → Option (Option Cookie × Bool)
dash_or t o = if t then Some (None, false) else o

abbrev plus : Bool → Bytes
plus m = if m then codes "+" else []

plus_said : (r s : Bytes) (m : Bool) → before_plus r ≡ Some (s, m) → r ≡ s ++ plus m
plus_said r s m e = by_cut (cut_first 43 r) refl e
  where
    by_cut : (o : Option (Bytes × Bytes)) → cut_first 43 r ≡ o → plus_cut o r ≡ Some (s, m) → r ≡ s ++ plus m
    by_cut None q k = let same : (r, false) ≡ (s, m) = same_Some (r, false) (s, m) k in subst (λ (p : Bytes × Bool). r ≡ p.0 ++ plus p.1) same (sym (append-nil r))
    by_cut (Some p) q k = by_rest p.0 p.1 (cut_found 43 r p.0 p.1 q).0 k
      where
        by_rest : (a b : Bytes) → r ≡ a ++ 43 ∷ b → with_plus (is_empty b) a ≡ Some (s, m) → r ≡ s ++ plus m
        by_rest a [] whole j = let same : (a, true) ≡ (s, m) = same_Some (a, true) (s, m) j in subst (λ (p : Bytes × Bool). r ≡ p.0 ++ plus p.1) same whole
        by_rest a (c ∷ b) whole j = absurd (none-some _ j)

plus_read : (s : Bytes) (m : Bool) → Without 43 s → before_plus (s ++ plus m) ≡ Some (s, m)
plus_read s true u = ap (λ o. plus_cut o (s ++ 43 ∷ [])) (cut_made 43 s [] u)
plus_read s false u = ap before_plus (append-nil s) ∙ ap (λ o. plus_cut o s) (cut_none 43 s u)

abbrev pub SpellsBoth : Client → Option Cookie × Bool → Bytes → Type 0
SpellsBoth client x w = SpellsCookie w client x.0 x.1

abbrev seconds_most : ℕ
seconds_most = seconds_limit - 1

fits_too : seconds_most < 2 ^ 64
fits_too = omega arith

position_said : (client : Client) (w : Bytes) (x : Option Cookie × Bool) → position_in client w ≡ Some x → SpellsBoth client x w
unfolding position_in
position_said client w x e =
    let cut = bind_some (cut_first 64 w) (λ p. positive_of largest p.0 >>= (λ i. before_plus p.1 >>= (λ r. number_of seconds_most r.0 >>= (λ s. Some (Some (record { index = i; seconds = s; client = client }), r.1))))) x e in
    let index = bind_some (positive_of largest cut.0.0) (λ i. before_plus cut.0.1 >>= (λ r. number_of seconds_most r.0 >>= (λ s. Some (Some (record { index = i; seconds = s; client = client }), r.1)))) x cut.2 in
    let rest = bind_some (before_plus cut.0.1) (λ r. number_of seconds_most r.0 >>= (λ s. Some (Some (record { index = index.0; seconds = s; client = client }), r.1))) x index.2 in
    let seconds = bind_some (number_of seconds_most rest.0.0) (λ s. Some (Some (record { index = index.0; seconds = s; client = client }), rest.0.1)) x rest.2 in
    let (some, less, is) = positive_said index.0 largest cut.0.0 fits index.1 in
    let said = number_said seconds.0 seconds_most rest.0.0 fits_too seconds.1 in
    let early = said.0 in
    let tail = plus_said cut.0.1 rest.0.0 rest.0.1 rest.1 in
    let parts = cut_found 64 w cut.0.0 cut.0.1 cut.1 in
    subst (λ (y : Option Cookie × Bool). SpellsBoth client y w)
    (same_Some (Some (record { index = index.0; seconds = seconds.0; client = client }), rest.0.1) x seconds.2) (
      some,
      omega (arith, less),
      omega (arith, early),
      refl,
      parts.0 ∙ ap (λ l. l ++ 64 ∷ cut.0.1) is ∙ ap (λ l. decimal index.0 ++ 64 ∷ l) (tail ∙ ap (λ l. l ++ plus rest.0.1) said.1)
          ∙ sym (append_assoc (decimal index.0) (64 ∷ decimal seconds.0) (plus rest.0.1)),
    )

cookie_said : (client : Client) (w : Bytes) (x : Option Cookie × Bool) → cookie_in client w ≡ Some x → SpellsBoth client x w
cookie_said client w x e = by_test (bytes_eq w (codes "-")) refl e
  where
    by_test : (t : Bool) → bytes_eq w (codes "-") ≡ t → dash_or t (position_in client w) ≡ Some x → SpellsBoth client x w
    by_test true q k = let same : (None, false) ≡ x = same_Some (None, false) x k in subst (λ (y : Option Cookie × Bool). SpellsBoth client y w) same (same_bytes w (codes "-") q, refl)
    by_test false q k = position_said client w x k

position_read : (client : Client) (cookie : Cookie) (m : Bool) → 0 < cookie.index → cookie.index < number_limit → cookie.seconds < seconds_limit → cookie.client ≡ client →
    position_in client (decimal cookie.index ++ 64 ∷ (decimal cookie.seconds ++ plus m)) ≡ Some (Some cookie, m)
unfolding position_in
position_read client cookie m some less early own =
    let tail : Bytes = decimal cookie.seconds ++ plus m in
    bind_is (cut_first 64 (decimal cookie.index ++ 64 ∷ tail)) (decimal cookie.index, tail) (λ p. positive_of largest p.0 >>= (λ i. before_plus p.1 >>= (λ r. number_of seconds_most r.0 >>= (λ s. Some (Some (record { index = i; seconds = s; client = client }), r.1)))))
    (cut_made 64 (decimal cookie.index) tail (decimal_without 64 cookie.index (omega (arith, less)) refl))
    ∙ bind_is (positive_of largest (decimal cookie.index)) cookie.index (λ i. before_plus tail >>= (λ r. number_of seconds_most r.0 >>= (λ s. Some (Some (record { index = i; seconds = s; client = client }), r.1))))
    (positive_read cookie.index largest (decimal cookie.index) fits (some, omega (arith, less), refl))
    ∙ bind_is (before_plus tail) (decimal cookie.seconds, m) (λ r. number_of seconds_most r.0 >>= (λ s. Some (Some (record { index = cookie.index; seconds = s; client = client }), r.1)))
    (plus_read (decimal cookie.seconds) m (decimal_without 43 cookie.seconds (omega (arith, early)) refl))
    ∙ bind_is (number_of seconds_most (decimal cookie.seconds)) cookie.seconds (λ s. Some (Some (record { index = cookie.index; seconds = s; client = client }), m))
    (number_read cookie.seconds seconds_most (omega (arith, early)) fits_too)
    ∙ ap (λ k. Some (Some (record { index = cookie.index; seconds = cookie.seconds; client = k }), m)) (sym own)

cookie_without : (cookie : Cookie) (m : Bool) → cookie.index < number_limit → cookie.seconds < seconds_limit → Without 32 (decimal cookie.index ++ 64 ∷ (decimal cookie.seconds ++ plus m))
cookie_without cookie m less early =
    without_append 32 (decimal cookie.index) (64 ∷ (decimal cookie.seconds ++ plus m)) (decimal_without 32 cookie.index (omega (arith, less)) refl)
    ((λ e. omega (arith, e)), without_append 32 (decimal cookie.seconds) (plus m) (decimal_without 32 cookie.seconds (omega (arith, early)) refl) (plus_without m))
  where
    plus_without : (m : Bool) → Without 32 (plus m)
    plus_without true = ((λ e. omega (arith, e)), tt)
    plus_without false = tt

not_dash : (a r : Bytes) → Without 64 a → bytes_eq (a ++ 64 ∷ r) (codes "-") ≡ false
not_dash a r u = by_test (bytes_eq (a ++ 64 ∷ r) (codes "-")) refl
  where
    by_test : (t : Bool) → bytes_eq (a ++ 64 ∷ r) (codes "-") ≡ t → t ≡ false
    by_test false q = refl
    by_test true q =
        let same = same_bytes (a ++ 64 ∷ r) (codes "-") q in
        absurd (none-some (a, r) (sym (cut_none 64 (codes "-") ((λ e. omega (arith, e)), tt)) ∙ ap (cut_first 64) (sym same) ∙ cut_made 64 a r u))

whole_text : (cookie : Cookie) (m : Bool) → cookie_text cookie ++ plus m ≡ decimal cookie.index ++ 64 ∷ (decimal cookie.seconds ++ plus m)
whole_text cookie m = append_assoc (decimal cookie.index) (64 ∷ decimal cookie.seconds) (plus m)

cookie_read : (client : Client) (w : Bytes) (o : Option Cookie) (m : Bool) → SpellsCookie w client o m → cookie_in client w ≡ Some (o, m)
cookie_read client w None m (is, no_master) = ap (cookie_in client) is ∙ ap (λ b. Some (None, b)) (sym no_master)
cookie_read client w (Some cookie) m (some, less, early, own, is) =
    let tail : Bytes = decimal cookie.seconds ++ plus m in
    ap (cookie_in client) (is ∙ whole_text cookie m)
    ∙ ap (λ b. dash_or b (position_in client (decimal cookie.index ++ 64 ∷ tail))) (not_dash (decimal cookie.index) tail (decimal_without 64 cookie.index (omega (arith, less)) refl))
    ∙ position_read client cookie m some less early own

cookie_no_space : (client : Client) (w : Bytes) (o : Option Cookie) (m : Bool) → SpellsCookie w client o m → Without 32 w
cookie_no_space client w None m (is, no_master) = subst (Without 32) (sym is) ((λ e. omega (arith, e)), tt)
cookie_no_space client w (Some cookie) m (some, less, early, own, is) = subst (Without 32) (sym (is ∙ whole_text cookie m)) (cookie_without cookie m less early)

pub cookie_word : (client : Client) → ExactWord (cookie_in client) (SpellsBoth client)
cookie_word client = record {
  sound = λ w x u e. cookie_said client w x e;
  complete = λ w x s. cookie_read client w x.0 x.1 s;
  without = λ w x s. cookie_no_space client w x.0 x.1 s;
}
