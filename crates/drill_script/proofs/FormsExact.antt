-- The forms are read exactly as `Spells` says: whatever is read is spelled so, and whatever is spelled is read.
-- Each form is a sequence of words, so each proof puts exact readers of words in a row, and then says the same in the
-- words of `Spells`.
use Rattle.std.proofs.Common.{◌≡◌, ℕ, ◌<◌, ◌-◌, ◌^◌, Bool, List, [], ◌∷◌, ◌++◌, Option, Some, refl, ap, subst, ◌∙◌, arith}
use Rattle.std.specs.Prelude.{decimal}
use Rattle.wiki_model.specs.declared.Region.{Region}
use Rattle.wiki_model.specs.Bytes.{Bytes}
use Rattle.wiki_model.specs.History.{Edit}
use Rattle.wiki_model.specs.Limits.{number_limit, greatest_moment, id_limit, replicas_max, bound_max, count_max}
use Rattle.wiki_model.specs.Titles.{Client, Token, Title, Text}
use Rattle.wiki_model.specs.World.{View, Cookie}
use Rattle.wiki_model.specs.Script.{Line, words, region_word, SpellsClient, SpellsToken, SpellsTitle, SpellsText, SpellsCookie}
use Rattle.wiki_model.specs.Script.Line.{FarmLine, BoundsLine, At, ApplyLine}
use Rattle.drill_script.specs.Words.{◌>>=◌, word_at, number_of, positive_of, largest, client_in, region_in, token_in, title_in, last_title, text_in, weights_in, cookie_in}
use Rattle.drill_script.specs.Forms.{edit_in, view_in, farm_in, bounds_in, at_in, apply_in}
use Rattle.drill_script.proofs.Exact.{Exact, Then, seq, Last, last}
use Rattle.drill_script.proofs.WordsExact.{IsNumber, number_exact, number_word, IsPositive, positive_exact, client_word, SpellsRegion, region_exact, token_word, title_word, last_title_exact, text_exact, fits}
use Rattle.drill_script.proofs.ListsExact.{AreWeights, weights_exact, SpellsBoth, cookie_word}

-- Edits

abbrev pub edit_made : (client : Client) (token : Token) (title : Title) (base : ℕ) → Text → Edit
edit_made client token title base x = record { client = client; token = token; title = title; base = base; text = x }

abbrev pub edit_4 : (client : Client) (token : Token) (title : Title) (base : ℕ) → Bytes → Option Edit
edit_4 client token title base r = text_in r >>= (λ x. Some (edit_made client token title base x))

abbrev pub edit_rel_4 : (client : Client) (token : Token) (title : Title) (base : ℕ) → Edit → Bytes → Type 0
edit_rel_4 client token title base = Last (λ t w. SpellsText w t) (edit_made client token title base)

edit_exact_4 : (client : Client) (token : Token) (title : Title) (base : ℕ) → Exact (edit_4 client token title base) (edit_rel_4 client token title base)
edit_exact_4 client token title base = last (text_in) (edit_made client token title base) (λ t w. SpellsText w t) (text_exact)

abbrev pub edit_3 : (client : Client) (token : Token) (title : Title) → Bytes → Option Edit
edit_3 client token title r = word_at r >>= (λ p. (number_of largest) p.0 >>= (λ base. edit_4 client token title base p.1))

abbrev pub edit_rel_3 : (client : Client) (token : Token) (title : Title) → Edit → Bytes → Type 0
edit_rel_3 client token title = Then (IsNumber largest) (edit_rel_4 client token title)

edit_exact_3 : (client : Client) (token : Token) (title : Title) → Exact (edit_3 client token title) (edit_rel_3 client token title)
edit_exact_3 client token title = seq (number_of largest) (edit_4 client token title) (IsNumber largest) (edit_rel_4 client token title) (number_word largest fits) (edit_exact_4 client token title)

abbrev pub edit_2 : (client : Client) (token : Token) → Bytes → Option Edit
edit_2 client token r = word_at r >>= (λ p. (title_in) p.0 >>= (λ title. edit_3 client token title p.1))

abbrev pub edit_rel_2 : (client : Client) (token : Token) → Edit → Bytes → Type 0
edit_rel_2 client token = Then (λ t w. SpellsTitle w t) (edit_rel_3 client token)

edit_exact_2 : (client : Client) (token : Token) → Exact (edit_2 client token) (edit_rel_2 client token)
edit_exact_2 client token = seq (title_in) (edit_3 client token) (λ t w. SpellsTitle w t) (edit_rel_3 client token) (title_word) (edit_exact_3 client token)

abbrev pub edit_1 : (client : Client) → Bytes → Option Edit
edit_1 client r = word_at r >>= (λ p. (token_in) p.0 >>= (λ token. edit_2 client token p.1))

abbrev pub edit_rel_1 : (client : Client) → Edit → Bytes → Type 0
edit_rel_1 client = Then (λ t w. SpellsToken w t) (edit_rel_2 client)

edit_exact_1 : (client : Client) → Exact (edit_1 client) (edit_rel_1 client)
edit_exact_1 client = seq (token_in) (edit_2 client) (λ t w. SpellsToken w t) (edit_rel_2 client) (token_word) (edit_exact_2 client)

abbrev pub edit_0 : Bytes → Option Edit
edit_0 r = word_at r >>= (λ p. (client_in) p.0 >>= (λ client. edit_1 client p.1))

abbrev pub edit_rel_0 : Edit → Bytes → Type 0
edit_rel_0 = Then (λ c w. SpellsClient w c) (edit_rel_1)

edit_exact_0 : Exact (edit_0) (edit_rel_0)
edit_exact_0 = seq (client_in) (edit_1) (λ c w. SpellsClient w c) (edit_rel_1) (client_word) (edit_exact_1)

pub edit_exact : Exact edit_in edit_rel_0
unfolding edit_in
edit_exact = edit_exact_0

-- an edit after the name of its line
abbrev pub SpellsEditWords : Edit → Bytes → Type 0
SpellsEditWords edit r =
    (client token title text : Bytes) × SpellsClient client edit.client
    × SpellsToken token edit.token × SpellsTitle title edit.title × SpellsText text edit.text
    × (edit.base < number_limit) × (r ≡ words (client ∷ token ∷ title ∷ decimal edit.base ∷ text ∷ []))

pub edit_said : (edit : Edit) (r : Bytes) → edit_rel_0 edit r → SpellsEditWords edit r
edit_said edit r a =
    let b = a.is_rest in
    let c = b.is_rest in
    let d = c.is_rest in
    let e = d.is_rest in
    let le = d.is_word.0 in
    subst (λ x. SpellsEditWords x r) e.made (
      a.word,
      b.word,
      c.word,
      d.rest,
      a.is_word,
      b.is_word,
      c.is_word,
      e.is_rest,
      omega (arith, le),
      a.whole ∙ ap (λ l. a.word ++ 32 ∷ l) (b.whole ∙ ap (λ l. b.word ++ 32 ∷ l) (c.whole ∙ ap (λ l. c.word ++ 32 ∷ l) (d.whole ∙ ap (λ l. l ++ 32 ∷ d.rest) d.is_word.1))),
    )

pub edit_spelled : (edit : Edit) (r : Bytes) → SpellsEditWords edit r → edit_rel_0 edit r
edit_spelled edit r (client, token, title, text, is_client, is_token, is_title, is_text, less, whole) = record {
  said = edit.client;
  word = client;
  rest = words (token ∷ title ∷ decimal edit.base ∷ text ∷ []);
  is_word = is_client;
  whole = whole;
  is_rest = record {
    said = edit.token;
    word = token;
    rest = words (title ∷ decimal edit.base ∷ text ∷ []);
    is_word = is_token;
    whole = refl;
    is_rest = record {
      said = edit.title;
      word = title;
      rest = words (decimal edit.base ∷ text ∷ []);
      is_word = is_title;
      whole = refl;
      is_rest = record {
        said = edit.base;
        word = decimal edit.base;
        rest = text;
        is_word = (omega (arith, less), refl);
        whole = refl;
        is_rest = record { said = edit.text; is_rest = is_text; made = refl };
      };
    };
  };
}

-- Views

abbrev pub view_made : (host : Region) (client : Client) (known : Option Cookie × Bool) (draw : ℕ) → Title → View
view_made host client known draw x = record { host = host; client = client; cookie = known.0; use_master = known.1; word = draw; title = x }

abbrev pub view_4 : (host : Region) (client : Client) (known : Option Cookie × Bool) (draw : ℕ) → Bytes → Option View
view_4 host client known draw r = last_title r >>= (λ x. Some (view_made host client known draw x))

abbrev pub view_rel_4 : (host : Region) (client : Client) (known : Option Cookie × Bool) (draw : ℕ) → View → Bytes → Type 0
view_rel_4 host client known draw = Last (λ t w. SpellsTitle w t) (view_made host client known draw)

view_exact_4 : (host : Region) (client : Client) (known : Option Cookie × Bool) (draw : ℕ) → Exact (view_4 host client known draw) (view_rel_4 host client known draw)
view_exact_4 host client known draw = last (last_title) (view_made host client known draw) (λ t w. SpellsTitle w t) (last_title_exact)

abbrev pub view_3 : (host : Region) (client : Client) (known : Option Cookie × Bool) → Bytes → Option View
view_3 host client known r = word_at r >>= (λ p. (number_of largest) p.0 >>= (λ draw. view_4 host client known draw p.1))

abbrev pub view_rel_3 : (host : Region) (client : Client) (known : Option Cookie × Bool) → View → Bytes → Type 0
view_rel_3 host client known = Then (IsNumber largest) (view_rel_4 host client known)

view_exact_3 : (host : Region) (client : Client) (known : Option Cookie × Bool) → Exact (view_3 host client known) (view_rel_3 host client known)
view_exact_3 host client known = seq (number_of largest) (view_4 host client known) (IsNumber largest) (view_rel_4 host client known) (number_word largest fits) (view_exact_4 host client known)

abbrev pub view_2 : (host : Region) (client : Client) → Bytes → Option View
view_2 host client r = word_at r >>= (λ p. (cookie_in client) p.0 >>= (λ known. view_3 host client known p.1))

abbrev pub view_rel_2 : (host : Region) (client : Client) → View → Bytes → Type 0
view_rel_2 host client = Then (SpellsBoth client) (view_rel_3 host client)

view_exact_2 : (host : Region) (client : Client) → Exact (view_2 host client) (view_rel_2 host client)
view_exact_2 host client = seq (cookie_in client) (view_3 host client) (SpellsBoth client) (view_rel_3 host client) (cookie_word client) (view_exact_3 host client)

abbrev pub view_1 : (host : Region) → Bytes → Option View
view_1 host r = word_at r >>= (λ p. (client_in) p.0 >>= (λ client. view_2 host client p.1))

abbrev pub view_rel_1 : (host : Region) → View → Bytes → Type 0
view_rel_1 host = Then (λ c w. SpellsClient w c) (view_rel_2 host)

view_exact_1 : (host : Region) → Exact (view_1 host) (view_rel_1 host)
view_exact_1 host = seq (client_in) (view_2 host) (λ c w. SpellsClient w c) (view_rel_2 host) (client_word) (view_exact_2 host)

abbrev pub view_0 : Bytes → Option View
view_0 r = word_at r >>= (λ p. (region_in) p.0 >>= (λ host. view_1 host p.1))

abbrev pub view_rel_0 : View → Bytes → Type 0
view_rel_0 = Then (SpellsRegion) (view_rel_1)

view_exact_0 : Exact (view_0) (view_rel_0)
view_exact_0 = seq (region_in) (view_1) (SpellsRegion) (view_rel_1) (region_exact) (view_exact_1)

pub view_exact : Exact view_in view_rel_0
unfolding view_in
view_exact = view_exact_0

-- a view after the name of its line
abbrev pub SpellsViewWords : View → Bytes → Type 0
SpellsViewWords view r =
    (client cookie title : Bytes) × SpellsClient client view.client
    × SpellsCookie cookie view.client view.cookie view.use_master × SpellsTitle title view.title
    × (view.word < number_limit) × (r ≡ words (region_word view.host ∷ client ∷ cookie ∷ decimal view.word ∷ title ∷ []))

pub view_said : (view : View) (r : Bytes) → view_rel_0 view r → SpellsViewWords view r
view_said view r a =
    let b = a.is_rest in
    let c = b.is_rest in
    let d = c.is_rest in
    let e = d.is_rest in
    let le = d.is_word.0 in
    subst (λ x. SpellsViewWords x r) e.made (
      b.word,
      c.word,
      d.rest,
      b.is_word,
      c.is_word,
      e.is_rest,
      omega (arith, le),
      a.whole ∙ ap (λ l. l ++ 32 ∷ a.rest) a.is_word ∙ ap (λ l. region_word a.said ++ 32 ∷ l) (b.whole ∙ ap (λ l. b.word ++ 32 ∷ l) (c.whole ∙ ap (λ l. c.word ++ 32 ∷ l) (d.whole ∙ ap (λ l. l ++ 32 ∷ d.rest) d.is_word.1))),
    )

pub view_spelled : (view : View) (r : Bytes) → SpellsViewWords view r → view_rel_0 view r
view_spelled view r (client, cookie, title, is_client, is_cookie, is_title, less, whole) = record {
  said = view.host;
  word = region_word view.host;
  rest = words (client ∷ cookie ∷ decimal view.word ∷ title ∷ []);
  is_word = refl;
  whole = whole;
  is_rest = record {
    said = view.client;
    word = client;
    rest = words (cookie ∷ decimal view.word ∷ title ∷ []);
    is_word = is_client;
    whole = refl;
    is_rest = record {
      said = (view.cookie, view.use_master);
      word = cookie;
      rest = words (decimal view.word ∷ title ∷ []);
      is_word = is_cookie;
      whole = refl;
      is_rest = record {
        said = view.word;
        word = decimal view.word;
        rest = title;
        is_word = (omega (arith, less), refl);
        whole = refl;
        is_rest = record { said = view.title; is_rest = is_title; made = refl };
      };
    };
  };
}

-- The farm, bounds, readings and applying

moment_fits : greatest_moment < 2 ^ 64
moment_fits = omega arith

bound_fits : bound_max < 2 ^ 64
bound_fits = omega arith

count_fits : count_max < 2 ^ 64
count_fits = omega arith

pub id_fits : id_limit - 1 < 2 ^ 64
id_fits = omega arith

abbrev pub farm_made : (home : List ℕ) (west : List ℕ) → ℕ → Line
farm_made home west x = FarmLine home west x

abbrev pub farm_2 : (home : List ℕ) (west : List ℕ) → Bytes → Option Line
farm_2 home west r = number_of greatest_moment r >>= (λ x. Some (farm_made home west x))

abbrev pub farm_rel_2 : (home : List ℕ) (west : List ℕ) → Line → Bytes → Type 0
farm_rel_2 home west = Last (IsNumber greatest_moment) (farm_made home west)

farm_exact_2 : (home : List ℕ) (west : List ℕ) → Exact (farm_2 home west) (farm_rel_2 home west)
farm_exact_2 home west = last (number_of greatest_moment) (farm_made home west) (IsNumber greatest_moment) (number_exact greatest_moment moment_fits)

abbrev pub farm_1 : (home : List ℕ) → Bytes → Option Line
farm_1 home r = word_at r >>= (λ p. (weights_in replicas_max) p.0 >>= (λ west. farm_2 home west p.1))

abbrev pub farm_rel_1 : (home : List ℕ) → Line → Bytes → Type 0
farm_rel_1 home = Then (AreWeights replicas_max) (farm_rel_2 home)

farm_exact_1 : (home : List ℕ) → Exact (farm_1 home) (farm_rel_1 home)
farm_exact_1 home = seq (weights_in replicas_max) (farm_2 home) (AreWeights replicas_max) (farm_rel_2 home) (weights_exact replicas_max) (farm_exact_2 home)

abbrev pub farm_0 : Bytes → Option Line
farm_0 r = word_at r >>= (λ p. (weights_in replicas_max) p.0 >>= (λ home. farm_1 home p.1))

abbrev pub farm_rel_0 : Line → Bytes → Type 0
farm_rel_0 = Then (AreWeights replicas_max) (farm_rel_1)

farm_exact_0 : Exact (farm_0) (farm_rel_0)
farm_exact_0 = seq (weights_in replicas_max) (farm_1) (AreWeights replicas_max) (farm_rel_1) (weights_exact replicas_max) (farm_exact_1)

pub farm_exact : Exact farm_in farm_rel_0
unfolding farm_in
farm_exact = farm_exact_0

abbrev pub bounds_made : (delay : ℕ) (lag : ℕ) → ℕ → Line
bounds_made delay lag x = BoundsLine (record { commit_delay = delay; read_lag = lag; skew = x })

abbrev pub bounds_2 : (delay : ℕ) (lag : ℕ) → Bytes → Option Line
bounds_2 delay lag r = positive_of bound_max r >>= (λ x. Some (bounds_made delay lag x))

abbrev pub bounds_rel_2 : (delay : ℕ) (lag : ℕ) → Line → Bytes → Type 0
bounds_rel_2 delay lag = Last (IsPositive bound_max) (bounds_made delay lag)

bounds_exact_2 : (delay : ℕ) (lag : ℕ) → Exact (bounds_2 delay lag) (bounds_rel_2 delay lag)
bounds_exact_2 delay lag = last (positive_of bound_max) (bounds_made delay lag) (IsPositive bound_max) (positive_exact bound_max bound_fits)

abbrev pub bounds_1 : (delay : ℕ) → Bytes → Option Line
bounds_1 delay r = word_at r >>= (λ p. (number_of bound_max) p.0 >>= (λ lag. bounds_2 delay lag p.1))

abbrev pub bounds_rel_1 : (delay : ℕ) → Line → Bytes → Type 0
bounds_rel_1 delay = Then (IsNumber bound_max) (bounds_rel_2 delay)

bounds_exact_1 : (delay : ℕ) → Exact (bounds_1 delay) (bounds_rel_1 delay)
bounds_exact_1 delay = seq (number_of bound_max) (bounds_2 delay) (IsNumber bound_max) (bounds_rel_2 delay) (number_word bound_max bound_fits) (bounds_exact_2 delay)

abbrev pub bounds_0 : Bytes → Option Line
bounds_0 r = word_at r >>= (λ p. (number_of bound_max) p.0 >>= (λ delay. bounds_1 delay p.1))

abbrev pub bounds_rel_0 : Line → Bytes → Type 0
bounds_rel_0 = Then (IsNumber bound_max) (bounds_rel_1)

bounds_exact_0 : Exact (bounds_0) (bounds_rel_0)
bounds_exact_0 = seq (number_of bound_max) (bounds_1) (IsNumber bound_max) (bounds_rel_1) (number_word bound_max bound_fits) (bounds_exact_1)

pub bounds_exact : Exact bounds_in bounds_rel_0
unfolding bounds_in
bounds_exact = bounds_exact_0

abbrev pub at_made : (home : ℕ) → ℕ → Line
at_made home x = At (record { home = home; west = x })

abbrev pub at_1 : (home : ℕ) → Bytes → Option Line
at_1 home r = number_of greatest_moment r >>= (λ x. Some (at_made home x))

abbrev pub at_rel_1 : (home : ℕ) → Line → Bytes → Type 0
at_rel_1 home = Last (IsNumber greatest_moment) (at_made home)

at_exact_1 : (home : ℕ) → Exact (at_1 home) (at_rel_1 home)
at_exact_1 home = last (number_of greatest_moment) (at_made home) (IsNumber greatest_moment) (number_exact greatest_moment moment_fits)

abbrev pub at_0 : Bytes → Option Line
at_0 r = word_at r >>= (λ p. (number_of greatest_moment) p.0 >>= (λ home. at_1 home p.1))

abbrev pub at_rel_0 : Line → Bytes → Type 0
at_rel_0 = Then (IsNumber greatest_moment) (at_rel_1)

at_exact_0 : Exact (at_0) (at_rel_0)
at_exact_0 = seq (number_of greatest_moment) (at_1) (IsNumber greatest_moment) (at_rel_1) (number_word greatest_moment moment_fits) (at_exact_1)

pub at_exact : Exact at_in at_rel_0
unfolding at_in
at_exact = at_exact_0

module _ (greatest : ℕ) (h : greatest < 2 ^ 64) where
  abbrev pub apply_made : (region : Region) (replica : ℕ) → ℕ → Line
  apply_made region replica x = ApplyLine region replica x

  abbrev pub apply_2 : (region : Region) (replica : ℕ) → Bytes → Option Line
  apply_2 region replica r = positive_of count_max r >>= (λ x. Some (apply_made region replica x))

  abbrev pub apply_rel_2 : (region : Region) (replica : ℕ) → Line → Bytes → Type 0
  apply_rel_2 region replica = Last (IsPositive count_max) (apply_made region replica)

  apply_exact_2 : (region : Region) (replica : ℕ) → Exact (apply_2 region replica) (apply_rel_2 region replica)
  apply_exact_2 region replica = last (positive_of count_max) (apply_made region replica) (IsPositive count_max) (positive_exact count_max count_fits)

  abbrev pub apply_1 : (region : Region) → Bytes → Option Line
  apply_1 region r = word_at r >>= (λ p. (number_of greatest) p.0 >>= (λ replica. apply_2 region replica p.1))

  abbrev pub apply_rel_1 : (region : Region) → Line → Bytes → Type 0
  apply_rel_1 region = Then (IsNumber greatest) (apply_rel_2 region)

  apply_exact_1 : (region : Region) → Exact (apply_1 region) (apply_rel_1 region)
  apply_exact_1 region = seq (number_of greatest) (apply_2 region) (IsNumber greatest) (apply_rel_2 region) (number_word greatest h) (apply_exact_2 region)

  abbrev pub apply_0 : Bytes → Option Line
  apply_0 r = word_at r >>= (λ p. (region_in) p.0 >>= (λ region. apply_1 region p.1))

  abbrev pub apply_rel_0 : Line → Bytes → Type 0
  apply_rel_0 = Then (SpellsRegion) (apply_rel_1)

  apply_exact_0 : Exact (apply_0) (apply_rel_0)
  apply_exact_0 = seq (region_in) (apply_1) (SpellsRegion) (apply_rel_1) (region_exact) (apply_exact_1)

  pub apply_exact : Exact (apply_in greatest) apply_rel_0
  unfolding apply_in
  apply_exact = apply_exact_0
