-- Readers that read exactly what a relation says, and how they are put together: a word, a space, and the rest.
-- A reader of a word may use that no space stands in it, and each word of the relation has none.
use Rattle.std.proofs.Common.{◌≡◌, ◌∷◌, ◌++◌, Option, None, Some, refl, ap, ◌∙◌}
use Rattle.std.proofs.lemmas.Option.{none-some, same_Some}
use Rattle.wiki_model.specs.Bytes.{Bytes}
use Rattle.drill_script.specs.Words.{◌>>=◌, word_at}
use Rattle.drill_script.proofs.Cuts.{Without, cut_found, cut_made}

pub bind_some : {A B : Type 0} (o : Option A) (f : A → Option B) (y : B) → (o >>= f) ≡ Some y → (x : A) × (o ≡ Some x) × (f x ≡ Some y)
bind_some None f y e = absurd (none-some y e)
bind_some (Some x) f y e = (x, refl, e)

pub bind_is : {A B : Type 0} (o : Option A) (x : A) (f : A → Option B) → o ≡ Some x → (o >>= f) ≡ f x
bind_is o x f e = ap (λ p. p >>= f) e

-- the whole rest of a line
pub record Exact {X : Type 0} (read : Bytes → Option X) (Spelled : X → Bytes → Type 0) : Type 0 where
  pub sound : (b : Bytes) (x : X) → read b ≡ Some x → Spelled x b
  pub complete : (b : Bytes) (x : X) → Spelled x b → read b ≡ Some x

-- a word
pub record ExactWord {X : Type 0} (read : Bytes → Option X) (Spelled : X → Bytes → Type 0) : Type 0 where
  pub sound : (w : Bytes) (x : X) → Without 32 w → read w ≡ Some x → Spelled x w
  pub complete : (w : Bytes) (x : X) → Spelled x w → read w ≡ Some x
  pub without : (w : Bytes) (x : X) → Spelled x w → Without 32 w

-- a word, and then the rest, which may depend on what the word said
pub record Then {X Y : Type 0} (G : X → Bytes → Type 0) (H : X → Y → Bytes → Type 0) (y : Y) (b : Bytes) : Type 0 where
  pub said : X
  pub word : Bytes
  pub rest : Bytes
  pub is_word : G said word
  pub is_rest : H said y rest
  pub whole : b ≡ word ++ 32 ∷ rest

pub seq : {X Y : Type 0} (g : Bytes → Option X) (h : X → Bytes → Option Y) (G : X → Bytes → Type 0) (H : X → Y → Bytes → Type 0) → ExactWord g G → ((x : X) → Exact (h x) (H x)) →
    Exact (λ b. word_at b >>= (λ p. g p.0 >>= (λ x. h x p.1))) (Then G H)
seq g h G H first others = record {
  sound = λ b y e.
      let cut = bind_some (word_at b) (λ p. g p.0 >>= (λ x. h x p.1)) y e in
      let one = bind_some (g cut.0.0) (λ x. h x cut.0.1) y cut.2 in
      let parts = cut_found 32 b cut.0.0 cut.0.1 cut.1 in
      record { said = one.0; word = cut.0.0; rest = cut.0.1; is_word = first.sound cut.0.0 one.0 parts.1 one.1; is_rest = (others one.0).sound cut.0.1 y one.2; whole = parts.0 };
  complete = λ b y t.
      ap (λ (l : Bytes). word_at l >>= (λ p. g p.0 >>= (λ x. h x p.1))) t.whole
      ∙ bind_is (word_at (t.word ++ 32 ∷ t.rest)) (t.word, t.rest) (λ p. g p.0 >>= (λ x. h x p.1)) (cut_made 32 t.word t.rest (first.without t.word t.said t.is_word))
      ∙ bind_is (g t.word) t.said (λ x. h x t.rest) (first.complete t.word t.said t.is_word)
      ∙ (others t.said).complete t.rest y t.is_rest;
}

-- the last word, and what is made of it
pub record Last {X Y : Type 0} (G : X → Bytes → Type 0) (f : X → Y) (y : Y) (b : Bytes) : Type 0 where
  pub said : X
  pub is_rest : G said b
  pub made : f said ≡ y

pub last : {X Y : Type 0} (g : Bytes → Option X) (f : X → Y) (G : X → Bytes → Type 0) → Exact g G → Exact (λ b. g b >>= (λ x. Some (f x))) (Last G f)
last g f G exact = record {
  sound = λ b y e. let one = bind_some (g b) (λ x. Some (f x)) y e in record { said = one.0; is_rest = exact.sound b one.0 one.1; made = same_Some (f one.0) y one.2 };
  complete = λ b y l. bind_is (g b) l.said (λ x. Some (f x)) (exact.complete b l.said l.is_rest) ∙ ap Some l.made;
}

-- a relation that says the same
pub said_as : {X : Type 0} {read : Bytes → Option X} {G H : X → Bytes → Type 0} → Exact read G → ((x : X) (b : Bytes) → G x b → H x b) → ((x : X) (b : Bytes) → H x b → G x b) → Exact read H
said_as exact to back = record { sound = λ b x e. to x b (exact.sound b x e); complete = λ b x s. exact.complete b x (back x b s) }
