-- A test of all members holds of the one that a key names, at the top and inside it. So in a document that keeps its
-- ranges a number is in the range of its key, and a list of weights is one that is allowed.
use Rattle.std.proofs.Common.{◌≡◌, ℕ, ◌≤◌, Bool, true, false, ◌&&◌, Option, Some, None, nat_cmp, Ordering, Less, Equal, Greater, refl, sym, ap, subst, ◌∙◌, arith, true≢false}
use Rattle.std.specs.Prelude.{⊤, ℤ, pos, negsuc, option_and_then, nat_le, codes, IfSome}
use Rattle.std.specs.Cmp.Lexicographic.{slice_cmp}
use Rattle.std.specs.Ordering.{match_ordering, is_eq}
use Rattle.std.proofs.lemmas.Bool.Decides.{nat_tests}
use Rattle.std.proofs.lemmas.Map.Text.{is_eq-slice_cmp}
use Rattle.std.proofs.lemmas.Slice.Eq.{bytes_eq-Decides}
use Rattle.toml.specs.Data.{Data, string, integer, float, boolean, datetime, array, table, Members, no_members, member, get_member, get, as_integer}
use Rattle.wiki_model.specs.Bytes.{Bytes}
use Rattle.wiki_layout.specs.Layout.{Number, Weights, all_members, member_passes, key_passes, inside, kind_at, is_in_range, number_between, number_in, number_or, value_at, keeps, are_weights}
use Rattle.wiki_layout.specs.declared.rules.Rule.TheVariants.{Ranges}

abbrev KeptAt : (Bytes → Data → Bool) → Bytes → Option Data → Type 0
KeptAt test key None = ⊤
KeptAt test key (Some value) = test key value ≡ true

pub both : (a b : Bool) → (a && b) ≡ true → (a ≡ true) × (b ≡ true)
both true b e = (refl, e)
both false b e = absurd (true≢false (sym e))

kept : (test : Bytes → Data → Bool) (ms : Members) (key : Bytes) → all_members test ms ≡ true
    → KeptAt test key (get_member key ms)
kept test no_members key e = tt
kept test (member l d ms) key e = by (slice_cmp nat_cmp key l) refl (kept test ms key parts.1)
  where
    parts : (test l d ≡ true) × (all_members test ms ≡ true)
    parts = both (test l d) (all_members test ms) e

    by : (o : Ordering) → slice_cmp nat_cmp key l ≡ o → KeptAt test key (get_member key ms)
        → KeptAt test key (match_ordering o (get_member key ms) (Some d) (get_member key ms))
    by Less q rest = rest
    by Equal q rest =
        subst (λ k. test k d ≡ true)
        (sym ((bytes_eq-Decides key l).0 (sym (is_eq-slice_cmp key l) ∙ ap is_eq q))) parts.0
    by Greater q rest = rest

inside_kept : (test : Bytes → Data → Bool) (key : Bytes) (d : Data) → inside test d ≡ true → KeptAt test key (get key d)
inside_kept test key (string s) e = tt
inside_kept test key (integer z) e = tt
inside_kept test key (float x) e = tt
inside_kept test key (boolean b) e = tt
inside_kept test key (datetime t) e = tt
inside_kept test key (array is) e = tt
inside_kept test key (table ms) e = kept test ms key e

value_kept : (document : Members) (name key : Bytes) → keeps Ranges document ≡ true
    → KeptAt (key_passes Ranges name) key (value_at name key document)
value_kept document name key e = by (get_member name document) (kept (member_passes Ranges) document name e)
  where
    by : (o : Option Data) → KeptAt (member_passes Ranges) name o
        → KeptAt (key_passes Ranges name) key (option_and_then (get key) o)
    by None is = tt
    by (Some d) is = inside_kept (key_passes Ranges name) key d is

number_kept : (least greatest : ℕ) (o : Option ℤ) → number_between least greatest o ≡ true
    → (least ≤ number_in o) × (number_in o ≤ greatest)
number_kept least greatest None e = absurd (true≢false (sym e))
number_kept least greatest (Some (pos n)) e =
    let p = both (nat_le least n) (nat_le n greatest) e in
    let above = p.0 in
    let below = p.1 in
    (grind (arith, nat_tests, above), grind (arith, nat_tests, below))
number_kept least greatest (Some (negsuc n)) e = absurd (true≢false (sym e))

-- the number at a key is in the key's range, and so is the default
pub number_within : (document : Members) (name key : Bytes) (least greatest default : ℕ) → keeps Ranges document ≡ true
    → kind_at name key ≡ Some (Number least greatest)
    → least ≤ default → default ≤ greatest → (least ≤ number_or default (value_at name key document))
    × (number_or default (value_at name key document) ≤ greatest)
number_within document name key least greatest default e kind above below =
    by (value_at name key document) (value_kept document name key e)
  where
    by : (o : Option Data) → KeptAt (key_passes Ranges name) key o
        → (least ≤ number_or default o) × (number_or default o ≤ greatest)
    by None is = (above, below)
    by (Some v) is = number_kept least greatest (as_integer v) (sym (ap (λ k. is_in_range k v) kind) ∙ is)

-- the weights of a region are allowed, if there are any
pub weights_kept : (document : Members) (name : Bytes) → keeps Ranges document ≡ true
    → kind_at name (codes "weights") ≡ Some Weights
    → IfSome (value_at name (codes "weights") document) (λ v. are_weights v ≡ true)
weights_kept document name e kind =
    by (value_at name (codes "weights") document) (value_kept document name (codes "weights") e)
  where
    by : (o : Option Data) → KeptAt (key_passes Ranges name) (codes "weights") o → IfSome o (λ v. are_weights v ≡ true)
    by None is = tt
    by (Some v) is = sym (ap (λ k. is_in_range k v) kind) ∙ is
