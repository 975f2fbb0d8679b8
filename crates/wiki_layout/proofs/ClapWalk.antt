-- Words that are options have no fault in `clap`, and its matches have their values. The walk stands between two
-- options in nine states only; from each of them an option leads to another, in one word or in two.
use Rattle.std.proofs.Common.{◌≡◌, ℕ, true, false, List, [], ◌∷◌, ◌++◌, Option, Some, None, refl, codes, sym, ap, subst, ◌∙◌, arith, inl, inr}
use Rattle.std.specs.Prelude.{◌==◌, bytes_eq, fold, is_some, slice_index, nat_lt, ◌<◌, ◌≤◌, decimal}
use Rattle.std.proofs.lemmas.Bool.Decides.{nat_tests}
use Rattle.std.proofs.lemmas.Fmt.{first_decimal}
use Rattle.wiki_model.specs.Commands.{Given, Connections, Store, Link, IsGiven, AreGiven, is_path, is_connections, is_store, is_link, how_many, Options, AreOptions, connections_in, store_in}
use Rattle.wiki_model.specs.Bytes.{Bytes}
use Rattle.clap.specs.Lexer.{long_of, short_of}
use Rattle.clap.specs.Walk.{Rule, Row, Walk, Held, Waiting, idle, option, Text, first_of, walked, walk_from, nothing_held, word_met, plain_word, after_step, settled, settled_rows, finished}
use Rattle.clap.specs.Simple.{Shape, built, matches_of, entered}
use Rattle.clap.specs.Faults.{fault_of, turn_fault, walk_fault, word_fault, settle_fault, defaults_fault, check_fault, entered_fault}
use Rattle.clap.specs.Kinds.{Kinds, or_else}
use Rattle.clap.proofs.OnLiterals.{clap_on_literals}
use Rattle.wiki_layout.specs.ClapOptions.{serve_app, IsConnections, IsStore, AreValues}

-- a word that does not begin with a hyphen is no flag

abbrev IsPlain : List ℕ → Type 0
IsPlain word = (bytes_eq word (45 ∷ 45 ∷ []) ≡ false) × (long_of word ≡ None) × (short_of word ≡ None)

plain_first : (c : ℕ) (rest : List ℕ) → (c == 45) ≡ false → IsPlain (c ∷ rest)
plain_first c rest e = (rw e refl, rw e refl, rw e refl)

plain_empty : IsPlain []
plain_empty = (refl, refl, refl)

plain_met : (rs : List Rule) (waiting : Waiting) (position : ℕ) (id word : Text) (h : Held) → IsPlain word
    → word_met rs [] false (option id) position word h ≡ plain_word rs (option id) word h
plain_met rs waiting position id word h p = rw (p.0, p.1, p.2) refl

plain_fault : (s : Shape) (id word : Text) (h : Held) → IsPlain word → word_fault s [] false (option id) word h ≡ []
plain_fault s id word h p = rw (p.0, p.1, p.2) refl

-- where the walk stands between two options, and after a name whose value comes next

abbrev shape : Shape
shape = (built serve_app).top

abbrev Pending : Type 0
Pending = Option (Text × List Text)

abbrev between : List Row → Pending → Walk
between rows pending = record {
  held = record { rows = rows; pending = pending; skip = 0 };
  waiting = idle;
  position = 1;
  is_trailing = false;
  stopped = None;
}

abbrev after_name : List Row → Text → Walk
after_name rows id = record {
  held = record { rows = rows; pending = Some (id, []); skip = 0 };
  waiting = option id;
  position = 1;
  is_trailing = false;
  stopped = None;
}

record Goes (from : Walk) (words : List Text) (to : Walk) : Type 0 where
  clean : walk_fault shape [] from words ≡ []
  ends : fold (walked (built serve_app).top.rules []) from words ≡ to

stays : (w : Walk) → Goes w [] w
unfolding walk_fault
stays w = record { clean = refl; ends = refl }

goes_on : (w v to : Walk) (word : Text) (rest : List Text) → turn_fault shape [] w word ≡ []
    → walked (built serve_app).top.rules [] w word ≡ v → Goes v rest to → Goes w (word ∷ rest) to
unfolding walk_fault
goes_on w v to word rest calm is goes = record {
  clean = rw (calm, is) goes.clean;
  ends = ap (λ x. fold (walked (built serve_app).top.rules []) x rest) is ∙ goes.ends;
}

value_turn : (id : Text) (rows : List Row) (word : Text) → IsPlain word
    → turn_fault shape [] (after_name rows id) word ≡ []
value_turn id rows word p =
    rw (
      plain_fault shape id word (after_name rows id).held p,
      plain_met shape.rules (option id) 1 id word
          (after_name rows id).held p,
    ) refl

-- the rows of an option that was used first
abbrev one_row : Text → Text → List Row
one_row id value = settled_rows shape.rules (Some (id, value ∷ [])) []

abbrev two_rows : Text → Text → Text → Text → List Row
two_rows first value second other = settled_rows shape.rules (Some (second, other ∷ [])) (one_row first value)

-- where the walk can stand between two options: nothing was met (start); an option in two words (pending), whose value
-- is settled by the next option alone; one in one word (used); one and then the other in two words (used_pending);
-- both, the last in one word (used_both)
abbrev count : Text
count = codes "connections"

abbrev file : Text
file = codes "store"

abbrev start : Walk
start = between [] None

abbrev pending : (id value : Text) → Walk
pending id value = between [] (Some (id, value ∷ []))

abbrev used : (id value : Text) → Walk
used id value = between (one_row id value) None

abbrev used_pending : (id value other more : Text) → Walk
used_pending id value other more = between (one_row id value) (Some (other, more ∷ []))

abbrev used_both : (id value other more : Text) → Walk
used_both id value other more = between (two_rows id value other more) None

value_walk_connections : (rows : List Row) (word : Text) → IsPlain word
    → walked shape.rules [] (after_name rows count) word ≡ between rows (Some (count, word ∷ []))
unfolding walked
value_walk_connections rows word p =
    ap (λ m. after_step shape.rules word (after_name rows count) m.0 m.1)
    (plain_met shape.rules (option count) 1 count word (after_name rows count).held p)

-- `connections` in two words, from nothing or after the other option, which was in one word (_after_one) or in two
-- (_after_two)
two_connections : (rows : List Row) (value : Text) (rest : List Text) (to : Walk) → IsPlain value
    → Goes (between rows (Some (count, value ∷ []))) rest to
    → Goes (between rows None) (codes "--connections" ∷ value ∷ rest) to
unfolding clap_on_literals
two_connections rows value rest to p goes =
    goes_on (between rows None) (after_name rows count) to (codes "--connections") (value ∷ rest) refl refl
    (goes_on (after_name rows count) (between rows (Some (count, value ∷ []))) to value rest
    (value_turn count rows value p) (value_walk_connections rows value p) goes)

two_connections_after_two : (first value : Text) (rest : List Text) (to : Walk) → IsPlain value
    → Goes (used_pending file first count value) rest to
    → Goes (pending file first) (codes "--connections" ∷ value ∷ rest) to
unfolding clap_on_literals
two_connections_after_two first value rest to p goes =
    goes_on (pending file first) (after_name (one_row file first) count) to (codes "--connections")
    (value ∷ rest) refl refl
    (goes_on (after_name (one_row file first) count) (used_pending file first count value) to value rest
    (value_turn count (one_row file first) value p) (value_walk_connections (one_row file first) value p) goes)

-- in one word
one_connections : (value : Text) (rest : List Text) (to : Walk)
    → Goes (used count value) rest to
    → Goes start ((codes "--connections=" ++ value) ∷ rest) to
unfolding clap_on_literals
one_connections value rest to goes =
    goes_on start (used count value) to (codes "--connections=" ++ value) rest refl refl goes

one_connections_after_two : (first value : Text) (rest : List Text) (to : Walk)
    → Goes (used_both file first count value) rest to
    → Goes (pending file first) ((codes "--connections=" ++ value) ∷ rest) to
unfolding clap_on_literals
one_connections_after_two first value rest to goes =
    goes_on (pending file first) (used_both file first count value) to
    (codes "--connections=" ++ value) rest refl refl goes

one_connections_after_one : (first value : Text) (rest : List Text) (to : Walk)
    → Goes (used_both file first count value) rest to
    → Goes (used file first) ((codes "--connections=" ++ value) ∷ rest) to
unfolding clap_on_literals
one_connections_after_one first value rest to goes =
    goes_on (used file first) (used_both file first count value) to
    (codes "--connections=" ++ value) rest refl refl goes

value_walk_store : (rows : List Row) (word : Text) → IsPlain word
    → walked shape.rules [] (after_name rows file) word ≡ between rows (Some (file, word ∷ []))
unfolding walked
value_walk_store rows word p =
    ap (λ m. after_step shape.rules word (after_name rows file) m.0 m.1)
    (plain_met shape.rules (option file) 1 file word (after_name rows file).held p)

-- `store` in two words, from nothing or after the other option, which was in one word (_after_one) or in two
-- (_after_two)
two_store : (rows : List Row) (value : Text) (rest : List Text) (to : Walk) → IsPlain value
    → Goes (between rows (Some (file, value ∷ []))) rest to
    → Goes (between rows None) (codes "--store" ∷ value ∷ rest) to
unfolding clap_on_literals
two_store rows value rest to p goes =
    goes_on (between rows None) (after_name rows file) to (codes "--store") (value ∷ rest) refl refl
    (goes_on (after_name rows file) (between rows (Some (file, value ∷ []))) to value rest
    (value_turn file rows value p) (value_walk_store rows value p) goes)

two_store_after_two : (first value : Text) (rest : List Text) (to : Walk) → IsPlain value
    → Goes (used_pending count first file value) rest to
    → Goes (pending count first) (codes "--store" ∷ value ∷ rest) to
unfolding clap_on_literals
two_store_after_two first value rest to p goes =
    goes_on (pending count first) (after_name (one_row count first) file) to (codes "--store") (value ∷ rest) refl refl
    (goes_on (after_name (one_row count first) file) (used_pending count first file value) to value rest
    (value_turn file (one_row count first) value p) (value_walk_store (one_row count first) value p) goes)

-- in one word
one_store : (value : Text) (rest : List Text) (to : Walk) → Goes (used file value) rest to
    → Goes start ((codes "--store=" ++ value) ∷ rest) to
unfolding clap_on_literals
one_store value rest to goes = goes_on start (used file value) to (codes "--store=" ++ value) rest refl refl goes

one_store_after_two : (first value : Text) (rest : List Text) (to : Walk)
    → Goes (used_both count first file value) rest to
    → Goes (pending count first) ((codes "--store=" ++ value) ∷ rest) to
unfolding clap_on_literals
one_store_after_two first value rest to goes =
    goes_on (pending count first) (used_both count first file value) to (codes "--store=" ++ value) rest refl refl goes

one_store_after_one : (first value : Text) (rest : List Text) (to : Walk)
    → Goes (used_both count first file value) rest to
    → Goes (used count first) ((codes "--store=" ++ value) ∷ rest) to
unfolding clap_on_literals
one_store_after_one first value rest to goes =
    goes_on (used count first) (used_both count first file value) to (codes "--store=" ++ value) rest refl refl goes

-- what is left of the faults at the end of the walk
abbrev level_by : Kinds → Walk → Kinds
level_by walking w = or_else walking (or_else (entered_fault (built serve_app) w.stopped)
    (or_else (settle_fault shape.rules shape.args_override_self w.held)
    (or_else (defaults_fault (settled shape.rules w.held).rows shape.rules)
    (check_fault shape (finished shape.rules w.held) (is_some (entered (built serve_app) w.stopped))))))

record EndsWell (from : Walk) (words : List Text) (connections store : Option Text) : Type 0 where
  to : Walk
  goes : Goes from words to
  clean : level_by [] to ≡ []
  connections_are : first_of count (finished shape.rules to.held) ≡ connections
  store_is : first_of file (finished shape.rules to.held) ≡ store

pub record ClapReads (words : List Text) (connections store : Option Text) : Type 0 where
  pub clean : fault_of serve_app words ≡ []
  pub connections_are : first_of count (matches_of serve_app words) ≡ connections
  pub store_is : first_of file (matches_of serve_app words) ≡ store

reads_of : (words : List Text) (connections store : Option Text)
    → EndsWell (walk_from nothing_held) words connections store → ClapReads words connections store
reads_of words connections store end = record {
  clean =
      ap (λ k. level_by k (fold (walked shape.rules []) (walk_from nothing_held) words)) end.goes.clean
      ∙ (ap (λ w. level_by [] w) end.goes.ends ∙ end.clean);
  connections_are =
      ap (λ w. first_of count (finished shape.rules w.held)) end.goes.ends ∙ end.connections_are;
  store_is = ap (λ w. first_of file (finished shape.rules w.held)) end.goes.ends ∙ end.store_is;
}

-- the nine ends

end_empty : EndsWell start [] None None
unfolding clap_on_literals
end_empty = record {
  to = start;
  goes = stays start;
  clean = refl;
  connections_are = refl;
  store_is = refl;
}

end_connections : (v : Text) → EndsWell (pending count v) [] (Some v) None
unfolding clap_on_literals
end_connections v = record {
  to = pending count v;
  goes = stays (pending count v);
  clean = refl;
  connections_are = refl;
  store_is = refl;
}

end_store : (v : Text) → EndsWell (pending file v) [] None (Some v)
unfolding clap_on_literals
end_store v = record {
  to = pending file v;
  goes = stays (pending file v);
  clean = refl;
  connections_are = refl;
  store_is = refl;
}

end_row_connections : (v : Text) → EndsWell (used count v) [] (Some v) None
unfolding clap_on_literals
end_row_connections v = record {
  to = used count v;
  goes = stays (used count v);
  clean = refl;
  connections_are = refl;
  store_is = refl;
}

end_row_store : (v : Text) → EndsWell (used file v) [] None (Some v)
unfolding clap_on_literals
end_row_store v = record {
  to = used file v;
  goes = stays (used file v);
  clean = refl;
  connections_are = refl;
  store_is = refl;
}

end_row_connections_store : (v w : Text)
    → EndsWell (used_pending count v file w) [] (Some v) (Some w)
unfolding clap_on_literals
end_row_connections_store v w = record {
  to = used_pending count v file w;
  goes = stays (used_pending count v file w);
  clean = refl;
  connections_are = refl;
  store_is = refl;
}

end_row_store_connections : (v w : Text)
    → EndsWell (used_pending file v count w) [] (Some w) (Some v)
unfolding clap_on_literals
end_row_store_connections v w = record {
  to = used_pending file v count w;
  goes = stays (used_pending file v count w);
  clean = refl;
  connections_are = refl;
  store_is = refl;
}

end_rows_connections_store : (v w : Text)
    → EndsWell (used_both count v file w) [] (Some v) (Some w)
unfolding clap_on_literals
end_rows_connections_store v w = record {
  to = used_both count v file w;
  goes = stays (used_both count v file w);
  clean = refl;
  connections_are = refl;
  store_is = refl;
}

end_rows_store_connections : (v w : Text)
    → EndsWell (used_both file v count w) [] (Some w) (Some v)
unfolding clap_on_literals
end_rows_store_connections v w = record {
  to = used_both file v count w;
  goes = stays (used_both file v count w);
  clean = refl;
  connections_are = refl;
  store_is = refl;
}

-- values are plain words

plain_of : (word : List ℕ) → (slice_index word 0 == 45) ≡ false → IsPlain word
plain_of [] e = plain_empty
plain_of (c ∷ rest) e = plain_first c rest e

plain_decimal : (n : ℕ) → 0 < n → n ≤ 1_000_000 → IsPlain (decimal n)
plain_decimal n some most =
    let first = first_decimal n some (omega (arith, most)) in
    plain_of (decimal n) (grind (arith, nat_tests, first))

plain_path : (path : List ℕ) → is_path path ≡ true → IsPlain path
plain_path path e = plain_of path (grind (arith, nat_tests, e))

lift : (from mid : Walk) (words rest : List Text) (a b : Option Text)
    → ((to : Walk) → Goes mid rest to → Goes from words to) → EndsWell mid rest a b → EndsWell from words a b
lift from mid words rest a b f end = record {
  to = end.to;
  goes = f end.to end.goes;
  clean = end.clean;
  connections_are = end.connections_are;
  store_is = end.store_is;
}

-- an option that stands first, and what comes after it

first_connections : (n : ℕ) (words rest : List Text) (a b : Option Text) → IsGiven (Connections n) words rest
    → EndsWell (pending count (decimal n)) rest a b → EndsWell (used count (decimal n)) rest a b
    → EndsWell start words a b
first_connections n words rest a b (some, most, inl e) two one = subst (λ ws. EndsWell start ws a b) (sym e)
    (lift start (pending count (decimal n)) (codes "--connections" ∷ decimal n ∷ rest) rest a b
    (λ to goes. two_connections [] (decimal n) rest to (plain_decimal n some most) goes) two)
first_connections n words rest a b (some, most, inr e) two one = subst (λ ws. EndsWell start ws a b) (sym e)
    (lift start (used count (decimal n)) ((codes "--connections=" ++ decimal n) ∷ rest) rest a b
    (λ to goes. one_connections (decimal n) rest to goes) one)

first_store : (p : Text) (words rest : List Text) (a b : Option Text) → IsGiven (Store p) words rest
    → EndsWell (pending file p) rest a b → EndsWell (used file p) rest a b
    → EndsWell start words a b
first_store p words rest a b (is, inl e) two one = subst (λ ws. EndsWell start ws a b) (sym e)
    (lift start (pending file p) (codes "--store" ∷ p ∷ rest) rest a b
    (λ to goes. two_store [] p rest to (plain_path p is) goes) two)
first_store p words rest a b (is, inr e) two one = subst (λ ws. EndsWell start ws a b) (sym e)
    (lift start (used file p) ((codes "--store=" ++ p) ∷ rest) rest a b (λ to goes. one_store p rest to goes) one)

-- an option that stands second and last

store_after_two : (v p : Text) (words rest : List Text) → rest ≡ [] → IsGiven (Store p) words rest
    → EndsWell (pending count v) words (Some v) (Some p)
store_after_two v p words rest last (is, inl e) =
    subst (λ ws. EndsWell (pending count v) ws (Some v) (Some p)) (sym (e ∙ ap (λ r. codes "--store" ∷ p ∷ r) last))
    (lift (pending count v) (used_pending count v file p) (codes "--store" ∷ p ∷ []) [] (Some v) (Some p)
    (λ to goes. two_store_after_two v p [] to (plain_path p is) goes) (end_row_connections_store v p))
store_after_two v p words rest last (is, inr e) =
    subst (λ ws. EndsWell (pending count v) ws (Some v) (Some p)) (sym (e ∙ ap (λ r. (codes "--store=" ++ p) ∷ r) last))
    (lift (pending count v) (used_both count v file p) ((codes "--store=" ++ p) ∷ []) [] (Some v) (Some p)
    (λ to goes. one_store_after_two v p [] to goes) (end_rows_connections_store v p))

store_after_one : (v p : Text) (words rest : List Text) → rest ≡ [] → IsGiven (Store p) words rest
    → EndsWell (used count v) words (Some v) (Some p)
store_after_one v p words rest last (is, inl e) =
    subst (λ ws. EndsWell (used count v) ws (Some v) (Some p)) (sym (e ∙ ap (λ r. codes "--store" ∷ p ∷ r) last))
    (lift (used count v) (used_pending count v file p) (codes "--store" ∷ p ∷ []) [] (Some v) (Some p)
    (λ to goes. two_store (one_row count v) p [] to (plain_path p is) goes) (end_row_connections_store v p))
store_after_one v p words rest last (is, inr e) =
    subst (λ ws. EndsWell (used count v) ws (Some v) (Some p)) (sym (e ∙ ap (λ r. (codes "--store=" ++ p) ∷ r) last))
    (lift (used count v) (used_both count v file p) ((codes "--store=" ++ p) ∷ []) [] (Some v) (Some p)
    (λ to goes. one_store_after_one v p [] to goes) (end_rows_connections_store v p))

connections_after_two : (v : Text) (n : ℕ) (words rest : List Text) → rest ≡ [] → IsGiven (Connections n) words rest
    → EndsWell (pending file v) words (Some (decimal n)) (Some v)
connections_after_two v n words rest last (some, most, inl e) =
    subst (λ ws. EndsWell (pending file v) ws (Some (decimal n)) (Some v))
    (sym (e ∙ ap (λ r. codes "--connections" ∷ decimal n ∷ r) last))
    (lift (pending file v) (used_pending file v count (decimal n)) (codes "--connections" ∷ decimal n ∷ []) []
    (Some (decimal n)) (Some v)
    (λ to goes. two_connections_after_two v (decimal n) [] to (plain_decimal n some most) goes)
    (end_row_store_connections v (decimal n)))
connections_after_two v n words rest last (some, most, inr e) =
    subst (λ ws. EndsWell (pending file v) ws (Some (decimal n)) (Some v))
    (sym (e ∙ ap (λ r. (codes "--connections=" ++ decimal n) ∷ r) last))
    (lift (pending file v) (used_both file v count (decimal n)) ((codes "--connections=" ++ decimal n) ∷ []) []
    (Some (decimal n)) (Some v)
    (λ to goes. one_connections_after_two v (decimal n) [] to goes) (end_rows_store_connections v (decimal n)))

connections_after_one : (v : Text) (n : ℕ) (words rest : List Text) → rest ≡ [] → IsGiven (Connections n) words rest
    → EndsWell (used file v) words (Some (decimal n)) (Some v)
connections_after_one v n words rest last (some, most, inl e) =
    subst (λ ws. EndsWell (used file v) ws (Some (decimal n)) (Some v))
    (sym (e ∙ ap (λ r. codes "--connections" ∷ decimal n ∷ r) last))
    (lift (used file v) (used_pending file v count (decimal n)) (codes "--connections" ∷ decimal n ∷ []) []
    (Some (decimal n)) (Some v)
    (λ to goes. two_connections (one_row file v) (decimal n) [] to (plain_decimal n some most) goes)
    (end_row_store_connections v (decimal n)))
connections_after_one v n words rest last (some, most, inr e) =
    subst (λ ws. EndsWell (used file v) ws (Some (decimal n)) (Some v))
    (sym (e ∙ ap (λ r. (codes "--connections=" ++ decimal n) ∷ r) last))
    (lift (used file v) (used_both file v count (decimal n)) ((codes "--connections=" ++ decimal n) ∷ []) []
    (Some (decimal n)) (Some v)
    (λ to goes. one_connections_after_one v (decimal n) [] to goes) (end_rows_store_connections v (decimal n)))

-- all options that stand at most once

abbrev count_text : List Given → Option Text
count_text [] = None
count_text (Connections n ∷ given) = Some (decimal n)
count_text (Store p ∷ given) = count_text given
count_text (Link ∷ given) = count_text given

given_well : (given : List Given) (words : List Text) → AreGiven given words → how_many is_connections given ≤ 1
    → how_many is_store given ≤ 1 → how_many is_link given ≡ 0
    → EndsWell start words (count_text given) (store_in given)
given_well [] words e c s l = subst (λ ws. EndsWell start ws None None) (sym e) end_empty
given_well (Link ∷ given) words is c s l = absurd (omega (arith, l))
given_well (Connections n ∷ []) words (rest, b, e) c s l =
    first_connections n words rest (Some (decimal n)) None b
    (subst (λ ws. EndsWell (pending count (decimal n)) ws (Some (decimal n)) None) (sym e)
    (end_connections (decimal n)))
    (subst (λ ws. EndsWell (used count (decimal n)) ws (Some (decimal n)) None) (sym e)
    (end_row_connections (decimal n)))
given_well (Connections n ∷ Connections m ∷ given) words is c s l = absurd (omega (arith, c))
given_well (Connections n ∷ Link ∷ given) words is c s l = absurd (omega (arith, l))
given_well (Connections n ∷ Store p ∷ []) words (rest, b, (more, d, e)) c s l =
    first_connections n words rest (Some (decimal n)) (Some p) b (store_after_two (decimal n) p rest more e d)
    (store_after_one (decimal n) p rest more e d)
given_well (Connections n ∷ Store p ∷ Connections m ∷ given) words is c s l = absurd (omega (arith, c))
given_well (Connections n ∷ Store p ∷ Store q ∷ given) words is c s l = absurd (omega (arith, s))
given_well (Connections n ∷ Store p ∷ Link ∷ given) words is c s l = absurd (omega (arith, l))
given_well (Store p ∷ []) words (rest, b, e) c s l =
    first_store p words rest None (Some p) b
    (subst (λ ws. EndsWell (pending file p) ws None (Some p)) (sym e) (end_store p))
    (subst (λ ws. EndsWell (used file p) ws None (Some p)) (sym e) (end_row_store p))
given_well (Store p ∷ Store q ∷ given) words is c s l = absurd (omega (arith, s))
given_well (Store p ∷ Link ∷ given) words is c s l = absurd (omega (arith, l))
given_well (Store p ∷ Connections n ∷ []) words (rest, b, (more, d, e)) c s l =
    first_store p words rest (Some (decimal n)) (Some p) b (connections_after_two p n rest more e d)
    (connections_after_one p n rest more e d)
given_well (Store p ∷ Connections n ∷ Connections m ∷ given) words is c s l = absurd (omega (arith, c))
given_well (Store p ∷ Connections n ∷ Store q ∷ given) words is c s l = absurd (omega (arith, s))
given_well (Store p ∷ Connections n ∷ Link ∷ given) words is c s l = absurd (omega (arith, l))

-- the number of the text

counts : (given : List Given) (words : List Text) → AreGiven given words
    → IsConnections (count_text given) (connections_in given)
counts [] words e = refl
counts (Connections n ∷ given) words (rest, b, more) = (b.0, b.1, refl)
counts (Store p ∷ given) words (rest, b, more) = counts given rest more
counts (Link ∷ given) words (rest, b, more) = counts given rest more

stores : (given : List Given) (words : List Text) → AreGiven given words → IsStore (store_in given) (store_in given)
stores [] words e = refl
stores (Connections n ∷ given) words (rest, b, more) = stores given rest more
stores (Store p ∷ given) words (rest, b, more) = (b.0, refl)
stores (Link ∷ given) words (rest, b, more) = stores given rest more

no_link : (n : ℕ) → nat_lt 0 n ≡ false → n ≡ 0
no_link n e = grind (arith, nat_tests)

-- words that are options have no fault, and their values are these options
pub clap_reads : (words : List Bytes) (options : Options) → options.link ≡ false → AreOptions options words
    → (fault_of serve_app words ≡ []) × AreValues (matches_of serve_app words) options
clap_reads words options link (given, are, same, c, s, l) =
    let none : how_many is_link given ≡ 0 = no_link (how_many is_link given) (ap (λ o. o.link) (sym same) ∙ link) in
    let read = reads_of words (count_text given) (store_in given) (given_well given words are c s none) in
    let number : IsConnections (count_text given) options.connections =
    subst (λ n. IsConnections (count_text given) n) (ap (λ o. o.connections) (sym same)) (counts given words are) in
    let path : IsStore (store_in given) options.store =
    subst (λ p. IsStore (store_in given) p) (ap (λ o. o.store) (sym same)) (stores given words are) in (
      read.clean,
      (
        subst (λ t. IsConnections t options.connections) (sym read.connections_are) number,
        subst
            (λ t. IsStore t options.store) (sym read.store_is) path,
      ),
    )
