-- Reading line by line finds the first line that is none. What was read is a prefix of the bytes; whatever the reader
-- refuses next, no line of the bytes goes on from there, since a first line and its line feed stand at one place only.
use Rattle.std.proofs.Common.{◌≡◌, ◌≢◌, ℕ, ◌≤◌, ◌+◌, Bool, true, false, cond, ◌&&◌, ◌||◌, List, [], ◌∷◌, ◌++◌, length, Option, None, Some, refl, sym, ap, subst, ◌∙◌, arith, append_assoc, append-nil, option_map}
use Rattle.std.specs.Prelude.{IsUtf8, nat_eq}
use Rattle.std.proofs.lemmas.Bool.Decides.{nat_tests}
use Rattle.std.proofs.lemmas.List.{length-append}
use Rattle.std.proofs.lemmas.List.Elements.{All-cons, All-nil, All-head, All-tail}
use Rattle.wiki_model.specs.Bytes.{Bytes, cut_at}
use Rattle.wiki_model.specs.Limits.{script_max}
use Rattle.wiki_model.specs.Script.{Line, AreLines, IsScript, IsFirstFault, MayFollow, Spells}
use Rattle.wiki_model.specs.Script.Line.{End}
use Rattle.drill_script.specs.declared.script_state.ScriptState.{ScriptState}
use Rattle.drill_script.specs.ScriptState.{is_end, has_end, IsStateOf, IsNextLine}
use Rattle.drill_script.specs.ReadSoFar.{IsLineOfBytes, IsLineCut, IsReadSoFar}
use Rattle.drill_script.proofs.States.{is_the_end, end_more, ends_not}

-- The first line

abbrev NoFeed : ℕ → Type 0
NoFeed c = c ≢ 10

line_cut_is : (bytes : Bytes) → IsLineCut bytes (cut_at (10 ∷ []) bytes)
line_cut_is [] = All-nil NoFeed
line_cut_is (c ∷ bytes) = by_test (nat_eq 10 c) refl (cut_at (10 ∷ []) bytes) (line_cut_is bytes)
  where
    by_test : (t : Bool) → nat_eq 10 c ≡ t → (o : Option (Bytes × Bytes)) → IsLineCut bytes o →
        IsLineCut (c ∷ bytes) (cond (t && true) (Some ([], bytes)) (option_map (λ (p : Bytes × Bytes). (c ∷ p.0, p.1)) o))
    by_test true q o ih = let first : c ≡ 10 = grind (arith, nat_tests, q) in (ap (λ x. x ∷ bytes) first, All-nil NoFeed)
    by_test false q None ih = All-cons NoFeed c bytes (λ e. grind (arith, nat_tests, q, e)) ih
    by_test false q (Some p) (is, none) = (ap (λ l. c ∷ l) is, All-cons NoFeed c p.0 (λ e. grind (arith, nat_tests, q, e)) none)

pub line_cut : (bytes : Bytes) (o : Option (Bytes × Bytes)) → o ≡ cut_at (10 ∷ []) bytes → IsLineCut bytes o
line_cut bytes o e = subst (IsLineCut bytes) (sym e) (line_cut_is bytes)

-- a line and its line feed stand at one place
pub same_line : (text other rest more : Bytes) → IsLineOfBytes text → IsLineOfBytes other → text ++ 10 ∷ rest ≡ other ++ 10 ∷ more → (text ≡ other) × (rest ≡ more)
same_line [] [] rest more a b e = let same : rest ≡ more = cc in (refl, same)
same_line [] (d ∷ other) rest more a b e = let same : 10 ≡ d = cc in absurd (All-head NoFeed d other b (sym same))
same_line (c ∷ text) [] rest more a b e = let same : c ≡ 10 = cc in absurd (All-head NoFeed c text a same)
same_line (c ∷ text) (d ∷ other) rest more a b e =
    let first : c ≡ d = cc in
    let rest_is : text ++ 10 ∷ rest ≡ other ++ 10 ∷ more = cc in
    let others = same_line text other rest more (All-tail NoFeed c text a) (All-tail NoFeed d other b) rest_is in
    (ap (λ x. x ∷ text) first ∙ ap (λ xs. d ∷ xs) others.0, others.1)

no_feed_in : (rest text more : Bytes) → IsLineOfBytes rest → rest ≡ text ++ 10 ∷ more → ⊥
no_feed_in [] [] more a e = cc
no_feed_in [] (c ∷ text) more a e = cc
no_feed_in (d ∷ rest) [] more a e = let same : d ≡ 10 = cc in All-head NoFeed d rest a same
no_feed_in (d ∷ rest) (c ∷ text) more a e = let others : rest ≡ text ++ 10 ∷ more = cc in no_feed_in rest text more (All-tail NoFeed d rest a) others

-- Lines of a prefix

-- the same lines leave the same bytes
nothing_left : (earlier lines : List Line) (prefix rest : Bytes) → AreLines earlier lines prefix → AreLines earlier lines (prefix ++ rest) → rest ≡ []
nothing_left earlier [] prefix rest a b = sym (ap (λ p. p ++ rest) a) ∙ b
nothing_left earlier (line ∷ lines) prefix rest (text, after, is, none, utf8, spelled, may, others) (text2, after2, is2, none2, utf82, spelled2, may2, others2) =
    let whole : text ++ 10 ∷ (after ++ rest) ≡ text2 ++ 10 ∷ after2 = sym (append_assoc text (10 ∷ after) rest) ∙ sym (ap (λ p. p ++ rest) is) ∙ is2 in
    let same = same_line text text2 (after ++ rest) after2 none none2 whole in
    nothing_left (earlier ++ line ∷ []) lines after rest others (subst (AreLines (earlier ++ line ∷ []) lines) (sym same.1) others2)

-- one more line
one_more : (earlier lines : List Line) (prefix : Bytes) (line : Line) (text : Bytes) → AreLines earlier lines prefix → IsLineOfBytes text → IsUtf8 text → Spells line text → MayFollow (earlier ++ lines) line → AreLines earlier (lines ++ line ∷ []) (prefix ++ (text ++ 10 ∷ []))
one_more earlier [] prefix line text a none utf8 spelled may =
    (text, [], ap (λ p. p ++ (text ++ 10 ∷ [])) a, none, utf8, spelled, subst (λ (l : List Line). MayFollow l line) (append-nil earlier) may, refl)
one_more earlier (first ∷ lines) prefix line text (t, after, is, bare, u, s, m, others) none utf8 spelled may = (
  t,
  after ++ (text ++ 10 ∷ []),
  ap (λ p. p ++ (text ++ 10 ∷ [])) is ∙ append_assoc t (10 ∷ after) (text ++ 10 ∷ []),
  bare,
  u,
  s,
  m,
  one_more (earlier ++ first ∷ []) lines after line text others none utf8 spelled (subst (λ (l : List Line). MayFollow l line) (sym (append_assoc earlier (first ∷ []) lines)) may),
)

ended_has : (before : List Line) → has_end (before ++ End ∷ []) ≡ true
ended_has [] = refl
ended_has (line ∷ before) = ap (λ b. is_end line || b) (ended_has before) ∙ or_true (is_end line)
  where
    or_true : (b : Bool) → (b || true) ≡ true
    or_true true = refl
    or_true false = refl

not_both : true ≡ false → ⊥
not_both e = cc

module _ (bytes : Bytes) (lines : List Line) (state : ScriptState) (room : ℕ) where
  -- a rest that is not empty is none of the script
  not_whole : (rest : Bytes) → IsReadSoFar bytes rest lines state room → rest ≢ [] → IsScript lines bytes → ⊥
  not_whole rest r some s = some (nothing_left [] lines r.prefix rest r.lines_read (subst (AreLines [] lines) r.whole s.lines_read))

  filled : (text after : Bytes) → text ++ 10 ∷ after ≢ []
  filled [] after e = cc
  filled (c ∷ text) after e = cc

  small : (rest : Bytes) → (r : IsReadSoFar bytes rest lines state room) → length r.prefix ≤ script_max
  small rest r = let left = r.left in omega (arith, left)

  -- no line of these bytes may stand there
  pub faulty_line : (rest text after : Bytes) → IsReadSoFar bytes rest lines state room → rest ≡ text ++ 10 ∷ after → IsLineOfBytes text
      → ((earlier : List Line) (line : Line) → IsStateOf state earlier → IsNextLine earlier line text → ⊥) → IsFirstFault bytes (length lines + 1)
  faulty_line rest text after r is none refused = record {
    lines = lines;
    prefix = r.prefix;
    rest = rest;
    all = r.whole;
    lines_read = r.lines_read;
    small = small rest r;
    number = refl;
    not_whole = not_whole rest r (subst (λ (l : Bytes). l ≢ []) (sym is) (filled text after));
    no_more = λ line other more e bare utf8 few spelled may.
        let same = same_line other text more after bare none (sym e ∙ is) in
        refused lines line r.state_is (record { utf8 = subst IsUtf8 same.0 utf8; spelled = subst (Spells line) same.0 spelled; follows = may });
  }

  -- the line and its line feed go past the greatest length
  pub long_line : (rest text after : Bytes) → IsReadSoFar bytes rest lines state room → rest ≡ text ++ 10 ∷ after → IsLineOfBytes text → room ≤ length text → IsFirstFault bytes (length lines + 1)
  long_line rest text after r is none long = record {
    lines = lines;
    prefix = r.prefix;
    rest = rest;
    all = r.whole;
    lines_read = r.lines_read;
    small = small rest r;
    number = refl;
    not_whole = not_whole rest r (subst (λ (l : Bytes). l ≢ []) (sym is) (filled text after));
    no_more = λ line other more e bare utf8 few spelled may.
        let same = same_line other text more after bare none (sym e ∙ is) in
        let short : length (r.prefix ++ text ++ 10 ∷ []) ≤ script_max = subst (λ (t : Bytes). length (r.prefix ++ t ++ 10 ∷ []) ≤ script_max) same.0 few in
        let a = length-append r.prefix (text ++ 10 ∷ []) in
        let b = length-append text (10 ∷ []) in
        let c = length-append (r.prefix ++ text) (10 ∷ []) in
        let d = length-append r.prefix text in
        let left = r.left in
        omega (arith, short, a, b, c, d, left, long);
  }

  -- no line is left, and `end` was not the last one
  pub missing_line : (rest : Bytes) → IsReadSoFar bytes rest lines state room → IsLineOfBytes rest → (rest ≡ [] → state.ended ≡ false) → IsFirstFault bytes (length lines + 1)
  missing_line rest r none open_end = record {
    lines = lines;
    prefix = r.prefix;
    rest = rest;
    all = r.whole;
    lines_read = r.lines_read;
    small = small rest r;
    number = refl;
    not_whole = λ s.
        let nothing = nothing_left [] lines r.prefix rest r.lines_read (subst (AreLines [] lines) r.whole s.lines_read) in
        let has : has_end lines ≡ true = ap has_end s.ended.1 ∙ ended_has s.ended.0 in
        not_both (sym has ∙ sym (ap (λ (t : ScriptState). t.ended) r.state_is.same) ∙ open_end nothing);
    no_more = λ line other more e bare utf8 few spelled may. no_feed_in rest other more none e;
  }

  -- all is read
  pub whole_script : IsReadSoFar bytes [] lines state room → state.ended ≡ true → IsScript lines bytes
  whole_script r is = record {
    lines_read = subst (AreLines [] lines) (sym (r.whole ∙ append-nil r.prefix)) r.lines_read;
    ended = r.ended is;
    small = subst (λ (l : Bytes). length l ≤ script_max) (sym (r.whole ∙ append-nil r.prefix)) (small [] r);
  }

  -- one more line is read
  pub line_on : (rest text after : Bytes) (line : Line) (new : ScriptState) (left : ℕ) → IsReadSoFar bytes rest lines state room → rest ≡ text ++ 10 ∷ after → IsLineOfBytes text
      → IsNextLine lines line text → IsStateOf new (lines ++ line ∷ []) → left + (length text + 1) ≡ room → IsReadSoFar bytes after (lines ++ line ∷ []) new left
  line_on rest text after line new left r is none next state_is fewer = record {
    prefix = r.prefix ++ (text ++ 10 ∷ []);
    whole = r.whole ∙ ap (λ l. r.prefix ++ l) (is ∙ sym (append_assoc text (10 ∷ []) after)) ∙ sym (append_assoc r.prefix (text ++ 10 ∷ []) after);
    lines_read = one_more [] lines r.prefix line text r.lines_read none next.utf8 next.spelled next.follows;
    state_is = state_is;
    ended = λ e. last_end (sym (ap (λ (t : ScriptState). t.ended) state_is.same) ∙ e);
    left =
        let a = length-append r.prefix (text ++ 10 ∷ []) in
        let b = length-append text (10 ∷ []) in
        let old = r.left in
        omega (arith, a, b, old, fewer);
  }
    where
      last_end : has_end (lines ++ line ∷ []) ≡ true → (before : List Line) × (lines ++ line ∷ [] ≡ before ++ End ∷ [])
      last_end e = (lines, ap (λ l. lines ++ l ∷ []) (is_the_end line (sym (ap (λ b. b || is_end line) (ends_not lines next.follows.0)) ∙ sym (end_more lines line) ∙ e)))

pub nothing_read : (bytes : Bytes) (state : ScriptState) → IsStateOf state [] → IsReadSoFar bytes bytes [] state script_max
nothing_read bytes state is = record {
  prefix = [];
  whole = refl;
  lines_read = refl;
  state_is = is;
  ended = λ e. absurd (not_both (sym e ∙ ap (λ (t : ScriptState). t.ended) is.same));
  left = omega arith;
}
