-- The same bytes are at most one script, and a script has no faulty line. Two readings cut the same first line, and a line that is spelled and may stand
-- there is what reading the line gives, so it is the same line; and so on with the rest.
use Rattle.std.proofs.Common.{◌≡◌, ◌≢◌, ◌+◌, ◌≤◌, List, [], ◌∷◌, ◌++◌, length, refl, sym, ap, subst, ◌∙◌, arith, append_assoc, length-append}
use Rattle.std.specs.Prelude.{All, IsUtf8}
use Rattle.std.proofs.lemmas.Option.{same_Some}
use Rattle.wiki_model.specs.Bytes.{Bytes}
use Rattle.wiki_model.specs.Script.{Line, Spells, AreLines, MayFollow, IsScript}
use Rattle.drill_script.specs.Laws.{ScriptsAreOne, ScriptsHaveNoFault}
use Rattle.drill_script.specs.ScriptState.{state_after, noted, IsStateOf, IsNextLine}
use Rattle.drill_script.specs.declared.script_state.ScriptState.{ScriptState}
use Rattle.drill_script.proofs.Faults.{same_line}
use Rattle.drill_script.proofs.States.{next_is_read, state_on}

nothing_cut : (text more : Bytes) → [] ≡ text ++ 10 ∷ more → ⊥
nothing_cut [] more e = cc
nothing_cut (c ∷ text) more e = cc

next_same : (earlier : List Line) (state : ScriptState) (line other : Line) (text : Bytes) → IsStateOf state earlier → IsNextLine earlier line text → IsNextLine earlier other text → line ≡ other
next_same earlier state line other text is a b = same_Some line other (sym (next_is_read state text earlier line is a) ∙ next_is_read state text earlier other is b)

same_lines : (earlier lines others : List Line) (bytes : Bytes) (state : ScriptState) → IsStateOf state earlier → AreLines earlier lines bytes → AreLines earlier others bytes → lines ≡ others
same_lines earlier [] [] bytes state is a b = refl
same_lines earlier [] (other ∷ others) bytes state is a (text, rest, whole, bare, utf8, spelled, may, more) = absurd (nothing_cut text rest (sym a ∙ whole))
same_lines earlier (line ∷ lines) [] bytes state is (text, rest, whole, bare, utf8, spelled, may, more) b = absurd (nothing_cut text rest (sym b ∙ whole))
same_lines earlier (line ∷ lines) (other ∷ others) bytes state is (text, rest, whole, bare, utf8, spelled, may, more) (text2, rest2, whole2, bare2, utf82, spelled2, may2, more2) =
    let cut = same_line text text2 rest rest2 bare bare2 (sym whole ∙ whole2) in
    let a : IsNextLine earlier line text = record { utf8 = utf8; spelled = spelled; follows = may } in
    let b : IsNextLine earlier other text = record { utf8 = utf8; spelled = subst (Spells other) (sym cut.0) spelled2; follows = may2 } in
    let one : line ≡ other = next_same earlier state line other text is a b in
    let next : IsStateOf (noted state line) (earlier ++ line ∷ []) = state_on state (noted state line) line text earlier (next_is_read state text earlier line is a) refl is in
    let same_rest : AreLines (earlier ++ line ∷ []) others rest = subst (λ (x : Bytes). AreLines (earlier ++ line ∷ []) others x) (sym cut.1) (subst (λ (l : Line). AreLines (earlier ++ l ∷ []) others rest2) (sym one) more2) in
    ap (λ l. l ∷ lines) one ∙ ap (λ ls. other ∷ ls) (same_lines (earlier ++ line ∷ []) lines others rest (noted state line) next more same_rest)

at_start : IsStateOf (state_after []) []
at_start = record { same = refl; few_home = omega arith; few_west = omega arith }

pub scripts-are-one : ScriptsAreOne
scripts-are-one lines others bytes a b = same_lines [] lines others bytes (state_after []) at_start a.lines_read b.lines_read

-- no line of these bytes goes on after the earlier ones
abbrev NoneGoesOn : (earlier : List Line) → (rest : Bytes) → Type 0
NoneGoesOn earlier rest = (line : Line) (text more : Bytes) → rest ≡ text ++ 10 ∷ more → All (λ c. c ≢ 10) text → IsUtf8 text
    → Spells line text → MayFollow earlier line → ⊥

-- lines that are read so far are the first ones of the script, and the next one goes on
goes_on : (earlier found lines : List Line) (prefix rest bytes : Bytes) (state : ScriptState) → IsStateOf state earlier → bytes ≡ prefix ++ rest → AreLines earlier found prefix → AreLines earlier lines bytes
    → (found ≡ lines → ⊥) → NoneGoesOn (earlier ++ found) rest → ⊥
goes_on earlier [] [] prefix rest bytes state is all found lines differ none = differ refl
goes_on earlier [] (line ∷ lines) prefix rest bytes state is all found (text, after, whole, bare, utf8, spelled, may, more) differ none =
    let left : rest ≡ text ++ 10 ∷ after = sym (ap (λ p. p ++ rest) found) ∙ sym all ∙ whole in
    none line text after left bare utf8 spelled (subst (λ (l : List Line). MayFollow l line) (sym (Rattle.std.proofs.lemmas.List.append-nil earlier)) may)
goes_on earlier (first ∷ found) [] prefix rest bytes state is all (text, after, whole, bare, utf8, spelled, may, others) lines differ none =
    nothing_cut text (after ++ rest) (sym lines ∙ all ∙ ap (λ p. p ++ rest) whole ∙ append_assoc text (10 ∷ after) rest)
goes_on earlier (first ∷ found) (line ∷ lines) prefix rest bytes state is all (text, after, whole, bare, utf8, spelled, may, others) (text2, after2, whole2, bare2, utf82, spelled2, may2, more2) differ none =
    let joined : text ++ 10 ∷ (after ++ rest) ≡ text2 ++ 10 ∷ after2 = sym (append_assoc text (10 ∷ after) rest) ∙ sym (ap (λ p. p ++ rest) whole) ∙ sym all ∙ whole2 in
    let cut = same_line text text2 (after ++ rest) after2 bare bare2 joined in
    let a : IsNextLine earlier first text = record { utf8 = utf8; spelled = spelled; follows = may } in
    let b : IsNextLine earlier line text = record { utf8 = utf8; spelled = subst (Spells line) (sym cut.0) spelled2; follows = may2 } in
    let one : first ≡ line = next_same earlier state first line text is a b in
    let next : IsStateOf (noted state first) (earlier ++ first ∷ []) = state_on state (noted state first) first text earlier (next_is_read state text earlier first is a) refl is in
    let same_rest : AreLines (earlier ++ first ∷ []) lines after2 = subst (λ (l : Line). AreLines (earlier ++ l ∷ []) lines after2) (sym one) more2 in
    goes_on (earlier ++ first ∷ []) found lines after rest after2 (noted state first) next (sym cut.1) others same_rest
    (λ same. differ (ap (λ l. l ∷ found) one ∙ ap (λ ls. line ∷ ls) same))
    (subst (λ (l : List Line). NoneGoesOn l rest) (sym (append_assoc earlier (first ∷ []) found)) none)

pub scripts-have-no-fault : ScriptsHaveNoFault
scripts-have-no-fault lines bytes n script fault =
    goes_on [] fault.lines lines fault.prefix fault.rest bytes (state_after []) at_start fault.all fault.lines_read script.lines_read
    (λ same. fault.not_whole (subst (λ (ls : List Line). IsScript ls bytes) (sym same) script))
    (λ line text more left bare utf8 spelled may. fault.no_more line text more left bare utf8 (fits text more left) spelled may)
  where
    fits : (text more : Bytes) → fault.rest ≡ text ++ 10 ∷ more → length (fault.prefix ++ text ++ 10 ∷ []) ≤ Rattle.wiki_model.specs.Limits.script_max
    fits text more left =
        let whole : bytes ≡ (fault.prefix ++ text ++ 10 ∷ []) ++ more = fault.all ∙ ap (λ r. fault.prefix ++ r) left ∙ sym (append_assoc fault.prefix text (10 ∷ more)) ∙ sym (append_assoc (fault.prefix ++ text) (10 ∷ []) more) in
        let size : length bytes ≡ length (fault.prefix ++ text ++ 10 ∷ []) + length more = ap length whole ∙ length-append (fault.prefix ++ text ++ 10 ∷ []) more in
        omega (arith, size, script.small)
