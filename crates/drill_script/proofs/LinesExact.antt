-- A line is read exactly where its bytes spell it, and so bytes spell at most one line.
use Rattle.std.proofs.Common.{◌≡◌, ℕ, zero, ◌<◌, ◌≤◌, ◌-◌, ◌^◌, Bool, true, false, cond, not, ◌==◌, [], ◌∷◌, ◌++◌, Option, None, Some, refl, sym, ap, subst, ◌∙◌, arith, ◌⊎◌, inl, inr, suc}
use Rattle.std.specs.Prelude.{codes, decimal, IsUtf8}
use Rattle.std.specs.List.{list_all}
use Rattle.std.specs.Str.{bytes_eq, is_utf8}
use Rattle.std.proofs.lemmas.Option.{none-some, same_Some}
use Rattle.std.proofs.lemmas.Str.{IsUtf8-from_is_utf8, is_utf8-from_IsUtf8}
use Rattle.wiki_model.specs.Bytes.{Bytes}
use Rattle.wiki_model.specs.Limits.{number_limit, id_limit}
use Rattle.wiki_model.specs.World.{Asked}
use Rattle.wiki_model.specs.World.Asked.{AskedView, AskedEdit}
use Rattle.wiki_model.specs.Script.{Line, words, weights_word, region_word, SpellsAsked, SpellsId, SpellsNumber, Spells}
use Rattle.wiki_model.specs.Script.Line.{FarmLine, BoundsLine, At, BeatLine, ApplyLine, EditLine, ViewLine, Open, BeginLine, CommitLine, WaitLine, LookLine, SnapLine, StoreLine, CarryLine, DropLine, MarkupLine, End}
use Rattle.drill_script.specs.Words.{◌>>=◌, word_at, number_of, positive_of, largest}
use Rattle.drill_script.specs.Forms.{edit_in, view_in, asked_named, asked_in, open_in, farm_in, bounds_in, at_in, apply_in, id_line, number_line, numbered, named, worded, said_by, line_in}
use Rattle.drill_script.proofs.Cuts.{Without, cut_found, cut_made, all_without}
use Rattle.drill_script.proofs.Exact.{bind_some, bind_is}
use Rattle.drill_script.proofs.WordsExact.{decimal_without, same_bytes, fits, number_said, positive_said, number_read, positive_read}
use Rattle.drill_script.proofs.FormsExact.{edit_exact, edit_said, edit_spelled, SpellsEditWords, view_exact, view_said, view_spelled, SpellsViewWords, farm_exact, bounds_exact, at_exact, apply_exact, id_fits}

-- a replica's number is read up to the greatest
abbrev pub HasReplica : ℕ → Line → Type 0
HasReplica greatest (ApplyLine r replica count) = replica ≤ greatest
HasReplica greatest _ = Unit {0}

pub record IsSpelled (greatest : ℕ) (line : Line) (b : Bytes) : Type 0 where
  pub spelled : Spells line b
  pub replica : HasReplica greatest line

-- one more test of a name
choose : (P : Type 0) (a w : Bytes) (f g : Option Line) (l : Line) → cond (bytes_eq a w) f g ≡ Some l → (a ≡ w → f ≡ Some l → P) → (g ≡ Some l → P) → P
choose P a w f g l e yes_so or_else = by_test (bytes_eq a w) refl e
  where
    by_test : (t : Bool) → bytes_eq a w ≡ t → cond t f g ≡ Some l → P
    by_test true q k = yes_so (same_bytes a w q) k
    by_test false q k = or_else k

-- the bytes of a line by its first word
begun : (b name r w : Bytes) → b ≡ name ++ 32 ∷ r → name ≡ w → b ≡ w ++ 32 ∷ r
begun b name r w whole is = whole ∙ ap (λ n. n ++ 32 ∷ r) is

-- a literal has no space
plain : (w : Bytes) → list_all (λ c. not (c == 32)) w ≡ true → Without 32 w
plain w t = all_without (λ c. not (c == 32)) 32 refl w t

worded_is : (greatest : ℕ) (name r : Bytes) → list_all (λ c. not (c == 32)) name ≡ true → worded greatest (name ++ 32 ∷ r) ≡ named greatest name r
unfolding worded
worded_is greatest name r t = bind_is (word_at (name ++ 32 ∷ r)) (name, r) (λ p. named greatest p.0 p.1) (cut_made 32 name r (plain name t))

-- Requests

asked_choose : (P : Type 0) (a w : Bytes) (f g : Option Asked) (l : Asked) → cond (bytes_eq a w) f g ≡ Some l → (a ≡ w → f ≡ Some l → P) → (g ≡ Some l → P) → P
asked_choose P a w f g l e yes_so or_else = by_test (bytes_eq a w) refl e
  where
    by_test : (t : Bool) → bytes_eq a w ≡ t → cond t f g ≡ Some l → P
    by_test true q k = yes_so (same_bytes a w q) k
    by_test false q k = or_else k

abbrev opens : (id r : Bytes) → Bytes
opens id r = codes "open" ++ 32 ∷ (id ++ 32 ∷ r)

module _ (id : Bytes) (asked : Asked) where
  abbrev IsOpen : Bytes → Type 0
  IsOpen b = SpellsAsked (codes "open" ∷ id ∷ []) asked b

  edit_case : (r rest : Bytes) → r ≡ codes "edit" ++ 32 ∷ rest → (edit_in rest >>= (λ edit. Some (AskedEdit edit))) ≡ Some asked → IsOpen (opens id r)
  edit_case r rest is k =
      let one = bind_some (edit_in rest) (λ edit. Some (AskedEdit edit)) asked k in
      let (client, token, title, text, is_client, is_token, is_title, is_text, less, more) = edit_said one.0 rest (edit_exact.sound rest one.0 one.1) in
      subst (λ a. SpellsAsked (codes "open" ∷ id ∷ []) a (opens id r)) (same_Some (AskedEdit one.0) asked one.2)
      (client, token, title, text, is_client, is_token, is_title, is_text, less, ap (opens id) (is ∙ ap (λ l. codes "edit" ++ 32 ∷ l) more))

  view_case : (r rest : Bytes) → r ≡ codes "view" ++ 32 ∷ rest → (view_in rest >>= (λ view. Some (AskedView view))) ≡ Some asked → IsOpen (opens id r)
  view_case r rest is k =
      let one = bind_some (view_in rest) (λ view. Some (AskedView view)) asked k in
      let (client, cookie, title, is_client, is_cookie, is_title, less, more) = view_said one.0 rest (view_exact.sound rest one.0 one.1) in
      subst (λ a. SpellsAsked (codes "open" ∷ id ∷ []) a (opens id r)) (same_Some (AskedView one.0) asked one.2)
      (client, cookie, title, is_client, is_cookie, is_title, less, ap (opens id) (is ∙ ap (λ l. codes "view" ++ 32 ∷ l) more))

  asked_said : (r : Bytes) → asked_in r ≡ Some asked → IsOpen (opens id r)
  unfolding asked_in
  asked_said r e =
      let cut = bind_some (word_at r) (λ p. asked_named p.0 p.1) asked e in
      let name = cut.0.0 in
      let rest = cut.0.1 in
      let parts = cut_found 32 r name rest cut.1 in
      asked_choose (IsOpen (opens id r)) name (codes "edit") (edit_in rest >>= (λ edit. Some (AskedEdit edit))) (cond (bytes_eq name (codes "view")) (view_in rest >>= (λ view. Some (AskedView view))) None) asked cut.2
      (λ is k. edit_case r rest (begun r name rest (codes "edit") parts.0 is) k)
      (λ k. asked_choose (IsOpen (opens id r)) name (codes "view") (view_in rest >>= (λ view. Some (AskedView view))) None asked k
      (λ is j. view_case r rest (begun r name rest (codes "view") parts.0 is) j)
      (λ j. absurd (none-some _ j)))

asked_is : (name rest : Bytes) → list_all (λ c. not (c == 32)) name ≡ true → asked_in (name ++ 32 ∷ rest) ≡ asked_named name rest
unfolding asked_in
asked_is name rest t = bind_is (word_at (name ++ 32 ∷ rest)) (name, rest) (λ p. asked_named p.0 p.1) (cut_made 32 name rest (plain name t))

-- what is spelled after `open` and the id is read
asked_read : (id : Bytes) (asked : Asked) (b : Bytes) → SpellsAsked (codes "open" ∷ id ∷ []) asked b → (r : Bytes) × (b ≡ opens id r) × (asked_in r ≡ Some asked)
asked_read id (AskedEdit edit) b (client, token, title, text, is_client, is_token, is_title, is_text, less, whole) =
    let rest : Bytes = words (client ∷ token ∷ title ∷ decimal edit.base ∷ text ∷ []) in
    let spelled : SpellsEditWords edit rest = (client, token, title, text, is_client, is_token, is_title, is_text, less, refl) in
    (codes "edit" ++ 32 ∷ rest, whole, asked_is (codes "edit") rest refl ∙ bind_is (edit_in rest) edit (λ e. Some (AskedEdit e)) (edit_exact.complete rest edit (edit_spelled edit rest spelled)))
asked_read id (AskedView view) b (client, cookie, title, is_client, is_cookie, is_title, less, whole) =
    let rest : Bytes = words (region_word view.host ∷ client ∷ cookie ∷ decimal view.word ∷ title ∷ []) in
    let spelled : SpellsViewWords view rest = (client, cookie, title, is_client, is_cookie, is_title, less, refl) in
    (codes "view" ++ 32 ∷ rest, whole, asked_is (codes "view") rest refl ∙ bind_is (view_in rest) view (λ v. Some (AskedView v)) (view_exact.complete rest view (view_spelled view rest spelled)))

-- Each form after its name, soundly

module _ (greatest : ℕ) (h : greatest < 2 ^ 64) (line : Line) (r b : Bytes) where
  abbrev Is : Type 0
  Is = IsSpelled greatest line b

  farm_said : b ≡ codes "farm" ++ 32 ∷ r → farm_in r ≡ Some line → Is
  farm_said whole e =
      let a = farm_exact.sound r line e in
      let c = a.is_rest in
      let d = c.is_rest in
      subst (λ l. IsSpelled greatest l b) d.made (record {
        spelled = (
          (a.is_word.0, a.is_word.1, a.is_word.2),
          (c.is_word.0, c.is_word.1, c.is_word.2),
          d.is_rest.0,
          whole ∙ ap (λ l. codes "farm" ++ 32 ∷ l) (a.whole ∙ ap (λ l. l ++ 32 ∷ a.rest) a.is_word.3 ∙ ap (λ l. weights_word a.said ++ 32 ∷ l) (c.whole ∙ ap (λ l. l ++ 32 ∷ c.rest) c.is_word.3 ∙ ap (λ l. weights_word c.said ++ 32 ∷ l) d.is_rest.1)),
        );
        replica = tt;
      })

  bounds_said : b ≡ codes "bounds" ++ 32 ∷ r → bounds_in r ≡ Some line → Is
  bounds_said whole e =
      let a = bounds_exact.sound r line e in
      let c = a.is_rest in
      let d = c.is_rest in
      subst (λ l. IsSpelled greatest l b) d.made (record {
        spelled = (
          (a.is_word.0, c.is_word.0, d.is_rest.0, d.is_rest.1),
          whole ∙ ap (λ l. codes "bounds" ++ 32 ∷ l) (a.whole ∙ ap (λ l. l ++ 32 ∷ a.rest) a.is_word.1 ∙ ap (λ l. decimal a.said ++ 32 ∷ l) (c.whole ∙ ap (λ l. l ++ 32 ∷ c.rest) c.is_word.1 ∙ ap (λ l. decimal c.said ++ 32 ∷ l) d.is_rest.2)),
        );
        replica = tt;
      })

  at_said : b ≡ codes "at" ++ 32 ∷ r → at_in r ≡ Some line → Is
  at_said whole e =
      let a = at_exact.sound r line e in
      let c = a.is_rest in
      subst (λ l. IsSpelled greatest l b) c.made (record {
        spelled = (a.is_word.0, c.is_rest.0, whole ∙ ap (λ l. codes "at" ++ 32 ∷ l) (a.whole ∙ ap (λ l. l ++ 32 ∷ a.rest) a.is_word.1 ∙ ap (λ l. decimal a.said ++ 32 ∷ l) c.is_rest.1));
        replica = tt;
      })

  apply_said : b ≡ codes "apply" ++ 32 ∷ r → apply_in greatest r ≡ Some line → Is
  apply_said whole e =
      let a = (apply_exact greatest h).sound r line e in
      let c = a.is_rest in
      let d = c.is_rest in
      subst (λ l. IsSpelled greatest l b) d.made (record {
        spelled = (
          d.is_rest.0,
          d.is_rest.1,
          whole ∙ ap (λ l. codes "apply" ++ 32 ∷ l) (a.whole ∙ ap (λ l. l ++ 32 ∷ a.rest) a.is_word ∙ ap (λ l. region_word a.said ++ 32 ∷ l) (c.whole ∙ ap (λ l. l ++ 32 ∷ c.rest) c.is_word.1 ∙ ap (λ l. decimal c.said ++ 32 ∷ l) d.is_rest.2)),
        );
        replica = c.is_word.0;
      })

  edit_line_said : b ≡ codes "edit" ++ 32 ∷ r → (edit_in r >>= (λ edit. Some (EditLine edit))) ≡ Some line → Is
  edit_line_said whole e =
      let one = bind_some (edit_in r) (λ edit. Some (EditLine edit)) line e in
      let (client, token, title, text, is_client, is_token, is_title, is_text, less, more) = edit_said one.0 r (edit_exact.sound r one.0 one.1) in
      subst (λ l. IsSpelled greatest l b) (same_Some (EditLine one.0) line one.2) (record {
        spelled = (client, token, title, text, is_client, is_token, is_title, is_text, less, whole ∙ ap (λ l. codes "edit" ++ 32 ∷ l) more);
        replica = tt;
      })

  view_line_said : b ≡ codes "view" ++ 32 ∷ r → (view_in r >>= (λ view. Some (ViewLine view))) ≡ Some line → Is
  view_line_said whole e =
      let one = bind_some (view_in r) (λ view. Some (ViewLine view)) line e in
      let (client, cookie, title, is_client, is_cookie, is_title, less, more) = view_said one.0 r (view_exact.sound r one.0 one.1) in
      subst (λ l. IsSpelled greatest l b) (same_Some (ViewLine one.0) line one.2) (record {
        spelled = (client, cookie, title, is_client, is_cookie, is_title, less, whole ∙ ap (λ l. codes "view" ++ 32 ∷ l) more);
        replica = tt;
      })

  open_said : b ≡ codes "open" ++ 32 ∷ r → open_in r ≡ Some line → Is
  unfolding open_in
  open_said whole e =
      let cut = bind_some (word_at r) (λ p. positive_of (id_limit - 1) p.0 >>= (λ id. asked_in p.1 >>= (λ asked. Some (Open id asked)))) line e in
      let id = bind_some (positive_of (id_limit - 1) cut.0.0) (λ id. asked_in cut.0.1 >>= (λ asked. Some (Open id asked))) line cut.2 in
      let asked = bind_some (asked_in cut.0.1) (λ asked. Some (Open id.0 asked)) line id.2 in
      let (some, le, is) = positive_said id.0 (id_limit - 1) cut.0.0 id_fits id.1 in
      let parts = cut_found 32 r cut.0.0 cut.0.1 cut.1 in
      let all : b ≡ opens (decimal id.0) cut.0.1 = whole ∙ ap (λ l. codes "open" ++ 32 ∷ l) (parts.0 ∙ ap (λ l. l ++ 32 ∷ cut.0.1) is) in
      subst (λ l. IsSpelled greatest l b) (same_Some (Open id.0 asked.0) line asked.2) (record {
        spelled = ((some, omega (arith, le)), subst (λ (l : Bytes). SpellsAsked (codes "open" ∷ decimal id.0 ∷ []) asked.0 l) (sym all) (asked_said (decimal id.0) asked.0 cut.0.1 asked.1));
        replica = tt;
      })

  -- a word and an id, or a number
  id_said : (f : ℕ → Line) (w : Bytes) → ((id : ℕ) → SpellsId w id b → IsSpelled greatest (f id) b) → b ≡ w ++ 32 ∷ r → id_line f r ≡ Some line → Is
  id_said f w spell whole e =
      let one = bind_some (positive_of (id_limit - 1) r) (λ id. Some (f id)) line e in
      let (some, le, is) = positive_said one.0 (id_limit - 1) r id_fits one.1 in
      subst (λ l. IsSpelled greatest l b) (same_Some (f one.0) line one.2) (spell one.0 ((some, omega (arith, le)), whole ∙ ap (λ l. w ++ 32 ∷ l) is))

  number_line_said : (f : ℕ → Line) (w : Bytes) → ((n : ℕ) → SpellsNumber w n b → IsSpelled greatest (f n) b) → b ≡ w ++ 32 ∷ r → number_line f r ≡ Some line → Is
  number_line_said f w spell whole e =
      let one = bind_some (number_of largest r) (λ n. Some (f n)) line e in
      let said = number_said one.0 largest r fits one.1 in
      let le = said.0 in
      subst (λ l. IsSpelled greatest l b) (same_Some (f one.0) line one.2) (spell one.0 (omega (arith, le), whole ∙ ap (λ l. w ++ 32 ∷ l) said.1))

  markup_said : b ≡ codes "markup" ++ 32 ∷ r → (positive_of 2 r >>= (λ n. Some (MarkupLine n))) ≡ Some line → Is
  markup_said whole e =
      let one = bind_some (positive_of 2 r) (λ n. Some (MarkupLine n)) line e in
      let (some, le, is) = positive_said one.0 2 r (omega arith) one.1 in
      subst (λ l. IsSpelled greatest l b) (same_Some (MarkupLine one.0) line one.2) (record { spelled = (one_or_two one.0 some le, whole ∙ ap (λ l. codes "markup" ++ 32 ∷ l) is); replica = tt })
    where
      one_or_two : (n : ℕ) → 0 < n → n ≤ 2 → (n ≡ 1) ⊎ (n ≡ 2)
      one_or_two zero some le = absurd (omega (arith, some))
      one_or_two (suc zero) some le = inl refl
      one_or_two (suc (suc zero)) some le = inr refl
      one_or_two (suc (suc (suc n))) some le = absurd (omega (arith, le))

  numbered_said : (name : Bytes) → b ≡ name ++ 32 ∷ r → numbered name r ≡ Some line → Is
  numbered_said name whole e =
      choose Is name (codes "begin") (id_line BeginLine r) (cond (bytes_eq name (codes "commit")) (id_line CommitLine r) (cond (bytes_eq name (codes "wait")) (id_line WaitLine r) (cond (bytes_eq name (codes "look")) (id_line LookLine r) (cond (bytes_eq name (codes "snap")) (id_line SnapLine r) (cond (bytes_eq name (codes "store")) (id_line StoreLine r) (cond (bytes_eq name (codes "carry")) (number_line CarryLine r) (cond (bytes_eq name (codes "drop")) (number_line DropLine r) (cond (bytes_eq name (codes "markup")) ((positive_of 2 r >>= (λ n. Some (MarkupLine n)))) (None))))))))) line e
      (λ is j. id_said BeginLine (codes "begin") (λ id s. record { spelled = s; replica = tt }) (begun b name r (codes "begin") whole is) j)
      (λ k0. choose Is name (codes "commit") (id_line CommitLine r) (cond (bytes_eq name (codes "wait")) (id_line WaitLine r) (cond (bytes_eq name (codes "look")) (id_line LookLine r) (cond (bytes_eq name (codes "snap")) (id_line SnapLine r) (cond (bytes_eq name (codes "store")) (id_line StoreLine r) (cond (bytes_eq name (codes "carry")) (number_line CarryLine r) (cond (bytes_eq name (codes "drop")) (number_line DropLine r) (cond (bytes_eq name (codes "markup")) ((positive_of 2 r >>= (λ n. Some (MarkupLine n)))) (None)))))))) line k0
      (λ is j. id_said CommitLine (codes "commit") (λ id s. record { spelled = s; replica = tt }) (begun b name r (codes "commit") whole is) j)
      (λ k1. choose Is name (codes "wait") (id_line WaitLine r) (cond (bytes_eq name (codes "look")) (id_line LookLine r) (cond (bytes_eq name (codes "snap")) (id_line SnapLine r) (cond (bytes_eq name (codes "store")) (id_line StoreLine r) (cond (bytes_eq name (codes "carry")) (number_line CarryLine r) (cond (bytes_eq name (codes "drop")) (number_line DropLine r) (cond (bytes_eq name (codes "markup")) ((positive_of 2 r >>= (λ n. Some (MarkupLine n)))) (None))))))) line k1
      (λ is j. id_said WaitLine (codes "wait") (λ id s. record { spelled = s; replica = tt }) (begun b name r (codes "wait") whole is) j)
      (λ k2. choose Is name (codes "look") (id_line LookLine r) (cond (bytes_eq name (codes "snap")) (id_line SnapLine r) (cond (bytes_eq name (codes "store")) (id_line StoreLine r) (cond (bytes_eq name (codes "carry")) (number_line CarryLine r) (cond (bytes_eq name (codes "drop")) (number_line DropLine r) (cond (bytes_eq name (codes "markup")) ((positive_of 2 r >>= (λ n. Some (MarkupLine n)))) (None)))))) line k2
      (λ is j. id_said LookLine (codes "look") (λ id s. record { spelled = s; replica = tt }) (begun b name r (codes "look") whole is) j)
      (λ k3. choose Is name (codes "snap") (id_line SnapLine r) (cond (bytes_eq name (codes "store")) (id_line StoreLine r) (cond (bytes_eq name (codes "carry")) (number_line CarryLine r) (cond (bytes_eq name (codes "drop")) (number_line DropLine r) (cond (bytes_eq name (codes "markup")) ((positive_of 2 r >>= (λ n. Some (MarkupLine n)))) (None))))) line k3
      (λ is j. id_said SnapLine (codes "snap") (λ id s. record { spelled = s; replica = tt }) (begun b name r (codes "snap") whole is) j)
      (λ k4. choose Is name (codes "store") (id_line StoreLine r) (cond (bytes_eq name (codes "carry")) (number_line CarryLine r) (cond (bytes_eq name (codes "drop")) (number_line DropLine r) (cond (bytes_eq name (codes "markup")) ((positive_of 2 r >>= (λ n. Some (MarkupLine n)))) (None)))) line k4
      (λ is j. id_said StoreLine (codes "store") (λ id s. record { spelled = s; replica = tt }) (begun b name r (codes "store") whole is) j)
      (λ k5. choose Is name (codes "carry") (number_line CarryLine r) (cond (bytes_eq name (codes "drop")) (number_line DropLine r) (cond (bytes_eq name (codes "markup")) ((positive_of 2 r >>= (λ n. Some (MarkupLine n)))) (None))) line k5
      (λ is j. number_line_said CarryLine (codes "carry") (λ n s. record { spelled = s; replica = tt }) (begun b name r (codes "carry") whole is) j)
      (λ k6. choose Is name (codes "drop") (number_line DropLine r) (cond (bytes_eq name (codes "markup")) ((positive_of 2 r >>= (λ n. Some (MarkupLine n)))) (None)) line k6
      (λ is j. number_line_said DropLine (codes "drop") (λ n s. record { spelled = s; replica = tt }) (begun b name r (codes "drop") whole is) j)
      (λ k7. choose Is name (codes "markup") ((positive_of 2 r >>= (λ n. Some (MarkupLine n)))) (None) line k7
      (λ is j. markup_said (begun b name r (codes "markup") whole is) j)
      (λ k8. absurd (none-some _ k8))))))))))

  named_said : (name : Bytes) → b ≡ name ++ 32 ∷ r → named greatest name r ≡ Some line → Is
  named_said name whole e =
      choose Is name (codes "farm") (farm_in r) (cond (bytes_eq name (codes "bounds")) (bounds_in r) (cond (bytes_eq name (codes "at")) (at_in r) (cond (bytes_eq name (codes "apply")) (apply_in greatest r) (cond (bytes_eq name (codes "edit")) ((edit_in r >>= (λ edit. Some (EditLine edit)))) (cond (bytes_eq name (codes "view")) ((view_in r >>= (λ view. Some (ViewLine view)))) (cond (bytes_eq name (codes "open")) (open_in r) (numbered name r))))))) line e
      (λ is j. farm_said (begun b name r (codes "farm") whole is) j)
      (λ k0. choose Is name (codes "bounds") (bounds_in r) (cond (bytes_eq name (codes "at")) (at_in r) (cond (bytes_eq name (codes "apply")) (apply_in greatest r) (cond (bytes_eq name (codes "edit")) ((edit_in r >>= (λ edit. Some (EditLine edit)))) (cond (bytes_eq name (codes "view")) ((view_in r >>= (λ view. Some (ViewLine view)))) (cond (bytes_eq name (codes "open")) (open_in r) (numbered name r)))))) line k0
      (λ is j. bounds_said (begun b name r (codes "bounds") whole is) j)
      (λ k1. choose Is name (codes "at") (at_in r) (cond (bytes_eq name (codes "apply")) (apply_in greatest r) (cond (bytes_eq name (codes "edit")) ((edit_in r >>= (λ edit. Some (EditLine edit)))) (cond (bytes_eq name (codes "view")) ((view_in r >>= (λ view. Some (ViewLine view)))) (cond (bytes_eq name (codes "open")) (open_in r) (numbered name r))))) line k1
      (λ is j. at_said (begun b name r (codes "at") whole is) j)
      (λ k2. choose Is name (codes "apply") (apply_in greatest r) (cond (bytes_eq name (codes "edit")) ((edit_in r >>= (λ edit. Some (EditLine edit)))) (cond (bytes_eq name (codes "view")) ((view_in r >>= (λ view. Some (ViewLine view)))) (cond (bytes_eq name (codes "open")) (open_in r) (numbered name r)))) line k2
      (λ is j. apply_said (begun b name r (codes "apply") whole is) j)
      (λ k3. choose Is name (codes "edit") ((edit_in r >>= (λ edit. Some (EditLine edit)))) (cond (bytes_eq name (codes "view")) ((view_in r >>= (λ view. Some (ViewLine view)))) (cond (bytes_eq name (codes "open")) (open_in r) (numbered name r))) line k3
      (λ is j. edit_line_said (begun b name r (codes "edit") whole is) j)
      (λ k4. choose Is name (codes "view") ((view_in r >>= (λ view. Some (ViewLine view)))) (cond (bytes_eq name (codes "open")) (open_in r) (numbered name r)) line k4
      (λ is j. view_line_said (begun b name r (codes "view") whole is) j)
      (λ k5. choose Is name (codes "open") (open_in r) (numbered name r) line k5
      (λ is j. open_said (begun b name r (codes "open") whole is) j)
      (λ k6. numbered_said name whole k6)))))))

worded_said : (greatest : ℕ) → greatest < 2 ^ 64 → (line : Line) (b : Bytes) → worded greatest b ≡ Some line → IsSpelled greatest line b
unfolding worded
worded_said greatest h line b e =
    let cut = bind_some (word_at b) (λ p. named greatest p.0 p.1) line e in
    named_said greatest h line cut.0.1 b cut.0.0 (cut_found 32 b cut.0.0 cut.0.1 cut.1).0 cut.2

text_said : (greatest : ℕ) → greatest < 2 ^ 64 → (line : Line) (b : Bytes) → said_by greatest b ≡ Some line → IsSpelled greatest line b
text_said greatest h line b e =
    choose (IsSpelled greatest line b) b (codes "beat") (Some BeatLine) (cond (bytes_eq b (codes "end")) (Some End) (worded greatest b)) line e
    (λ is k. subst (λ l. IsSpelled greatest l b) (same_Some BeatLine line k) (record { spelled = is; replica = tt }))
    (λ j. choose (IsSpelled greatest line b) b (codes "end") (Some End) (worded greatest b) line j
    (λ is k. subst (λ l. IsSpelled greatest l b) (same_Some End line k) (record { spelled = is; replica = tt }))
    (λ k. worded_said greatest h line b k))

-- what is read is a line of these bytes
pub line_said : (greatest : ℕ) → greatest < 2 ^ 64 → (line : Line) (b : Bytes) → line_in greatest b ≡ Some line → IsUtf8 b × IsSpelled greatest line b
unfolding line_in
line_said greatest h line b e = by_test (is_utf8 b) refl e
  where
    by_test : (t : Bool) → is_utf8 b ≡ t → (cond t (Some b) None >>= (λ text. said_by greatest text)) ≡ Some line → IsUtf8 b × IsSpelled greatest line b
    by_test true q k = (IsUtf8-from_is_utf8 b q, text_said greatest h line b k)
    by_test false q k = absurd (none-some _ k)

-- Each form is read

read_id : (f : ℕ → Line) (id : ℕ) → 0 < id → id < id_limit → id_line f (decimal id) ≡ Some (f id)
read_id f id some less = bind_is (positive_of (id_limit - 1) (decimal id)) id (λ n. Some (f n)) (positive_read id (id_limit - 1) (decimal id) id_fits (some, omega (arith, less), refl))

read_number : (f : ℕ → Line) (n : ℕ) → n < number_limit → number_line f (decimal n) ≡ Some (f n)
read_number f n less = bind_is (number_of largest (decimal n)) n (λ k. Some (f k)) (number_read n largest (omega (arith, less)) fits)

open_read : (id : ℕ) (asked : Asked) (r : Bytes) → 0 < id → id < id_limit → asked_in r ≡ Some asked → open_in (decimal id ++ 32 ∷ r) ≡ Some (Open id asked)
unfolding open_in
open_read id asked r some less read =
    bind_is (word_at (decimal id ++ 32 ∷ r)) (decimal id, r) (λ p. positive_of (id_limit - 1) p.0 >>= (λ k. asked_in p.1 >>= (λ a. Some (Open k a)))) (cut_made 32 (decimal id) r (decimal_without 32 id (omega (arith, less)) refl))
    ∙ bind_is (positive_of (id_limit - 1) (decimal id)) id (λ k. asked_in r >>= (λ a. Some (Open k a))) (positive_read id (id_limit - 1) (decimal id) id_fits (some, omega (arith, less), refl))
    ∙ bind_is (asked_in r) asked (λ a. Some (Open id a)) read

text_read : (greatest : ℕ) → greatest < 2 ^ 64 → (line : Line) (b : Bytes) → Spells line b → HasReplica greatest line → said_by greatest b ≡ Some line
text_read greatest h (FarmLine home west epoch) b (is_home, is_west, le, is) few =
    let rest : Bytes = weights_word home ++ 32 ∷ (weights_word west ++ 32 ∷ decimal epoch) in
    ap (said_by greatest) is ∙ worded_is greatest (codes "farm") rest refl
    ∙ farm_exact.complete rest (FarmLine home west epoch) (record {
      said = home;
      word = weights_word home;
      rest = weights_word west ++ 32 ∷ decimal epoch;
      is_word = (is_home.0, is_home.1, is_home.2, refl);
      whole = refl;
      is_rest = record {
        said = west;
        word = weights_word west;
        rest = decimal epoch;
        is_word = (is_west.0, is_west.1, is_west.2, refl);
        whole = refl;
        is_rest = record { said = epoch; is_rest = (le, refl); made = refl };
      };
    })
text_read greatest h (BoundsLine k) b (allowed, is) few =
    let rest : Bytes = decimal k.commit_delay ++ 32 ∷ (decimal k.read_lag ++ 32 ∷ decimal k.skew) in
    ap (said_by greatest) is ∙ worded_is greatest (codes "bounds") rest refl
    ∙ bounds_exact.complete rest (BoundsLine k) (record {
      said = k.commit_delay;
      word = decimal k.commit_delay;
      rest = decimal k.read_lag ++ 32 ∷ decimal k.skew;
      is_word = (allowed.0, refl);
      whole = refl;
      is_rest = record {
        said = k.read_lag;
        word = decimal k.read_lag;
        rest = decimal k.skew;
        is_word = (allowed.1, refl);
        whole = refl;
        is_rest = record { said = k.skew; is_rest = (allowed.2, allowed.3, refl); made = refl };
      };
    })
text_read greatest h (At at) b (home, west, is) few =
    let rest : Bytes = decimal at.home ++ 32 ∷ decimal at.west in
    ap (said_by greatest) is ∙ worded_is greatest (codes "at") rest refl
    ∙ at_exact.complete rest (At at) (record {
      said = at.home;
      word = decimal at.home;
      rest = decimal at.west;
      is_word = (home, refl);
      whole = refl;
      is_rest = record { said = at.west; is_rest = (west, refl); made = refl };
    })
text_read greatest h BeatLine b is few = ap (said_by greatest) is
text_read greatest h (ApplyLine r replica count) b (some, le, is) few =
    let rest : Bytes = region_word r ++ 32 ∷ (decimal replica ++ 32 ∷ decimal count) in
    ap (said_by greatest) is ∙ worded_is greatest (codes "apply") rest refl
    ∙ (apply_exact greatest h).complete rest (ApplyLine r replica count) (record {
      said = r;
      word = region_word r;
      rest = decimal replica ++ 32 ∷ decimal count;
      is_word = refl;
      whole = refl;
      is_rest = record {
        said = replica;
        word = decimal replica;
        rest = decimal count;
        is_word = (few, refl);
        whole = refl;
        is_rest = record { said = count; is_rest = (some, le, refl); made = refl };
      };
    })
text_read greatest h (EditLine edit) b (client, token, title, text, is_client, is_token, is_title, is_text, less, is) few =
    let rest : Bytes = words (client ∷ token ∷ title ∷ decimal edit.base ∷ text ∷ []) in
    let spelled : SpellsEditWords edit rest = (client, token, title, text, is_client, is_token, is_title, is_text, less, refl) in
    ap (said_by greatest) is ∙ worded_is greatest (codes "edit") rest refl
    ∙ bind_is (edit_in rest) edit (λ e. Some (EditLine e)) (edit_exact.complete rest edit (edit_spelled edit rest spelled))
text_read greatest h (ViewLine view) b (client, cookie, title, is_client, is_cookie, is_title, less, is) few =
    let rest : Bytes = words (region_word view.host ∷ client ∷ cookie ∷ decimal view.word ∷ title ∷ []) in
    let spelled : SpellsViewWords view rest = (client, cookie, title, is_client, is_cookie, is_title, less, refl) in
    ap (said_by greatest) is ∙ worded_is greatest (codes "view") rest refl
    ∙ bind_is (view_in rest) view (λ v. Some (ViewLine v)) (view_exact.complete rest view (view_spelled view rest spelled))
text_read greatest h (Open id asked) b (is_id, spelled) few =
    let (r, is, read) = asked_read (decimal id) asked b spelled in
    ap (said_by greatest) is ∙ worded_is greatest (codes "open") (decimal id ++ 32 ∷ r) refl ∙ open_read id asked r is_id.0 is_id.1 read
text_read greatest h (BeginLine id) b (is_id, is) few = ap (said_by greatest) is ∙ worded_is greatest (codes "begin") (decimal id) refl ∙ read_id BeginLine id is_id.0 is_id.1
text_read greatest h (CommitLine id) b (is_id, is) few = ap (said_by greatest) is ∙ worded_is greatest (codes "commit") (decimal id) refl ∙ read_id CommitLine id is_id.0 is_id.1
text_read greatest h (WaitLine id) b (is_id, is) few = ap (said_by greatest) is ∙ worded_is greatest (codes "wait") (decimal id) refl ∙ read_id WaitLine id is_id.0 is_id.1
text_read greatest h (LookLine id) b (is_id, is) few = ap (said_by greatest) is ∙ worded_is greatest (codes "look") (decimal id) refl ∙ read_id LookLine id is_id.0 is_id.1
text_read greatest h (SnapLine id) b (is_id, is) few = ap (said_by greatest) is ∙ worded_is greatest (codes "snap") (decimal id) refl ∙ read_id SnapLine id is_id.0 is_id.1
text_read greatest h (StoreLine id) b (is_id, is) few = ap (said_by greatest) is ∙ worded_is greatest (codes "store") (decimal id) refl ∙ read_id StoreLine id is_id.0 is_id.1
text_read greatest h (CarryLine n) b (less, is) few = ap (said_by greatest) is ∙ worded_is greatest (codes "carry") (decimal n) refl ∙ read_number CarryLine n less
text_read greatest h (DropLine n) b (less, is) few = ap (said_by greatest) is ∙ worded_is greatest (codes "drop") (decimal n) refl ∙ read_number DropLine n less
text_read greatest h (MarkupLine n) b (known, is) few =
    ap (said_by greatest) is ∙ worded_is greatest (codes "markup") (decimal n) refl
    ∙ bind_is (positive_of 2 (decimal n)) n (λ k. Some (MarkupLine k)) (positive_read n 2 (decimal n) (omega arith) (some n known, few_of n known, refl))
  where
    some : (k : ℕ) → (k ≡ 1) ⊎ (k ≡ 2) → 0 < k
    some k (inl e) = omega (arith, e)
    some k (inr e) = omega (arith, e)

    few_of : (k : ℕ) → (k ≡ 1) ⊎ (k ≡ 2) → k ≤ 2
    few_of k (inl e) = omega (arith, e)
    few_of k (inr e) = omega (arith, e)
text_read greatest h End b is few = ap (said_by greatest) is

-- a line of these bytes is read
pub line_read : (greatest : ℕ) → greatest < 2 ^ 64 → (line : Line) (b : Bytes) → IsUtf8 b → Spells line b → HasReplica greatest line → line_in greatest b ≡ Some line
unfolding line_in
line_read greatest h line b u s few = ap (λ t. cond t (Some b) None >>= (λ text. said_by greatest text)) (is_utf8-from_IsUtf8 b u) ∙ text_read greatest h line b s few
