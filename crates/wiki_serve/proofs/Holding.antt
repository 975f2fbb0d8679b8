-- Messages are taken one by one, and each is held back or carried. The model splits all of them by the world before the
-- first was carried, and the code asks the ledger between them; as carrying changes no message, both say the same.
use Rattle.std.proofs.Common.{◌≡◌, ℕ, zero, suc, ◌+◌, ◌≤◌, ◌<◌, inl, inr, Bool, true, false, List, [], ◌∷◌, ◌++◌, length, map, Option, Some, refl, sym, ap, subst, ◌∙◌, arith, append_assoc, append-nil}
use Rattle.std.specs.Prelude.{All, ◌&&◌, nat_lt, option_map}
use Rattle.std.proofs.lemmas.List.{map-append, length-append, length-map}
use Rattle.std.proofs.lemmas.List.Elements.{All-nil, All-cons}
use Rattle.std.proofs.lemmas.Bool.{ltb-true, ltb-false}
use Rattle.wiki_model.specs.declared.Readings.{Readings}
use Rattle.wiki_model.specs.Bytes.{Bytes}
use Rattle.wiki_model.specs.Limits.{messages_max}
use Rattle.wiki_model.specs.History.{Entry}
use Rattle.wiki_model.specs.Cache.{CacheMap}
use Rattle.wiki_model.specs.World.{World}
use Rattle.wiki_model.specs.Steps.{Step}
use Rattle.wiki_model.specs.Runs.{Turn}
use Rattle.wiki_model.specs.Serving.{AllMade, Taken, IsReceivable, Splits, carries}
use Rattle.farm_base.specs.Causes.{counted}
use Rattle.purge_relay.specs.AsModel.{row_message, body_of}
use Rattle.purge_relay.specs.declared.message.Message.{Message}
use Rattle.farm_core.specs.FarmParts.{FarmParts}
use Rattle.farm_core.specs.Runs.{Stands}
use Rattle.wiki_serve.specs.Exchanges.{with_messages}
use Rattle.wiki_serve.specs.Turns.{MakesTurns, MakesStep}
use Rattle.wiki_serve.specs.Housework.{WireSeen, IsTaking, TakesAll}
use Rattle.wiki_serve.specs.declared.held_purges.HeldPurges.{HeldPurges}
use Rattle.wiki_serve.specs.HoldingBack.{IsEmpty, HasRoom, taken_of, all_taken, is_receivable, is_held, TakesOne, CarriesAll}
use Rattle.wiki_serve.proofs.OneMore.{carried_more}
use Rattle.wiki_serve.proofs.Steps.{turn, all_none, all_one, all_joined, none_made, made_joined}
use Rattle.wiki_serve.proofs.Houses.{same_wire}
use Rattle.wiki_serve.proofs.Quiet.{quiet_goes, quiet_made, quiet_carries}
use Rattle.wiki_serve.proofs.Receivable.{test_receivable, receivable_test}

-- How messages split

-- with no room all are carried
pub splits_none : (v : World) (taken carried held : List Taken) → Splits v 0 taken carried held → carried ≡ taken
splits_none v [] carried held s = s.0
splits_none v (t ∷ taken) carried held s = s.0

-- one more is held
pub splits_held : (v : World) (room : ℕ) (taken carried held : List Taken) (t : Taken) → Splits v room taken carried held → length held < room → IsReceivable v t → Splits v room (taken ++ t ∷ []) carried (held ++ t ∷ [])
splits_held v zero taken carried held t s less is = let never : ⊥ = omega (arith, less) in absurd never
splits_held v (suc room) [] carried held t (none, nothing) less is = inl (is, [], ap (λ (l : List Taken). l ++ t ∷ []) nothing, (none, refl))
splits_held v (suc room) (x ∷ taken) carried held t (inl (first, more, e, rest)) less is =
    let long : length held ≡ suc (length more) = ap length e in
    inl (first, more ++ t ∷ [], ap (λ (l : List Taken). l ++ t ∷ []) e, splits_held v room taken carried more t rest (omega (arith, less, long)) is)
splits_held v (suc room) (x ∷ taken) carried held t (inr (other, more, e, rest)) less is = inr (other, more, e, splits_held v (suc room) taken more held t rest less is)

-- one more is carried, since there is no room or west would not receive it
pub splits_carried : (v : World) (room : ℕ) (taken carried held : List Taken) (t : Taken) → Splits v room taken carried held → (length held < room → IsReceivable v t → ⊥) → Splits v room (taken ++ t ∷ []) (carried ++ t ∷ []) held
splits_carried v zero [] carried held t (none, nothing) other = (ap (λ (l : List Taken). l ++ t ∷ []) none, nothing)
splits_carried v zero (x ∷ taken) carried held t (all, nothing) other = (ap (λ (l : List Taken). l ++ t ∷ []) all, nothing)
splits_carried v (suc room) [] carried held t (none, nothing) other =
    let long : length held ≡ 0 = ap length nothing in
    inr (λ is. other (omega (arith, long)) is, [], ap (λ (l : List Taken). l ++ t ∷ []) none, (refl, nothing))
splits_carried v (suc room) (x ∷ taken) carried held t (inl (first, more, e, rest)) other =
    let long : length held ≡ suc (length more) = ap length e in
    inl (first, more, e, splits_carried v room taken carried more t rest (λ less is. other (omega (arith, less, long)) is))
splits_carried v (suc room) (x ∷ taken) carried held t (inr (never, more, e, rest)) other = inr (never, more ++ t ∷ [], ap (λ (l : List Taken). l ++ t ∷ []) e, splits_carried v (suc room) taken more held t rest other)

-- those that are held would be received
pub held_receivable : (v : World) (room : ℕ) (taken carried held : List Taken) → Splits v room taken carried held → All (IsReceivable v) held
held_receivable v room [] carried held (none, nothing) = subst (λ (l : List Taken). All (IsReceivable v) l) (sym nothing) (All-nil (IsReceivable v))
held_receivable v zero (t ∷ taken) carried held (all, nothing) = subst (λ (l : List Taken). All (IsReceivable v) l) (sym nothing) (All-nil (IsReceivable v))
held_receivable v (suc room) (t ∷ taken) carried held (inl (is, more, e, rest)) =
    subst (λ (l : List Taken). All (IsReceivable v) l) (sym e) (All-cons (IsReceivable v) t more is (held_receivable v room taken carried more rest))
held_receivable v (suc room) (t ∷ taken) carried held (inr (never, more, e, rest)) = held_receivable v (suc room) taken more held rest

-- The test

less_if : (a b : ℕ) (c : Bool) → (nat_lt a b && c) ≡ true → (a < b) × (c ≡ true)
less_if a b c e = by (nat_lt a b) refl e
  where
    by : (l : Bool) → nat_lt a b ≡ l → (l && c) ≡ true → (a < b) × (c ≡ true)
    by true is f = (ltb-true a b is, f)
    by false is f = let never : ⊥ = cc in absurd never

not_less_if : (a b : ℕ) (c : Bool) → (nat_lt a b && c) ≡ false → a < b → c ≡ true → ⊥
not_less_if a b c e less is = by (nat_lt a b) refl e
  where
    by : (l : Bool) → nat_lt a b ≡ l → (l && c) ≡ false → ⊥
    by true same f = let never : ⊥ = cc in never
    by false same f = let over : b ≤ a = ltb-false a b same in let never : ⊥ = omega (arith, over, less) in never

pub room_empty : (held : HeldPurges) → IsEmpty held → HasRoom held
room_empty held empty =
    let long : length held.messages.items ≡ 0 = ap length empty.none in
    record { fits = empty.fits; few = omega (arith, long) }

-- none is held where there is no room
pub none_fits : (messages : List Message) → length messages ≤ 0 → all_taken messages ≡ []
none_fits [] few = refl
none_fits (m ∷ messages) few = let never : ⊥ = omega (arith, few) in absurd never

module _ {K S : Type 0} (content : K → Option (List Entry)) (faults : K → ℕ) (cache_of : S → CacheMap Bytes) where
  -- after messages were carried, the ledger's are those of the world before
  rows_stay : (first now : FarmParts K S) (at : Readings) (carried : List Taken) (turns : List Turn) (start : World) (earlier : List Turn) (v : World)
      → MakesTurns content faults cache_of first now turns → AllMade at (carries carried) turns → Stands content faults cache_of first start earlier v
      → map row_message now.ledger.rows ≡ v.messages
  rows_stay first now at carried turns start earlier v made are stood =
      let (w, stands, goes) = made.runs start earlier v stood in
      stands.agrees.messages ∙ quiet_goes turns v w (quiet_made at (carries carried) turns (quiet_carries carried) are) goes

  -- what becomes of one message
  pub one_held : (farm : FarmParts K S) (at : Readings) (t : Taken) (before now : List Taken) (hold told : Bool) → told ≡ hold → told ≡ true → now ≡ before ++ t ∷ [] → TakesOne content faults cache_of hold farm farm at t before now
  one_held farm at t before now hold told is yes_told held = subst (λ (b : Bool). TakesOne content faults cache_of b farm farm at t before now) (sym yes_told ∙ is) (refl, held)

  pub one_carried : (old new : FarmParts K S) (at : Readings) (t : Taken) (held : List Taken) (hold told : Bool) → told ≡ hold → told ≡ false → MakesStep content faults cache_of old new at (Step.Carry t.number (Some t.body)) → TakesOne content faults cache_of hold old new at t held held
  one_carried old new at t held hold told is not_told step = subst (λ (b : Bool). TakesOne content faults cache_of b old new at t held held) (sym not_told ∙ is) (step, refl)

  pub takes_none : (farm : FarmParts K S) (at : Readings) (wire : WireSeen) (room : ℕ) (messages : List Message) → messages ≡ [] → IsTaking content faults cache_of farm farm at wire wire room (all_taken messages) 0
  takes_none farm at wire room messages none = record {
    taken = [];
    takes = record {
      at_once = [];
      turns = [];
      made = none_made content faults cache_of farm;
      are = all_none at;
      splits = λ start earlier v stood. (refl, ap all_taken none);
      carried = same_wire wire.carried;
      refused = refl;
      empty = refl;
    };
    number = refl;
  }

  -- one more was held
  takes_held : (first old new : FarmParts K S) (at : Readings) (before mid now : WireSeen) (room count : ℕ) (t : Taken) (held held_now : List Taken) → IsTaking content faults cache_of first old at before mid room held count
      → now.carried ≡ option_map (with_messages [] (t ∷ [])) mid.carried → now.refused ≡ mid.refused → now.empty ≡ mid.empty
      → length held < room → is_receivable old.ledger.rows t ≡ true → new ≡ old → held_now ≡ held ++ t ∷ [] → IsTaking content faults cache_of first new at before now room held_now (count + 1)
  takes_held first old new at before mid now room count t held held_now is carried refused empty less may same held_is =
      let long = length-append is.taken (t ∷ []) in
      let number = is.number in
      let s = is.takes in
      record {
        taken = is.taken ++ t ∷ [];
        takes = record {
          at_once = s.at_once;
          turns = s.turns;
          made = subst (λ (f : FarmParts K S). MakesTurns content faults cache_of first f s.turns) (sym same) s.made;
          are = s.are;
          splits = λ start earlier v stood.
              subst (λ (h : List Taken). Splits v room (is.taken ++ t ∷ []) s.at_once h) (sym held_is)
              (splits_held v room is.taken s.at_once held t (s.splits start earlier v stood) less
              (test_receivable v old.ledger.rows t (rows_stay first old at s.at_once s.turns start earlier v s.made s.are stood) may));
          carried = carried ∙ ap (option_map (with_messages [] (t ∷ []))) s.carried ∙ carried_more [] [] is.taken (t ∷ []) before.carried;
          refused = refused ∙ s.refused;
          empty = empty ∙ s.empty;
        };
        number = omega (arith, long, number);
      }

  -- one more was carried
  takes_carried : (first old new : FarmParts K S) (at : Readings) (before mid now : WireSeen) (room count : ℕ) (t : Taken) (held held_now : List Taken) → IsTaking content faults cache_of first old at before mid room held count
      → now.carried ≡ option_map (with_messages [] (t ∷ [])) mid.carried → now.refused ≡ mid.refused → now.empty ≡ mid.empty
      → (length held < room → is_receivable old.ledger.rows t ≡ true → ⊥) → MakesStep content faults cache_of old new at (Step.Carry t.number (Some t.body)) → held_now ≡ held → IsTaking content faults cache_of first new at before now room held_now (count + 1)
  takes_carried first old new at before mid now room count t held held_now is carried refused empty other step held_is =
      let long = length-append is.taken (t ∷ []) in
      let number = is.number in
      let s = is.takes in
      let one : Turn = turn at (Step.Carry t.number (Some t.body)) step.said in
      record {
        taken = is.taken ++ t ∷ [];
        takes = record {
          at_once = s.at_once ++ t ∷ [];
          turns = s.turns ++ one ∷ [];
          made = made_joined content faults cache_of first old new s.turns (one ∷ []) s.made step.made;
          are = subst (λ ss. AllMade at ss (s.turns ++ one ∷ [])) (sym (map-append (λ (m : Taken). Step.Carry m.number (Some m.body)) s.at_once (t ∷ [])))
              (all_joined at (carries s.at_once) (Step.Carry t.number (Some t.body) ∷ []) s.turns (one ∷ []) s.are (all_one at (Step.Carry t.number (Some t.body)) step.said));
          splits = λ start earlier v stood.
              subst (λ (h : List Taken). Splits v room (is.taken ++ t ∷ []) (s.at_once ++ t ∷ []) h) (sym held_is)
              (splits_carried v room is.taken s.at_once held t (s.splits start earlier v stood)
              (λ less receivable. other less (receivable_test v old.ledger.rows t (rows_stay first old at s.at_once s.turns start earlier v s.made s.are stood) receivable)));
          carried = carried ∙ ap (option_map (with_messages [] (t ∷ []))) s.carried ∙ carried_more [] [] is.taken (t ∷ []) before.carried;
          refused = refused ∙ s.refused;
          empty = empty ∙ s.empty;
        };
        number = omega (arith, long, number);
      }

  pub takes_more : (first old new : FarmParts K S) (at : Readings) (before mid now : WireSeen) (room count : ℕ) (t : Taken) (messages messages_now : List Message) → IsTaking content faults cache_of first old at before mid room (all_taken messages) count
      → now.carried ≡ option_map (with_messages [] (t ∷ [])) mid.carried → now.refused ≡ mid.refused → now.empty ≡ mid.empty
      → TakesOne content faults cache_of (is_held old.ledger.rows room (length messages) t) old new at t (all_taken messages) (all_taken messages_now) → IsTaking content faults cache_of first new at before now room (all_taken messages_now) (count + 1)
  takes_more first old new at before mid now room count t messages messages_now is carried refused empty one = by (is_held old.ledger.rows room (length messages) t) refl one
    where
      long : length (all_taken messages) ≡ length messages
      long = length-map messages taken_of

      by : (hold : Bool) → is_held old.ledger.rows room (length messages) t ≡ hold → TakesOne content faults cache_of hold old new at t (all_taken messages) (all_taken messages_now) → IsTaking content faults cache_of first new at before now room (all_taken messages_now) (count + 1)
      by true e (same, held_is) =
          let (less, may) = less_if (length messages) room (is_receivable old.ledger.rows t) e in
          takes_held first old new at before mid now room count t (all_taken messages) (all_taken messages_now) is carried refused empty (omega (arith, less, long)) may same held_is
      by false e (step, held_is) =
          takes_carried first old new at before mid now room count t (all_taken messages) (all_taken messages_now) is carried refused empty
          (λ less may. not_less_if (length messages) room (is_receivable old.ledger.rows t) e (omega (arith, less, long)) may) step held_is

  -- no more came
  pub takes_over : (first now : FarmParts K S) (at : Readings) (before mid after : WireSeen) (room count : ℕ) (held : List Taken) → IsTaking content faults cache_of first now at before mid room held count → count < messages_max
      → after.carried ≡ mid.carried → after.refused ≡ mid.refused → after.empty ≡ counted mid.empty → TakesAll content faults cache_of first now at before after room held
  takes_over first now at before mid after room count held is less carried refused empty =
      let number = is.number in
      let s = is.takes in
      record {
        taken = is.taken;
        emptied = true;
        takes = record {
          at_once = s.at_once;
          turns = s.turns;
          made = s.made;
          are = s.are;
          splits = s.splits;
          carried = carried ∙ s.carried;
          refused = refused ∙ s.refused;
          empty = empty ∙ ap counted s.empty;
        };
        few = λ e. omega (arith, number, less);
        full = λ e. let no : ⊥ = cc in absurd no;
      }

  -- there were enough
  pub takes_enough : (first now : FarmParts K S) (at : Readings) (before after : WireSeen) (room count : ℕ) (held : List Taken) → IsTaking content faults cache_of first now at before after room held count → count ≡ messages_max
      → TakesAll content faults cache_of first now at before after room held
  takes_enough first now at before after room count held is full = record {
    taken = is.taken;
    emptied = false;
    takes = is.takes;
    few = λ e. let no : ⊥ = cc in absurd no;
    full = λ e. is.number ∙ full;
  }

  -- Carrying what was held

  -- so many of all are carried, and the rest is not
  pub record IsCarrying (first now : FarmParts K S) (at : Readings) (all rest : List Message) : Type 0 where
    pub done : List Message
    pub all_is : done ++ rest ≡ all
    pub carrying : CarriesAll content faults cache_of first now at (all_taken done)

  pub carrying_none : (farm : FarmParts K S) (at : Readings) (all rest : List Message) → rest ≡ all → IsCarrying farm farm at all rest
  carrying_none farm at all rest same = record { done = []; all_is = same; carrying = record { turns = []; made = none_made content faults cache_of farm; are = all_none at } }

  pub carrying_more : (first old new : FarmParts K S) (at : Readings) (all left rest : List Message) (m : Message) → left ≡ m ∷ rest → IsCarrying first old at all left → MakesStep content faults cache_of old new at (Step.Carry m.number (Some (body_of m.body)))
      → IsCarrying first new at all rest
  carrying_more first old new at all left rest m left_is is step =
      let one : Turn = turn at (Step.Carry m.number (Some (body_of m.body))) step.said in
      let was = is.carrying in
      record {
        done = is.done ++ m ∷ [];
        all_is = append_assoc is.done (m ∷ []) rest ∙ ap (λ (l : List Message). is.done ++ l) (sym left_is) ∙ is.all_is;
        carrying = subst (λ (l : List Taken). CarriesAll content faults cache_of first new at l) (sym (map-append taken_of is.done (m ∷ []))) (record {
          turns = was.turns ++ one ∷ [];
          made = made_joined content faults cache_of first old new was.turns (one ∷ []) was.made step.made;
          are = subst (λ ss. AllMade at ss (was.turns ++ one ∷ [])) (sym (map-append (λ (t : Taken). Step.Carry t.number (Some t.body)) (all_taken is.done) (taken_of m ∷ [])))
              (all_joined at (carries (all_taken is.done)) (Step.Carry m.number (Some (body_of m.body)) ∷ []) was.turns (one ∷ []) was.are (all_one at (Step.Carry m.number (Some (body_of m.body))) step.said));
        });
      }

  pub carrying_over : (first now : FarmParts K S) (at : Readings) (all rest : List Message) → rest ≡ [] → IsCarrying first now at all rest → CarriesAll content faults cache_of first now at (all_taken all)
  carrying_over first now at all rest none is =
      subst (λ (l : List Message). CarriesAll content faults cache_of first now at (all_taken l)) (sym (append-nil is.done) ∙ ap (λ (l : List Message). is.done ++ l) (sym none) ∙ is.all_is) is.carrying
