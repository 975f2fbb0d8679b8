-- A request that is served: its housekeeping and its own steps are what the definitions ask of it, for each run for which the farm stood.
-- The messages that were not sent are those after the last one that was, and the steps only add more.
use Rattle.std.proofs.Common.{◌≡◌, ℕ, zero, suc, ◌+◌, ◌-◌, ◌≤◌, ◌<◌, Bool, true, false, List, [], ◌∷◌, ◌++◌, length, map, Option, Some, refl, sym, ap, subst, ◌∙◌, arith, append_assoc, reverse}
use Rattle.std.specs.Prelude.{option_map, slice_get}
use Rattle.std.proofs.lemmas.List.{reverse-append, length-map}
use Rattle.wiki_model.specs.declared.Region.{Region}
use Rattle.wiki_model.specs.declared.Region.TheVariants.{Home, West}
use Rattle.wiki_model.specs.declared.Readings.{Readings}
use Rattle.wiki_model.specs.Bytes.{Bytes}
use Rattle.wiki_model.specs.Titles.{Title}
use Rattle.wiki_model.specs.History.{Entry}
use Rattle.wiki_model.specs.Cache.{CacheMap}
use Rattle.wiki_model.specs.World.{World, Asked, Message, message_at}
use Rattle.wiki_model.specs.World.Asked.{AskedView, AskedEdit}
use Rattle.wiki_model.specs.Answers.{Answer}
use Rattle.wiki_model.specs.Answered.{last_reply}
use Rattle.wiki_model.specs.Runs.{Turn, Reply}
use Rattle.wiki_model.specs.Runs.Reply.{One}
use Rattle.wiki_model.specs.Serving.{GoesBy, Taken, Splits, Housekeeps, ServesOne}
use Rattle.wiki_model.specs.Asking.{Request}
use Rattle.wiki_model.proofs.MessageLaws.{goes-issue}
use Rattle.farm_base.specs.Series.{Series}
use Rattle.purge_relay.specs.AsModel.{row_message, body_of}
use Rattle.purge_relay.specs.Ledger.{row_at}
use Rattle.purge_relay.specs.declared.ledger_row.LedgerRow.{LedgerRow}
use Rattle.farm_steps.specs.Moments.{moment_of, moments_at}
use Rattle.farm_core.specs.FarmParts.{FarmParts}
use Rattle.farm_core.specs.Agreement.{Agrees}
use Rattle.farm_core.specs.Runs.{Stands}
use Rattle.wiki_serve.specs.Exchanges.{Outcome, Answered, Service, GivesAll}
use Rattle.wiki_serve.specs.Callers.{Desk, region_of, moment_for}
use Rattle.wiki_serve.specs.Services.{numbers_from, AreMessages, DoesCall, DoesOne}
use Rattle.wiki_serve.specs.Turns.{MakesTurns, StandsSent, unsent_of}
use Rattle.wiki_serve.specs.Housework.{WireSeen, AreRows, DoesHousework, ServesAsked}
use Rattle.wiki_serve.specs.Reactions.{CalledFor}
use Rattle.wiki_serve.proofs.OneMore.{numbers_more}
use Rattle.wiki_serve.proofs.Steps.{shapes}
use Rattle.wiki_serve.proofs.Holding.{splits_none}

-- what was done, by its parts
abbrev pub service_with : (at : Readings) (words : List ℕ) (sent : List Taken) (halted : Bool) (taken : List Taken) (emptied : Bool) (turns : List Turn) → Outcome → Service
service_with at words sent halted taken emptied turns outcome = record {
  at = at;
  words = words;
  sent = sent;
  halted = halted;
  taken = taken;
  emptied = emptied;
  turns = turns;
  outcome = outcome;
}

-- Messages of the ledger are those of the world.

row_found : (rows : List LedgerRow) (n : ℕ) → option_map (λ (m : Message). m.body) (slice_get (map row_message rows) n) ≡ option_map (λ (row : LedgerRow). body_of row.message.body) (slice_get rows n)
row_found [] n = refl
row_found (row ∷ rows) zero = refl
row_found (row ∷ rows) (suc n) = row_found rows n

row_is : (w : World) (rows : List LedgerRow) (number : ℕ) → map row_message rows ≡ w.messages → option_map (λ (m : Message). m.body) (message_at w number) ≡ option_map (λ (row : LedgerRow). body_of row.message.body) (row_at rows number)
row_is w rows zero same = refl
row_is w rows (suc n) same = ap (λ (ms : List Message). option_map (λ (m : Message). m.body) (slice_get ms n)) (sym same) ∙ row_found rows n

are_messages : (w : World) (rows : List LedgerRow) (numbers : List ℕ) (sent : List Taken) → map row_message rows ≡ w.messages → AreRows rows numbers sent → AreMessages w numbers sent
are_messages w rows [] [] same are = tt
are_messages w rows [] (t ∷ sent) same are = absurd are
are_messages w rows (n ∷ numbers) [] same are = absurd are
are_messages w rows (n ∷ numbers) (t ∷ sent) same ((number, body), others) = ((number, row_is w rows n same ∙ body), are_messages w rows numbers sent same others)

-- The last reply of turns after others

last_after : (xs ys : List Turn) (reply : Reply) → last_reply ys ≡ Some reply → last_reply (xs ++ ys) ≡ Some reply
last_after [] ys reply is = is
last_after (x ∷ []) [] reply is = let no : ⊥ = cc in absurd no
last_after (x ∷ []) (y ∷ ys) reply is = is
last_after (x ∷ x2 ∷ xs) ys reply is = last_after (x2 ∷ xs) ys reply is

goes_house : (at : Readings) (pace : ℕ) (taken : List Taken) (v : World) (turns : List Turn) (w : World) → Housekeeps at pace taken v turns w → length v.messages ≤ length w.messages
goes_house at pace taken v turns w h =
    let one = goes-issue h.carrying v h.middle h.goes in
    let two = goes-issue h.keeping h.middle w h.goes_on in
    omega (arith, one, two)

module _ {K S : Type 0} (content : K → Option (List Entry)) (faults : K → ℕ) (cache_of : S → CacheMap Bytes) where
  -- the moment of the request's region, as the farm and the world tell it
  pub moment_is : (farm : FarmParts K S) (w : World) (at : Readings) (request : Request) → Agrees content faults cache_of farm w → moment_of (region_of request) (moments_at at farm.moments) ≡ moment_for w at request
  moment_is farm w at request a = by (region_of request)
    where
      by : (r : Region) → moment_of r (moments_at at farm.moments) ≡ Rattle.wiki_model.specs.World.moment r (Rattle.wiki_model.specs.World.at_readings at w)
      by Home = ap (λ (m : ℕ). Rattle.std.specs.Prelude.max m (Rattle.wiki_model.specs.World.cut at.home)) a.home_moment
      by West = ap (λ (m : ℕ). Rattle.std.specs.Prelude.max m (Rattle.wiki_model.specs.World.cut at.west)) a.west_moment

  rows_long : (farm : FarmParts K S) (w : World) → Agrees content faults cache_of farm w → length farm.ledger.rows ≡ length w.messages
  rows_long farm w a = sym (length-map farm.ledger.rows row_message) ∙ ap (λ (ms : List Message). length ms) a.messages

  -- what is done for one request, from what was sent, the call that was made and the messages that only grow
  one_done : (desk : Desk) (old new : FarmParts K S) (sent_old sent_new : ℕ) (request : Request) (service : Service) (v w : World)
      → sent_old ≤ sent_new → (sent_old ≤ length old.ledger.rows → sent_new ≤ length old.ledger.rows)
      → AreRows old.ledger.rows (numbers_from (sent_old + 1) (sent_new - sent_old)) service.sent
      → (service.halted ≡ false → length old.ledger.rows ≤ sent_new) → (service.halted ≡ true → sent_new < length old.ledger.rows)
      → (service.emptied ≡ true → length service.taken < Rattle.wiki_model.specs.Limits.messages_max) → (service.emptied ≡ false → length service.taken ≡ Rattle.wiki_model.specs.Limits.messages_max)
      → sent_old ≤ length v.messages → Agrees content faults cache_of old v → Agrees content faults cache_of new w → length v.messages ≤ length w.messages
      → DoesCall desk request request.call service v w
      → DoesOne desk request service (record { world = v; unsent = unsent_of old sent_old }) (record { world = w; unsent = unsent_of new sent_new })
  one_done desk old new sent_old sent_new request service v w later within are all left few full small a b grow does =
      let n = rows_long old v a in
      let m = rows_long new w b in
      let inside : sent_new ≤ length old.ledger.rows = within (omega (arith, small, n)) in
      let count : length old.ledger.rows - sent_old ≡ (sent_new - sent_old) + (length old.ledger.rows - sent_new) = omega (arith, later, inside) in
      let next : sent_old + 1 + (sent_new - sent_old) ≡ sent_new + 1 = omega (arith, later) in
      let rest : length new.ledger.rows - sent_new ≡ (length old.ledger.rows - sent_new) + (length w.messages - length v.messages) = omega (arith, inside, n, m, grow) in
      let after : sent_new + 1 + (length old.ledger.rows - sent_new) ≡ length v.messages + 1 = omega (arith, inside, n) in
      let size = numbers_long (sent_new + 1) (length old.ledger.rows - sent_new) in
      record {
        left = numbers_from (sent_new + 1) (length old.ledger.rows - sent_new);
        sends = record {
          prefix = numbers_from (sent_old + 1) (sent_new - sent_old);
          split = ap (numbers_from (sent_old + 1)) count ∙ numbers_more (sent_old + 1) (sent_new - sent_old) (length old.ledger.rows - sent_new) ∙ ap (λ k. numbers_from (sent_old + 1) (sent_new - sent_old) ++ numbers_from k (length old.ledger.rows - sent_new)) next;
          sent = are_messages v old.ledger.rows (numbers_from (sent_old + 1) (sent_new - sent_old)) service.sent a.messages are;
          all = λ e. let over = all e in let none : length old.ledger.rows - sent_new ≡ 0 = omega (arith, over) in ap (numbers_from (sent_new + 1)) none;
          refused = λ e. let more = left e in omega (arith, size, more);
        };
        emptied = few;
        full = full;
        does = does;
        unsent = ap (numbers_from (sent_new + 1)) rest ∙ numbers_more (sent_new + 1) (length old.ledger.rows - sent_new) (length w.messages - length v.messages) ∙ ap (λ k. numbers_from (sent_new + 1) (length old.ledger.rows - sent_new) ++ numbers_from k (length w.messages - length v.messages)) after;
      }
    where
      numbers_long : (k count : ℕ) → length (numbers_from k count) ≡ count
      numbers_long k zero = refl
      numbers_long k (suc c) = ap suc (numbers_long (k + 1) c)

  -- a call with its housekeeping and its own turns
  pub called_for : (desk : Desk) (old mid new : FarmParts K S) (sent_old sent_new : ℕ) (at : Readings) (lots lots_now : Option (Series ℕ)) (before now : WireSeen) (request : Request) (words : List ℕ) (own : List Turn) (outcome : Outcome) (room : ℕ) (held : List Taken)
      → desk.pace ≡ old.plan.pace → GivesAll lots words lots_now → (work : DoesHousework content faults cache_of old mid sent_old sent_new at before now room held) → MakesTurns content faults cache_of mid new own
      → ((start : World) (earlier : List Turn) (v m w : World) → Agrees content faults cache_of old v → Splits v room work.taken work.at_once held → Housekeeps at desk.pace work.at_once v work.turns m → Stands content faults cache_of mid start earlier m → GoesBy m own w
      → DoesCall desk request request.call (service_with at words work.sent work.halted work.taken work.emptied (work.turns ++ own) outcome) v w)
      → CalledFor content faults cache_of desk old new sent_old sent_new at (record { lots = lots; wire = before.carried; refused = before.refused; empty = before.empty }) (record { lots = lots_now; wire = now.carried; refused = now.refused; empty = now.empty }) request outcome
  called_for desk old mid new sent_old sent_new at lots lots_now before now request words own outcome room held pace gives work made does = record {
    service = service_with at words work.sent work.halted work.taken work.emptied (work.turns ++ own) outcome;
    outcome_is = refl;
    at_is = refl;
    lots = gives;
    wire = work.carried;
    refused = work.refused;
    empty = work.empty;
    goes_on = goes_on;
    closed = λ none. made.closed (work.closed none);
    shape = shapes old mid new work.shape made.shape;
    counts = let x = work.counts in let y = made.counts in omega (arith, x, y);
  }
    where
      goes_on : (start : World) (turns : List Turn) (v : World) → StandsSent content faults cache_of old sent_old start turns v
          → (w : World) × StandsSent content faults cache_of new sent_new start (reverse (work.turns ++ own) ++ turns) w
          × DoesOne desk request (service_with at words work.sent work.halted work.taken work.emptied (work.turns ++ own) outcome) (record { world = v; unsent = unsent_of old sent_old }) (record { world = w; unsent = unsent_of new sent_new })
      goes_on start turns v stood =
          let (m, middle, keeps) = work.keeps start turns v stood.stands in
          let (w, stands, goes) = made.runs start (reverse work.turns ++ turns) m middle in
          let order : reverse own ++ (reverse work.turns ++ turns) ≡ reverse (work.turns ++ own) ++ turns = sym (ap (λ l. l ++ turns) (reverse-append work.turns own) ∙ append_assoc (reverse own) (reverse work.turns) turns) in
          let one = goes_house at old.plan.pace work.at_once v work.turns m keeps in
          let two = goes-issue own m w goes in
          let grow : length v.messages ≤ length w.messages = omega (arith, one, two) in
          let long = rows_long old v stood.stands.agrees in
          let within = stood.within in
          let inside = work.within (omega (arith, long, within)) in
          let kept = subst (λ (p : ℕ). Housekeeps at p work.at_once v work.turns m) (sym pace) keeps in (
            w,
            record { stands = subst (λ (l : List Turn). Stands content faults cache_of new start l w) order stands; within = omega (arith, inside, long, grow) },
            one_done desk old new sent_old sent_new request (service_with at words work.sent work.halted work.taken work.emptied (work.turns ++ own) outcome) v w work.later work.within work.are work.all work.left work.few work.full within stood.stands.agrees stands.agrees grow
                (does start (reverse work.turns ++ turns) v m w stood.stands.agrees (work.splits start turns v stood.stands) kept middle goes),
          )

  -- a page or an edit
  pub asked_called : (desk : Desk) (old new : FarmParts K S) (sent_old sent_new : ℕ) (at : Readings) (lots lots_now : Option (Series ℕ)) (before now : WireSeen) (request : Request) (words : List ℕ) (asked : Asked) (title : Title) (answer : Answer)
      → desk.pace ≡ old.plan.pace → GivesAll lots words lots_now → ServesAsked content faults cache_of old new sent_old sent_new at before now asked answer
      → ((service : Service) (v w : World) → service.at ≡ at → service.words ≡ words → Agrees content faults cache_of old v → ServesOne service.at desk.pace service.taken asked v service.turns w
      → (last_reply service.turns ≡ Some (One (Some answer))) → service.outcome ≡ Answered title answer → DoesCall desk request request.call service v w)
      → CalledFor content faults cache_of desk old new sent_old sent_new at (record { lots = lots; wire = before.carried; refused = before.refused; empty = before.empty }) (record { lots = lots_now; wire = now.carried; refused = now.refused; empty = now.empty }) request (Answered title answer)
  asked_called desk old new sent_old sent_new at lots lots_now before now request words asked title answer pace gives serves does =
      let work = serves.housework in
      let own = serves.own in
      called_for desk old serves.middle new sent_old sent_new at lots lots_now before now request words own.turns (Answered title answer) 0 [] pace gives work own.made
      (λ start earlier v m w agrees splits kept middle goes.
      does (service_with at words work.sent work.halted work.taken work.emptied (work.turns ++ own.turns) (Answered title answer)) v w refl refl agrees
      (record { before = work.turns; own = own.turns; middle = m; housekeeping = subst (λ (l : List Taken). Housekeeps at desk.pace l v work.turns m) (splits_none v work.taken work.at_once [] splits) kept; makes = own.makes; goes = goes; all = refl })
      (last_after work.turns own.turns (One (Some answer)) own.last) refl)
