-- A hosting as a whole: the farm that was opened stands for the run of the markup's turn, in which no message is there,
-- and the visits go on with it to a run whose last world has what the keeper has.
use Rattle.std.specs.Prelude.{ℕ, ◌≡◌, ◌≤◌, ◌+◌, ◌-◌, List, [], ◌∷◌, ◌++◌, length, map, reverse, Option, Some, None, IfSome, Result, Ok, Err, refl}
use Rattle.std.proofs.Common.{arith, sym, ap, subst, ◌∙◌, inl, inr}
use Rattle.std.proofs.lemmas.List.{length-map}
use Rattle.farm_base.specs.Series.{Series, Gives}
use Rattle.farm_base.specs.declared.streams.OutFault.{OutFault}
use Rattle.farm_core.specs.declared.farm.NewFault.{NewFault}
use Rattle.farm_core.specs.declared.farm.NewFault.TheVariants as new
use Rattle.farm_core.specs.NewFarm.{HasNewFault}
use Rattle.wiki_model.specs.declared.Readings.{Readings}
use Rattle.wiki_model.specs.Bytes.{Bytes}
use Rattle.wiki_model.specs.History.{Entry}
use Rattle.wiki_model.specs.Cache.{CacheMap}
use Rattle.wiki_model.specs.World.{World, Message}
use Rattle.wiki_model.specs.Steps.{Rose}
use Rattle.wiki_model.specs.Runs.{Turn}
use Rattle.farm_core.specs.FarmParts.{FarmParts}
use Rattle.purge_relay.specs.AsModel.{row_message}
use Rattle.wiki_layout.specs.Layout.{Plan}
use Rattle.wiki_serve.specs.Exchanges.{Heard, AreHeard, services}
use Rattle.wiki_serve.specs.Services.{numbers_from}
use Rattle.wiki_serve.specs.Connections.{Conn}
use Rattle.wiki_serve.specs.Turns.{Standing, StandsSent, unsent_of}
use Rattle.wiki_host.specs.declared.host.HostEnd.{HostEnd}
use Rattle.wiki_host.specs.declared.host.HostEnd.TheVariants as ended
use Rattle.wiki_host.specs.Visits.{Visit, exchanges_of, visit_turns, VisitsLead, DoorSeen, HasVisited, GoesOnByVisits, EndsVisits, VisitsAll}
use Rattle.wiki_host.specs.Opening.{KeeperSeen, keeper_seen, host_start, markup_turn, IsOpened, OpensLayout}
use Rattle.wiki_host.specs.Refusals.{RefusesHost, IsRefusal, IsReadOnce, breaks, new_end}
use Rattle.wiki_host.specs.Hosting.{visits_end, host_seen, IsRunOf, IsHostedRun, IsHosting, IsUntouched, IsUnopened, EndsHost, ClosesVisits, HostsSome, Hosts}

-- a farm that is closed leaves the run for which it stood to the keeper
pub closes : {K S : Type 0} (content : K → Option (List Entry)) (faults : K → ℕ) (cache_of : S → CacheMap Bytes)
    (farm : FarmParts K S) (sent : ℕ) (keeper : K) → keeper ≡ farm.keeper → (start : World) (turns : List Turn) (w : World)
    → StandsSent content faults cache_of farm sent start turns w
    → IsRunOf (keeper_seen (content keeper) (faults keeper)) start turns w
closes content faults cache_of farm sent keeper same start turns w stands = (
  stands.stands.run,
  ap content same ∙ stands.stands.agrees.history,
  let counted = stands.stands.agrees.counted in
      subst (λ k. w.faults ≤ faults k) (sym same) counted,
)

module _ {A : Type 0} (seen : A → Conn) (pace : ℕ) where
  -- a run for which the farm stands is another's as well
  stands_as : (Stood Now Then : Standing) (a b : List ℕ) (visits : List (Visit A))
      → ((start : World) (turns : List Turn) (w : World) → Now start turns w → Then start turns w)
      → GoesOnByVisits seen pace Stood Now a b visits → GoesOnByVisits seen pace Stood Then a b visits
  stands_as Stood Now Then a b visits turns_to goes start turns v stood =
      let (w, stands, does) = goes start turns v stood in
      (w, turns_to start (reverse (visit_turns visits) ++ turns) w stands, does)

  visited_as : (da db : DoorSeen A) (ha hb : Heard) (a b : List ℕ) (Stood Now Then : Standing) (n : ℕ)
      → ((start : World) (turns : List Turn) (w : World) → Now start turns w → Then start turns w)
      → HasVisited seen pace da db ha hb a b Stood Now n → HasVisited seen pace da db ha hb a b Stood Then n
  visited_as da db ha hb a b Stood Now Then n turns_to has = record {
    visits = has.visits;
    number = has.number;
    so_far = record {
      talks = has.so_far.talks;
      handed = has.so_far.handed;
      faults = has.so_far.faults;
      heard = has.so_far.heard;
      goes_on = stands_as Stood Now Then a b has.visits turns_to has.so_far.goes_on;
    };
  }

  -- the visits of an open farm, once it is closed
  pub closes_visits : (wanted : ℕ) (da db : DoorSeen A) (ha hb : Heard) (a b : List ℕ) (Stood Now : Standing)
      (keeper : KeeperSeen) (end : HostEnd) (count : ℕ)
      → ((start : World) (turns : List Turn) (w : World) → Now start turns w → IsRunOf keeper start turns w)
      → HasVisited seen pace da db ha hb a b Stood Now count → EndsHost wanted da db count end
      → ClosesVisits seen pace wanted da db ha hb a Stood keeper end
  closes_visits wanted da db ha hb a b Stood Now keeper end count turns_to has ends = record {
    count = count;
    unsent = b;
    visited = visited_as da db ha hb a b Stood Now (IsRunOf keeper) count turns_to has;
    ends = ends;
  }

ends_host : {A : Type 0} (wanted : ℕ) (da db : DoorSeen A) (count : ℕ) (result : Result ℕ OutFault)
    → EndsVisits wanted da db count result → EndsHost wanted da db count (visits_end result)
ends_host wanted da db count (Ok n) ends = ends
ends_host wanted da db count (Err fault) ends = ends

-- all visits of a door, on a farm that is then closed
pub closed : {A K S : Type 0} (seen : A → Conn) (pace wanted : ℕ) (da db : DoorSeen A) (ha hb : Heard) (a b : List ℕ)
    (Stood : Standing) (content : K → Option (List Entry)) (faults : K → ℕ) (cache_of : S → CacheMap Bytes)
    (farm : FarmParts K S) (sent : ℕ) (keeper : K) (result : Result ℕ OutFault) (end : HostEnd)
    → VisitsAll seen pace wanted da db ha hb a b Stood (StandsSent content faults cache_of farm sent) result
    → keeper ≡ farm.keeper → end ≡ visits_end result
    → ClosesVisits seen pace wanted da db ha hb a Stood (keeper_seen (content keeper) (faults keeper)) end
closed seen pace wanted da db ha hb a b Stood content faults cache_of farm sent keeper result end visits same is =
    closes_visits seen pace wanted da db ha hb a b Stood (StandsSent content faults cache_of farm sent)
    (keeper_seen (content keeper) (faults keeper)) end visits.count
    (closes content faults cache_of farm sent keeper same) visits.visited
    (subst (λ (e : HostEnd). EndsHost wanted da db visits.count e) (sym is) (ends_host wanted da db visits.count result visits.ends))

-- why no farm was opened at the clocks' reading
pub new_refused : (Breaks : ℕ → Type 0) (before now : KeeperSeen) (clock_before clock_now : Option (Series Readings)) (first : Readings)
    (fault : NewFault) (end : HostEnd) → end ≡ new_end fault → HasNewFault before.faults now.faults fault
    → now.history ≡ before.history → Gives clock_before clock_now first
    → RefusesHost Breaks before now clock_before clock_now end
new_refused Breaks before now clock_before clock_now first fault end is cause same gives = record {
  history = same;
  why = subst (λ (e : HostEnd). IsRefusal Breaks (Rose before.faults now.faults) clock_before clock_now e) (sym is) (why fault cause);
}
  where
    why : (f : NewFault) → HasNewFault before.faults now.faults f → IsRefusal Breaks (Rose before.faults now.faults) clock_before clock_now (new_end f)
    why new.Fault rose = (rose, inr (first, gives))
    why new.Memory later = inr (first, gives)

-- a farm that agrees with a world without messages has none to send
none_unsent : {K S : Type 0} (farm : FarmParts K S) (sent : ℕ) (w : World) → map row_message farm.ledger.rows ≡ w.messages
    → w.messages ≡ [] → sent ≡ 0 → unsent_of farm sent ≡ []
none_unsent farm sent w messages none zero_sent =
    let long = length-map farm.ledger.rows row_message in
    let same = ap (λ (l : List Message). length l) (messages ∙ none) in
    let empty : length farm.ledger.rows - sent ≡ 0 = omega (arith, long, same, zero_sent) in
    ap (λ n. numbers_from (sent + 1) n) empty

module _ {A : Type 0} (seen : A → Conn) (wanted : ℕ) (layout : Bytes) (da db : DoorSeen A) (before middle after : Heard)
    (kept_before kept_after : KeeperSeen) where
  abbrev pub clocked : Heard
  clocked = record before { clock = middle.clock }

  hosted_run : {K S : Type 0} (content : K → Option (List Entry)) (faults : K → ℕ) (cache_of : S → CacheMap Bytes)
      (plan : Plan) (began : ℕ) (first : Readings) (farm : FarmParts K S) (sent : ℕ) (unsent : List ℕ)
      (visits : List (Visit A))
      → IsOpened content faults cache_of plan (keeper_seen kept_before.history began) first farm sent
      → GoesOnByVisits seen plan.pace (StandsSent content faults cache_of farm sent) (IsRunOf kept_after)
      (unsent_of farm sent) unsent visits
      → (history : Option (List Entry)) → kept_before.history ≡ history
      → IfSome history (λ h. IsHostedRun seen plan.pace (host_start plan h began first) first kept_after visits)
  hosted_run content faults cache_of plan began first farm sent unsent visits opened goes None e = tt
  hosted_run content faults cache_of plan began first farm sent unsent visits opened goes (Some h) e =
      let (v, none, stands) = opened.stands h e in
      let zero_sent = opened.none_sent in
      let within : sent ≤ length v.messages = omega (arith, zero_sent) in
      let (w, run, leads) = goes (host_start plan h began first) (markup_turn first ∷ []) v
      (record { stands = stands; within = within }) in
      record {
        opened = v;
        last = record { world = w; unsent = unsent };
        marked = stands.run;
        leads = subst (λ (l : List ℕ). VisitsLead seen plan.pace visits (record { world = v; unsent = l }) (record { world = w; unsent = unsent }))
            (none_unsent farm sent v stands.agrees.messages none zero_sent) leads;
        run = run.0;
        history = run.1;
        faults = run.2;
      }

  pub hosting : {K S : Type 0} (content : K → Option (List Entry)) (faults : K → ℕ) (cache_of : S → CacheMap Bytes)
      (farm : FarmParts K S) (sent pace : ℕ) (end : HostEnd)
      → OpensLayout content faults cache_of layout kept_before before.clock middle.clock farm sent
      → middle ≡ clocked → pace ≡ farm.plan.pace
      → ClosesVisits seen pace wanted da db middle after (unsent_of farm sent)
      (StandsSent content faults cache_of farm sent) kept_after end
      → faults farm.keeper ≤ kept_after.faults
      → Hosts seen wanted layout (host_seen da before kept_before) (host_seen db after kept_after) end
  hosting content faults cache_of farm sent pace end opens same is_pace shut counts = ends end shut.ends
    where
      plan : Plan
      plan = opens.plan

      visited : HasVisited seen plan.pace da db middle after (unsent_of farm sent) shut.unsent (StandsSent content faults cache_of farm sent) (IsRunOf kept_after) shut.count
      visited = subst (λ (p : ℕ). HasVisited seen p da db middle after (unsent_of farm sent) shut.unsent (StandsSent content faults cache_of farm sent) (IsRunOf kept_after) shut.count)
          (is_pace ∙ opens.opens.opened.pace) shut.visited

      is_hosting : IsHosting seen layout (host_seen da before kept_before) (host_seen db after kept_after) visited.visits
      is_hosting = record {
        plan = plan;
        is_plan = opens.is_plan;
        first = opens.opens.first;
        coming = middle.clock;
        opened = opens.opens.reads;
        heard = subst (λ (h : Heard). AreHeard h after (services (exchanges_of visited.visits))) same visited.so_far.heard;
        talks = visited.so_far.talks;
        handed = visited.so_far.handed;
        began = opens.began;
        since = opens.since;
        counts = let x = opens.opens.opened.counts in let y = counts in omega (arith, x, y);
        run = hosted_run content faults cache_of plan opens.began opens.opens.first farm sent shut.unsent visited.visits opens.opens.opened visited.so_far.goes_on kept_before.history refl;
      }

      some : (e : HostEnd) → EndsHost wanted da db shut.count e → HostsSome seen layout (host_seen da before kept_before) (host_seen db after kept_after) (λ count. EndsHost wanted da db count e)
      some e how = (visited.visits, is_hosting, subst (λ (n : ℕ). EndsHost wanted da db n e) (sym visited.number) how)

      ends : (e : HostEnd) → EndsHost wanted da db shut.count e → Hosts seen wanted layout (host_seen da before kept_before) (host_seen db after kept_after) e
      ends (ended.Served n) how = some (ended.Served n) how
      ends ended.DoorFault how = some ended.DoorFault how
      ends (ended.BadLayout rule) how = absurd how
      ends ended.StoreFault how = absurd how
      ends ended.Memory how = absurd how

  -- what was refused before the first connection
  pub refused : (end : HostEnd) → RefusesHost (breaks layout) kept_before kept_after before.clock middle.clock end
      → middle ≡ clocked
      → Hosts seen wanted layout (host_seen da before kept_before) (host_seen da middle kept_after) end
  refused end refuses same = ends end refuses.why
    where
      untouched : middle.clock ≡ before.clock → IsUntouched (host_seen da before kept_before) (host_seen da middle kept_after)
      untouched clock = record { door = refl; heard = same ∙ ap (λ (c : Option (Series Readings)). let h : Heard = record before { clock = c } in h) clock; history = refuses.history }

      unopened : IsReadOnce before.clock middle.clock → IsUnopened (host_seen da before kept_before) (host_seen da middle kept_after)
      unopened (inl clock) = inl (untouched clock)
      unopened (inr (first, gives)) = inr (record { door = refl; first = first; clock = gives; heard = same; history = refuses.history })

      ends : (e : HostEnd) → IsRefusal (breaks layout) (Rose kept_before.faults kept_after.faults) before.clock middle.clock e
          → Hosts seen wanted layout (host_seen da before kept_before) (host_seen da middle kept_after) e
      ends (ended.BadLayout rule) (broken, clock) = (broken, untouched clock)
      ends ended.StoreFault (rose, once) = (rose, unopened once)
      ends ended.Memory once = unopened once
      ends (ended.Served n) wrong = absurd wrong
      ends ended.DoorFault wrong = absurd wrong
