-- Visits one after another: none, one, and one list after another. Each of the facts about them is a list's, so that of
-- two lists follows from that of each; what is counted between them only grows.
use Rattle.std.specs.Prelude.{ℕ, ◌≡◌, ◌<◌, ◌≤◌, ◌+◌, ◌-◌, List, [], ◌∷◌, ◌++◌, map, reverse, drop, if◌then◌else◌, Option, Some, None, IfSome, option_map, Result, Ok, Err, refl}
use Rattle.std.proofs.Common.{arith, sym, ap, subst, ◌∙◌, append_assoc, append-nil, inr}
use Rattle.std.proofs.lemmas.List.{map-append, length-append}
use Rattle.std.proofs.lemmas.List.Elements.{All-nil, All-cons, All-append}
use Rattle.std.proofs.lemmas.Grind.{flat_map-append}
use Rattle.farm_base.specs.Causes.{HasCause, counted}
use Rattle.farm_base.specs.Offered.{Offered, GivesNext, GivesFirst, TakesBack, one_out, one_back, is_none_left}
use Rattle.farm_base.specs.declared.streams.OutFault.{OutFault}
use Rattle.farm_core.specs.FarmParts.{FarmParts, SameShape}
use Rattle.wiki_model.specs.Steps.{Rose}
use Rattle.wiki_model.specs.Runs.{Turn}
use Rattle.purge_relay.specs.Carried.{Carried}
use Rattle.wiki_serve.specs.Exchanges.{Exchange, Service, Heard, AreHeard, with_messages, services, turns_of}
use Rattle.wiki_serve.specs.Services.{Held}
use Rattle.wiki_serve.specs.Connections.{Conn, End, IsServed}
use Rattle.wiki_serve.specs.Turns.{Standing}
use Rattle.wiki_serve.proofs.OneMore.{services_more, turns_more, heard_more}
use Rattle.wiki_host.specs.Visits.{Visit, exchanges_of, visit_turns, IsVisit, VisitsLead, GoesOnByVisits, IsHanded, DoorSeen, VisitedSoFar, HasVisited, VisitsAll, VisitsNext}
use Rattle.wiki_host.specs.declared.door_visits.Next.{Next}
use Rattle.wiki_host.specs.declared.door_visits.Next.TheVariants as next

-- counts

pub rose_later : (a b c : ℕ) → a ≤ b → Rose b c → Rose a c
rose_later a b c le rose = omega (arith, le, rose)

-- shapes

pub same_shape : {K S : Type 0} (farm : FarmParts K S) → SameShape farm farm
same_shape farm = record { plan = refl; whole = λ w. w; home = refl; west = refl }

pub shape_again : {K S : Type 0} (a b c : FarmParts K S) → SameShape a b → SameShape b c → SameShape a c
shape_again a b c first second = record {
  plan = second.plan ∙ first.plan;
  whole = λ w. second.whole (first.whole w);
  home = second.home ∙ first.home;
  west = second.west ∙ first.west;
}

-- what is heard of nothing

same_wire : (wire : Option Carried) → wire ≡ option_map (with_messages [] []) wire
same_wire None = refl
same_wire (Some c) =
    ap (λ l. Some (let d : Carried = record { sent = l; taken = c.taken } in d)) (sym (append-nil c.sent))
    ∙ ap (λ l. Some (let d : Carried = record { sent = c.sent ++ []; taken = l } in d)) (sym (append-nil c.taken))

pub hears_nothing : (heard : Heard) → AreHeard heard heard []
hears_nothing heard = record { clock = refl; lots = refl; wire = same_wire heard.wire; refused = refl; empty = refl }

module _ {A : Type 0} (seen : A → Conn) (pace : ℕ) where
  exchanges_more : (xs ys : List (Visit A)) → exchanges_of (xs ++ ys) ≡ exchanges_of xs ++ exchanges_of ys
  exchanges_more xs ys = flat_map-append (λ visit. visit.exchanges) xs ys

  visit_turns_more : (xs ys : List (Visit A)) (turns : List Turn)
      → reverse (visit_turns (xs ++ ys)) ++ turns ≡ reverse (visit_turns ys) ++ (reverse (visit_turns xs) ++ turns)
  visit_turns_more xs ys turns =
      ap (λ l. reverse (turns_of l) ++ turns) (exchanges_more xs ys)
      ∙ turns_more (exchanges_of xs) (exchanges_of ys) turns

  leads_more : (xs ys : List (Visit A)) (v u w : Held)
      → VisitsLead seen pace xs v u → VisitsLead seen pace ys u w → VisitsLead seen pace (xs ++ ys) v w
  leads_more [] ys v u w first second = subst (λ (h : Held). VisitsLead seen pace ys h w) first second
  leads_more (x ∷ xs) ys v u w first second =
      let (next, one, others) = first in (next, one, leads_more xs ys next u w others second)

  goes_on_more : (Stood Middle Now : Standing) (a b c : List ℕ) (xs ys : List (Visit A))
      → GoesOnByVisits seen pace Stood Middle a b xs → GoesOnByVisits seen pace Middle Now b c ys
      → GoesOnByVisits seen pace Stood Now a c (xs ++ ys)
  goes_on_more Stood Middle Now a b c xs ys first second start turns v stood =
      let (u, stands, did) = first start turns v stood in
      let (w, later, does) = second start (reverse (visit_turns xs) ++ turns) u stands in (
        w,
        subst (λ (l : List Turn). Now start l w) (sym (visit_turns_more xs ys turns)) later,
        leads_more xs ys (record { world = v; unsent = a }) (record { world = u; unsent = b })
            (record { world = w; unsent = c }) did does,
      )

  handed_more : (a b c : Option (Offered A)) (xs ys : List (Visit A))
      → IsHanded a b xs → IsHanded b c ys → IsHanded a c (xs ++ ys)
  handed_more None b c xs ys first second = tt
  handed_more (Some old) b c xs ys (rest, left, is) second =
      let middle : IfSome (Some (let o : Offered A = record { left = rest; out = old.out; returned = old.returned ++ map (λ visit. visit.went) xs } in o)) (λ o.
      (rest2 : List A) × (o.left ≡ map (λ visit. visit.came) ys ++ rest2)
      × (c ≡ Some (record { left = rest2; out = o.out; returned = o.returned ++ map (λ visit. visit.went) ys }))) =
      subst (λ (b2 : Option (Offered A)). IsHanded b2 c ys) is second in
      let (rest2, left2, is2) = middle in (
        rest2,
        left ∙ ap (λ l. map (λ visit. visit.came) xs ++ l) left2
            ∙ sym (append_assoc (map (λ visit. visit.came) xs) (map (λ visit. visit.came) ys) rest2)
            ∙ ap (λ l. l ++ rest2) (sym (map-append (λ visit. visit.came) xs ys)),
        is2 ∙ ap (λ l. Some (let o : Offered A = record { left = rest2; out = old.out; returned = l } in o))
            (append_assoc old.returned (map (λ visit. visit.went) xs) (map (λ visit. visit.went) ys)
            ∙ ap (λ l. old.returned ++ l) (sym (map-append (λ visit. visit.went) xs ys))),
      )

  pub visited_more : (da db dc : DoorSeen A) (ha hb hc : Heard) (a b c : List ℕ) (Stood Middle Now : Standing)
      (xs ys : List (Visit A))
      → VisitedSoFar seen pace da db ha hb a b Stood Middle xs → VisitedSoFar seen pace db dc hb hc b c Middle Now ys
      → VisitedSoFar seen pace da dc ha hc a c Stood Now (xs ++ ys)
  visited_more da db dc ha hb hc a b c Stood Middle Now xs ys first second = record {
    talks = All-append (IsVisit seen) xs ys first.talks second.talks;
    handed = handed_more da.offered db.offered dc.offered xs ys first.handed second.handed;
    faults = let x = first.faults in let y = second.faults in omega (arith, x, y);
    heard = subst (AreHeard ha hc)
        (sym (ap (λ l. services l) (exchanges_more xs ys) ∙ services_more (exchanges_of xs) (exchanges_of ys)))
        (heard_more ha hb hc (services (exchanges_of xs)) (services (exchanges_of ys)) first.heard second.heard);
    goes_on = goes_on_more Stood Middle Now a b c xs ys first.goes_on second.goes_on;
  }

  -- no visit, while the door may have counted
  nothing_handed : (offered : Option (Offered A)) → IsHanded offered offered []
  nothing_handed None = tt
  nothing_handed (Some old) = (
    old.left,
    refl,
    ap (λ l. Some (let o : Offered A = record { left = old.left; out = old.out; returned = l } in o))
        (sym (append-nil old.returned)),
  )

  pub visited_none : (da db : DoorSeen A) (heard : Heard) (unsent : List ℕ) (Stood : Standing)
      → db.offered ≡ da.offered → da.faults ≤ db.faults
      → HasVisited seen pace da db heard heard unsent unsent Stood Stood 0
  visited_none da db heard unsent Stood same faults = record {
    visits = [];
    number = refl;
    so_far = record {
      talks = All-nil (IsVisit seen);
      handed = subst (λ (o : Option (Offered A)). IsHanded da.offered o []) (sym same) (nothing_handed da.offered);
      faults = faults;
      heard = hears_nothing heard;
      goes_on = λ start turns v stood. (v, stood, refl);
    };
  }

  -- one visit

  one_handed : (a b c : Option (Offered A)) (came went : A) (exchanges : List (Exchange Service)) (end : End)
      → GivesFirst a b came → TakesBack b c went
      → IsHanded a c (record { came = came; went = went; exchanges = exchanges; end = end } ∷ [])
  one_handed None b c came went exchanges end gives takes = tt
  one_handed (Some old) None c came went exchanges end gives takes = let rest = gives.rest in let no : ⊥ = cc in absurd no
  one_handed (Some old) (Some given) c came went exchanges end gives takes =
      let rest = gives.rest in
      let is : given ≡ one_out old = cc in
      let some : 0 < old.out + 1 = omega arith in
      let back : c ≡ Some (one_back went given) =
      takes.back (subst (λ (o : Offered A). 0 < o.out) (sym is) some) in
      let same : old.out + 1 - 1 ≡ old.out = omega arith in (
        drop 1 old.left,
        gives.first,
        back ∙ ap (λ o. Some (one_back went o)) is
            ∙ ap (λ k. Some (let o : Offered A = record { left = drop 1 old.left; out = k; returned = old.returned ++ went ∷ [] } in o)) same,
      )

  pub visited_one : (da db : DoorSeen A) (before now : Heard) (a b : List ℕ) (Stood Stands : Standing)
      (middle : Option (Offered A)) (came went : A) (end : End)
      → GivesFirst da.offered middle came → TakesBack middle db.offered went
      → da.faults ≤ db.faults
      → IsServed (record { peer = (seen came).peer; pace = pace }) (seen came) (seen went) before now a b Stood Stands end
      → HasVisited seen pace da db before now a b Stood Stands 1
  visited_one da db before now a b Stood Stands middle came went end gives takes faults served =
      let visit : Visit A = record { came = came; went = went; exchanges = served.exchanges; end = end } in
      record {
        visits = visit ∷ [];
        number = refl;
        so_far = record {
          talks = All-cons (IsVisit seen) visit [] served.talk (All-nil (IsVisit seen));
          handed = one_handed da.offered middle db.offered came went served.exchanges end gives takes;
          faults = faults;
          heard = subst (λ (l : List (Exchange Service)). AreHeard before now (services l))
              (sym (append-nil served.exchanges)) served.heard;
          goes_on = λ start turns v stood.
              let (w, stands, does) = served.goes_on start turns v stood in (
                w,
                subst (λ (l : List (Exchange Service)). Stands start (reverse (turns_of l) ++ turns) w)
                    (sym (append-nil served.exchanges)) stands,
                ((let h : Held = record { world = w; unsent = b } in h), does, refl),
              );
        };
      }

  -- what a call of the door's next gave

  pub no_visit : (da db : DoorSeen A) (heard : Heard) (unsent : List ℕ) (Stood : Standing)
      (result : Result (Option A) OutFault) → result ≡ Ok None
      → GivesNext da.offered db.offered result
      → db.nones ≡ (if is_none_left result then counted da.nones else da.nones)
      → HasCause da.faults db.faults result
      → HasVisited seen pace da db heard heard unsent unsent Stood Stood 0 × Rose da.nones db.nones
  no_visit da db heard unsent Stood result is gives nones cause =
      let none = subst (λ (r : Result (Option A) OutFault). GivesNext da.offered db.offered r) is gives in
      let counts = subst (λ (r : Result (Option A) OutFault). db.nones ≡ (if is_none_left r then counted da.nones else da.nones)) is nones in
      (visited_none da db heard unsent Stood none.same cause.later, omega (arith, counts))

  pub door_failed : (da db : DoorSeen A) (heard : Heard) (unsent : List ℕ) (Stood : Standing)
      (result : Result (Option A) OutFault) (fault : OutFault) → result ≡ Err fault
      → GivesNext da.offered db.offered result → HasCause da.faults db.faults result
      → HasVisited seen pace da db heard heard unsent unsent Stood Stood 0 × Rose da.faults db.faults
  door_failed da db heard unsent Stood result fault is gives cause =
      let same = subst (λ (r : Result (Option A) OutFault). GivesNext da.offered db.offered r) is gives in
      let failed = subst (λ (r : Result (Option A) OutFault). HasCause da.faults db.faults r) is cause in
      (visited_none da db heard unsent Stood same cause.later, failed.failed)

  pub came : (da db : DoorSeen A) (before now : Heard) (a b : List ℕ) (Stood Stands : Standing)
      (middle : Option (Offered A)) (faults nones : ℕ) (result : Result (Option A) OutFault) (given went : A) (end : End)
      → result ≡ Ok (Some given)
      → GivesNext da.offered middle result
      → nones ≡ (if is_none_left result then counted da.nones else da.nones)
      → HasCause da.faults faults result
      → TakesBack middle db.offered went → db.nones ≡ nones → db.faults ≡ faults
      → IsServed (record { peer = (seen given).peer; pace = pace }) (seen given) (seen went) before now a b Stood Stands end
      → HasVisited seen pace da db before now a b Stood Stands 1 × (db.nones ≡ da.nones)
  came da db before now a b Stood Stands middle faults nones result given went end is gives counts cause takes same_nones same_faults served =
      let first = subst (λ (r : Result (Option A) OutFault). GivesNext da.offered middle r) is gives in
      let still = subst (λ (r : Result (Option A) OutFault). nones ≡ (if is_none_left r then counted da.nones else da.nones)) is counts in
      let later = cause.later in (
        visited_one da db before now a b Stood Stands middle given went end first takes (omega (arith, later, same_faults)) served,
        same_nones ∙ still,
      )

  -- one more visit
  pub one_more : (da db dc : DoorSeen A) (ha hb hc : Heard) (a b c : List ℕ) (Stood Middle Now : Standing)
      (n k m : ℕ) → n + k ≡ m
      → HasVisited seen pace da db ha hb a b Stood Middle n → HasVisited seen pace db dc hb hc b c Middle Now k
      → HasVisited seen pace da dc ha hc a c Stood Now m
  one_more da db dc ha hb hc a b c Stood Middle Now n k m is first second = record {
    visits = first.visits ++ second.visits;
    number = let long = length-append first.visits second.visits in let x = first.number in let y = second.number in omega (arith, long, x, y, is);
    so_far = visited_more da db dc ha hb hc a b c Stood Middle Now first.visits second.visits first.so_far second.so_far;
  }

  -- the loop over the door's connections

  pub visits_begin : (d : DoorSeen A) (heard : Heard) (unsent : List ℕ) (Stood : Standing)
      → HasVisited seen pace d d heard heard unsent unsent Stood Stood 0
  visits_begin d heard unsent Stood = visited_none d d heard unsent Stood refl (omega arith)

  pub visits_turn : (da db dc : DoorSeen A) (ha hb hc : Heard) (a b c : List ℕ) (Stood Middle Now : Standing)
      (n pace_then : ℕ) (result : Result Next OutFault) → result ≡ Ok next.Served → pace_then ≡ pace
      → HasVisited seen pace da db ha hb a b Stood Middle n → db.nones ≡ da.nones
      → VisitsNext seen pace_then db dc hb hc b c Middle Now result
      → HasVisited seen pace da dc ha hc a c Stood Now (n + 1) × (dc.nones ≡ da.nones)
  visits_turn da db dc ha hb hc a b c Stood Middle Now n pace_then result is same has still visits =
      let at_pace = subst (λ (p : ℕ). VisitsNext seen p db dc hb hc b c Middle Now result) same visits in
      let (one, nones) = subst (λ (r : Result Next OutFault). VisitsNext seen pace db dc hb hc b c Middle Now r) is at_pace in
      (one_more da db dc ha hb hc a b c Stood Middle Now n 1 (n + 1) refl has one, nones ∙ still)

  pub visits_out : (wanted : ℕ) (da db dc : DoorSeen A) (ha hb hc : Heard) (a b c : List ℕ) (Stood Middle Now : Standing)
      (n pace_then : ℕ) (result : Result Next OutFault) → result ≡ Ok next.NoneLeft → pace_then ≡ pace
      → HasVisited seen pace da db ha hb a b Stood Middle n → db.nones ≡ da.nones → n < wanted
      → VisitsNext seen pace_then db dc hb hc b c Middle Now result
      → VisitsAll seen pace wanted da dc ha hc a c Stood Now (Ok n)
  visits_out wanted da db dc ha hb hc a b c Stood Middle Now n pace_then result is same has still less visits =
      let at_pace = subst (λ (p : ℕ). VisitsNext seen p db dc hb hc b c Middle Now result) same visits in
      let (none, rose) = subst (λ (r : Result Next OutFault). VisitsNext seen pace db dc hb hc b c Middle Now r) is at_pace in
      record {
        count = n;
        visited = one_more da db dc ha hb hc a b c Stood Middle Now n 0 n (omega arith) has none;
        ends = (refl, (omega (arith, less), inr (subst (λ (k : ℕ). Rose k dc.nones) still rose)));
      }

  pub visits_fail : (wanted : ℕ) (da db dc : DoorSeen A) (ha hb hc : Heard) (a b c : List ℕ) (Stood Middle Now : Standing)
      (n pace_then : ℕ) (result : Result Next OutFault) (fault : OutFault) → result ≡ Err fault → pace_then ≡ pace
      → HasVisited seen pace da db ha hb a b Stood Middle n → n < wanted
      → VisitsNext seen pace_then db dc hb hc b c Middle Now result
      → VisitsAll seen pace wanted da dc ha hc a c Stood Now (Err fault)
  visits_fail wanted da db dc ha hb hc a b c Stood Middle Now n pace_then result fault is same has less visits =
      let at_pace = subst (λ (p : ℕ). VisitsNext seen p db dc hb hc b c Middle Now result) same visits in
      let (none, rose) = subst (λ (r : Result Next OutFault). VisitsNext seen pace db dc hb hc b c Middle Now r) is at_pace in
      record {
        count = n;
        visited = one_more da db dc ha hb hc a b c Stood Middle Now n 0 n (omega arith) has none;
        ends = (less, rose_later da.faults db.faults dc.faults has.so_far.faults rose);
      }
