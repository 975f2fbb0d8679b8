-- One turn of the loop over a connection: what was read, what was done for it, and what was written, make one exchange more or the end.
use Rattle.std.proofs.Common.{◌≡◌, ℕ, ◌+◌, ◌<◌, Bool, List, [], ◌∷◌, Option, Some, None, refl, sym, ap, subst, ◌∙◌, arith}
use Rattle.std.specs.Prelude.{◌==◌, ◌||◌, string_bytes}
use Rattle.wiki_model.specs.Bytes.{Bytes}
use Rattle.wiki_model.specs.Limits.{requests_max}
use Rattle.wiki_model.specs.History.{Entry}
use Rattle.wiki_model.specs.Cache.{CacheMap}
use Rattle.wiki_model.specs.Asking.{Request}
use Rattle.http_desk.specs.Incoming.{Incoming, Ready, Refused}
use Rattle.http_desk.specs.AsModel.{request_shown}
use Rattle.http_reply.specs.Reply.{Reply, answer_bytes}
use Rattle.http_reply.specs.AsModel.{refusal_of}
use Rattle.http_reply.specs.declared.refusal.Refusal.{Refusal}
use Rattle.region_state.specs.AsModel.{answer_of}
use Rattle.region_round.specs.AsModel.{answers_of}
use Rattle.region_state.specs.declared.plan.FarmPlan.{FarmPlan}
use Rattle.farm_base.specs.Series.{Gives}
use Rattle.farm_core.specs.FarmParts.{FarmParts}
use Rattle.wiki_serve.specs.declared.callers.Visit.{Visit}
use Rattle.wiki_serve.specs.declared.connection.ConnEnd.{ConnEnd}
use Rattle.wiki_serve.specs.declared.connection.ConnEnd.TheVariants as ended
use Rattle.wiki_serve.specs.declared.read_arrival.Arrival.{Arrival}
use Rattle.wiki_serve.specs.declared.read_arrival.Arrival.TheVariants as arrival
use Rattle.wiki_serve.specs.declared.serve_arrival.Answered.{Answered}
use Rattle.wiki_serve.specs.declared.serve_arrival.Reaction.{Reaction}
use Rattle.wiki_serve.specs.declared.serve_arrival.Reaction.TheVariants as reaction
use Rattle.wiki_serve.specs.Replies.{answer_reply, listed_reply}
use Rattle.wiki_serve.specs.Exchanges as exchange
use Rattle.wiki_serve.specs.Exchanges.{Outcome, Exchange, Refusing, Serving, Service, Heard, AreHeard, services, incoming_of, closes, response, service_reply}
use Rattle.wiki_serve.specs.Callers.{Desk}
use Rattle.wiki_serve.specs.Connections.{Conn, IsServed}
use Rattle.wiki_serve.specs.Served.{Seen, seen_at, Waits, ReadsFrom, GoesOnBy, MayServeOn, HasOne, HearsOne}
use Rattle.wiki_serve.specs.Turns.{Standing, StandsSent, unsent_of}
use Rattle.wiki_serve.specs.AsModel.{end_of}
use Rattle.wiki_serve.specs.Reactions.{EndsReading, IsFrom, Arrives, DoesNothing, DoesFor, CalledFor, desk_of, AnswersVisit, ReactsTo, Reacts, reaction_closes, reaction_bytes, WritesResponse, Responds}
use Rattle.wiki_serve.proofs.ServedLaws.{has_one, refused_goes_on, refused_hears, serving_goes_on, serving_hears, serves_on, ends_closed, ends_cut, ends_read_fault, ends_memory, ends_unanswered, ends_write_fault, ends_ended, ends_enough}

-- An exchange was had, to which this is the response.
record Had (desk : Desk) (before now : Heard) (unsent_before unsent_now : List ℕ) (Stood Later : Standing) (came : Incoming) (what : Reaction) : Type 0 where
  exchange : Exchange Service
  is : incoming_of exchange ≡ came
  heard : AreHeard before now (services (exchange ∷ []))
  goes_on : GoesOnBy desk Stood Later unsent_before unsent_now (exchange ∷ [])
  closes_is : closes exchange ≡ reaction_closes what
  bytes : (n : ℕ) → response n exchange ≡ reaction_bytes what (reaction_closes what || (n == requests_max))

-- what a turn of the loop comes to
abbrev pub Next : (desk : Desk) (a : Seen) (conn : Conn) (kept : Bytes) (heard : Heard) (unsent : List ℕ) (Stood Later : Standing) (count : ℕ) → Option ConnEnd → Type 0
Next desk a conn kept heard unsent Stood Later count None = MayServeOn desk a (seen_at conn kept heard unsent) Stood Later (count + 1)
Next desk a conn kept heard unsent Stood Later count (Some end) = IsServed desk a.conn conn a.heard heard a.unsent unsent Stood Later (end_of end)

few : (desk : Desk) (a b : Seen) (Stood Stands : Standing) (count : ℕ) → MayServeOn desk a b Stood Stands count → (count + 1 ≡ requests_max → ⊥) → count + 1 < requests_max
few desk a b Stood Stands count on other = let small = on.may_go_on.1 in let number = on.number in omega (arith, small, number, other)

responded : (desk : Desk) (a b : Seen) (mid conn : Conn) (kept : Bytes) (heard : Heard) (unsent : List ℕ) (Stood Stands Later : Standing) (count : ℕ) (came : Incoming) (what : Reaction) (result : Option ConnEnd)
    → MayServeOn desk a b Stood Stands count → ReadsFrom b.conn mid b.kept kept came → Had desk b.heard heard b.unsent unsent Stands Later came what
    → WritesResponse mid conn (reaction_bytes what (reaction_closes what || ((count + 1) == requests_max))) (reaction_closes what) (count + 1) result
    → Next desk a conn kept heard unsent Stood Later count result
responded desk a b mid conn kept heard unsent Stood Stands Later count came what result on reads had = by result
  where
    c : Seen
    c = seen_at mid kept heard unsent

    one : HasOne desk b c Stands Later had.exchange
    one = has_one desk b c Stands Later came had.exchange reads had.is had.heard had.goes_on

    sent : Bytes
    sent = reaction_bytes what (reaction_closes what || ((count + 1) == requests_max))

    by : (r : Option ConnEnd) → WritesResponse mid conn (reaction_bytes what (reaction_closes what || ((count + 1) == requests_max))) (reaction_closes what) (count + 1) r → Next desk a conn kept heard unsent Stood Later count r
    by None (writes, open_still, other) =
        serves_on desk a b c conn Stood Stands Later count had.exchange on one
        (subst (Rattle.wiki_serve.specs.Served.WritesTo mid conn) (sym (had.bytes (count + 1))) writes) (had.closes_is ∙ open_still) (few desk a b Stood Stands count on other)
    by (Some ended.Ended) (writes, shut) =
        ends_ended desk a b c conn Stood Stands Later count had.exchange on one
        (subst (Rattle.wiki_serve.specs.Served.WritesTo mid conn) (sym (had.bytes (count + 1))) writes) (had.closes_is ∙ shut)
    by (Some ended.Enough) (writes, open_still, full) =
        ends_enough desk a b c conn Stood Stands Later count had.exchange on one
        (subst (Rattle.wiki_serve.specs.Served.WritesTo mid conn) (sym (had.bytes (count + 1))) writes) (had.closes_is ∙ open_still) full
    by (Some ended.WriteFault) (later, prefix, rose) =
        ends_write_fault desk a b c conn Stood Stands Later count had.exchange on one later
        (subst (Rattle.farm_base.specs.Exposed.AddsPrefix mid.written conn.written) (sym (had.bytes (count + 1))) prefix) rose
    by (Some ended.Memory) waits = ends_unanswered desk a b c conn Stood Stands Later count had.exchange on one waits.later waits.written
    by (Some ended.Closed) never = absurd never
    by (Some ended.Cut) never = absurd never
    by (Some ended.ReadFault) never = absurd never

-- the input ended
reading_ended : (desk : Desk) (a b : Seen) (conn : Conn) (kept : Bytes) (Stood Stands : Standing) (count : ℕ) (end : ConnEnd)
    → MayServeOn desk a b Stood Stands count → EndsReading b.conn conn b.kept kept end → IsServed desk a.conn conn a.heard b.heard a.unsent b.unsent Stood Stands (end_of end)
reading_ended desk a b conn kept Stood Stands count ended.Closed on reads = ends_closed desk a b conn kept Stood Stands count on reads
reading_ended desk a b conn kept Stood Stands count ended.Cut on reads = ends_cut desk a b conn kept Stood Stands count on reads
reading_ended desk a b conn kept Stood Stands count ended.ReadFault on (waits, rose) = ends_read_fault desk a b conn Stood Stands count on waits.later waits.written rose
reading_ended desk a b conn kept Stood Stands count ended.Memory on waits = ends_memory desk a b conn Stood Stands count on waits.later waits.written
reading_ended desk a b conn kept Stood Stands count ended.WriteFault on reads = absurd reads
reading_ended desk a b conn kept Stood Stands count ended.Ended on reads = absurd reads
reading_ended desk a b conn kept Stood Stands count ended.Enough on reads = absurd reads

-- the bytes of an answer by the title that it is about
answered_bytes : (title : Rattle.wiki_model.specs.Titles.Title) (answered : Answered) (request : Request) (service : Service) (n : ℕ)
    → service.outcome ≡ exchange.Answered title (answer_of answered.answer) → Rattle.wiki_serve.specs.Reactions.IsOfTitle title answered → answered.head ≡ request.head → answered.close ≡ request.close
    → response n (Serving request service) ≡ reaction_bytes (reaction.Answered answered) (answered.close || (n == requests_max))
answered_bytes title answered request service n outcome of_title head close =
    ap (λ (o : Outcome). answer_bytes (service_reply o request.head (request.close || (n == requests_max)))) outcome
    ∙ ap (λ (r : Reply). answer_bytes r) (sym (of_title request.head (request.close || (n == requests_max))))
    ∙ ap (λ (h : Bool). answer_bytes (answer_reply (string_bytes answered.location) (answer_of answered.answer) h (request.close || (n == requests_max)))) (sym head)
    ∙ ap (λ (c : Bool). answer_bytes (answer_reply (string_bytes answered.location) (answer_of answered.answer) answered.head (c || (n == requests_max)))) (sym close)

module _ {K S : Type 0} (content : K → Option (List Entry)) (faults : K → ℕ) (cache_of : S → CacheMap Bytes) where
  -- nothing was done: the same runs stand
  still : (desk : Desk) (a : Seen) (conn : Conn) (Stood : Standing) (end : Rattle.wiki_serve.specs.Connections.End) (old new : FarmParts K S) (sent_old sent_new : ℕ) (before now : Heard) → DoesNothing old new sent_old sent_new before now
      → IsServed desk a.conn conn a.heard before a.unsent (unsent_of old sent_old) Stood (StandsSent content faults cache_of old sent_old) end
      → IsServed desk a.conn conn a.heard now a.unsent (unsent_of new sent_new) Stood (StandsSent content faults cache_of new sent_new) end
  still desk a conn Stood end old new sent_old sent_new before now nothing served =
      subst (λ (h : Heard). IsServed desk a.conn conn a.heard h a.unsent (unsent_of new sent_new) Stood (StandsSent content faults cache_of new sent_new) end) (sym nothing.heard)
      (subst (λ (f : FarmParts K S). IsServed desk a.conn conn a.heard before a.unsent (unsent_of f sent_new) Stood (StandsSent content faults cache_of f sent_new) end) (sym nothing.farm)
      (subst (λ (s : ℕ). IsServed desk a.conn conn a.heard before a.unsent (unsent_of old s) Stood (StandsSent content faults cache_of old s) end) (sym nothing.sent) served))

  refused_had : (desk : Desk) (old new : FarmParts K S) (sent_old sent_new : ℕ) (before now : Heard) (refusal : Refusal) → DoesNothing old new sent_old sent_new before now
      → Had desk before now (unsent_of old sent_old) (unsent_of new sent_new) (StandsSent content faults cache_of old sent_old) (StandsSent content faults cache_of new sent_new) (Refused (refusal_of refusal)) (reaction.Refused refusal)
  refused_had desk old new sent_old sent_new before now refusal nothing =
      subst (λ (h : Heard). Had desk before h (unsent_of old sent_old) (unsent_of new sent_new) (StandsSent content faults cache_of old sent_old) (StandsSent content faults cache_of new sent_new) (Refused (refusal_of refusal)) (reaction.Refused refusal)) (sym nothing.heard)
      (subst (λ (f : FarmParts K S). Had desk before before (unsent_of old sent_old) (unsent_of f sent_new) (StandsSent content faults cache_of old sent_old) (StandsSent content faults cache_of f sent_new) (Refused (refusal_of refusal)) (reaction.Refused refusal)) (sym nothing.farm)
      (subst (λ (s : ℕ). Had desk before before (unsent_of old sent_old) (unsent_of old s) (StandsSent content faults cache_of old sent_old) (StandsSent content faults cache_of old s) (Refused (refusal_of refusal)) (reaction.Refused refusal)) (sym nothing.sent)
      (record {
        exchange = Refusing (refusal_of refusal);
        is = refl;
        heard = refused_hears before (refusal_of refusal);
        goes_on = refused_goes_on desk (StandsSent content faults cache_of old sent_old) (unsent_of old sent_old) (refusal_of refusal);
        closes_is = refl;
        bytes = λ n. refl;
      })))

  hears : (desk : Desk) (old new : FarmParts K S) (sent_old sent_new : ℕ) (before now : Heard) (request : Request) (outcome : Outcome) → (d : DoesFor content faults cache_of desk old new sent_old sent_new before now request outcome) → HearsOne before now d.called.service
  hears desk old new sent_old sent_new before now request outcome d = record {
    clock = subst (Gives before.clock now.clock) (sym d.called.at_is) d.reads;
    lots = d.called.lots;
    wire = d.called.wire;
    refused = d.called.refused;
    empty = d.called.empty;
  }

  served_had : (desk : Desk) (old new : FarmParts K S) (sent_old sent_new : ℕ) (before now : Heard) (request : Request) (outcome : Outcome) (what : Reaction) → (d : DoesFor content faults cache_of desk old new sent_old sent_new before now request outcome)
      → request.close ≡ reaction_closes what → ((n : ℕ) → response n (Serving request d.called.service) ≡ reaction_bytes what (reaction_closes what || (n == requests_max)))
      → Had desk before now (unsent_of old sent_old) (unsent_of new sent_new) (StandsSent content faults cache_of old sent_old) (StandsSent content faults cache_of new sent_new) (Ready request) what
  served_had desk old new sent_old sent_new before now request outcome what d closes_is bytes = record {
    exchange = Serving request d.called.service;
    is = refl;
    heard = serving_hears before now request d.called.service (hears desk old new sent_old sent_new before now request outcome d);
    goes_on = serving_goes_on desk (StandsSent content faults cache_of old sent_old) (StandsSent content faults cache_of new sent_new) (unsent_of old sent_old) (unsent_of new sent_new) request d.called.service d.called.goes_on;
    closes_is = closes_is;
    bytes = bytes;
  }

  -- A whole turn of the loop.
  pub turn_done : (a b : Seen) (mid conn : Conn) (kept : Bytes) (old new : FarmParts K S) (sent_old sent_new : ℕ) (before now : Heard) (Stood : Standing) (count : ℕ) (came : Arrival) (what : Reaction) (result : Option ConnEnd)
      → b.heard ≡ before → b.unsent ≡ unsent_of old sent_old
      → MayServeOn (desk_of mid.peer old) a b Stood (StandsSent content faults cache_of old sent_old) count
      → Arrives b.conn mid b.kept kept came → Reacts content faults cache_of mid.peer old new sent_old sent_new before now came what → Responds mid conn what (count + 1) result
      → Next (desk_of mid.peer old) a conn kept now (unsent_of new sent_new) Stood (StandsSent content faults cache_of new sent_new) count result
  turn_done a b mid conn kept old new sent_old sent_new before now Stood count came what result heard_is unsent_is on =
      by came (subst (λ (u : List ℕ). MayServeOn (desk_of mid.peer old) a (seen_at b.conn b.kept before u) Stood (StandsSent content faults cache_of old sent_old) count) unsent_is
      (subst (λ (h : Heard). MayServeOn (desk_of mid.peer old) a (seen_at b.conn b.kept h b.unsent) Stood (StandsSent content faults cache_of old sent_old) count) heard_is on))
    where
      desk : Desk
      desk = desk_of mid.peer old

      at : Seen
      at = seen_at b.conn b.kept before (unsent_of old sent_old)

      -- the connection ended with nothing done
      ended_so : (end : ConnEnd) → DoesNothing old new sent_old sent_new before now → (result ≡ Some end) × (conn ≡ mid) → IsServed (desk_of mid.peer old) a.conn mid a.heard before a.unsent (unsent_of old sent_old) Stood (StandsSent content faults cache_of old sent_old) (end_of end)
          → Next (desk_of mid.peer old) a conn kept now (unsent_of new sent_new) Stood (StandsSent content faults cache_of new sent_new) count result
      ended_so end nothing (is, same) served =
          subst (Next (desk_of mid.peer old) a conn kept now (unsent_of new sent_new) Stood (StandsSent content faults cache_of new sent_new) count) (sym is)
          (subst (λ (c : Conn). IsServed (desk_of mid.peer old) a.conn c a.heard now a.unsent (unsent_of new sent_new) Stood (StandsSent content faults cache_of new sent_new) (end_of end)) (sym same)
          (still (desk_of mid.peer old) a mid Stood (end_of end) old new sent_old sent_new before now nothing served))

      visited : (visit : Visit) (did : Reaction) → MayServeOn (desk_of mid.peer old) a (seen_at b.conn b.kept before (unsent_of old sent_old)) Stood (StandsSent content faults cache_of old sent_old) count
          → ReadsFrom b.conn mid b.kept kept (Ready (request_shown visit.request)) → ReactsTo content faults cache_of (desk_of mid.peer old) old new sent_old sent_new before now visit did → Responds mid conn did (count + 1) result
          → Next (desk_of mid.peer old) a conn kept now (unsent_of new sent_new) Stood (StandsSent content faults cache_of new sent_new) count result
      visited visit (reaction.Ended ended.Memory) may reads nothing responds =
          ended_so ended.Memory nothing responds (ends_memory (desk_of mid.peer old) a (seen_at b.conn b.kept before (unsent_of old sent_old)) mid Stood (StandsSent content faults cache_of old sent_old) count may reads.later reads.written)
      visited visit (reaction.Ended ended.Closed) may reads never responds = absurd never
      visited visit (reaction.Ended ended.Cut) may reads never responds = absurd never
      visited visit (reaction.Ended ended.ReadFault) may reads never responds = absurd never
      visited visit (reaction.Ended ended.WriteFault) may reads never responds = absurd never
      visited visit (reaction.Ended ended.Ended) may reads never responds = absurd never
      visited visit (reaction.Ended ended.Enough) may reads never responds = absurd never
      visited visit (reaction.Refused refusal) may reads never responds = absurd never
      visited visit (reaction.Answered answered) may reads answers responds =
          responded (desk_of mid.peer old) a (seen_at b.conn b.kept before (unsent_of old sent_old)) mid conn kept now (unsent_of new sent_new) Stood (StandsSent content faults cache_of old sent_old) (StandsSent content faults cache_of new sent_new) count (Ready (request_shown visit.request)) (reaction.Answered answered) result may reads
          (served_had (desk_of mid.peer old) old new sent_old sent_new before now (request_shown visit.request) (exchange.Answered answers.title (answer_of answered.answer)) (reaction.Answered answered) answers.does (sym answers.close)
          (λ n. answered_bytes answers.title answered (request_shown visit.request) answers.does.called.service n answers.does.called.outcome_is answers.of_title answers.head answers.close))
          responds
      visited visit (reaction.Listed listed) may reads (head_is, close_is, does) responds =
          responded (desk_of mid.peer old) a (seen_at b.conn b.kept before (unsent_of old sent_old)) mid conn kept now (unsent_of new sent_new) Stood (StandsSent content faults cache_of old sent_old) (StandsSent content faults cache_of new sent_new) count (Ready (request_shown visit.request)) (reaction.Listed listed) result may reads
          (served_had (desk_of mid.peer old) old new sent_old sent_new before now (request_shown visit.request) (exchange.Listed (answers_of listed.answers.items)) (reaction.Listed listed) does (sym close_is)
          (λ n. ap (λ (o : Outcome). answer_bytes (service_reply o visit.request.head (visit.request.close || (n == requests_max)))) does.called.outcome_is
          ∙ ap (λ (h : Bool). answer_bytes (listed_reply (answers_of listed.answers.items) h (visit.request.close || (n == requests_max)))) (sym head_is)
          ∙ ap (λ (c : Bool). answer_bytes (listed_reply (answers_of listed.answers.items) listed.head (c || (n == requests_max)))) (sym close_is)))
          responds

      by : (arrived : Arrival) → MayServeOn (desk_of mid.peer old) a (seen_at b.conn b.kept before (unsent_of old sent_old)) Stood (StandsSent content faults cache_of old sent_old) count
          → Arrives b.conn mid b.kept kept arrived → Reacts content faults cache_of mid.peer old new sent_old sent_new before now arrived what → Responds mid conn what (count + 1) result
          → Next (desk_of mid.peer old) a conn kept now (unsent_of new sent_new) Stood (StandsSent content faults cache_of new sent_new) count result
      by (arrival.Ended end) may arrives (is, nothing) responds =
          ended_so end nothing (subst (λ (r : Reaction). Responds mid conn r (count + 1) result) is responds)
          (reading_ended (desk_of mid.peer old) a (seen_at b.conn b.kept before (unsent_of old sent_old)) mid kept Stood (StandsSent content faults cache_of old sent_old) count end may arrives)
      by (arrival.Refused refusal) may arrives (is, nothing) responds =
          responded (desk_of mid.peer old) a (seen_at b.conn b.kept before (unsent_of old sent_old)) mid conn kept now (unsent_of new sent_new) Stood (StandsSent content faults cache_of old sent_old) (StandsSent content faults cache_of new sent_new) count (Refused (refusal_of refusal)) (reaction.Refused refusal) result may arrives
          (refused_had (desk_of mid.peer old) old new sent_old sent_new before now refusal nothing)
          (subst (λ (r : Reaction). Responds mid conn r (count + 1) result) is responds)
      by (arrival.Ready visit) may (reads, from) reacts responds = visited visit what may reads (reacts from) responds

  -- the same at the desk of the whole connection, which has this peer, on the farm as it was first
  pub turn_whole : (peer : Bytes) (first : FarmParts K S) (a b : Seen) (mid conn : Conn) (kept : Bytes) (old new : FarmParts K S) (sent_old sent_new : ℕ) (before now : Heard) (Stood : Standing) (count : ℕ) (came : Arrival) (what : Reaction) (result : Option ConnEnd)
      → mid.peer ≡ peer → old.plan ≡ first.plan → b.heard ≡ before → b.unsent ≡ unsent_of old sent_old
      → MayServeOn (desk_of peer first) a b Stood (StandsSent content faults cache_of old sent_old) count
      → Arrives b.conn mid b.kept kept came → Reacts content faults cache_of mid.peer old new sent_old sent_new before now came what → Responds mid conn what (count + 1) result
      → Next (desk_of peer first) a conn kept now (unsent_of new sent_new) Stood (StandsSent content faults cache_of new sent_new) count result
  turn_whole peer first a b mid conn kept old new sent_old sent_new before now Stood count came what result peer_is plan_is heard_is unsent_is on arrives reacts responds =
      let same : desk_of mid.peer old ≡ desk_of peer first =
      ap (λ (p : Bytes). let desk : Desk = record { peer = p; pace = old.plan.pace } in desk) peer_is
      ∙ ap (λ (plan : FarmPlan). let desk : Desk = record { peer = peer; pace = plan.pace } in desk) plan_is in
      subst (λ (d : Desk). Next d a conn kept now (unsent_of new sent_new) Stood (StandsSent content faults cache_of new sent_new) count result) same
      (turn_done a b mid conn kept old new sent_old sent_new before now Stood count came what result heard_is unsent_is
      (subst (λ (d : Desk). MayServeOn d a b Stood (StandsSent content faults cache_of old sent_old) count) (sym same) on) arrives reacts responds)
