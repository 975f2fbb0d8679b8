-- The three parts of one exchange: what is read, what is done for it, and what is written.
use Rattle.std.specs.Prelude.{ℕ, ◌≡◌, ◌≤◌, ◌==◌, ◌||◌, Bool, true, false, if◌then◌else◌, List, [], ◌++◌, reverse}
use Rattle.std.specs.Prelude.{Option, Some, None, option_map, string_bytes}
use Rattle.farm_base.specs.Exposed.{AddsPrefix}
use Rattle.wiki_model.specs.declared.Readings.{Readings}
use Rattle.wiki_model.specs.Bytes.{Bytes}
use Rattle.wiki_model.specs.Limits.{requests_max}
use Rattle.wiki_model.specs.Titles.{Title}
use Rattle.wiki_model.specs.History.{Entry}
use Rattle.wiki_model.specs.Cache.{CacheMap}
use Rattle.wiki_model.specs.World.{World}
use Rattle.wiki_model.specs.Steps.{Rose}
use Rattle.wiki_model.specs.Runs.{Turn}
use Rattle.wiki_model.specs.Asking.{Request, Call, PageCall, EditCall, BatchCall}
use Rattle.wiki_model.specs.Answers.{Answer, EditSaved}
use Rattle.farm_base.specs.Series.{Series, Gives}
use Rattle.purge_relay.specs.Carried.{Carried}
use Rattle.http_desk.specs.Incoming.{Ready, Refused, Closed, Cut}
use Rattle.http_desk.specs.AsModel.{request_shown}
use Rattle.http_reply.specs.Reply.{answer_bytes, refusal_reply}
use Rattle.http_reply.specs.AsModel.{refusal_of}
use Rattle.region_state.specs.AsModel.{answer_of}
use Rattle.region_round.specs.AsModel.{answers_of}
use Rattle.wiki_model.specs.Report.{page_of}
use Rattle.farm_steps.specs.RequestMap.{open_at}
use Rattle.farm_core.specs.FarmParts.{FarmParts, SameShape}
use Rattle.wiki_serve.specs.declared.callers.Visit.{Visit}
use Rattle.wiki_serve.specs.declared.connection.ConnEnd.{ConnEnd}
use Rattle.wiki_serve.specs.declared.connection.ConnEnd.TheVariants as ended
use Rattle.wiki_serve.specs.declared.read_arrival.Arrival.{Arrival}
use Rattle.wiki_serve.specs.declared.read_arrival.Arrival.TheVariants as arrival
use Rattle.wiki_serve.specs.declared.serve_arrival.Answered.{Answered}
use Rattle.wiki_serve.specs.declared.serve_arrival.Reaction.{Reaction}
use Rattle.wiki_serve.specs.declared.serve_arrival.Reaction.TheVariants as reaction
use Rattle.wiki_serve.specs.declared.serve_batch.Said.{Said}
use Rattle.wiki_serve.specs.declared.serve_batch.Said.TheVariants as said
use Rattle.wiki_serve.specs.Replies.{location_of, answer_reply, batch_body, listed_reply}
use Rattle.wiki_serve.specs.Exchanges as exchange
use Rattle.wiki_serve.specs.Exchanges.{Outcome, Service, Heard, GivesAll, with_messages}
use Rattle.wiki_serve.specs.Housework.{counted_if}
use Rattle.wiki_serve.specs.Callers.{Desk, stranger_of}
use Rattle.wiki_serve.specs.Services.{DoesOne}
use Rattle.wiki_serve.specs.Connections.{Conn}
use Rattle.wiki_serve.specs.Served.{IsLater, Waits, ReadsFrom, WritesTo}
use Rattle.wiki_serve.specs.Turns.{StandsSent, unsent_of}

-- Reading

abbrev pub EndsReading : (before now : Conn) → (kept_before kept_now : Bytes) → ConnEnd → Type 0
EndsReading before now kept_before kept_now ended.Closed = ReadsFrom before now kept_before kept_now Closed
EndsReading before now kept_before kept_now ended.Cut = ReadsFrom before now kept_before kept_now Cut
EndsReading before now kept_before kept_now ended.ReadFault =
    Waits before now × Rose before.read_faults now.read_faults
EndsReading before now kept_before kept_now ended.Memory = Waits before now
EndsReading before now kept_before kept_now _ = ⊥

-- the visit's client is that of the peer and the agent, if no cookie names one
abbrev pub IsFrom : (peer : Bytes) → Visit → Type 0
IsFrom peer visit = visit.stranger ≡ stranger_of peer (string_bytes visit.request.agent)

abbrev pub Arrives : (before now : Conn) → (kept_before kept_now : Bytes) → Arrival → Type 0
Arrives before now kept_before kept_now (arrival.Ended end) = EndsReading before now kept_before kept_now end
Arrives before now kept_before kept_now (arrival.Refused refusal) =
    ReadsFrom before now kept_before kept_now (Refused (refusal_of refusal))
Arrives before now kept_before kept_now (arrival.Ready visit) =
    ReadsFrom before now kept_before kept_now (Ready (request_shown visit.request)) × IsFrom now.peer visit

-- Doing

-- nothing was done
pub record DoesNothing {K S : Type 0} (old new : FarmParts K S) (sent_old sent_new : ℕ) (before now : Heard)
    : Type 0 where
  pub farm : new ≡ old
  pub sent : sent_new ≡ sent_old
  pub heard : now ≡ before

-- what the lots and the wire expose, and the wire's counts
pub record OutsideSeen : Type 0 where
  pub lots : Option (Series ℕ)
  pub wire : Option Carried
  pub refused : ℕ
  pub empty : ℕ

abbrev pub outside_seen : Option (Series ℕ) → Option Carried → (refused empty : ℕ) → OutsideSeen
outside_seen lots wire refused empty = record { lots = lots; wire = wire; refused = refused; empty = empty }

abbrev pub outside_of : Heard → OutsideSeen
outside_of heard = outside_seen heard.lots heard.wire heard.refused heard.empty

-- A request was served at these readings, with this outcome.
pub record CalledFor {K S : Type 0} (content : K → Option (List Entry)) (faults : K → ℕ)
    (cache_of : S → CacheMap Bytes) (desk : Desk) (old new : FarmParts K S) (sent_old sent_new : ℕ) (at : Readings)
    (before now : OutsideSeen) (request : Request) (outcome : Outcome) : Type 0 where
  pub service : Service
  pub outcome_is : service.outcome ≡ outcome
  pub at_is : service.at ≡ at
  pub lots : GivesAll before.lots service.words now.lots
  pub wire : now.wire ≡ option_map (with_messages service.sent service.taken) before.wire
  pub refused : now.refused ≡ counted_if service.halted before.refused
  pub empty : now.empty ≡ counted_if service.emptied before.empty
  pub goes_on : (start : World) (turns : List Turn) (v : World)
      → StandsSent content faults cache_of old sent_old start turns v
      → (w : World) × StandsSent content faults cache_of new sent_new start (reverse service.turns ++ turns) w
      × DoesOne desk request service (record { world = v; unsent = unsent_of old sent_old })
      (record { world = w; unsent = unsent_of new sent_new })
  pub closed : open_at old.requests 0 ≡ None → open_at new.requests 0 ≡ None
  pub shape : SameShape old new
  pub counts : faults old.keeper ≤ faults new.keeper

-- the same with the reading of the clocks
pub record DoesFor {K S : Type 0} (content : K → Option (List Entry)) (faults : K → ℕ)
    (cache_of : S → CacheMap Bytes) (desk : Desk) (old new : FarmParts K S) (sent_old sent_new : ℕ)
    (before now : Heard) (request : Request) (outcome : Outcome) : Type 0 where
  pub at : Readings
  pub reads : Gives before.clock now.clock at
  pub called : CalledFor content faults cache_of desk old new sent_old sent_new at (outside_of before) (outside_of now)
      request outcome

-- The answer is one to this call, about this title; a page or a batch is never answered that an edit is saved.
abbrev pub IsAnswerTo : Call → Title → Answer → Type 0
IsAnswerTo (PageCall asked) title (EditSaved saved) = ⊥
IsAnswerTo (PageCall asked) title answer = title ≡ asked
IsAnswerTo (BatchCall titles) title (EditSaved saved) = ⊥
IsAnswerTo (BatchCall titles) title answer = Unit {0}
IsAnswerTo (EditCall asked base token text) title answer = title ≡ asked
IsAnswerTo call title answer = ⊥

-- what a call came to: one answer, or those of a batch
abbrev pub DoesCallFor : {K S : Type 0} → (K → Option (List Entry)) → (K → ℕ) → (S → CacheMap Bytes) → Desk
    → (old new : FarmParts K S) → (sent_old sent_new : ℕ) → Readings → (before now : OutsideSeen) → Request
    → Said → Type 0
DoesCallFor content faults cache_of desk old new sent_old sent_new at before now request (said.One answer) =
    (title : Title) × IsAnswerTo request.call title (answer_of answer)
    × CalledFor content faults cache_of desk old new sent_old sent_new at before now request
    (exchange.Answered title (answer_of answer))
DoesCallFor content faults cache_of desk old new sent_old sent_new at before now request (said.Many answers) =
    CalledFor content faults cache_of desk old new sent_old sent_new at before now request
    (exchange.Listed (answers_of answers.items))

-- the text is where the edited page is
abbrev pub IsLocationFor : Call → (text : Bytes) → Type 0
IsLocationFor (EditCall title base token body) text = text ≡ location_of title
IsLocationFor _ text = Unit {0}

-- the desk of a connection with this peer on this farm
abbrev pub desk_of : {K S : Type 0} → (peer : Bytes) → FarmParts K S → Desk
desk_of peer farm = record { peer = peer; pace = farm.plan.pace }

-- the response to what was answered is that to its title's answer
abbrev pub IsOfTitle : Title → Answered → Type 0
IsOfTitle title answered =
    (head close : Bool) → answer_reply (string_bytes answered.location) (answer_of answered.answer) head close
    ≡ answer_reply (location_of title) (answer_of answered.answer) head close

-- a visit was answered
pub record AnswersVisit {K S : Type 0} (content : K → Option (List Entry)) (faults : K → ℕ)
    (cache_of : S → CacheMap Bytes) (desk : Desk) (old new : FarmParts K S) (sent_old sent_new : ℕ)
    (before now : Heard) (visit : Visit) (answered : Answered) : Type 0 where
  pub title : Title
  pub of_title : IsOfTitle title answered
  pub head : answered.head ≡ visit.request.head
  pub close : answered.close ≡ visit.request.close
  pub does : DoesFor content faults cache_of desk old new sent_old sent_new before now (request_shown visit.request)
      (exchange.Answered title (answer_of answered.answer))

abbrev pub ReactsTo : {K S : Type 0} → (K → Option (List Entry)) → (K → ℕ) → (S → CacheMap Bytes) → Desk
    → (old new : FarmParts K S) → (sent_old sent_new : ℕ) → (before now : Heard) → Visit → Reaction → Type 0
ReactsTo content faults cache_of desk old new sent_old sent_new before now visit (reaction.Ended ended.Memory) =
    DoesNothing old new sent_old sent_new before now
ReactsTo content faults cache_of desk old new sent_old sent_new before now visit (reaction.Answered answered) =
    AnswersVisit content faults cache_of desk old new sent_old sent_new before now visit answered
ReactsTo content faults cache_of desk old new sent_old sent_new before now visit (reaction.Listed listed) =
    (listed.head ≡ visit.request.head) × (listed.close ≡ visit.request.close)
    × DoesFor content faults cache_of desk old new sent_old sent_new before now (request_shown visit.request)
    (exchange.Listed (answers_of listed.answers.items))
ReactsTo content faults cache_of desk old new sent_old sent_new before now visit _ = ⊥

-- what was done for what was read, on a connection with this peer
abbrev pub Reacts : {K S : Type 0} → (K → Option (List Entry)) → (K → ℕ) → (S → CacheMap Bytes) → (peer : Bytes)
    → (old new : FarmParts K S) → (sent_old sent_new : ℕ) → (before now : Heard) → Arrival → Reaction → Type 0
Reacts content faults cache_of peer old new sent_old sent_new before now (arrival.Ended end) what =
    (what ≡ reaction.Ended end) × DoesNothing old new sent_old sent_new before now
Reacts content faults cache_of peer old new sent_old sent_new before now (arrival.Refused refusal) what =
    (what ≡ reaction.Refused refusal) × DoesNothing old new sent_old sent_new before now
Reacts content faults cache_of peer old new sent_old sent_new before now (arrival.Ready visit) what =
    IsFrom peer visit
    → ReactsTo content faults cache_of (desk_of peer old) old new sent_old sent_new before now visit what

-- Writing

-- how the connection ends without a response
abbrev pub ended_of : Reaction → Option ConnEnd
ended_of (reaction.Ended end) = Some end
ended_of _ = None

-- whether the connection ends after the response
abbrev pub reaction_closes : Reaction → Bool
reaction_closes (reaction.Ended end) = true
reaction_closes (reaction.Refused refusal) = refusal.close
reaction_closes (reaction.Answered answered) = answered.close
reaction_closes (reaction.Listed listed) = listed.close

-- the bytes of the response
abbrev pub reaction_bytes : Reaction → (close : Bool) → Bytes
reaction_bytes (reaction.Ended end) close = []
reaction_bytes (reaction.Refused refusal) close = answer_bytes (refusal_reply (refusal_of refusal) close)
reaction_bytes (reaction.Answered answered) close =
    answer_bytes (answer_reply (string_bytes answered.location) (answer_of answered.answer) answered.head close)
reaction_bytes (reaction.Listed listed) close =
    answer_bytes (listed_reply (answers_of listed.answers.items) listed.head close)

-- the body of a batch's response
abbrev pub listed_body : Reaction → Bytes
listed_body (reaction.Listed listed) = batch_body 1 (answers_of listed.answers.items)
listed_body _ = []

-- the bytes of the page or of the batch's body that are sent
abbrev pub page_part : Reaction → Bytes
page_part (reaction.Answered answered) = if answered.head then [] else page_of (answer_of answered.answer)
page_part (reaction.Listed listed) = if listed.head then [] else batch_body 1 (answers_of listed.answers.items)
page_part _ = []

-- how a connection ends after its nth response was written whole
abbrev pub end_after : (closes : Bool) → (n : ℕ) → Option ConnEnd
end_after true n = Some ended.Ended
end_after false n = if n == requests_max then Some ended.Enough else None

-- These bytes were written as the response to the nth request, and the connection goes on or ends like this.
abbrev pub WritesResponse : (before now : Conn) → Bytes → (closes : Bool) → (n : ℕ) → Option ConnEnd → Type 0
WritesResponse before now bytes closes n None =
    WritesTo before now bytes × (closes ≡ false) × (n ≡ requests_max → ⊥)
WritesResponse before now bytes closes n (Some ended.Ended) = WritesTo before now bytes × (closes ≡ true)
WritesResponse before now bytes closes n (Some ended.Enough) =
    WritesTo before now bytes × (closes ≡ false) × (n ≡ requests_max)
WritesResponse before now bytes closes n (Some ended.WriteFault) =
    IsLater before now × AddsPrefix before.written now.written bytes × Rose before.write_faults now.write_faults
WritesResponse before now bytes closes n (Some ended.Memory) = Waits before now
WritesResponse before now bytes closes n (Some _) = ⊥

abbrev pub Responds : (before now : Conn) → Reaction → (n : ℕ) → Option ConnEnd → Type 0
Responds before now (reaction.Ended end) n result = (result ≡ Some end) × (now ≡ before)
Responds before now what n result =
    WritesResponse before now (reaction_bytes what (reaction_closes what || (n == requests_max)))
    (reaction_closes what) n result
