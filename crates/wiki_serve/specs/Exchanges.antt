-- The exchanges of one connection: each request with what was done for it, and its response.
use Rattle.std.specs.Prelude.{ℕ, zero, suc, ◌≡◌, ◌+◌, ◌==◌, ◌||◌, Bool, if◌then◌else◌, List, [], ◌∷◌, ◌++◌, map}
use Rattle.std.specs.Prelude.{flat_map, Option, Some, option_map}
use Rattle.farm_base.specs.Causes.{counted}
use Rattle.farm_base.specs.Series.{Series, Gives}
use Rattle.wiki_model.specs.declared.Readings.{Readings}
use Rattle.wiki_model.specs.Bytes.{Bytes}
use Rattle.wiki_model.specs.Titles.{Title}
use Rattle.wiki_model.specs.Limits.{requests_max}
use Rattle.wiki_model.specs.Answers.{Answer}
use Rattle.wiki_model.specs.Answered.{last_reply}
use Rattle.wiki_model.specs.Runs.{Turn}
use Rattle.wiki_model.specs.Runs.Reply.{One}
use Rattle.wiki_model.specs.Serving.{Taken}
use Rattle.wiki_model.specs.Asking.{Request, Refusal}
use Rattle.purge_relay.specs.Carried.{CarriedMessage, Carried}
use Rattle.http_desk.specs.Incoming.{Incoming, Ready, Refused}
use Rattle.http_reply.specs.Reply.{Reply, answer_bytes, refusal_reply}
use Rattle.wiki_serve.specs.Replies.{location_of, answer_reply, listed_reply}

-- what a request is answered: one answer, about this title; or the answers of a batch, in the order of its titles
pub data Outcome : Type 0 where
  Answered : Title → Answer → Outcome
  Listed : List Answer → Outcome

-- What was done for a request.
pub record Service : Type 0 where
  -- its reading of the clocks
  pub at : Readings
  -- the words that were drawn
  pub words : List ℕ
  -- the messages that were sent, and whether a send was refused
  pub sent : List Taken
  pub halted : Bool
  -- the messages that were taken, and whether a take gave none
  pub taken : List Taken
  pub emptied : Bool
  -- the turns of the farm, the first of them first
  pub turns : List Turn
  pub outcome : Outcome

-- one answer ends the request
abbrev pub IsAnswered : Title → List Turn → Outcome → Type 0
IsAnswered title turns outcome =
    (answer : Answer) × (last_reply turns ≡ Some (One (Some answer))) × (outcome ≡ Answered title answer)

-- a request that was refused, or one for which something was done
pub data Exchange (A : Type 0) : Type 0 where
  Refusing : Refusal → Exchange A
  Serving : Request → A → Exchange A

abbrev pub incoming_of : {A : Type 0} → Exchange A → Incoming
incoming_of (Refusing refusal) = Refused refusal
incoming_of (Serving request service) = Ready request

-- what was done for the requests that were served, in order
abbrev pub services : {A : Type 0} → List (Exchange A) → List A
services [] = []
services (Refusing refusal ∷ exchanges) = services exchanges
services (Serving request service ∷ exchanges) = service ∷ services exchanges

abbrev pub turns_of : List (Exchange Service) → List Turn
turns_of exchanges = flat_map (λ s. s.turns) (services exchanges)

-- Responses

-- whether the connection ends after it
abbrev pub closes : {A : Type 0} → Exchange A → Bool
closes (Refusing refusal) = refusal.close
closes (Serving request service) = request.close

abbrev pub service_reply : Outcome → (head close : Bool) → Reply
service_reply (Answered title answer) head close = answer_reply (location_of title) answer head close
service_reply (Listed answers) head close = listed_reply answers head close

abbrev pub reply_of : Exchange Service → (close : Bool) → Reply
reply_of (Refusing refusal) close = refusal_reply refusal close
reply_of (Serving request service) close = service_reply service.outcome request.head close

-- the bytes of the nth response of a connection; the last that is allowed says that it closes
abbrev pub response : (n : ℕ) → Exchange Service → Bytes
response n exchange = answer_bytes (reply_of exchange (closes exchange || (n == requests_max)))

abbrev pub responses_from : (n : ℕ) → List (Exchange Service) → Bytes
responses_from n [] = []
responses_from n (exchange ∷ exchanges) = response n exchange ++ responses_from (n + 1) exchanges

abbrev pub responses : List (Exchange Service) → Bytes
responses = responses_from 1

-- What came from the outside

-- these were given, one after another
abbrev pub GivesAll : {A : Type 0} → (old : Option (Series A)) → List A → (new : Option (Series A)) → Type 0
GivesAll old [] new = new ≡ old
GivesAll {A} old (x ∷ xs) new = (middle : Option (Series A)) × Gives old middle x × GivesAll middle xs new

abbrev pub as_message : Taken → CarriedMessage
as_message taken = record { number = taken.number; body = taken.body }

abbrev pub with_messages : (sent taken : List Taken) → Carried → Carried
with_messages sent taken c =
    record { sent = c.sent ++ map as_message sent; taken = c.taken ++ map as_message taken }

abbrev pub how_often : (Service → Bool) → List Service → ℕ
how_often test [] = 0
how_often test (service ∷ more) = (if test service then 1 else 0) + how_often test more

-- What clocks, lots and wire expose, and the wire's counts of refused sends and of empty takes.
pub record Heard : Type 0 where
  pub clock : Option (Series Readings)
  pub lots : Option (Series ℕ)
  pub wire : Option Carried
  pub refused : ℕ
  pub empty : ℕ

abbrev pub heard_seen : Option (Series Readings) → Option (Series ℕ) → Option Carried → (refused empty : ℕ) → Heard
heard_seen clock lots wire refused empty =
    record { clock = clock; lots = lots; wire = wire; refused = refused; empty = empty }

-- a count that rises so often, and stops at the end of its type
abbrev pub counted_often : ℕ → (times : ℕ) → ℕ
counted_often n zero = n
counted_often n (suc times) = counted_often (counted n) times

-- The services had these readings, words and messages, each in their order.
pub record AreHeard (old new : Heard) (done : List Service) : Type 0 where
  pub clock : GivesAll old.clock (map (λ s. s.at) done) new.clock
  pub lots : GivesAll old.lots (flat_map (λ s. s.words) done) new.lots
  pub wire : new.wire
      ≡ option_map (with_messages (flat_map (λ s. s.sent) done) (flat_map (λ s. s.taken) done)) old.wire
  pub refused : new.refused ≡ counted_often old.refused (how_often (λ s. s.halted) done)
  pub empty : new.empty ≡ counted_often old.empty (how_often (λ s. s.emptied) done)
