-- Which parts of the world a round and a commit leave as they were, so that whoever keeps the rest need not open those steps.
-- A receipt is an event of its region and nothing else, and so is a round's batch.
use Rattle.std.proofs.Common.{◌≡◌, ◌≢◌, ℕ, List, [], ◌∷◌, Bool, true, false, Option, Some, None, refl, ◌∙◌}
use Rattle.wiki_model.specs.declared.Region.{Region}
use Rattle.wiki_model.specs.declared.Region.TheVariants.{Home, West}
use Rattle.wiki_model.specs.History.{Edit}
use Rattle.wiki_model.specs.World.{World, Event, Body, Message, Job, site, moment, message_at, with_event}
use Rattle.wiki_model.specs.World.Body.{Purge, Position}
use Rattle.wiki_model.specs.World.Event.{Received, Rounded}
use Rattle.wiki_model.specs.World.Job.{ViewJob, ReceiptJob}
use Rattle.wiki_model.specs.Answers.{Answer}
use Rattle.wiki_model.specs.Steps.{appended_if, added, purged_again, next_commit, next_entry, next_message, position_of}
use Rattle.wiki_model.specs.Rounds.{received, received_message, rounded, batch}
use Rattle.wiki_model.specs.Changes.{SameButEvents, IsAppended}
use Rattle.wiki_model.proofs.ConsistentLaws.{message-later}

same : (v : World) (r : Region) → SameButEvents v v r
same v r = record {
  history = refl;
  setting = refl;
  faults = refl;
  messages = refl;
  repeated = refl;
  requests = refl;
  markup = refl;
  moments = λ q. refl;
  applied = λ q. refl;
  heard = λ q. refl;
  others = λ q else. refl;
}

then : (u v w : World) (r : Region) → SameButEvents u v r → SameButEvents v w r → SameButEvents u w r
then u v w r a b = record {
  history = b.history ∙ a.history;
  setting = b.setting ∙ a.setting;
  faults = b.faults ∙ a.faults;
  messages = b.messages ∙ a.messages;
  repeated = b.repeated ∙ a.repeated;
  requests = b.requests ∙ a.requests;
  markup = b.markup ∙ a.markup;
  moments = λ q. b.moments q ∙ a.moments q;
  applied = λ q. b.applied q ∙ a.applied q;
  heard = λ q. b.heard q ∙ a.heard q;
  others = λ q else. b.others q else ∙ a.others q else;
}

-- An event changes its region's list and nothing else.
pub event-same : (r : Region) (event : Event) (v : World) → SameButEvents v (with_event r event v) r
event-same r event v = record {
  history = refl;
  setting = refl;
  faults = refl;
  messages = refl;
  repeated = refl;
  requests = refl;
  markup = refl;
  moments = moments r;
  applied = applied r;
  heard = heard r;
  others = others r;
}
  where
    moments : (p q : Region) → moment q (with_event p event v) ≡ moment q v
    moments Home Home = refl
    moments Home West = refl
    moments West Home = refl
    moments West West = refl

    applied : (p q : Region) → (site q (with_event p event v)).applied ≡ (site q v).applied
    applied Home Home = refl
    applied Home West = refl
    applied West Home = refl
    applied West West = refl

    heard : (p q : Region) → (site q (with_event p event v)).heard ≡ (site q v).heard
    heard Home Home = refl
    heard Home West = refl
    heard West Home = refl
    heard West West = refl

    others : (p q : Region) → q ≢ p → (site q (with_event p event v)).events ≡ (site q v).events
    others Home Home else = absurd (else refl)
    others Home West else = refl
    others West Home else = refl
    others West West else = absurd (else refl)

message-same : (r : Region) (o : Option Message) (v : World) → SameButEvents v (received_message r o v) r
message-same r None v = same v r
message-same r (Some m) v = by m.body
  where
    by : (body : Body) → SameButEvents v (Rattle.wiki_model.specs.Rounds.received_body r body v) r
    by (Purge purge title issued) = event-same r (Received purge title (moment r v)) v
    by (Position client index entry stamp) = same v r

-- The receipts of a round's jobs are events of its region.
pub received-same : (r : Region) (jobs : List Job) (v : World) → SameButEvents v (received r jobs v) r
received-same r [] v = same v r
received-same r (ViewJob title need word ∷ jobs) v = received-same r jobs v
received-same r (ReceiptJob purge ∷ jobs) v =
    let x : World = received_message r (message_at v purge) v in
    then v x (received r jobs x) r (message-same r (message_at v purge) v) (received-same r jobs x)

-- So is the whole round.
pub rounded-same : (v : World) (r : Region) (jobs : List Job) (lost : Bool) (answers : List Answer) → SameButEvents v (rounded r jobs lost answers v) r
rounded-same v r jobs lost answers =
    then v (received r jobs v) (rounded r jobs lost answers v) r (received-same r jobs v)
    (event-same r (Rounded (batch v r jobs lost answers)) (received r jobs v))

-- A commit, late or not, is one more entry that home has heard.
pub commit-appends : (v : World) (late : Bool) (edit : Edit) (purge : ℕ) → IsAppended v (appended_if late edit purge v) (next_commit v edit purge)
commit-appends v true edit purge = record {
  history = refl;
  setting = refl;
  faults = refl;
  requests = refl;
  markup = refl;
  moments = moments;
  applied = applied;
  heard_home = refl;
  heard_west = refl;
  events_west = refl;
  issued = λ p t q i. (message-later (purged_again (next_entry v) edit.title (added edit purge v)) (position_of (next_entry v) (next_commit v edit purge))).issued p t q
      ((message-later (added edit purge v) (Purge (next_message v) edit.title (moment Home v))).issued p t q i);
}
  where
    moments : (q : Region) → moment q (appended_if true edit purge v) ≡ moment q v
    moments Home = refl
    moments West = refl

    applied : (q : Region) → (site q (appended_if true edit purge v)).applied ≡ (site q v).applied
    applied Home = refl
    applied West = refl
commit-appends v false edit purge = record {
  history = refl;
  setting = refl;
  faults = refl;
  requests = refl;
  markup = refl;
  moments = moments;
  applied = applied;
  heard_home = refl;
  heard_west = refl;
  events_west = refl;
  issued = λ p t q i. (message-later (added edit purge v) (position_of (next_entry v) (next_commit v edit purge))).issued p t q i;
}
  where
    moments : (q : Region) → moment q (appended_if false edit purge v) ≡ moment q v
    moments Home = refl
    moments West = refl

    applied : (q : Region) → (site q (appended_if false edit purge v)).applied ≡ (site q v).applied
    applied Home = refl
    applied West = refl
