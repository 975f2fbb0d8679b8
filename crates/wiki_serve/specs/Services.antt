-- What is done for one request, and for all of a connection.
use Rattle.std.specs.Prelude.{ℕ, zero, suc, ◌≡◌, ◌<◌, ◌+◌, ◌-◌, true, false, List, [], ◌∷◌, ◌++◌, length}
use Rattle.std.specs.Prelude.{Some, option_map}
use Rattle.wiki_model.specs.Limits.{messages_max}
use Rattle.wiki_model.specs.World.{World, message_at}
use Rattle.wiki_model.specs.World.Asked.{AskedView, AskedEdit}
use Rattle.wiki_model.specs.Serving.{Taken, ServesOne}
use Rattle.wiki_model.specs.Asking.{Call, EditCall, PageCall, BatchCall, FeedCall, MessagesCall, Request}
use Rattle.wiki_serve.specs.Exchanges.{IsAnswered, Service, Exchange, Refusing, Serving}
use Rattle.wiki_serve.specs.Callers.{Desk, moment_for, view_for, edit_for}
use Rattle.wiki_serve.specs.Batches.{DoesBatch}

-- what a connection is served from: the world, and the numbers of the messages that were not sent
pub record Held : Type 0 where
  pub world : World
  pub unsent : List ℕ

-- Messages that are sent

abbrev pub numbers_from : (n count : ℕ) → List ℕ
numbers_from n zero = []
numbers_from n (suc count) = n ∷ numbers_from (n + 1) count

-- the numbers of the messages that were issued from v to w
abbrev pub issued : (v w : World) → List ℕ
issued v w = numbers_from (length v.messages + 1) (length w.messages - length v.messages)

abbrev pub IsMessage : World → ℕ → Taken → Type 0
IsMessage v number sent =
    (sent.number ≡ number) × (option_map (λ m. m.body) (message_at v number) ≡ Some sent.body)

abbrev pub AreMessages : World → List ℕ → List Taken → Type 0
AreMessages v [] [] = Unit {0}
AreMessages v [] (taken ∷ more) = ⊥
AreMessages v (number ∷ numbers) [] = ⊥
AreMessages v (number ∷ numbers) (sent ∷ more) = IsMessage v number sent × AreMessages v numbers more

-- The unsent messages are sent in order, all of them unless a send is refused.
pub record Sends (v : World) (unsent : List ℕ) (service : Service) (left : List ℕ) : Type 0 where
  pub prefix : List ℕ
  pub split : unsent ≡ prefix ++ left
  pub sent : AreMessages v prefix service.sent
  pub all : service.halted ≡ false → left ≡ []
  pub refused : service.halted ≡ true → 0 < length left

-- Calls

-- What a call makes of the world, by the words that it draws and the messages that are taken. No other call is read.
abbrev pub DoesCall : Desk → Request → Call → Service → (v w : World) → Type 0
DoesCall desk request (PageCall title) service v w =
    (word : ℕ) × (service.words ≡ word ∷ [])
    × ServesOne service.at desk.pace service.taken
    (AskedView (view_for desk (moment_for v service.at request) request word title)) v service.turns w
    × IsAnswered title service.turns service.outcome
DoesCall desk request (EditCall title base token text) service v w =
    (service.words ≡ [])
    × ServesOne service.at desk.pace service.taken
    (AskedEdit (edit_for desk (moment_for v service.at request) request title base token text)) v service.turns w
    × IsAnswered title service.turns service.outcome
DoesCall desk request (BatchCall titles) service v w = DoesBatch desk request titles service v w
DoesCall desk request (FeedCall from) service v w = ⊥
DoesCall desk request (MessagesCall from) service v w = ⊥

-- What is done for one request.
pub record DoesOne (desk : Desk) (request : Request) (service : Service) (v w : Held) : Type 0 where
  pub left : List ℕ
  pub sends : Sends v.world v.unsent service left
  pub emptied : service.emptied ≡ true → length service.taken < messages_max
  pub full : service.emptied ≡ false → length service.taken ≡ messages_max
  pub does : DoesCall desk request request.call service v.world w.world
  pub unsent : w.unsent ≡ left ++ issued v.world w.world

-- What is done for all of them, by what is done for one request. A refusal makes no step, sends nothing and takes
-- nothing.
module _ {A S : Type 0} (Does : Request → A → (v w : S) → Type 0) where
  abbrev pub DoesExchange : Exchange A → (v w : S) → Type 0
  DoesExchange (Refusing refusal) v w = w ≡ v
  DoesExchange (Serving request done) v w = Does request done v w

  abbrev pub DoesAll : List (Exchange A) → (v w : S) → Type 0
  DoesAll [] v w = w ≡ v
  DoesAll (exchange ∷ exchanges) v w = (u : S) × DoesExchange exchange v u × DoesAll exchanges u w
