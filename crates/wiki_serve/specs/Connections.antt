-- One connection from its first byte to its end.
use Rattle.std.specs.Prelude.{ℕ, ◌≡◌, ◌⊎◌, ◌<◌, true, false, List, [], ◌∷◌, ◌++◌, length, reverse, All, Option}
use Rattle.std.specs.Prelude.{IfSome}
use Rattle.wiki_model.specs.Bytes.{Bytes}
use Rattle.wiki_model.specs.Limits.{requests_max}
use Rattle.wiki_model.specs.World.{World}
use Rattle.wiki_model.specs.Steps.{Rose}
use Rattle.wiki_model.specs.Runs.{Turn}
use Rattle.http_desk.specs.Incoming.{Cut, Reads}
use Rattle.wiki_serve.specs.Exchanges.{Exchange, Service, Heard, AreHeard, services, turns_of, incoming_of, closes}
use Rattle.wiki_serve.specs.Exchanges.{response, responses}
use Rattle.wiki_serve.specs.Callers.{Desk}
use Rattle.wiki_serve.specs.Services.{DoesOne, DoesAll}

-- the requests are read from the input one after another, and rest is left
abbrev pub ReadsAll : {A : Type 0} → (input : Bytes) → List (Exchange A) → (rest : Bytes) → Type 0
ReadsAll input [] rest = rest ≡ input
ReadsAll input (exchange ∷ exchanges) rest =
    (middle : Bytes) × Reads false input (incoming_of exchange) middle × ReadsAll middle exchanges rest

-- How it ends

pub data End : Type 0 where
  Closed : End
  CutOff : End
  ReadFault : End
  WriteFault : End
  Ended : End
  Enough : End
  Memory : End

-- none of them ends the connection
abbrev pub MayGoOn : {A : Type 0} → List (Exchange A) → Type 0
MayGoOn exchanges = All (λ exchange. closes exchange ≡ false) exchanges × (length exchanges < requests_max)

-- all but the last let it go on
pub record HasLast {A : Type 0} (exchanges earlier : List (Exchange A)) (last : Exchange A) : Type 0 where
  pub split : exchanges ≡ earlier ++ last ∷ []
  pub before : MayGoOn earlier

abbrev pub IsPrefix : (prefix text : Bytes) → Type 0
IsPrefix prefix text = (rest : Bytes) × (text ≡ prefix ++ rest)

-- the text that was added, if both expose it
abbrev pub AddedText : (before after : Option Bytes) → (Bytes → Type 0) → Type 0
AddedText before after P = IfSome before (λ old. IfSome after (λ new. (text : Bytes) × (new ≡ old ++ text) × P text))

-- A connection as it shows itself: its peer, what is left of its input, what was written, and its two counts.
pub record Conn : Type 0 where
  pub peer : Bytes
  pub left : Option Bytes
  pub written : Option Bytes
  pub read_faults : ℕ
  pub write_faults : ℕ

abbrev pub conn_seen : (peer : Bytes) → (left written : Option Bytes) → (read_faults write_faults : ℕ) → Conn
conn_seen peer left written read_faults write_faults = record {
  peer = peer;
  left = left;
  written = written;
  read_faults = read_faults;
  write_faults = write_faults;
}

-- the responses before the last one were written, and of that one so much
abbrev pub BreaksOff : (exchanges : List (Exchange Service)) → (written : Bytes) → (Bytes → Bytes → Type 0) → Type 0
BreaksOff exchanges written Of =
    (earlier : List (Exchange Service)) × (last : Exchange Service) × HasLast exchanges earlier last
    × (part : Bytes) × (written ≡ responses earlier ++ part) × Of part (response (length exchanges) last)

-- If a connection ends like this after these exchanges, with rest left of its input: what was written. The two types
-- say that its count for reads, and for writes, rose.
abbrev pub EndsBy : (read_failed write_failed : Type 0) → List (Exchange Service) → (rest written : Bytes) → End
    → Type 0
EndsBy read_failed write_failed exchanges rest written Closed =
    MayGoOn exchanges × (rest ≡ []) × (written ≡ responses exchanges)
EndsBy read_failed write_failed exchanges rest written CutOff =
    MayGoOn exchanges × Reads false rest Cut [] × (written ≡ responses exchanges)
EndsBy read_failed write_failed exchanges rest written ReadFault =
    MayGoOn exchanges × read_failed × (written ≡ responses exchanges)
EndsBy read_failed write_failed exchanges rest written WriteFault = write_failed × BreaksOff exchanges written IsPrefix
EndsBy read_failed write_failed exchanges rest written Ended =
    (earlier : List (Exchange Service)) × (last : Exchange Service) × HasLast exchanges earlier last
    × (closes last ≡ true) × (written ≡ responses exchanges)
EndsBy read_failed write_failed exchanges rest written Enough =
    All (λ exchange. closes exchange ≡ false) exchanges × (length exchanges ≡ requests_max)
    × (written ≡ responses exchanges)
EndsBy read_failed write_failed exchanges rest written Memory =
    (MayGoOn exchanges × (written ≡ responses exchanges)) ⊎ BreaksOff exchanges written (λ part whole. part ≡ [])

-- what was read and written over a connection that exposes its bytes
pub record IsTalk (read_failed write_failed : Type 0) (input written : Bytes) (exchanges : List (Exchange Service))
    (end : End) : Type 0 where
  pub rest : Bytes
  pub reads : ReadsAll input exchanges rest
  pub ends : EndsBy read_failed write_failed exchanges rest written end

-- What is known of the counts, whatever is exposed: a fault is told only if its count rose.
abbrev pub HasEndCause : (before after : Conn) → End → Type 0
HasEndCause before after ReadFault = Rose before.read_faults after.read_faults
HasEndCause before after WriteFault = Rose before.write_faults after.write_faults
HasEndCause before after _ = Unit {0}

-- what was read and written over a connection, if it exposes that
pub record Talks (before after : Conn) (exchanges : List (Exchange Service)) (end : End) : Type 0 where
  pub peer : after.peer ≡ before.peer
  pub cause : HasEndCause before after end
  pub talk : IfSome before.left (λ input. AddedText before.written after.written (λ text.
      IsTalk (Rose before.read_faults after.read_faults) (Rose before.write_faults after.write_faults) input text
      exchanges end))

-- A connection was served on a farm. Each run for which the farm stood goes on by the turns of the exchanges to one for
-- which it stands. What was read and written, and what was heard, is told as far as it is exposed.
pub record IsServed (desk : Desk) (conn_before conn_after : Conn) (before after : Heard)
    (unsent_before unsent_after : List ℕ) (Stood Stands : World → List Turn → World → Type 0) (end : End) : Type 0 where
  pub exchanges : List (Exchange Service)
  pub talk : Talks conn_before conn_after exchanges end
  pub heard : AreHeard before after (services exchanges)
  pub goes_on :
      (start : World) (turns : List Turn) (v : World) → Stood start turns v
      → (w : World) × Stands start (reverse (turns_of exchanges) ++ turns) w
      × DoesAll (DoesOne desk) exchanges (record { world = v; unsent = unsent_before })
      (record { world = w; unsent = unsent_after })
