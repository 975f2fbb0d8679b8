-- A connection served so far: where it begins, one more exchange, and each way in which it ends.
use Rattle.std.specs.Prelude.{ℕ, ◌≡◌, ◌<◌, ◌≤◌, ◌+◌, Bool, true, false, if◌then◌else◌, List, [], ◌∷◌, ◌++◌, length, take, drop, reverse, Option, Some, None, IfSome, option_map, Result, Ok, Err, refl}
use Rattle.std.proofs.Common.{arith, sym, ap, subst, ◌∙◌, append_assoc, append-nil, inl, inr}
use Rattle.std.proofs.lemmas.List.{take-append-drop}
use Rattle.farm_base.specs.Exposed.{Adds, Stays, AddsPrefix}
use Rattle.wiki_model.specs.Bytes.{Bytes}
use Rattle.wiki_model.specs.Limits.{requests_max}
use Rattle.wiki_model.specs.World.{World}
use Rattle.wiki_model.specs.Steps.{Rose}
use Rattle.wiki_model.specs.Runs.{Turn}
use Rattle.wiki_model.specs.Asking.{Request, Refusal, Call, Fault}
use Rattle.purge_relay.specs.Carried.{Carried}
use Rattle.http_desk.specs.Heads.{Head, said_by, head_fault}
use Rattle.http_desk.specs.Calls.{call_of}
use Rattle.http_desk.specs.Incoming.{Incoming, Closed as NoMore, Cut, Reads, ReadsAfter, incoming, IsRead}
use Rattle.wiki_serve.specs.Exchanges.{Exchange, Refusing, Serving, Service, Heard, AreHeard, GivesAll, with_messages, counted_often, services, turns_of, incoming_of, closes, response, responses}
use Rattle.wiki_serve.specs.Callers.{Desk}
use Rattle.wiki_serve.specs.Services.{Held, DoesOne}
use Rattle.wiki_serve.specs.Turns.{Standing}
use Rattle.wiki_serve.specs.Housework.{counted_if}
use Rattle.wiki_serve.specs.Connections.{Conn, End, Closed, CutOff, ReadFault, WriteFault, Ended, Enough, Memory, EndsBy, IsTalk, AddedText, HasEndCause, IsServed}
use Rattle.wiki_serve.specs.Served.{Seen, IsLater, ReadsFrom, WritesTo, HasReadAll, GoesOnBy, ServedSoFar, MayServeOn, HasOne, HearsOne}
use Rattle.wiki_serve.proofs.OneMore.{reads_more, responses_more, longer, none_closes_more, may_go_on_more, does_more, services_more, turns_more, heard_more}

-- What is told

adds_nothing : (told : Option Bytes) → Adds told told []
adds_nothing None = tt
adds_nothing (Some old) = sym (append-nil old)

adds_more : (old middle new : Option Bytes) (a b : Bytes) → Adds old middle a → Adds middle new b → Adds old new (a ++ b)
adds_more None None None a b first second = tt
adds_more None None (Some new) a b first second = second
adds_more None (Some middle) None a b first second = tt
adds_more None (Some middle) (Some new) a b first second = first
adds_more (Some old) None None a b first second = tt
adds_more (Some old) None (Some new) a b first second = absurd second
adds_more (Some old) (Some middle) None a b first second = tt
adds_more (Some old) (Some middle) (Some new) a b first second = second ∙ ap (λ t. t ++ b) first ∙ append_assoc old a b

adds_stays : (old middle new : Option Bytes) (a : Bytes) → Adds old middle a → Stays middle new → Adds old new a
adds_stays None None None a first second = tt
adds_stays None None (Some new) a first second = second
adds_stays None (Some middle) None a first second = tt
adds_stays None (Some middle) (Some new) a first second = first
adds_stays (Some old) None None a first second = tt
adds_stays (Some old) None (Some new) a first second = absurd second
adds_stays (Some old) (Some middle) None a first second = tt
adds_stays (Some old) (Some middle) (Some new) a first second = second ∙ first

later_again : (a b c : Conn) → IsLater a b → IsLater b c → IsLater a c
later_again a b c first second = record {
  peer = second.peer ∙ first.peer;
  read_faults = let x = first.read_faults in let y = second.read_faults in omega (arith, x, y);
  write_faults = let x = first.write_faults in let y = second.write_faults in omega (arith, x, y);
}

later_rose : (a b c : ℕ) → a ≤ b → Rose b c → Rose a c
later_rose a b c le rose = omega (arith, le, rose)

-- What a read tells

told_read : (kept kept2 : Bytes) (left left2 : Option Bytes) (got : Incoming) → IsRead false kept left kept2 left2 got → (rest : Bytes) → left ≡ Some rest
    → (rest2 : Bytes) × Reads false (kept ++ rest) got (kept2 ++ rest2)
told_read kept kept2 None left2 got is rest e = let no : ⊥ = cc in absurd no
told_read kept kept2 (Some x) None got is rest e = absurd is
told_read kept kept2 (Some x) (Some y) got is rest e = let same : x ≡ rest = cc in (y, subst (λ (r : Bytes). Reads false (kept ++ r) got (kept2 ++ y)) same is)

-- a head is never read as an end of input
no_end : (h : Head) (answer : Result Call Fault) → NoMore ≡ incoming h answer → ⊥
no_end h (Ok call) e = cc
no_end h (Err fault) e = cc

after_no_end : (h : Head) (fault : Option Fault) (after rest : Bytes) → ReadsAfter false h fault after NoMore rest → ⊥
after_no_end h (Some fault) after rest e = cc
after_no_end h None after rest (body, split, long, e) = no_end h (call_of false h body) e

pub closed_is_empty : (input rest : Bytes) → Reads false input NoMore rest → input ≡ []
closed_is_empty input rest (inl (got, empty, over)) = empty
closed_is_empty input rest (inr (inl more)) = let got = more.0 in let no : ⊥ = cc in absurd no
closed_is_empty input rest (inr (inr (inl more))) = let got = more.0 in let no : ⊥ = cc in absurd no
closed_is_empty input rest (inr (inr (inr (inl more)))) = let got = more.0 in let no : ⊥ = cc in absurd no
closed_is_empty input rest (inr (inr (inr (inr (h, after, head, after_head))))) = absurd (after_no_end (said_by h) (head_fault (said_by h)) after rest after_head)

after_cut : (h : Head) (fault : Option Fault) (after rest : Bytes) → ReadsAfter false h fault after Cut rest → ReadsAfter false h fault after Cut []
after_cut h (Some fault) after rest e = e
after_cut h None after rest short = short

-- what is left after a cut is no matter
pub cut_leaves_anything : (input rest : Bytes) → Reads false input Cut rest → Reads false input Cut []
cut_leaves_anything input rest (inl (got, empty, over)) = let no : ⊥ = cc in absurd no
cut_leaves_anything input rest (inr (inl cut)) = inr (inl cut)
cut_leaves_anything input rest (inr (inr (inl large))) = inr (inr (inl large))
cut_leaves_anything input rest (inr (inr (inr (inl none)))) = inr (inr (inr (inl none)))
cut_leaves_anything input rest (inr (inr (inr (inr (h, after, head, after_head))))) = inr (inr (inr (inr (h, after, head, after_cut (said_by h) (head_fault (said_by h)) after rest after_head))))

has_read_more : (before now now2 : Option Bytes) (kept kept2 : Bytes) (xs : List (Exchange Service)) (x : Exchange Service) → HasReadAll before kept now xs → IsRead false kept now kept2 now2 (incoming_of x)
    → HasReadAll before kept2 now2 (xs ++ x ∷ [])
has_read_more None now now2 kept kept2 xs x all is = tt
has_read_more (Some input) None now2 kept kept2 xs x all is = absurd all
has_read_more (Some input) (Some left) None kept kept2 xs x all is = absurd is
has_read_more (Some input) (Some left) (Some left2) kept kept2 xs x all is = reads_more input (kept ++ left) (kept2 ++ left2) xs x all is

-- What is done

pub goes_on_more : (desk : Desk) (Stood Stands Later : Standing) (a b c : List ℕ) (xs ys : List (Exchange Service)) → GoesOnBy desk Stood Stands a b xs → GoesOnBy desk Stands Later b c ys → GoesOnBy desk Stood Later a c (xs ++ ys)
goes_on_more desk Stood Stands Later a b c xs ys first second start turns v stood =
    let (u, stands, did) = first start turns v stood in
    let (w, later, does) = second start (reverse (turns_of xs) ++ turns) u stands in (
      w,
      subst (λ (l : List Turn). Later start l w) (sym (turns_more xs ys turns)) later,
      does_more (DoesOne desk) xs ys (let h : Held = record { world = v; unsent = a } in h) (record { world = u; unsent = b }) (record { world = w; unsent = c }) did does,
    )

-- a refused request makes the farm do nothing
pub refused_goes_on : (desk : Desk) (Stands : Standing) (unsent : List ℕ) (refusal : Refusal) → GoesOnBy desk Stands Stands unsent unsent (Refusing refusal ∷ [])
refused_goes_on desk Stands unsent refusal start turns v stood = (v, stood, ((let h : Held = record { world = v; unsent = unsent } in h), refl, refl))

pub refused_hears : (heard : Heard) (refusal : Refusal) → AreHeard heard heard (services {A = Service} (Refusing refusal ∷ []))
refused_hears heard refusal = record { clock = refl; lots = refl; wire = same_wire heard.wire; refused = refl; empty = refl }
  where
    same_wire : (wire : Option Carried) → wire ≡ option_map (with_messages [] []) wire
    same_wire None = refl
    same_wire (Some c) = ap (λ l. Some (let d : Carried = record { sent = l; taken = c.taken } in d)) (sym (append-nil c.sent)) ∙ ap (λ l. Some (let d : Carried = record { sent = c.sent ++ []; taken = l } in d)) (sym (append-nil c.taken))

-- a service goes on by its own turns
pub serving_goes_on : (desk : Desk) (Stood Stands : Standing) (a b : List ℕ) (request : Request) (service : Service)
    → ((start : World) (turns : List Turn) (v : World) → Stood start turns v
    → (w : World) × Stands start (reverse service.turns ++ turns) w × DoesOne desk request service (record { world = v; unsent = a }) (record { world = w; unsent = b }))
    → GoesOnBy desk Stood Stands a b (Serving request service ∷ [])
serving_goes_on desk Stood Stands a b request service goes start turns v stood =
    let (w, stands, does) = goes start turns v stood in
    (w, subst (λ (l : List Turn). Stands start (reverse l ++ turns) w) (sym (append-nil service.turns)) stands, ((let h : Held = record { world = w; unsent = b } in h), does, refl))

counts_one : (test : Bool) (n : ℕ) → counted_if test n ≡ counted_often n ((if test then 1 else 0) + 0)
counts_one true n = refl
counts_one false n = refl

pub serving_hears : (old new : Heard) (request : Request) (service : Service) → HearsOne old new service → AreHeard old new (services (Serving request service ∷ []))
serving_hears old new request service one = record {
  clock = (new.clock, one.clock, refl);
  lots = subst (λ (l : List ℕ). GivesAll old.lots l new.lots) (sym (append-nil service.words)) one.lots;
  wire = one.wire ∙ ap (λ l. option_map (with_messages l service.taken) old.wire) (sym (append-nil service.sent)) ∙ ap (λ l. option_map (with_messages (service.sent ++ []) l) old.wire) (sym (append-nil service.taken));
  refused = one.refused ∙ counts_one service.halted old.refused;
  empty = one.empty ∙ counts_one service.emptied old.empty;
}

-- The loop

pub served_nothing : (desk : Desk) (seen : Seen) (Stands : Standing) → seen.kept ≡ [] → MayServeOn desk seen seen Stands Stands 0
served_nothing desk seen Stands none = record {
  exchanges = [];
  number = refl;
  may_go_on = (λ k d small. absurd (omega arith), omega arith);
  so_far = record {
    later = record { peer = refl; read_faults = omega arith; write_faults = omega arith };
    read = unread seen.conn.left;
    written = adds_nothing seen.conn.written;
    heard = unheard;
    goes_on = λ start turns v stood. (v, stood, refl);
  };
}
  where
    unread : (left : Option Bytes) → HasReadAll {A = Service} left seen.kept left []
    unread None = tt
    unread (Some left) = ap (λ (k : Bytes). k ++ left) none

    same_wire : (wire : Option Carried) → wire ≡ option_map (with_messages [] []) wire
    same_wire None = refl
    same_wire (Some c) = ap (λ l. Some (let d : Carried = record { sent = l; taken = c.taken } in d)) (sym (append-nil c.sent)) ∙ ap (λ l. Some (let d : Carried = record { sent = c.sent ++ []; taken = l } in d)) (sym (append-nil c.taken))

    unheard : AreHeard seen.heard seen.heard []
    unheard = record { clock = refl; lots = refl; wire = same_wire seen.heard.wire; refused = refl; empty = refl }

-- a request was read and then served
pub has_one : (desk : Desk) (b c : Seen) (Stood Stands : Standing) (came : Incoming) (x : Exchange Service) → ReadsFrom b.conn c.conn b.kept c.kept came → incoming_of x ≡ came
    → AreHeard b.heard c.heard (services (x ∷ [])) → GoesOnBy desk Stood Stands b.unsent c.unsent (x ∷ []) → HasOne desk b c Stood Stands x
has_one desk b c Stood Stands came x reads is heard goes = record { reads = subst (ReadsFrom b.conn c.conn b.kept c.kept) (sym is) reads; heard = heard; goes_on = goes }

-- one more exchange was had
pub served_more : (desk : Desk) (a b c : Seen) (Stood Stands Later : Standing) (xs : List (Exchange Service)) (x : Exchange Service) (text : Bytes)
    → ServedSoFar desk a b Stood Stands xs text → HasOne desk b c Stands Later x → ServedSoFar desk a c Stood Later (xs ++ x ∷ []) text
served_more desk a b c Stood Stands Later xs x text so one = record {
  later = later_again a.conn b.conn c.conn so.later one.reads.later;
  read = has_read_more a.conn.left b.conn.left c.conn.left b.kept c.kept xs x so.read one.reads.read;
  written = adds_stays a.conn.written b.conn.written c.conn.written text so.written one.reads.written;
  heard = subst (AreHeard a.heard c.heard) (sym (services_more xs (x ∷ []))) (heard_more a.heard b.heard c.heard (services xs) (services (x ∷ [])) so.heard one.heard);
  goes_on = goes_on_more desk Stood Stands Later a.unsent b.unsent c.unsent xs (x ∷ []) so.goes_on one.goes_on;
}

-- a piece was written
pub served_written : (desk : Desk) (a b : Seen) (conn : Conn) (Stood Stands : Standing) (xs : List (Exchange Service)) (text piece : Bytes)
    → ServedSoFar desk a b Stood Stands xs text → WritesTo b.conn conn piece → ServedSoFar desk a (record b { conn = conn }) Stood Stands xs (text ++ piece)
served_written desk a b conn Stood Stands xs text piece so writes = record {
  later = later_again a.conn b.conn conn so.later writes.later;
  read = subst (λ (left : Option Bytes). HasReadAll a.conn.left b.kept left xs) (sym writes.left) so.read;
  written = adds_more a.conn.written b.conn.written conn.written text piece so.written writes.written;
  heard = so.heard;
  goes_on = so.goes_on;
}

-- one more exchange was had and answered
answered : (desk : Desk) (a b c : Seen) (conn : Conn) (Stood Stands Later : Standing) (count : ℕ) (x : Exchange Service)
    → (on : MayServeOn desk a b Stood Stands count) → HasOne desk b c Stands Later x → WritesTo c.conn conn (response (count + 1) x)
    → ServedSoFar desk a (record c { conn = conn }) Stood Later (on.exchanges ++ x ∷ []) (responses (on.exchanges ++ x ∷ []))
answered desk a b c conn Stood Stands Later count x on one writes =
    subst (ServedSoFar desk a (record c { conn = conn }) Stood Later (on.exchanges ++ x ∷ [])) (sym (responses_more count on.exchanges x on.number))
    (served_written desk a c conn Stood Later (on.exchanges ++ x ∷ []) (responses on.exchanges) (response (count + 1) x)
    (served_more desk a b c Stood Stands Later on.exchanges x (responses on.exchanges) on.so_far one) writes)

-- and the connection goes on
pub serves_on : (desk : Desk) (a b c : Seen) (conn : Conn) (Stood Stands Later : Standing) (count : ℕ) (x : Exchange Service)
    → MayServeOn desk a b Stood Stands count → HasOne desk b c Stands Later x → WritesTo c.conn conn (response (count + 1) x) → closes x ≡ false → count + 1 < requests_max
    → MayServeOn desk a (record c { conn = conn }) Stood Later (count + 1)
serves_on desk a b c conn Stood Stands Later count x on one writes on_still less = record {
  exchanges = on.exchanges ++ x ∷ [];
  number = longer on.exchanges x count on.number;
  may_go_on = may_go_on_more on.exchanges x count on.number on.may_go_on on_still less;
  so_far = answered desk a b c conn Stood Stands Later count x on one writes;
}

-- The ends

talked : (R W : Type 0) (xs : List (Exchange Service)) (end : End) (text kept : Bytes) (left now written after : Option Bytes) → HasReadAll left kept now xs → Adds written after text
    → ((rest : Bytes) → now ≡ Some rest → EndsBy R W xs (kept ++ rest) text end)
    → IfSome left (λ input. AddedText written after (λ text. IsTalk R W input text xs end))
talked R W xs end text kept None now written after read added ends = tt
talked R W xs end text kept (Some input) None written after read added ends = absurd read
talked R W xs end text kept (Some input) (Some rest) None after read added ends = tt
talked R W xs end text kept (Some input) (Some rest) (Some old) None read added ends = tt
talked R W xs end text kept (Some input) (Some rest) (Some old) (Some new) read added ends = (text, added, record { rest = kept ++ rest; reads = read; ends = ends rest refl })

-- b is the point up to which was served; after it the connection may be read or written once more
served : (desk : Desk) (a b : Seen) (conn : Conn) (Stood Stands : Standing) (xs : List (Exchange Service)) (before text : Bytes) (end : End)
    → ServedSoFar desk a b Stood Stands xs before → IsLater b.conn conn → Adds a.conn.written conn.written text
    → ((rest : Bytes) → b.conn.left ≡ Some rest → EndsBy (Rose a.conn.read_faults conn.read_faults) (Rose a.conn.write_faults conn.write_faults) xs (b.kept ++ rest) text end)
    → HasEndCause a.conn conn end → IsServed desk a.conn conn a.heard b.heard a.unsent b.unsent Stood Stands end
served desk a b conn Stood Stands xs before text end so later added ends cause = record {
  exchanges = xs;
  talk = record {
    peer = (later_again a.conn b.conn conn so.later later).peer;
    cause = cause;
    talk = talked (Rose a.conn.read_faults conn.read_faults) (Rose a.conn.write_faults conn.write_faults) xs end text b.kept a.conn.left b.conn.left a.conn.written conn.written so.read added ends;
  };
  heard = so.heard;
  goes_on = so.goes_on;
}

pub ends_closed : (desk : Desk) (a b : Seen) (conn : Conn) (kept : Bytes) (Stood Stands : Standing) (count : ℕ)
    → MayServeOn desk a b Stood Stands count → ReadsFrom b.conn conn b.kept kept NoMore → IsServed desk a.conn conn a.heard b.heard a.unsent b.unsent Stood Stands Closed
ends_closed desk a b conn kept Stood Stands count on reads =
    served desk a b conn Stood Stands on.exchanges (responses on.exchanges) (responses on.exchanges) Closed on.so_far reads.later (adds_stays a.conn.written b.conn.written conn.written (responses on.exchanges) on.so_far.written reads.written)
    (λ rest e. let (rest2, read) = told_read b.kept kept b.conn.left conn.left NoMore reads.read rest e in (on.may_go_on, closed_is_empty (b.kept ++ rest) (kept ++ rest2) read, refl)) tt

pub ends_cut : (desk : Desk) (a b : Seen) (conn : Conn) (kept : Bytes) (Stood Stands : Standing) (count : ℕ)
    → MayServeOn desk a b Stood Stands count → ReadsFrom b.conn conn b.kept kept Cut → IsServed desk a.conn conn a.heard b.heard a.unsent b.unsent Stood Stands CutOff
ends_cut desk a b conn kept Stood Stands count on reads =
    served desk a b conn Stood Stands on.exchanges (responses on.exchanges) (responses on.exchanges) CutOff on.so_far reads.later (adds_stays a.conn.written b.conn.written conn.written (responses on.exchanges) on.so_far.written reads.written)
    (λ rest e. let (rest2, read) = told_read b.kept kept b.conn.left conn.left Cut reads.read rest e in (on.may_go_on, cut_leaves_anything (b.kept ++ rest) (kept ++ rest2) read, refl)) tt

pub ends_read_fault : (desk : Desk) (a b : Seen) (conn : Conn) (Stood Stands : Standing) (count : ℕ)
    → MayServeOn desk a b Stood Stands count → IsLater b.conn conn → Stays b.conn.written conn.written → Rose b.conn.read_faults conn.read_faults → IsServed desk a.conn conn a.heard b.heard a.unsent b.unsent Stood Stands ReadFault
ends_read_fault desk a b conn Stood Stands count on later stays rose =
    served desk a b conn Stood Stands on.exchanges (responses on.exchanges) (responses on.exchanges) ReadFault on.so_far later (adds_stays a.conn.written b.conn.written conn.written (responses on.exchanges) on.so_far.written stays)
    (λ rest e. (on.may_go_on, later_rose a.conn.read_faults b.conn.read_faults conn.read_faults on.so_far.later.read_faults rose, refl))
    (later_rose a.conn.read_faults b.conn.read_faults conn.read_faults on.so_far.later.read_faults rose)

-- out of memory before a request is begun
pub ends_memory : (desk : Desk) (a b : Seen) (conn : Conn) (Stood Stands : Standing) (count : ℕ)
    → MayServeOn desk a b Stood Stands count → IsLater b.conn conn → Stays b.conn.written conn.written → IsServed desk a.conn conn a.heard b.heard a.unsent b.unsent Stood Stands Memory
ends_memory desk a b conn Stood Stands count on later stays =
    served desk a b conn Stood Stands on.exchanges (responses on.exchanges) (responses on.exchanges) Memory on.so_far later (adds_stays a.conn.written b.conn.written conn.written (responses on.exchanges) on.so_far.written stays)
    (λ rest e. inl (on.may_go_on, refl)) tt

-- and after_head it, with no byte of its response written
pub ends_unanswered : (desk : Desk) (a b c : Seen) (conn : Conn) (Stood Stands Later : Standing) (count : ℕ) (x : Exchange Service)
    → MayServeOn desk a b Stood Stands count → HasOne desk b c Stands Later x → IsLater c.conn conn → Stays c.conn.written conn.written → IsServed desk a.conn conn a.heard c.heard a.unsent c.unsent Stood Later Memory
ends_unanswered desk a b c conn Stood Stands Later count x on one later stays =
    let so = served_more desk a b c Stood Stands Later on.exchanges x (responses on.exchanges) on.so_far one in
    served desk a c conn Stood Later (on.exchanges ++ x ∷ []) (responses on.exchanges) (responses on.exchanges) Memory so later (adds_stays a.conn.written c.conn.written conn.written (responses on.exchanges) so.written stays)
    (λ rest e. inr (on.exchanges, x, record { split = refl; before = on.may_go_on }, [], sym (append-nil (responses on.exchanges)), refl)) tt

pub ends_write_fault : (desk : Desk) (a b c : Seen) (conn : Conn) (Stood Stands Later : Standing) (count : ℕ) (x : Exchange Service)
    → MayServeOn desk a b Stood Stands count → HasOne desk b c Stands Later x → IsLater c.conn conn → AddsPrefix c.conn.written conn.written (response (count + 1) x) → Rose c.conn.write_faults conn.write_faults
    → IsServed desk a.conn conn a.heard c.heard a.unsent c.unsent Stood Later WriteFault
ends_write_fault desk a b c conn Stood Stands Later count x on one later front rose =
    let so = served_more desk a b c Stood Stands Later on.exchanges x (responses on.exchanges) on.so_far one in
    let (n, small, added) = front in
    let is_nth : response (count + 1) x ≡ response (length (on.exchanges ++ x ∷ [])) x = ap (λ k. response k x) (sym (longer on.exchanges x count on.number)) in
    served desk a c conn Stood Later (on.exchanges ++ x ∷ []) (responses on.exchanges) (responses on.exchanges ++ take n (response (count + 1) x)) WriteFault so later
    (adds_more a.conn.written c.conn.written conn.written (responses on.exchanges) (take n (response (count + 1) x)) so.written added)
    (λ rest e. (
      later_rose a.conn.write_faults c.conn.write_faults conn.write_faults so.later.write_faults rose,
      (
        on.exchanges,
        x,
        record { split = refl; before = on.may_go_on },
        take n (response (count + 1) x),
        refl,
        (drop n (response (count + 1) x), sym is_nth ∙ sym (take-append-drop n (response (count + 1) x))),
      ),
    ))
    (later_rose a.conn.write_faults c.conn.write_faults conn.write_faults so.later.write_faults rose)

pub ends_ended : (desk : Desk) (a b c : Seen) (conn : Conn) (Stood Stands Later : Standing) (count : ℕ) (x : Exchange Service)
    → MayServeOn desk a b Stood Stands count → HasOne desk b c Stands Later x → WritesTo c.conn conn (response (count + 1) x) → closes x ≡ true
    → IsServed desk a.conn conn a.heard c.heard a.unsent c.unsent Stood Later Ended
ends_ended desk a b c conn Stood Stands Later count x on one writes shut =
    let so = answered desk a b c conn Stood Stands Later count x on one writes in
    served desk a (record c { conn = conn }) conn Stood Later (on.exchanges ++ x ∷ []) (responses (on.exchanges ++ x ∷ [])) (responses (on.exchanges ++ x ∷ [])) Ended so (record { peer = refl; read_faults = omega arith; write_faults = omega arith }) so.written
    (λ rest e. (on.exchanges, x, record { split = refl; before = on.may_go_on }, shut, refl)) tt

pub ends_enough : (desk : Desk) (a b c : Seen) (conn : Conn) (Stood Stands Later : Standing) (count : ℕ) (x : Exchange Service)
    → MayServeOn desk a b Stood Stands count → HasOne desk b c Stands Later x → WritesTo c.conn conn (response (count + 1) x) → closes x ≡ false → count + 1 ≡ requests_max
    → IsServed desk a.conn conn a.heard c.heard a.unsent c.unsent Stood Later Enough
ends_enough desk a b c conn Stood Stands Later count x on one writes on_still full =
    let so = answered desk a b c conn Stood Stands Later count x on one writes in
    served desk a (record c { conn = conn }) conn Stood Later (on.exchanges ++ x ∷ []) (responses (on.exchanges ++ x ∷ [])) (responses (on.exchanges ++ x ∷ [])) Enough so (record { peer = refl; read_faults = omega arith; write_faults = omega arith }) so.written
    (λ rest e. (none_closes_more on.exchanges x on.may_go_on.0 on_still, longer on.exchanges x count on.number ∙ full, refl)) tt
