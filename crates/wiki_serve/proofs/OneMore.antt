-- One more exchange behind those that were had, for each of the lists that a connection is told by.
use Rattle.std.specs.Prelude.{ℕ, zero, suc, ◌≡◌, ◌<◌, ◌≤◌, ◌+◌, ◌-◌, Bool, false, List, [], ◌∷◌, ◌++◌, length, map, flat_map, reverse, All, Option, Some, None, option_map, refl}
use Rattle.std.proofs.Common.{arith, sym, ap, subst, ◌∙◌, append_assoc, append-nil}
use Rattle.std.proofs.lemmas.List.{map-append, reverse-append, length-append}
use Rattle.std.proofs.lemmas.List.Elements.{All-nil, All-cons, All-append}
use Rattle.std.proofs.lemmas.Grind.{flat_map-append}
use Rattle.wiki_model.specs.Bytes.{Bytes}
use Rattle.wiki_model.specs.Limits.{requests_max}
use Rattle.wiki_model.specs.World.{World}
use Rattle.wiki_model.specs.Runs.{Turn}
use Rattle.wiki_model.specs.Serving.{Taken}
use Rattle.wiki_model.specs.Asking.{Request}
use Rattle.farm_base.specs.Series.{Series}
use Rattle.farm_base.specs.Causes.{counted}
use Rattle.purge_relay.specs.Carried.{Carried}
use Rattle.http_desk.specs.Incoming.{Reads}
use Rattle.wiki_serve.specs.Exchanges.{Exchange, Refusing, Serving, Service, Heard, AreHeard, GivesAll, with_messages, as_message, how_often, counted_often, services, turns_of, incoming_of, closes, response, responses_from, responses}
use Rattle.wiki_serve.specs.Services.{DoesAll, numbers_from, issued, IsMessage, AreMessages}
use Rattle.wiki_serve.specs.Connections.{ReadsAll, MayGoOn}

-- what is read

pub reads_more : {A : Type 0} (input middle rest : Bytes) (xs : List (Exchange A)) (x : Exchange A) → ReadsAll input xs middle → Reads false middle (incoming_of x) rest → ReadsAll input (xs ++ x ∷ []) rest
reads_more input middle rest [] x all one = (rest, subst (λ (i : Bytes). Reads false i (incoming_of x) rest) all one, refl)
reads_more input middle rest (y ∷ ys) x all one = let (next, first, others) = all in (next, first, reads_more next middle rest ys x others one)

-- what is written

responses_from_more : (n : ℕ) (xs : List (Exchange Service)) (x : Exchange Service) → responses_from n (xs ++ x ∷ []) ≡ responses_from n xs ++ response (n + length xs) x
responses_from_more n [] x = let same : n ≡ n + length {A = Exchange Service} [] = omega arith in append-nil (response n x) ∙ ap (λ k. response k x) same
responses_from_more n (y ∷ ys) x =
    let later : n + 1 + length ys ≡ n + length (y ∷ ys) = omega arith in
    ap (λ t. response n y ++ t) (responses_from_more (n + 1) ys x ∙ ap (λ k. responses_from (n + 1) ys ++ response k x) later)
    ∙ sym (append_assoc (response n y) (responses_from (n + 1) ys) (response (n + length (y ∷ ys)) x))

pub responses_more : (count : ℕ) (xs : List (Exchange Service)) (x : Exchange Service) → length xs ≡ count → responses (xs ++ x ∷ []) ≡ responses xs ++ response (count + 1) x
responses_more count xs x e =
    let n : 1 + length xs ≡ count + 1 = omega (arith, e) in
    responses_from_more 1 xs x ∙ ap (λ k. responses xs ++ response k x) n

pub longer : {A : Type 0} (xs : List A) (x : A) (count : ℕ) → length xs ≡ count → length (xs ++ x ∷ []) ≡ count + 1
longer xs x count e = let long = length-append xs (x ∷ []) in omega (arith, long, e)

-- whether it goes on

pub none_closes_more : {A : Type 0} (xs : List (Exchange A)) (x : Exchange A) → All (λ y. closes y ≡ false) xs → closes x ≡ false → All (λ y. closes y ≡ false) (xs ++ x ∷ [])
none_closes_more xs x all one = All-append (λ y. closes y ≡ false) xs (x ∷ []) all (All-cons (λ y. closes y ≡ false) x [] one (All-nil (λ y. closes y ≡ false)))

pub may_go_on_more : {A : Type 0} (xs : List (Exchange A)) (x : Exchange A) (count : ℕ) → length xs ≡ count → MayGoOn xs → closes x ≡ false → count + 1 < requests_max → MayGoOn (xs ++ x ∷ [])
may_go_on_more xs x count e may one less = let long = longer xs x count e in (none_closes_more xs x may.0 one, omega (arith, long, less))

-- what is done

pub does_more : {A S : Type 0} (Does : Request → A → (v w : S) → Type 0) (xs ys : List (Exchange A)) (v u w : S) → DoesAll Does xs v u → DoesAll Does ys u w → DoesAll Does (xs ++ ys) v w
does_more {A} {S} Does [] ys v u w first second = subst (λ (s : S). DoesAll Does ys s w) first second
does_more Does (x ∷ xs) ys v u w first second = let (next, one, others) = first in (next, one, does_more Does xs ys next u w others second)

pub services_more : {A : Type 0} (xs ys : List (Exchange A)) → services (xs ++ ys) ≡ services xs ++ services ys
services_more [] ys = refl
services_more (Refusing refusal ∷ xs) ys = services_more xs ys
services_more (Serving request service ∷ xs) ys = ap (λ l. service ∷ l) (services_more xs ys)

pub turns_more : (xs ys : List (Exchange Service)) (turns : List Turn) → reverse (turns_of (xs ++ ys)) ++ turns ≡ reverse (turns_of ys) ++ (reverse (turns_of xs) ++ turns)
turns_more xs ys turns =
    ap (λ l. reverse (flat_map (λ s. s.turns) l) ++ turns) (services_more xs ys)
    ∙ ap (λ l. reverse l ++ turns) (flat_map-append (λ s. s.turns) (services xs) (services ys))
    ∙ ap (λ l. l ++ turns) (reverse-append (turns_of xs) (turns_of ys))
    ∙ append_assoc (reverse (turns_of ys)) (reverse (turns_of xs)) turns

-- what is heard

pub gives_more : {A : Type 0} (old middle new : Option (Series A)) (xs ys : List A) → GivesAll old xs middle → GivesAll middle ys new → GivesAll old (xs ++ ys) new
gives_more {A} old middle new [] ys first second = subst (λ (t : Option (Series A)). GivesAll t ys new) first second
gives_more old middle new (x ∷ xs) ys first second = let (next, one, others) = first in (next, one, gives_more next middle new xs ys others second)

pub carried_more : (sent sent2 taken taken2 : List Taken) (wire : Option Carried) → option_map (with_messages sent2 taken2) (option_map (with_messages sent taken) wire) ≡ option_map (with_messages (sent ++ sent2) (taken ++ taken2)) wire
carried_more sent sent2 taken taken2 None = refl
carried_more sent sent2 taken taken2 (Some c) =
    ap (λ l. Some (let d : Carried = record { sent = l; taken = (c.taken ++ map as_message taken) ++ map as_message taken2 } in d)) (joined c.sent sent sent2)
    ∙ ap (λ l. Some (let d : Carried = record { sent = c.sent ++ map as_message (sent ++ sent2); taken = l } in d)) (joined c.taken taken taken2)
  where
    joined : (old : _) (a b : List Taken) → (old ++ map as_message a) ++ map as_message b ≡ old ++ map as_message (a ++ b)
    joined old a b = append_assoc old (map as_message a) (map as_message b) ∙ ap (λ l. old ++ l) (sym (map-append as_message a b))

how_often_more : (test : Service → Bool) (xs ys : List Service) → how_often test (xs ++ ys) ≡ how_often test xs + how_often test ys
how_often_more test [] ys = omega arith
how_often_more test (x ∷ xs) ys = let more = how_often_more test xs ys in omega (arith, more)

counted_more : (n a b : ℕ) → counted_often n (a + b) ≡ counted_often (counted_often n a) b
counted_more n zero b = let same : 0 + b ≡ b = omega arith in ap (counted_often n) same
counted_more n (suc a) b = let same : suc a + b ≡ suc (a + b) = omega arith in ap (counted_often n) same ∙ counted_more (counted n) a b

counts_more : (test : Service → Bool) (old middle new : ℕ) (xs ys : List Service) → middle ≡ counted_often old (how_often test xs) → new ≡ counted_often middle (how_often test ys) → new ≡ counted_often old (how_often test (xs ++ ys))
counts_more test old middle new xs ys first second =
    second ∙ ap (λ m. counted_often m (how_often test ys)) first ∙ sym (counted_more old (how_often test xs) (how_often test ys)) ∙ ap (counted_often old) (sym (how_often_more test xs ys))

pub heard_more : (old middle new : Heard) (xs ys : List Service) → AreHeard old middle xs → AreHeard middle new ys → AreHeard old new (xs ++ ys)
heard_more old middle new xs ys first second = record {
  clock = subst (λ l. GivesAll old.clock l new.clock) (sym (map-append (λ s. s.at) xs ys)) (gives_more old.clock middle.clock new.clock (map (λ s. s.at) xs) (map (λ s. s.at) ys) first.clock second.clock);
  lots = subst (λ l. GivesAll old.lots l new.lots) (sym (flat_map-append (λ s. s.words) xs ys)) (gives_more old.lots middle.lots new.lots (flat_map (λ s. s.words) xs) (flat_map (λ s. s.words) ys) first.lots second.lots);
  wire =
      second.wire
      ∙ ap (option_map (with_messages (flat_map (λ s. s.sent) ys) (flat_map (λ s. s.taken) ys))) first.wire
      ∙ carried_more (flat_map (λ s. s.sent) xs) (flat_map (λ s. s.sent) ys) (flat_map (λ s. s.taken) xs) (flat_map (λ s. s.taken) ys) old.wire
      ∙ ap (λ l. option_map (with_messages l (flat_map (λ s. s.taken) xs ++ flat_map (λ s. s.taken) ys)) old.wire) (sym (flat_map-append (λ s. s.sent) xs ys))
      ∙ ap (λ l. option_map (with_messages (flat_map (λ s. s.sent) (xs ++ ys)) l) old.wire) (sym (flat_map-append (λ s. s.taken) xs ys));
  refused = counts_more (λ s. s.halted) old.refused middle.refused new.refused xs ys first.refused second.refused;
  empty = counts_more (λ s. s.emptied) old.empty middle.empty new.empty xs ys first.empty second.empty;
}

-- messages that are sent, and those that are issued

pub messages_more : (v : World) (numbers : List ℕ) (sent : List Taken) (n : ℕ) (t : Taken) → AreMessages v numbers sent → IsMessage v n t → AreMessages v (numbers ++ n ∷ []) (sent ++ t ∷ [])
messages_more v [] [] n t all one = (one, tt)
messages_more v [] (x ∷ sent) n t all one = absurd all
messages_more v (m ∷ numbers) [] n t all one = absurd all
messages_more v (m ∷ numbers) (x ∷ sent) n t (first, all) one = (first, messages_more v numbers sent n t all one)

pub numbers_more : (n a b : ℕ) → numbers_from n (a + b) ≡ numbers_from n a ++ numbers_from (n + a) b
numbers_more n zero b =
    let none : 0 + b ≡ b = omega arith in
    let same : n ≡ n + 0 = omega arith in
    ap (numbers_from n) none ∙ ap (λ k. numbers_from k b) same
numbers_more n (suc a) b =
    let more : suc a + b ≡ suc (a + b) = omega arith in
    let next : n + 1 + a ≡ n + suc a = omega arith in
    ap (numbers_from n) more ∙ ap (λ l. n ∷ l) (numbers_more (n + 1) a b ∙ ap (λ k. numbers_from (n + 1) a ++ numbers_from k b) next)

-- what was issued from v to u and from there to w
pub issued_more : (v u w : World) → length v.messages ≤ length u.messages → length u.messages ≤ length w.messages → issued v w ≡ issued v u ++ issued u w
issued_more v u w le le2 =
    let all : length w.messages - length v.messages ≡ (length u.messages - length v.messages) + (length w.messages - length u.messages) = omega (arith, le, le2) in
    let next : length v.messages + 1 + (length u.messages - length v.messages) ≡ length u.messages + 1 = omega (arith, le) in
    ap (numbers_from (length v.messages + 1)) all
    ∙ numbers_more (length v.messages + 1) (length u.messages - length v.messages) (length w.messages - length u.messages)
    ∙ ap (λ k. issued v u ++ numbers_from k (length w.messages - length u.messages)) next
