-- What is kept and what is left of a source, together, stay the input while bytes are read.
use Rattle.std.proofs.Common.{◌≡◌, ◌≢◌, ◌≤◌, ◌<◌, ℕ, ◌+◌, ◌-◌, length-drop, take-append-drop, drop-drop, length-take, min, Bool, true, false, List, [], ◌++◌, length, take, drop, refl, sym, ap, ◌∙◌, subst, arith, append_assoc, append-nil, length-append, inl, inr, Option, Some, None, Result, Ok, Err}
use Rattle.std.proofs.lemmas.List.{drop-append-le, take-append-le, length-take-le}
use Rattle.std.specs.Io.KnownBytes.{Consumes, IsAtEnd}
use Rattle.httparse.specs.declared.spans.HeaderSpan.{HeaderSpan}
use Rattle.httparse.specs.declared.spans.RequestSpans.{RequestSpans}
use Rattle.httparse.specs.Grammar.{RequestHead, NeverHasRequest}
use Rattle.httparse.proofs.GrammarLemmas.{ReadsRequest-append}
use Rattle.wiki_model.specs.Bytes.{Bytes}
use Rattle.wiki_model.specs.Asking.{HeadTooLarge, NoHead, Fault, Call}
use Rattle.http_desk.specs.Heads.{Head, said_at, said_by, head_fault, body_length, is_head_method}
use Rattle.http_desk.specs.Calls.{call_of}
use Rattle.http_head.specs.Input.{window, is_full, HasHead, IsOpen, IsHeadIn}
use Rattle.http_desk.specs.Incoming.{Grows, Incoming, Refused, Closed, Cut, closing, incoming, ReadsBody, ReadsAfter, Reads, IsRead}
use Rattle.std.specs.Prelude.{IfSome}
use Rattle.http_desk.specs.AsModel.{IsShown}
use Rattle.http_head.proofs.Heads.{looks_at, never_more}

consumes_then : (a b c : Option Bytes) (xs ys : Bytes) → Consumes a b xs → Consumes b c ys → Consumes a c (xs ++ ys)
consumes_then None b c xs ys p q = tt
consumes_then (Some a) None c xs ys p q = absurd p
consumes_then (Some a) (Some b) None xs ys p q = absurd q
consumes_then (Some a) (Some b) (Some c) xs ys p q = p ∙ ap (λ z. xs ++ z) q ∙ sym (append_assoc xs ys c)

consumes_none : (a : Option Bytes) → Consumes a a []
consumes_none None = tt
consumes_none (Some a) = refl

pub grows_start : (k : Bytes) (l : Option Bytes) → Grows k l k l
grows_start k l = record { more = []; kept = sym (append-nil k); taken = consumes_none l }

pub grows_then : (k : Bytes) (l : Option Bytes) (k1 : Bytes) (l1 : Option Bytes) (k2 : Bytes) (l2 : Option Bytes) → Grows k l k1 l1 → Grows k1 l1 k2 l2 → Grows k l k2 l2
grows_then k l k1 l1 k2 l2 p q = record {
  more = p.more ++ q.more;
  kept = q.kept ∙ ap (λ z. z ++ q.more) p.kept ∙ append_assoc k p.more q.more;
  taken = consumes_then l l1 l2 p.more q.more p.taken q.taken;
}

pub input_is : (k s k1 s1 : Bytes) → Grows k (Some s) k1 (Some s1) → k ++ s ≡ k1 ++ s1
input_is k s k1 s1 p = ap (λ z. k ++ z) p.taken ∙ (sym (append_assoc k p.more s1) ∙ ap (λ z. z ++ s1) (sym p.kept))

-- what is read of the bytes after some growth is read of the input
reads_at : (linked : Bool) (k : Bytes) (l : Option Bytes) (k1 : Bytes) (l1 : Option Bytes) (k2 : Bytes) (got : Incoming)
    → Grows k l k1 l1 → ((s : Bytes) → l1 ≡ Some s → Reads linked (k1 ++ s) got (k2 ++ s)) → IsRead linked k l k2 l1 got
reads_at linked k None k1 l1 k2 got p f = tt
reads_at linked k (Some s) k1 None k2 got p f = absurd p.taken
reads_at linked k (Some s) k1 (Some s1) k2 got p f = subst (λ z. Reads linked z got (k2 ++ s1)) (sym (input_is k s k1 s1 p)) (f s1 refl)

end_is : (l : Option Bytes) (s : Bytes) → IsAtEnd l → l ≡ Some s → s ≡ []
end_is None s e is = absurd (cc is)
end_is (Some t) s e is = sym (some_is is) ∙ e
  where
    some_is : Some t ≡ Some s → t ≡ s
    some_is q = cc q

pub reads_closed : (linked : Bool) (k : Bytes) (l : Option Bytes) (k1 : Bytes) (l1 : Option Bytes) → Grows k l k1 l1 → k1 ≡ [] → IsAtEnd l1 → IsRead linked k l k1 l1 Closed
reads_closed linked k l k1 l1 p none e = reads_at linked k l k1 l1 k1 Closed p
    (λ s is. let nothing : k1 ++ s ≡ [] = ap (λ z. z ++ s) none ∙ end_is l1 s e is in inl (refl, nothing, nothing))

pub reads_cut : (linked : Bool) (k : Bytes) (l : Option Bytes) (k1 : Bytes) (l1 : Option Bytes) → Grows k l k1 l1 → k1 ≢ [] → is_full k1 ≡ false → IsOpen k1 → IsAtEnd l1 → IsRead linked k l k1 l1 Cut
reads_cut linked k l k1 l1 p some full opens e = reads_at linked k l k1 l1 k1 Cut p
    (λ s is.
    let same : k1 ≡ k1 ++ s = sym (ap (λ z. k1 ++ z) (end_is l1 s e is) ∙ append-nil k1) in
    inr (inl (subst (λ z. (Cut ≡ Cut) × (z ≢ []) × (is_full z ≡ false) × IsOpen z) same (refl, some, full, opens))))

pub reads_large : (linked : Bool) (k : Bytes) (l : Option Bytes) (k1 : Bytes) (l1 : Option Bytes) → Grows k l k1 l1 → is_full k1 ≡ true → IsOpen (window k1) → IsRead linked k l k1 l1 (Refused (closing HeadTooLarge false))
unfolding window is_full
reads_large linked k l k1 l1 p full opens = reads_at linked k l k1 l1 k1 (Refused (closing HeadTooLarge false)) p
    (λ s is. inr (inr (inl (refl, ((looks_at k1 s).stays full, subst IsOpen (sym ((looks_at k1 s).same full)) opens)))))

pub reads_never : (linked : Bool) (k : Bytes) (l : Option Bytes) (k1 : Bytes) (l1 : Option Bytes) → Grows k l k1 l1 → NeverHasRequest (window k1) → IsRead linked k l k1 l1 (Refused (closing NoHead false))
unfolding window
reads_never linked k l k1 l1 p never = reads_at linked k l k1 l1 k1 (Refused (closing NoHead false)) p
    (λ s is. let f = (looks_at k1 s).prefix in inr (inr (inr (inl (refl, subst NeverHasRequest (sym f.1) (never_more (window k1) f.0 never))))))

pub reads_then : (linked : Bool) (k : Bytes) (l : Option Bytes) (k1 : Bytes) (l1 : Option Bytes) (k2 : Bytes) (l2 : Option Bytes) (got : Incoming) → Grows k l k1 l1 → IsRead linked k1 l1 k2 l2 got → IsRead linked k l k2 l2 got
reads_then linked k None k1 l1 k2 l2 got p r = tt
reads_then linked k (Some s) k1 None k2 l2 got p r = absurd p.taken
reads_then linked k (Some s) k1 (Some s1) k2 None got p r = absurd r
reads_then linked k (Some s) k1 (Some s1) k2 (Some s2) got p r = subst (λ z. Reads linked z got (k2 ++ s2)) (sym (input_is k s k1 s1 p)) r

head_more : (k s : Bytes) (h : RequestHead) (n : ℕ) → HasHead k h (drop n k) → HasHead (k ++ s) h (drop n k ++ s)
head_more k s h n x = record { reads = ReadsRequest-append k h (drop n k) s x.reads; small = x.small; few = x.few }

-- what the spans say is what the head says
pub said_is : (k : Bytes) (seen : ℕ) (headers : List HeaderSpan) (r : RequestSpans) (h : RequestHead) → IsHeadIn k seen headers r h → said_at (take seen k) headers r ≡ said_by h
said_is k seen headers r h x = cc (x.at.method, x.at.path, x.at.version, x.at.fields)

-- a head stays when bytes come
head_stays : (k : Bytes) (l : Option Bytes) (k1 : Bytes) (l1 : Option Bytes) (h : RequestHead) (n : ℕ) → n ≤ length k → Grows k l k1 l1 → HasHead k h (drop n k) → HasHead k1 h (drop n k1)
head_stays k l k1 l1 h n small p x =
    let e : drop n (k ++ p.more) ≡ drop n k ++ p.more = drop-append-le n k p.more small in
    subst (λ z. HasHead z h (drop n z)) (sym p.kept) (subst (λ z. HasHead (k ++ p.more) h z) (sym e) (head_more k p.more h n x))

pub reads_fault : (linked : Bool) (k : Bytes) (l : Option Bytes) (h : RequestHead) (n : ℕ) (f : Fault) → HasHead k h (drop n k) → head_fault (said_by h) ≡ Some f
    → IsRead linked k l k l (Refused (closing f (is_head_method (said_by h))))
reads_fault linked k l h n f x e = reads_at linked k l k l k (Refused (closing f (is_head_method (said_by h)))) (grows_start k l)
    (λ s is. inr (inr (inr (inr (h, drop n k ++ s, head_more k s h n x, subst (λ o. ReadsAfter linked (said_by h) o (drop n k ++ s) (Refused (closing f (is_head_method (said_by h)))) (k ++ s)) (sym e) refl)))))

pub reads_short : (linked : Bool) (k : Bytes) (l : Option Bytes) (k1 : Bytes) (l1 : Option Bytes) (h : RequestHead) (n : ℕ) → n ≤ length k → HasHead k h (drop n k) → head_fault (said_by h) ≡ None
    → Grows k l k1 l1 → length k1 < n + body_length (said_by h) → IsAtEnd l1 → IsRead linked k l k1 l1 Cut
reads_short linked k l k1 l1 h n small x e p short done = reads_at linked k l k1 l1 k1 Cut p
    (λ s is.
    let y = head_stays k l k1 l1 h n small p x in
    let none : s ≡ [] = end_is l1 s done is in
    let count : length (drop n k1 ++ s) ≡ length k1 - n = ap (λ z. length (drop n k1 ++ z)) none ∙ (ap length (append-nil (drop n k1)) ∙ length-drop n k1) in
    let longer : length k1 ≡ length k + length p.more = ap length p.kept ∙ length-append k p.more in
    let few : length (drop n k1 ++ s) < body_length (said_by h) = omega (arith, count, short, longer, small) in
    inr (inr (inr (inr (h, drop n k1 ++ s, head_more k1 s h n y, subst (λ o. ReadsAfter linked (said_by h) o (drop n k1 ++ s) Cut (k1 ++ s)) (sym e) few)))))

made_body : (linked : Bool) (h : Head) (after body rest : Bytes) (c : Result Call Fault) → call_of linked h body ≡ c → after ≡ body ++ rest → length body ≡ body_length h → ReadsBody linked h after (incoming h c) rest
made_body linked h after body rest (Ok call) e cut many = (body, cut, many, ap (incoming h) (sym e))
made_body linked h after body rest (Err fault) e cut many = (body, cut, many, ap (incoming h) (sym e))

pub reads_body : (linked : Bool) (k : Bytes) (l : Option Bytes) (k1 : Bytes) (l1 : Option Bytes) (h : RequestHead) (n m : ℕ) (body : Bytes) (got : Incoming)
    → n ≤ length k → HasHead k h (drop n k) → head_fault (said_by h) ≡ None → body_length (said_by h) ≡ m
    → Grows k l k1 l1 → n + m ≤ length k1 → body ≡ take m (drop n k1) → got ≡ incoming (said_by h) (call_of linked (said_by h) body)
    → IsRead linked k l (drop (n + m) k1) l1 got
reads_body linked k l k1 l1 h n m body got small x e many p long is_body is_got = reads_at linked k l k1 l1 (drop (n + m) k1) got p
    (λ s is.
    let y = head_stays k l k1 l1 h n small p x in
    let parts : drop n k1 ≡ body ++ drop (n + m) k1 = sym (take-append-drop m (drop n k1)) ∙ (ap (λ z. z ++ drop m (drop n k1)) (sym is_body) ∙ ap (λ z. body ++ z) (drop-drop m n k1)) in
    let cut : drop n k1 ++ s ≡ body ++ (drop (n + m) k1 ++ s) = ap (λ z. z ++ s) parts ∙ append_assoc body (drop (n + m) k1) s in
    let d : length (drop n k1) ≡ length k1 - n = length-drop n k1 in
    let count : length body ≡ m = ap length is_body ∙ length-take-le m (drop n k1) (omega (arith, d, long)) in
    let made = made_body linked (said_by h) (drop n k1 ++ s) body (drop (n + m) k1 ++ s) (call_of linked (said_by h) body) refl cut (count ∙ sym many) in
    inr (inr (inr (inr (
      h,
      drop n k1 ++ s,
      head_more k1 s h n y,
      subst (λ o. ReadsAfter linked (said_by h) o (drop n k1 ++ s) got (drop (n + m) k1 ++ s)) (sym e)
          (subst (λ g. ReadsBody linked (said_by h) (drop n k1 ++ s) g (drop (n + m) k1 ++ s)) (sym is_got) made),
    )))))

if_shown : (P : Incoming → Type 0) (o : Option Incoming) (wanted : Incoming) → IsShown o wanted → P wanted → IfSome o P
if_shown P None wanted s p = tt
if_shown P (Some got) wanted s p = subst P (sym s) p

len_within : (k : Bytes) (seen : ℕ) (headers : List HeaderSpan) (r : RequestSpans) (h : RequestHead) → IsHeadIn k seen headers r h → r.len ≤ length k
len_within k seen headers r h x =
    let a = x.inside.section.len_fits in
    let t : length (take seen k) ≡ min seen (length k) = length-take seen k in
    omega (arith, a, t)

pub fault_read : (k : Bytes) (l : Option Bytes) (seen : ℕ) (headers : List HeaderSpan) (r : RequestSpans) (h : RequestHead) (prefix : Bytes) (f : Fault) (head : Bool)
    → IsHeadIn k seen headers r h → prefix ≡ take seen k → Some f ≡ head_fault (said_at prefix headers r) → head ≡ is_head_method (said_at prefix headers r)
    → IsRead false k l k l (Refused (closing f head))
fault_read k l seen headers r h prefix f head x is_prefix e is_head =
    let same : said_at prefix headers r ≡ said_by h = ap (λ z. said_at z headers r) is_prefix ∙ said_is k seen headers r h x in
    let g : head_fault (said_by h) ≡ Some f = sym (e ∙ ap head_fault same) in
    subst (λ b. IsRead false k l k l (Refused (closing f b))) (sym (is_head ∙ ap is_head_method same)) (reads_fault false k l h r.len f x.head g)

pub body_read : (k : Bytes) (l : Option Bytes) (k1 : Bytes) (l1 : Option Bytes) (seen : ℕ) (headers : List HeaderSpan) (r : RequestSpans) (h : RequestHead) (m : ℕ) (prefix body k2 : Bytes) (o : Option Incoming)
    → IsHeadIn k seen headers r h → head_fault (said_by h) ≡ None → body_length (said_by h) ≡ m → Grows k l k1 l1 → r.len + m ≤ length k1
    → prefix ≡ take seen k1 → body ≡ take m (drop r.len k1) → k2 ≡ drop (r.len + m) k1
    → IsShown o (incoming (said_at prefix headers r) (call_of false (said_at prefix headers r) body))
    → IfSome o (λ got. IsRead false k l k2 l1 got)
body_read k l k1 l1 seen headers r h m prefix body k2 o x e many p long is_prefix is_body is_rest shown =
    let same : prefix ≡ take seen k = is_prefix ∙ (ap (take seen) p.kept ∙ take-append-le seen k p.more x.within) in
    let said : said_at prefix headers r ≡ said_by h = ap (λ z. said_at z headers r) same ∙ said_is k seen headers r h x in
    let wanted = incoming (said_by h) (call_of false (said_by h) body) in
    if_shown (λ got. IsRead false k l k2 l1 got) o wanted (subst (λ s. IsShown o (incoming s (call_of false s body))) said shown)
    (subst (λ z. IsRead false k l z l1 wanted) (sym is_rest) (reads_body false k l k1 l1 h r.len m body wanted (len_within k seen headers r h x) x.head e many p long is_body refl))

pub then_read : (k : Bytes) (l : Option Bytes) (k1 : Bytes) (l1 : Option Bytes) (k2 : Bytes) (l2 : Option Bytes) (o : Option Incoming) → Grows k l k1 l1
    → IfSome o (λ got. IsRead false k1 l1 k2 l2 got) → IfSome o (λ got. IsRead false k l k2 l2 got)
then_read k l k1 l1 k2 l2 None p r = tt
then_read k l k1 l1 k2 l2 (Some got) p r = reads_then false k l k1 l1 k2 l2 got p r
