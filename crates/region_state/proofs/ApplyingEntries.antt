-- A replica that is the prefix of a history at its own number is so after the next entry, and then counts one more. Over a
-- loop the count that is left falls as the number rises, up to the end of the history or to a refusal.
use Rattle.std.proofs.Common.{◌≡◌, ℕ, zero, suc, ◌+◌, ◌-◌, ◌<◌, ◌≤◌, ◌^◌, min, true, false, List, [], ◌∷◌, length, Some, None, Result, Ok, Err, refl, sym, ap, subst, ◌∙◌, arith}
use Rattle.std.specs.Prelude.{slice_get}
use Rattle.wiki_model.specs.History.{Entry, entry_at}
use Rattle.farm_base.specs.declared.memory.Memory.{Memory}
use Rattle.revision_keeper.specs.declared.keeper.KeepFault.{KeepFault}
use Rattle.revision_keeper.specs.declared.keeper.KeepFault.TheVariants as fault
use Rattle.revision_keeper.specs.Causes.{HasFault}
use Rattle.replica_apply.specs.declared.replica.Applied.{Applied}
use Rattle.replica_apply.specs.declared.replica.Applied.TheVariants.{Applied as Done, Repeat, Gap}
use Rattle.replica_apply.specs.Replica.{ReplicaState, IsPrefixOf}
use Rattle.replica_apply.specs.Applied.{Applies, GoesOn}
use Rattle.region_state.specs.ApplyEntries.{says_applied, AppliesOne, HasApplied, AppliesTo}

-- no entry is left
pub one_none : (h : List Entry) (old : ReplicaState) (n : ℕ) → n ≡ old.applied + 1 → None ≡ entry_at h n → AppliesOne h old old (Ok false)
one_none h old n next none prefix within = (refl, past h old.applied within (subst (λ k. None ≡ entry_at h k) (next ∙ (let e : old.applied + 1 ≡ suc old.applied = omega arith in e)) none))
  where
    past : (xs : List Entry) (k : ℕ) → k ≤ length xs → None ≡ slice_get xs k → k ≡ length xs
    past [] zero le e = refl
    past [] (suc k) le e = let no : ⊥ = omega (arith, le) in absurd no
    past (x ∷ xs) zero le e = let no : ⊥ = cc in absurd no
    past (x ∷ xs) (suc k) le e = ap suc (past xs k (omega (arith, le)) e)

at_within : (h : List Entry) (k : ℕ) (e : Entry) → slice_get h k ≡ Some e → k < length h
at_within [] k e at = let no : ⊥ = cc in absurd no
at_within (x ∷ h) zero e at = omega arith
at_within (x ∷ h) (suc k) e at = let less = at_within h k e at in omega (arith, less)

pub one_applied : (h : List Entry) (old new : ReplicaState) (n : ℕ) (entry : Entry) (made : Result Applied Memory) → n ≡ old.applied + 1 → Some entry ≡ entry_at h n → Applies old new n entry made → GoesOn old new n entry made → AppliesOne h old new (says_applied made)
one_applied h old new n entry (Ok Done) next at (is, takes) goes_on prefix within =
    let same : old.applied + 1 ≡ suc old.applied = omega arith in
    let found : slice_get h old.applied ≡ Some entry = sym (subst (λ k. Some entry ≡ entry_at h k) (next ∙ same) at) in
    let less = at_within h old.applied entry found in
    (goes_on h prefix (sym at), takes.applied, (let t = takes.applied in omega (arith, t, less)))
one_applied h old new n entry (Ok (Repeat have)) next at (le, have_is, same) goes_on prefix within = let no : ⊥ = omega (arith, next, le) in absurd no
one_applied h old new n entry (Ok (Gap have got)) next at (lt, have_is, got_is, same) goes_on prefix within = let no : ⊥ = omega (arith, next, lt) in absurd no
one_applied h old new n entry (Err want) next at (is, commit, same) goes_on prefix within = same

pub next_is : (read applied n len : ℕ) → read ≡ applied → (read < 2 ^ 63 → n ≡ read + 1) → applied ≤ len → len < 2 ^ 63 → n ≡ applied + 1
next_is read applied n len same next within short = let small : applied < 2 ^ 63 = omega (arith, within, short) in next (subst (λ k. k < 2 ^ 63) (sym same) small) ∙ ap (λ k. k + 1) same

-- several entries

pub start_applied : (h : List Entry) (count : ℕ) (old : ReplicaState) → IsPrefixOf h old → old.applied ≤ length h → HasApplied h 0 old old (Ok tt)
start_applied h count old prefix within = record { prefix = prefix; up = omega arith; within = omega (arith, within); all = (let e : old.applied ≡ min (old.applied + 0) (length h) = omega (arith, within) in e) }

-- one more, of those that are left
pub more_applied : (h : List Entry) (count left : ℕ) (old mid new : ReplicaState) → left ≤ count → 0 < left → AppliesTo h (count - left) old mid (Ok tt) → AppliesOne h mid new (Ok true) → AppliesTo h (count - (left - 1)) old new (Ok tt)
more_applied h count left old mid new le some so one prefix within =
    let m = so prefix within in
    let up = m.up in let all : mid.applied ≡ min (old.applied + (count - left)) (length h) = m.all in
    let ends = one m.prefix (let in_h = m.within in omega (arith, in_h)) in
    let next = ends.1 in let inside = ends.2 in
    record {
      prefix = ends.0;
      up = omega (arith, up, next);
      within = omega (arith, le, some, all, next, inside);
      all = (let e : new.applied ≡ min (old.applied + (count - (left - 1))) (length h) = omega (arith, le, some, all, next, inside) in e);
    }

-- none is left in the history
pub none_left : (h : List Entry) (count left : ℕ) (old mid new : ReplicaState) → left ≤ count → AppliesTo h (count - left) old mid (Ok tt) → AppliesOne h mid new (Ok false) → AppliesTo h count old new (Ok tt)
none_left h count left old mid new le so one prefix within =
    let m = so prefix within in
    let up = m.up in let all : mid.applied ≡ min (old.applied + (count - left)) (length h) = m.all in
    let ends = one m.prefix (let in_h = m.within in omega (arith, in_h)) in
    let last = ends.1 in
    subst (λ (k : ReplicaState). HasApplied h count old k (Ok tt)) (sym ends.0) (record {
      prefix = m.prefix;
      up = up;
      within = omega (arith, le, all, last);
      all = (let e : mid.applied ≡ min (old.applied + count) (length h) = omega (arith, le, all, last) in e);
    })

-- it was refused
pub refused_left : (h : List Entry) (count left : ℕ) (old mid new : ReplicaState) (why : KeepFault) → left ≤ count → AppliesTo h (count - left) old mid (Ok tt) → AppliesOne h mid new (Err why) → AppliesTo h count old new (Err why)
refused_left h count left old mid new why le so one prefix within =
    let m = so prefix within in
    let up = m.up in let all : mid.applied ≡ min (old.applied + (count - left)) (length h) = m.all in
    let same : new ≡ mid = one m.prefix (let in_h = m.within in omega (arith, in_h)) in
    subst (λ (k : ReplicaState). HasApplied h count old k (Err why)) (sym same) (record { prefix = m.prefix; up = up; within = omega (arith, le, all); all = tt })

pub all_applied : (h : List Entry) (count left : ℕ) (old mid : ReplicaState) → (0 < left → ⊥) → AppliesTo h (count - left) old mid (Ok tt) → AppliesTo h count old mid (Ok tt)
all_applied h count left old mid none so = let e : count - left ≡ count = (none_of left none) in subst (λ n. AppliesTo h n old mid (Ok tt)) e so
  where
    none_of : (l : ℕ) → (0 < l → ⊥) → count - l ≡ count
    none_of zero none = omega arith
    none_of (suc l) none = absurd (none (omega arith))

-- a fault at last
pub fault_later : {T U : Type 0} (before mid now : ℕ) (why : KeepFault) → before ≤ mid → HasFault {T = T} mid now (Err why) → HasFault {T = U} before now (Err why)
fault_later before mid now why le h = record { later = (let l = h.later in omega (arith, le, l)); fault = λ is. (let same : why ≡ fault.Fault = cc in let r = h.fault (ap Err same) in omega (arith, le, r)) }
