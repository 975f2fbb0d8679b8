-- The room that open requests have reserved, as the list of them changes. A request that takes a place adds no more than its
-- own, one that leaves gives back its own: by going over the list, in which the other requests stand still.
use Rattle.std.proofs.Common.{◌≡◌, ℕ, ◌+◌, ◌≤◌, Bool, true, false, cond, [], ◌∷◌, Option, Some, refl, ap, arith}
use Rattle.std.proofs.lemmas.Bool.Decides.{nat_tests}
use Rattle.std.specs.declared.cmp.Ordering.{Ordering}
use Rattle.std.specs.declared.cmp.Ordering.TheVariants.{Less, Equal, Greater}
use Rattle.std.specs.Ordering.{match_ordering, nat_cmp}
use Rattle.std.specs.Map.{lookup, remove_entry}
use Rattle.std.specs.BTreeMap.{insert_entry, is_at}
use Rattle.edit_core.specs.declared.begun_edit.BegunEdit.{BegunEdit}
use Rattle.farm_steps.specs.declared.open_request.OpenRequest.{OpenRequest}
use Rattle.farm_steps.specs.declared.open_request.OpenRequest.TheVariants as point
use Rattle.farm_steps.specs.RequestMap.{Entries, kept_at, room, room_at, room_of, Places}

room_removed : (test : ℕ → Bool) (entries : Entries) → room (remove_entry test entries) + room_at (lookup test entries) ≡ room entries
room_removed test [] = refl
room_removed test (e ∷ entries) = by (test e.0) (room_removed test entries)
  where
    by : (b : Bool) → room (remove_entry test entries) + room_at (lookup test entries) ≡ room entries
        → room (cond b entries (e ∷ remove_entry test entries)) + room_at (cond b (Some e.1) (lookup test entries)) ≡ room (e ∷ entries)
    by true rest = omega arith
    by false rest = omega (arith, rest)

-- a request that is closed reserves nothing more
pub room_closed : (entries new : Entries) (id : ℕ) → new ≡ remove_entry (is_at (nat_cmp id)) entries → room new ≤ room entries + 0
room_closed entries new id is = let e = room_removed (is_at (nat_cmp id)) entries in let same = ap room is in omega (arith, e, same)

-- and an edit that was begun gives back room for two messages
pub room_given : (entries new : Entries) (id : ℕ) (begun : BegunEdit) → new ≡ remove_entry (is_at (nat_cmp id)) entries
    → kept_at entries id ≡ Some (point.EditBegun begun) → room new + 2 ≤ room entries
room_given entries new id begun is at =
    let e = room_removed (is_at (nat_cmp id)) entries in
    let same = ap room is in
    let two = ap room_at at in
    omega (arith, e, same, two)

inserted : (entries : Entries) (id : ℕ) (request : OpenRequest) → room (insert_entry nat_cmp entries id request) ≤ room entries + room_of request
inserted [] id request = omega arith
inserted (e ∷ entries) id request = by (nat_cmp id e.0) (inserted entries id request)
  where
    by : (o : Ordering) → room (insert_entry nat_cmp entries id request) ≤ room entries + room_of request
        → room (match_ordering o ((id, request) ∷ e ∷ entries) ((e.0, request) ∷ entries) (e ∷ insert_entry nat_cmp entries id request)) ≤ room (e ∷ entries) + room_of request
    by Less rest = omega arith
    by Equal rest = omega arith
    by Greater rest = omega (arith, rest)

-- a request that is put in a place reserves its own room at most
pub room_inserted : (entries new : Entries) (id : ℕ) (request : OpenRequest) → new ≡ insert_entry nat_cmp entries id request → room new ≤ room entries + room_of request
room_inserted entries new id request is = let e = inserted entries id request in let same = ap room is in omega (arith, e, same)

-- the map's own words for a change of one key
pub updated : (old new : Entries) (id : ℕ) (now : Option OpenRequest) → kept_at new id ≡ now → ((q : ℕ) → is_at (nat_cmp id) q ≡ false → lookup (is_at (nat_cmp q)) new ≡ lookup (is_at (nat_cmp q)) old)
    → room new ≤ room old + room_at now → Places old new id now
updated old new id now here others enough = record {
  here = here;
  others = λ other apart. others other (grind (arith, nat_tests, apart));
  room = enough;
}
