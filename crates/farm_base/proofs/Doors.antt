-- A door in memory gives its first connection: the rest keep their places, since each is counted from the number of
-- those that were given before.
use Rattle.std.proofs.Common.{◌≡◌, ℕ, suc, zero, ◌+◌, ◌-◌, ◌<◌, ◌≤◌, List, [], ◌∷◌, length, take, drop, Some, refl, slice_index_or, arith}
use Rattle.std.specs.List.{remove}
use Rattle.farm_base.specs.MemConn.{Talker, with_place}
use Rattle.farm_base.specs.MemDoor.{numbered}
use Rattle.farm_base.specs.Offered.{GivesFirst}

pub gives_first : (conns rest : List Talker) (conn : Talker) (left total out : ℕ)
    → conn ≡ slice_index_or conns 0 conn → rest ≡ remove conns 0 → 0 < left → left ≤ total → left ≤ length conns
    → GivesFirst
    (Some (record { left = numbered (total - left) (take left conns); out = out; returned = drop left conns }))
    (Some (record { left = numbered (total - (left - 1)) (take (left - 1) rest); out = out + 1; returned = drop (left - 1) rest }))
    (with_place (total - left) conn)
gives_first [] rest conn left total out first others some within has = let none : ⊥ = omega (arith, some, has) in absurd none
gives_first (x ∷ xs) rest conn zero total out first others some within has = let none : ⊥ = omega (arith, some) in absurd none
gives_first (x ∷ xs) rest conn (suc n) total out first others some within has =
    let next : total - (suc n - 1) ≡ suc (total - suc n) = omega (arith, within) in
    let less : suc n - 1 ≡ n = omega arith in
    rw (next, less, others, first) (record { first = refl; rest = refl })
