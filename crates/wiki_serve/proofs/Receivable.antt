-- What the ledger says of a message that was taken is what the model asks: its number was issued with this body, it is a
-- purge, and it was not dropped.
use Rattle.std.proofs.Common.{◌≡◌, ℕ, zero, suc, Bool, true, false, List, [], ◌∷◌, map, Option, Some, None, refl, sym, ap, subst, ◌∙◌}
use Rattle.std.specs.Prelude.{◌&&◌, not, if◌then◌else◌, option_map, slice_get}
use Rattle.wiki_model.specs.Titles.{Title}
use Rattle.wiki_model.specs.World as world
use Rattle.wiki_model.specs.World.{World, Message, message_at}
use Rattle.wiki_model.specs.Rounds.{IsPurge}
use Rattle.wiki_model.specs.Serving.{Taken, IsReceivable}
use Rattle.purge_relay.specs.Body.{is_same_body}
use Rattle.purge_relay.specs.AsModel.{body_of, row_message}
use Rattle.purge_relay.specs.Ledger.{row_at}
use Rattle.purge_relay.specs.declared.message.Body.{Body}
use Rattle.purge_relay.specs.declared.message.Body.TheVariants.{Purge, Position}
use Rattle.purge_relay.specs.declared.ledger_row.LedgerRow.{LedgerRow}
use Rattle.purge_relay.proofs.SameBody.{same_says}
use Rattle.region_round.specs.Jobs.{IsPurgeAt, is_purge_body}
use Rattle.wiki_serve.specs.HoldingBack.{is_open_as, is_receivable}

-- The messages of the world are the ledger's

row_found : (rows : List LedgerRow) (n : ℕ) → slice_get (map row_message rows) n ≡ option_map row_message (slice_get rows n)
row_found [] n = refl
row_found (row ∷ rows) zero = refl
row_found (row ∷ rows) (suc n) = row_found rows n

message_is : (w : World) (rows : List LedgerRow) (number : ℕ) → map row_message rows ≡ w.messages → message_at w number ≡ option_map row_message (row_at rows number)
message_is w rows zero same = refl
message_is w rows (suc n) same = ap (λ (ms : List Message). slice_get ms n) (sym same) ∙ row_found rows n

message_same : (v w : World) (number : ℕ) → w.messages ≡ v.messages → message_at w number ≡ message_at v number
message_same v w zero same = refl
message_same v w (suc n) same = ap (λ (ms : List Message). slice_get ms n) same

-- what a world would receive, so would each with the same messages
pub receivable_there : (v w : World) (t : Taken) → w.messages ≡ v.messages → IsReceivable v t → IsReceivable w t
receivable_there v w t same is = (is.0, (message_same v w t.number same ∙ is.1.0, is.1.1), is.2, is.3)

-- The body

both : (a b : Bool) → (a && b) ≡ true → (a ≡ true) × (b ≡ true)
both true b e = (refl, e)
both false b e = let never : ⊥ = cc in absurd never

undropped : (dropped : Bool) → not dropped ≡ true → dropped ≡ false
undropped true e = let never : ⊥ = cc in absurd never
undropped false e = refl

body_open : (b : Body) (shown : world.Body) (dropped : Bool) → (if is_purge_body b then is_same_body shown (body_of b) && not dropped else false) ≡ true
    → (shown ≡ body_of b) × (dropped ≡ false) × IsPurge (body_of b)
body_open (Purge purge title issued) shown dropped e =
    let (same, still) = both (is_same_body shown (world.Purge purge title issued)) (not dropped) e in
    ((same_says shown (world.Purge purge title issued)).0 same, undropped dropped still, tt)
body_open (Position client index entry stamp) shown dropped e = let never : ⊥ = cc in absurd never

open_body : (b : Body) (shown : world.Body) (dropped : Bool) → shown ≡ body_of b → dropped ≡ false → IsPurge (body_of b)
    → (if is_purge_body b then is_same_body shown (body_of b) && not dropped else false) ≡ true
open_body (Purge purge title issued) shown dropped same still purges =
    ap (λ (d : Bool). is_same_body shown (world.Purge purge title issued) && not d) still
    ∙ ap (λ (a : Bool). a && true) ((same_says shown (world.Purge purge title issued)).1 same)
open_body (Position client index entry stamp) shown dropped same still purges = absurd purges

-- The test

opens : (o : Option LedgerRow) (w : World) (t : Taken) → message_at w t.number ≡ option_map row_message o → is_open_as t.body o ≡ true → IsReceivable w t
opens None w t there e = let never : ⊥ = cc in absurd never
opens (Some row) w t there e =
    let (same, still, purges) = body_open row.message.body t.body row.dropped e in
    (row_message row, (there, same), still, purges)

is_opened : (o : Option LedgerRow) (w : World) (t : Taken) → message_at w t.number ≡ option_map row_message o → IsReceivable w t → is_open_as t.body o ≡ true
is_opened None w t there is = let found = is.1.0 in let never : ⊥ = cc in absurd never
is_opened (Some row) w t there is =
    let found : Some (row_message row) ≡ Some is.0 = sym there ∙ is.1.0 in
    let same : row_message row ≡ is.0 = cc in
    open_body row.message.body t.body row.dropped (is.1.1 ∙ ap (λ (m : Message). m.body) (sym same)) (ap (λ (m : Message). m.dropped) same ∙ is.2)
    (subst (λ (m : Message). IsPurge m.body) (sym same) is.3)

pub test_receivable : (w : World) (rows : List LedgerRow) (t : Taken) → map row_message rows ≡ w.messages → is_receivable rows t ≡ true → IsReceivable w t
test_receivable w rows t same e = opens (row_at rows t.number) w t (message_is w rows t.number same) e

pub receivable_test : (w : World) (rows : List LedgerRow) (t : Taken) → map row_message rows ≡ w.messages → IsReceivable w t → is_receivable rows t ≡ true
receivable_test w rows t same is = is_opened (row_at rows t.number) w t (message_is w rows t.number same) is

-- a round may receive it
pub purge_there : (rows : List LedgerRow) (t : Taken) → is_receivable rows t ≡ true → (title : Title) × IsPurgeAt rows t.number title
purge_there rows t e = at_row (row_at rows t.number) refl e
  where
    at_body : (row : LedgerRow) → row_at rows t.number ≡ Some row → (b : Body) → row.message.body ≡ b
        → (if is_purge_body b then is_same_body t.body (body_of b) && not row.dropped else false) ≡ true → (title : Title) × IsPurgeAt rows t.number title
    at_body row there (Purge purge title issued) is f =
        (title, record { row = row; issued = issued; purge = purge; there = there; body = is; undropped = (body_open (Purge purge title issued) t.body row.dropped f).1 })
    at_body row there (Position client index entry stamp) is f = let never : ⊥ = cc in absurd never

    at_row : (o : Option LedgerRow) → row_at rows t.number ≡ o → is_open_as t.body o ≡ true → (title : Title) × IsPurgeAt rows t.number title
    at_row None there f = let never : ⊥ = cc in absurd never
    at_row (Some row) there f = at_body row there row.message.body refl f
