-- What a wire tells after a take.
use Rattle.std.proofs.Common.{◌≡◌, List, [], ◌∷◌, ◌++◌, Option, Some, None, Result, Ok, Err, ap, ◌∙◌, map}
use Rattle.std.specs.Prelude.{IfOk}
use Rattle.std.proofs.lemmas.List.{map-append}
use Rattle.purge_relay.specs.declared.message.Message.{Message}
use Rattle.purge_relay.specs.declared.wire.WireFault.{WireFault}
use Rattle.purge_relay.specs.Carried.{Carried}
use Rattle.purge_relay.specs.AsModel.{message_of, maybe_taken}
use Rattle.purge_relay.specs.FarmWire.{with_given}

abbrev messages : (sent taken : List Message) → Carried
messages sent taken = record { sent = map message_of sent; taken = map message_of taken }

pub told : (result : Result (Option Message) WireFault) (sent taken new : List Message) → IfOk result (λ m. new ≡ with_given m taken)
    → IfOk result (λ m. Some (messages sent new) ≡ Some (maybe_taken m (messages sent taken)))
told (Err e) sent taken new h = tt
told (Ok None) sent taken new h = ap (λ t. Some (messages sent t)) h
told (Ok (Some m)) sent taken new h =
    let e : map message_of new ≡ map message_of taken ++ message_of m ∷ [] = ap (map message_of) h ∙ map-append message_of taken (m ∷ []) in
    ap (λ (t : List Rattle.purge_relay.specs.Carried.CarriedMessage). Some (record { sent = map message_of sent; taken = t })) e
