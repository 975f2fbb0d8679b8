-- What a wire exposes: the messages that it was given and those that it gave.
use Rattle.std.specs.Prelude.{ℕ, List, [], ◌∷◌, ◌++◌}
use Rattle.wiki_model.specs.World.{Body}

-- A message on its way: its number and its body.
pub record CarriedMessage : Type 0 where
  pub number : ℕ
  pub body : Body

pub record Carried : Type 0 where
  pub sent : List CarriedMessage
  pub taken : List CarriedMessage

abbrev pub with_sent : CarriedMessage → Carried → Carried
with_sent message c = record c { sent = c.sent ++ message ∷ [] }

abbrev pub with_taken : CarriedMessage → Carried → Carried
with_taken message c = record c { taken = c.taken ++ message ∷ [] }
