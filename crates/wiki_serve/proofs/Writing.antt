-- Responses: none, one that was written whole, and one that was not.
use Rattle.std.proofs.Common.{◌≡◌, ℕ, Option, Some, None, refl, sym, ap, arith}
use Rattle.std.proofs.lemmas.Bool.Decides.{nat_tests}
use Rattle.std.specs.Prelude.{◌==◌, ◌||◌, Bool, true, false}
use Rattle.std.proofs.Common.{cond}
use Rattle.wiki_model.specs.Bytes.{Bytes}
use Rattle.wiki_model.specs.Limits.{requests_max}
use Rattle.wiki_serve.specs.declared.connection.ConnEnd.{ConnEnd}
use Rattle.wiki_serve.specs.declared.connection.ConnEnd.TheVariants as ended
use Rattle.wiki_serve.specs.declared.serve_arrival.Reaction.{Reaction}
use Rattle.wiki_serve.specs.declared.serve_arrival.Reaction.TheVariants as reaction
use Rattle.wiki_serve.specs.Connections.{Conn}
use Rattle.wiki_serve.specs.Served.{WritesTo}
use Rattle.wiki_serve.specs.Reactions.{ended_of, reaction_closes, reaction_bytes, end_after, WritesResponse, Responds}

-- nothing was written, since there is nothing to respond
pub responds_none : (conn : Conn) (what : Reaction) (n : ℕ) (end : ConnEnd) → ended_of what ≡ Some end → Responds conn conn what n (Some end)
responds_none conn (reaction.Ended e) n end is = let same : e ≡ end = cc in (ap (λ (x : ConnEnd). Some x) (sym same), refl)
responds_none conn (reaction.Refused refusal) n end is = let never : ⊥ = cc in absurd never
responds_none conn (reaction.Answered answered) n end is = let never : ⊥ = cc in absurd never
responds_none conn (reaction.Listed listed) n end is = let never : ⊥ = cc in absurd never

-- a response was written, or not
pub responds_so : (before now : Conn) (what : Reaction) (n : ℕ) (result : Option ConnEnd) → ended_of what ≡ None → WritesResponse before now (reaction_bytes what (reaction_closes what || (n == requests_max))) (reaction_closes what) n result → Responds before now what n result
responds_so before now (reaction.Ended e) n result is writes = let never : ⊥ = cc in absurd never
responds_so before now (reaction.Refused refusal) n result is writes = writes
responds_so before now (reaction.Answered answered) n result is writes = writes
responds_so before now (reaction.Listed listed) n result is writes = writes

-- how the connection goes on after a response that was written whole
pub wrote_whole : (before now : Conn) (bytes : Bytes) (closes : Bool) (n : ℕ) → WritesTo before now bytes → WritesResponse before now bytes closes n (end_after closes n)
wrote_whole before now bytes true n writes = (writes, refl)
wrote_whole before now bytes false n writes = by (n == requests_max) refl
  where
    by : (b : Bool) → (n == requests_max) ≡ b → WritesResponse before now bytes false n (cond b (Some ended.Enough) None)
    by true e = (writes, refl, let same : n ≡ requests_max = grind (arith, nat_tests, e) in same)
    by false e = (writes, refl, λ same. let never : ⊥ = grind (arith, nat_tests, e, same) in never)
