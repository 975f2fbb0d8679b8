use Rattle.std.proofs.Common.{◌≡◌, ◌<◌, ◌^◌, length, sym, ◌∙◌, subst, arith}
use Rattle.std.specs.Prelude.{IfSome}
use Rattle.wiki_model.specs.History.{number_of, commit_with_token}
use Rattle.revision_keeper.proofs.Small.{token_small}
use Rattle.revision_keeper.proofs.indexed_history.IndexedHistory.by_token.Goals as goal

pub returns-clause-small : goal.returns-clause-small
returns-clause-small c =
    let short : length c.args.self.now < 2 ^ 63 = let is = c.len-length.ensures.len in let small = c.len-length.ensures.small in omega (arith, is, small) in
    let is : c.by_token.result ≡ number_of (commit_with_token c.args.self.now c.args.client.now c.args.token.now) =
    rw (← c.self.view_is) (c.by_token.ensures ∙ c.self.invariant.tokens c.args.client.now c.args.token.now) in
    subst (λ o. IfSome o (λ n. n < 2 ^ 63)) (sym is) (token_small c.args.self.now short c.args.client.now c.args.token.now)
