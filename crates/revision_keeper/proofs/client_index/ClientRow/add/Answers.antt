use Rattle.std.proofs.Common.{cond, Some, ap, ◌∙◌}
use Rattle.std.specs.Prelude.{bytes_eq}
use Rattle.std.specs.String.{string_bytes}
use Rattle.std.specs.BTreeMap.{get_by_text}
use Rattle.std.proofs.lemmas.Map.Text.{btree_map_updates_text}
use Rattle.revision_keeper.proofs.client_index.ClientRow.add.Goals as goal

pub returns-clause-tokens : goal.returns-clause-tokens
returns-clause-tokens c = λ t.
    btree_map_updates_text (string_bytes c.into_text.result) c.args.self.now.tokens c.insert.new.self (Some c.args.number) c.in_ok-insert.ensures.updates t
    ∙ ap (λ b. cond (bytes_eq b t) (Some c.args.number) (get_by_text c.args.self.now.tokens t)) c.into_text.ensures
