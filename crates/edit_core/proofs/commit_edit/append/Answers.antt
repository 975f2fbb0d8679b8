use Rattle.edit_core.specs.AsModel.{edit_of}
use Rattle.edit_core.proofs.Found.{may_append}
use Rattle.edit_core.proofs.commit_edit.append.Goals as goal

pub append-requires : goal.append-requires
append-requires g c =
    may_append (g.K.Keeper.content c.args.keeper.now) (g.K.Keeper.content c.writes_of.new.self) (edit_of c.args.ask) c.in_ok-writes.writes c.args.at c.args.purge c.writes_of.ensures.content c.known.ensures.history c.requires.later c.requires.moment c.requires.new c.in_ok-writes.ensures.value
