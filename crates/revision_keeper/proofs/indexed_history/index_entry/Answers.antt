use Rattle.std.proofs.Common.{◌≡◌, ◌+◌, length, map, sym, ap, arith}
use Rattle.commit_feed.specs.AsModel.{entry_of}
use Rattle.revision_keeper.proofs.Follows.{indexed_beat, indexed_commit, indexed_still, shown_length, count_room}
use Rattle.revision_keeper.proofs.Rows.{on_ok_both, on_err_both}
use Rattle.revision_keeper.proofs.indexed_history.index_entry.Goals as goal

pub index_commit-requires : goal.index_commit-requires
index_commit-requires c =
    let few = count_room (map entry_of c.args.entries.now) c.args.titles.now c.args.clients.now c.requires.before c.in-Commit.client in
    let long = shown_length c.args.entries.now in
    omega (arith, few, long, c.requires.short)

pub returns-in-Beat-clause-ok : goal.returns-in-Beat-clause-ok
returns-in-Beat-clause-ok c = indexed_beat (map entry_of c.args.entries.now) (entry_of c.args.entry.now) c.in-Beat.stamp (ap entry_of c.in-Beat.is) c.args.titles.now c.args.clients.now c.requires.before c.requires.after

pub returns-in-Commit-clause-ok : goal.returns-in-Commit-clause-ok
returns-in-Commit-clause-ok c =
    let place : length c.args.entries.now + 1 ≡ length (map entry_of c.args.entries.now) + 1 = ap (λ n. n + 1) (sym (shown_length c.args.entries.now)) in
    on_ok_both c.index_commit.result
    (λ adds wrote. indexed_commit (map entry_of c.args.entries.now) (entry_of c.args.entry.now) _ (ap entry_of c.in-Commit.is) (length c.args.entries.now + 1) place
    c.args.titles.now c.index_commit.new.titles c.args.clients.now c.index_commit.new.clients c.requires.before c.requires.after adds wrote)
    c.index_commit.ensures.titles c.index_commit.ensures.clients

pub returns-in-Commit-clause-err : goal.returns-in-Commit-clause-err
returns-in-Commit-clause-err c = on_err_both c.index_commit.result
    (λ same stay. indexed_still (map entry_of c.args.entries.now) c.args.titles.now c.index_commit.new.titles c.args.clients.now c.index_commit.new.clients c.requires.before same stay)
    c.index_commit.ensures.titles_stay c.index_commit.ensures.clients_stay
