use Rattle.std.proofs.Common.{◌≡◌, ◌≤◌, ◌<◌, ◌++◌, length, drop, OnOk, sym, subst, ap, ◌∙◌, arith}
use Rattle.std.proofs.lemmas.List.{drop-append-le}
use Rattle.farm_base.specs.Exposed.{Adds, AddsPrefix}
use Rattle.farm_base.proofs.Chains.{prefix_second, rest_in_second}
use Rattle.farm_base.proofs.connection.write_rest.Goals as goal

pub returns-then-first-done-clause-ok : goal.returns-then-first-done-clause-ok
returns-then-first-done-clause-ok g c =
    let rest_is = rest_in_second c.args.first.now c.args.second.now c.args.done c.if-first-done.true ∙ sym c.split_at.ensures.back in
    subst (λ rest. OnOk c.write_all.result (Adds (g.X.Sink.written c.args.conn.now) (g.X.Sink.written c.write_all.new.sink) rest)) (sym rest_is) c.write_all.ensures.ok

pub returns-then-first-done-clause-prefix : goal.returns-then-first-done-clause-prefix
returns-then-first-done-clause-prefix g c =
    let rest_is = rest_in_second c.args.first.now c.args.second.now c.args.done c.if-first-done.true ∙ sym c.split_at.ensures.back in
    subst (AddsPrefix (g.X.Sink.written c.args.conn.now) (g.X.Sink.written c.write_all.new.sink)) (sym rest_is) c.write_all.ensures.prefix

pub returns-clause-prefix : goal.returns-clause-prefix
returns-clause-prefix g c =
    let within : c.args.done ≤ length c.args.first.now = omega (arith, c.if-first-done.false) in
    let rest_is = drop-append-le c.args.done c.args.first.now c.args.second.now within ∙ ap (λ t. t ++ c.args.second.now) (sym c.split_at-2.ensures.back) in
    subst (AddsPrefix (g.X.Sink.written c.args.conn.now) (g.X.Sink.written c.write_all-3.new.sink)) (sym rest_is)
    (prefix_second (g.X.Sink.written c.args.conn.now) (g.X.Sink.written c.write_all-2.new.sink) (g.X.Sink.written c.write_all-3.new.sink) c.split_at-2.result.1.now c.args.second.now c.in_ok-write_all.ensures.ok c.write_all-3.ensures.prefix)
