use Rattle.std.proofs.Common.{◌∙◌, ap, Ok}
use Rattle.wiki_serve.specs.AsModel.{end_of}
use Rattle.wiki_host.proofs.OneMoreVisit.{came, no_visit, door_failed}
use Rattle.wiki_host.proofs.door_visits.serve_next.Goals as goal

pub returns-in-Ok-Some-clause-visits : goal.returns-in-Ok-Some-clause-visits
returns-in-Ok-Some-clause-visits g c =
    came _ _ _ _ _ _ _ _ _ _ (g.D.Door.offered c.next.new.self) (g.D.Door.faults c.next.new.self) (g.D.Door.nones c.next.new.self)
    c.next.result c.in-Ok-Some.conn c.serve_conn.new.conn (end_of c.serve_conn.result)
    (c.in-Ok-Some.is ∙ ap (λ f. Ok f) c.in-Ok-Some.field-0-is)
    c.next.ensures.conns c.next.ensures.nones c.next.ensures.cause
    c.done.ensures.conns c.done.ensures.nones c.done.ensures.faults c.serve_conn.ensures.served

pub returns-in-Ok-None-clause-visits : goal.returns-in-Ok-None-clause-visits
returns-in-Ok-None-clause-visits g c =
    no_visit _ _ _ _ _ _ _ c.next.result (c.in-Ok-None.is ∙ ap (λ f. Ok f) c.in-Ok-None.field-0-is)
    c.next.ensures.conns c.next.ensures.nones c.next.ensures.cause

pub returns-in-Err-clause-visits : goal.returns-in-Err-clause-visits
returns-in-Err-clause-visits g c =
    door_failed _ _ _ _ _ _ _ c.next.result c.in-Err.fault c.in-Err.is c.next.ensures.conns c.next.ensures.cause
