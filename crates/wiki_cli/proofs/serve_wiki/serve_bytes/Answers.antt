use Rattle.wiki_cli.proofs.Serving.{host_ends, host_told}
use Rattle.wiki_cli.proofs.serve_wiki.serve_bytes.Goals as goal

pub returns-clause-serves : goal.returns-clause-serves
returns-clause-serves g c = host_ends _ _ _ _ _ _ _ _ _ c.serve_door-hosted.result.end c.write_end.result c.serve_door-hosted.ensures.hosts c.write_end.ensures

pub returns-clause-says : goal.returns-clause-says
returns-clause-says g c = (host_told _ _ _ _ _ _ _ _ _ c.serve_door-hosted.result.end c.write_end.result c.serve_door-hosted.ensures.hosts c.write_end.ensures).0

pub returns-clause-end : goal.returns-clause-end
returns-clause-end g c = (host_told _ _ _ _ _ _ _ _ _ c.serve_door-hosted.result.end c.write_end.result c.serve_door-hosted.ensures.hosts c.write_end.ensures).1

pub returns-clause-unread : goal.returns-clause-unread
returns-clause-unread g c = (host_told _ _ _ _ _ _ _ _ _ c.serve_door-hosted.result.end c.write_end.result c.serve_door-hosted.ensures.hosts c.write_end.ensures).2

pub returns-clause-door : goal.returns-clause-door
returns-clause-door g c = (host_told _ _ _ _ _ _ _ _ _ c.serve_door-hosted.result.end c.write_end.result c.serve_door-hosted.ensures.hosts c.write_end.ensures).3

pub returns-clause-cause : goal.returns-clause-cause
returns-clause-cause g c = (host_told _ _ _ _ _ _ _ _ _ c.serve_door-hosted.result.end c.write_end.result c.serve_door-hosted.ensures.hosts c.write_end.ensures).4
