use Rattle.std.proofs.Common.{refl, take}
use Rattle.peer_host.proofs.Reading.{read_as, failed_dump}
use Rattle.peer_host.proofs.asking.read_in.Goals as goal

pub returns-in-Ok-clause-reads : goal.returns-in-Ok-clause-reads
returns-in-Ok-clause-reads g c =
    read_as g.P.Peer.tells (g.P.Peer.told c.args.peer.now) (g.P.Peer.told c.ask.new.self) (take c.in-Ok.n c.ask.new.answer) c.network_in.result
    (c.ask.ensures.dump refl) (c.in-Ok.ensures.dumped refl) c.ask.ensures.cause.later
    c.network_in.ensures.network c.network_in.ensures.none c.network_in.ensures.failed

pub returns-in-Err-clause-reads : goal.returns-in-Err-clause-reads
returns-in-Err-clause-reads g c =
    failed_dump g.P.Peer.tells (g.P.Peer.told c.args.peer.now) (g.P.Peer.told c.ask.new.self) (c.ask.ensures.dump refl) c.ask.ensures.cause.later c.in-Err.ensures.cause.failed
