use Rattle.std.proofs.Common.{◌∙◌, ap, take}
use Rattle.ip_batch.specs.Reader.{batch_of}
use Rattle.peer_core.specs.Protocol.{IsRequest}
use Rattle.peer_host.proofs.Reading.{answered_as, failed_as}
use Rattle.peer_host.proofs.asking.ask_call.Goals as goal

pub returns-in-Ok-ask-clause-called : goal.returns-in-Ok-ask-clause-called
returns-in-Ok-ask-clause-called g c =
    let is : IsRequest c.args.call.now c.deref.result.now = ap batch_of c.deref.ensures.value ∙ c.in-Ok.ensures.request in
    answered_as g.P.Peer.tells g.P.Peer.honest c.args.call.now (g.P.Peer.told c.args.peer.now) (g.P.Peer.told c.ask.new.self) (take c.in-Ok-ask.n c.ask.new.answer) c.answer_in.result
    (c.ask.ensures.call c.args.call.now is) (c.in-Ok-ask.ensures.answered c.args.call.now is) c.ask.ensures.cause.later
    c.answer_in.ensures.done c.answer_in.ensures.refused c.answer_in.ensures.failed c.answer_in.ensures.asked

pub returns-clause-called : goal.returns-clause-called
returns-clause-called g c =
    let is : IsRequest c.args.call.now c.deref.result.now = ap batch_of c.deref.ensures.value ∙ c.in-Ok.ensures.request in
    failed_as g.P.Peer.tells g.P.Peer.honest c.args.call.now (g.P.Peer.told c.args.peer.now) (g.P.Peer.told c.ask.new.self)
    (c.ask.ensures.call c.args.call.now is) c.ask.ensures.cause.later c.in-Err.ensures.cause.failed
