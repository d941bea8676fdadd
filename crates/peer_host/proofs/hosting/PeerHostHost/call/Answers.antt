use Rattle.std.proofs.Common.{◌∙◌, inl, inr, refl, ap, Err}
use Rattle.peer_host.proofs.Reading.{sure_kept}
use Rattle.peer_host.proofs.hosting.PeerHostHost.call.Goals as goal

pub invariant_of-self-in-Err-Refused : goal.invariant_of-self-in-Err-Refused
invariant_of-self-in-Err-Refused g c = record {
  sure = λ yes tells.
      sure_kept g.P.Peer.tells (g.P.Peer.told c.args.self.now.peer) (g.P.Peer.told c.ask_call.new.peer) tells
      (c.ask_call.ensures.called.same c.in-Err-Refused.k (inl (c.in-Err-Refused.is ∙ ap Err c.in-Err-Refused.field-0-is))) (c.args.self.now.sure c.requires tells);
}

pub invariant_of-self-in-Err-OutOfMemory : goal.invariant_of-self-in-Err-OutOfMemory
invariant_of-self-in-Err-OutOfMemory g c = record {
  sure = λ yes tells.
      sure_kept g.P.Peer.tells (g.P.Peer.told c.args.self.now.peer) (g.P.Peer.told c.ask_call.new.peer) tells
      (c.ask_call.ensures.called.same 0 (inr (c.in-Err-OutOfMemory.is ∙ ap Err c.in-Err-OutOfMemory.field-0-is))) (c.args.self.now.sure c.requires tells);
}

pub returns-in-Err-Refused-clause-same : goal.returns-in-Err-Refused-clause-same
returns-in-Err-Refused-clause-same g c = λ k which.
    let same = c.ask_call.ensures.called.same c.in-Err-Refused.k (inl (c.in-Err-Refused.is ∙ ap Err c.in-Err-Refused.field-0-is)) in
    (same.state, same.stops)

pub returns-in-Err-Refused-clause-counted : goal.returns-in-Err-Refused-clause-counted
returns-in-Err-Refused-clause-counted g c = λ none. absurd (none _ refl)

pub returns-in-Err-OutOfMemory-clause-same : goal.returns-in-Err-OutOfMemory-clause-same
returns-in-Err-OutOfMemory-clause-same g c = λ k which.
    let same = c.ask_call.ensures.called.same 0 (inr (c.in-Err-OutOfMemory.is ∙ ap Err c.in-Err-OutOfMemory.field-0-is)) in
    (same.state, same.stops)
