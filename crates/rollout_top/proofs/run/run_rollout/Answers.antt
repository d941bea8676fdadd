use Rattle.std.proofs.Common.{inl, inr, refl}
use Rattle.rollout_top.proofs.Tells.{answered}
use Rattle.rollout_top.proofs.run.run_rollout.Goals as goal

pub returns-in-Ok : goal.returns-in-Ok
returns-in-Ok g c = record {
  source = c.in-Ok.ensures.source;
  answers = answered g.H.Host g.S.Source g.C.Clock g.W.Sink c.args.limit c.args.file _ _ c.roll_document.result c.in-Ok.doc c.in-Ok.ensures.read c.in-Ok.ensures.taken c.roll_document.ensures;
}

pub returns : goal.returns
returns g c = record {
  source = c.in-Err.ensures.source;
  answers = inl (record { cause = c.in-Err.cause; why = c.in-Err.ensures.read; took = c.in-Err.ensures.taken; unbegun = record { same_nodes = refl; same_clock = refl; told = c.tell_refused.ensures.told } });
}
