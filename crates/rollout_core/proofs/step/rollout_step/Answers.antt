use Rattle.std.proofs.Common.{◌∙◌, ap, sym, subst, length, [], ◌∷◌, ◌++◌, ◌<◌, refl}
use Rattle.rollout_model.specs.Rollout.{Rollout}
use Rattle.rollout_model.specs.Rolls.{work}
use Rattle.rollout_model.specs.Next.{next}
use Rattle.rollout_core.specs.Did.{change, events_of}
use Rattle.rollout_core.specs.Holding.{Holds}
use Rattle.rollout_core.proofs.Carrying.{carried}
use Rattle.rollout_core.proofs.Following.{same_many, run_many, accepted_by, falls_by}
use Rattle.rollout_core.proofs.Stepping.{goes}
use Rattle.rollout_core.proofs.step.rollout_step.Goals as goal

pub returns-clause-carries : goal.returns-clause-carries
returns-clause-carries g c = carried g.H.Host (change c.args.doc.now c.args.timeout c.args.now) (next c.args.core.now) c.args.hosts.now.items c.carry_out.new.hosts.items (events_of c.carry_out.result) c.carry_out.ensures.did

pub returns-clause-accepted : goal.returns-clause-accepted
returns-clause-accepted g c = accepted_by g.H.Host (change c.args.doc.now c.args.timeout c.args.now) c.args.core.now c.args.hosts.now.items c.carry_out.new.hosts.items (events_of c.carry_out.result)
    c.rollout_laws.ensures.accepted (next c.args.core.now) refl c.carry_out.ensures.did

pub returns-clause-falls : goal.returns-clause-falls
returns-clause-falls g c = λ some. subst (λ (r : Rollout). work r < work c.args.core.now) (sym c.carry_out.ensures.core)
    (falls_by g.H.Host (change c.args.doc.now c.args.timeout c.args.now) c.args.core.now c.args.hosts.now.items c.carry_out.new.hosts.items (events_of c.carry_out.result) c.rollout_laws.ensures.falls some c.carry_out.ensures.did)

pub returns-clause-hosts : goal.returns-clause-hosts
returns-clause-hosts g c =
    same_many g.H.Host (change c.args.doc.now c.args.timeout c.args.now) (next c.args.core.now) c.args.hosts.now.items c.carry_out.new.hosts.items (events_of c.carry_out.result) c.carry_out.ensures.did
    ∙ c.requires.hosts ∙ sym (run_many c.args.core.now (events_of c.carry_out.result)) ∙ sym (ap (λ (r : Rollout). length r.nodes) c.carry_out.ensures.core)

pub returns-clause-holds : goal.returns-clause-holds
returns-clause-holds g c = λ trust limit first steps some holds.
    subst (λ (r : Rollout). Holds g.H.Host c.args.doc.now c.args.timeout limit first (steps ++ record { at = c.args.now; events = events_of c.carry_out.result } ∷ []) r c.carry_out.new.hosts.items) (sym c.carry_out.ensures.core)
    (goes g.H.Host g.met.H.Host.lawful trust (g.met.H.Host.honest_tells trust) c.args.doc.now c.args.timeout limit first steps c.args.core.now c.args.hosts.now.items holds c.args.now c.carry_out.new.hosts.items (events_of c.carry_out.result) some c.carry_out.ensures.did)
