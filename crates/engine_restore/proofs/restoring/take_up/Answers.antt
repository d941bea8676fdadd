use Rattle.std.proofs.Common.{◌≡◌, ◌∙◌, Some, ap, refl}
use Rattle.std.proofs.lemmas.Result.{on_ok_weaker}
use Rattle.checkpoint_cell.specs.declared.Phase.TheVariants.{Waiting}
use Rattle.checkpoint_cell.specs.Cell.{Checkpoint}
use Rattle.checkpoint_cell.specs.Steps.{EitherPhase}
use Rattle.engine_model.specs.Stations.{Only}
use Rattle.checkpoint_cell.specs.Settled.{restored_to}
use Rattle.engine_model.proofs.lemmas.Comparing.{taking_waits}
use Rattle.engine_model.proofs.lemmas.Leading.{cell_kept, same_kind, ends_cell}
use Rattle.engine_model.proofs.lemmas.Restores.{same_checkpoint, taking_up}
use Rattle.engine_restore.proofs.restoring.take_up.Goals as goal

pub returns-in-Waiting-clause-kept : goal.returns-in-Waiting-clause-kept
returns-in-Waiting-clause-kept g c = λ tells sound checkpoint net saved holds ends has.
    let was = c.requires tells in
    let old = g.H.Host.told c.args.host.now in
    let waits : checkpoint.phase ≡ Waiting = ap (λ (k : Checkpoint). k.phase) (same_checkpoint checkpoint was.0 old holds was.1) ∙ was.2 ∙ c.in-Waiting.is in
    let kind = same_kind net saved checkpoint old old.state ((g.met.H.Host.lawful c.args.host.now).reads tells) sound ends has in
    cell_kept (Only (restored_to saved)) net (Some checkpoint) (EitherPhase checkpoint) old _ ends sound (c.mark_applying.ensures.stops tells checkpoint holds) (taking_up net saved kind checkpoint has waits)

pub returns-in-Waiting-clause-ends : goal.returns-in-Waiting-clause-ends
returns-in-Waiting-clause-ends g c = λ tells checkpoint net holds ends.
    on_ok_weaker c.mark_applying.result (λ marked. ends_cell net (Some checkpoint) _ (g.H.Host.told c.args.host.now) _ ends c.mark_applying.ensures.stops_net marked) (c.mark_applying.ensures.marked tells checkpoint holds)

pub returns-in-Applying-clause-waits : goal.returns-in-Applying-clause-waits
returns-in-Applying-clause-waits g c = λ tells s left waits. (s, left, refl)

pub returns-in-Waiting-clause-waits : goal.returns-in-Waiting-clause-waits
returns-in-Waiting-clause-waits g c = λ tells.
    let was = c.requires tells in
    taking_waits was.0 (was.2 ∙ c.in-Waiting.is) (g.H.Host.told c.args.host.now) (g.H.Host.told c.mark_applying.new.host) was.1 (c.mark_applying.ensures.stops tells was.0 was.1)
