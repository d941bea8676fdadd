use Rattle.std.proofs.Common.{◌≡◌, ◌∙◌, Some, None, true, subst, sym, refl}
use Rattle.std.proofs.lemmas.Result.{on_ok_weaker}
use Rattle.checkpoint_cell.specs.Cell.{applying, cell_of}
use Rattle.checkpoint_cell.specs.Steps.{Holds, EitherPhase}
use Rattle.engine_model.specs.Stations.{Ends, Kept}
use Rattle.engine_model.specs.Undone.{stand}
use Rattle.engine_core.specs.Attempts.{IsOnWay, sealed}
use Rattle.engine_model.proofs.lemmas.Leading.{cell_kept, same_kind, ends_cell}
use Rattle.engine_core.proofs.Attempts.{marking}
use Rattle.engine_core.proofs.Tries.{phase_stands}
use Rattle.engine_core.proofs.Calms.{still}
use Rattle.engine_core.proofs.attempting.mark.Goals as goal

pub returns-then-no_commit-clause-kept : goal.returns-then-no_commit-clause-kept
returns-then-no_commit-clause-kept g c = λ tells sound made deadline from to holds ends.
    let old = g.H.Host.told c.args.host.now in
    let new = g.H.Host.told c.mark_waiting.new.host in
    let kind = same_kind to from (applying made deadline from) old old.state ((g.met.H.Host.lawful c.args.host.now).reads tells) sound ends refl in
    subst (λ b. Kept (IsOnWay b made deadline from to) old new) (sym c.if-no_commit.true)
    (cell_kept (IsOnWay true made deadline from to) to (Some (applying made deadline from)) (EitherPhase (applying made deadline from)) old new ends sound (c.mark_waiting.ensures.stops tells _ holds) (marking made deadline from to kind))

pub returns-then-no_commit-clause-ends : goal.returns-then-no_commit-clause-ends
returns-then-no_commit-clause-ends g c = λ tells made deadline from to holds ends.
    on_ok_weaker c.mark_waiting.result (λ marked.
    subst (λ b. Ends (stand to (sealed b made deadline from)) (g.H.Host.told c.mark_waiting.new.host)) (sym c.if-no_commit.true)
    (ends_cell to (Some (applying made deadline from)) _ (g.H.Host.told c.args.host.now) _ ends c.mark_waiting.ensures.stops_net marked)) (c.mark_waiting.ensures.marked tells _ holds)

pub returns-then-no_commit-clause-marked : goal.returns-then-no_commit-clause-marked
returns-then-no_commit-clause-marked g c = λ tells made deadline from holds.
    on_ok_weaker c.mark_waiting.result (λ marked.
    subst (λ b. Holds (sealed b made deadline from) (g.H.Host.told c.mark_waiting.new.host)) (sym c.if-no_commit.true) marked) (c.mark_waiting.ensures.marked tells _ holds)

pub returns-clause-nets : goal.returns-clause-nets
returns-clause-nets g c = still (g.H.Host.told c.args.host.now).stops

pub returns-then-no_commit-clause-stands : goal.returns-then-no_commit-clause-stands
returns-then-no_commit-clause-stands g c = λ tells.
    let was = c.requires tells in
    let new = g.H.Host.told c.mark_waiting.new.host in
    let from = (c.mark_waiting.ensures.stops tells _ was.3).now new.state ((g.met.H.Host.lawful c.mark_waiting.new.host).reads tells) in
    phase_stands (applying was.0 was.1 was.2) (cell_of new.state.cell) from.2.cell

pub returns-clause-stands : goal.returns-clause-stands
returns-clause-stands g c = λ tells none.
    let was = c.requires tells in
    let e : Some (applying was.0 was.1 was.2) ≡ None = sym was.3.cell ∙ none in
    absurd (cc)
