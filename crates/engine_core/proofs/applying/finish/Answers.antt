use Rattle.std.proofs.Common.{◌≡◌, ◌∙◌, ℕ, Some, false, subst, sym, refl}
use Rattle.net_model.specs.NetData.{NetData}
use Rattle.checkpoint_cell.specs.Cell.{applying, saved_net}
use Rattle.checkpoint_cell.specs.Steps.{Holds, NoneOr}
use Rattle.checkpoint_cell.proofs.lemmas.Saved.{saved_stays}
use Rattle.engine_model.specs.Sound.{Sound}
use Rattle.engine_model.specs.Undone.{stand}
use Rattle.engine_model.specs.Stations.{Only, Ends, Kept}
use Rattle.engine_core.specs.Attempts.{sealed, done}
use Rattle.engine_model.proofs.lemmas.Leading.{cell_kept, same_kind}
use Rattle.engine_model.proofs.lemmas.Restores.{clearing}
use Rattle.engine_core.proofs.Gives.{sealed_net}
use Rattle.engine_core.proofs.Calms.{still}
use Rattle.engine_core.proofs.applying.finish.Goals as goal
use Rattle.engine_core.proofs.applying.finish.Goals.{After-clear}

pub returns-then-no_commit-clause-saved : goal.returns-then-no_commit-clause-saved
returns-then-no_commit-clause-saved g c = λ tells made d from holds. sealed_net c.args.no_commit made d from (g.H.Host.told c.args.host.now) holds

-- the clearing writes before the saved network alone
saved : (g : _) (c : After-clear g) → g.H.Host.tells → (made d : ℕ) (from : NetData) → Holds (sealed c.args.no_commit made d from) (g.H.Host.told c.args.host.now) → saved_net (g.H.Host.told c.clear.new.host).state.cell ≡ Some from
saved g c tells made d from holds =
    saved_stays (g.H.Host.told c.args.host.now).state.cell (g.H.Host.told c.clear.new.host).state.cell (c.clear.ensures.behind tells) ∙ sealed_net c.args.no_commit made d from (g.H.Host.told c.args.host.now) holds

pub returns-in-Ok-clause-saved : goal.returns-in-Ok-clause-saved
returns-in-Ok-clause-saved g c = λ tells made d from holds. saved g (goal.at.returns-in-Ok-clause-saved g c).After-clear tells made d from holds

pub returns-in-Err-clause-saved : goal.returns-in-Err-clause-saved
returns-in-Err-clause-saved g c = λ tells made d from holds. saved g (goal.at.returns-in-Err-clause-saved g c).After-clear tells made d from holds

kept : (g : _) (c : After-clear g) → g.H.Host.tells → Sound (g.H.Host.told c.args.host.now) → (made d : ℕ) (from to : NetData) → Holds (sealed c.args.no_commit made d from) (g.H.Host.told c.args.host.now) → Ends (stand to (sealed c.args.no_commit made d from)) (g.H.Host.told c.args.host.now)
    → Kept (Only (done c.args.no_commit made d from to)) (g.H.Host.told c.args.host.now) (g.H.Host.told c.clear.new.host)
kept g c tells sound made d from to holds ends =
    let old = g.H.Host.told c.args.host.now in
    let new = g.H.Host.told c.clear.new.host in
    let plain : Holds (Some (applying made d from)) old = subst (λ b. Holds (sealed b made d from) old) c.if-no_commit.false holds in
    let ends_plain : Ends (stand to (Some (applying made d from))) old = subst (λ b. Ends (stand to (sealed b made d from)) old) c.if-no_commit.false ends in
    let kind = same_kind to from (applying made d from) old old.state ((g.met.H.Host.lawful c.args.host.now).reads tells) sound ends_plain refl in
    subst (λ b. Kept (Only (done b made d from to)) old new) (sym c.if-no_commit.false)
    (cell_kept (Only (done false made d from to)) to (Some (applying made d from)) (NoneOr (applying made d from)) old new ends_plain sound (c.clear.ensures.stops tells _ plain)
    (clearing (Only (done false made d from to)) to from (applying made d from) kind refl refl))

pub returns-in-Ok-clause-kept : goal.returns-in-Ok-clause-kept
returns-in-Ok-clause-kept g c = λ tells sound made d from to holds ends. kept g (goal.at.returns-in-Ok-clause-kept g c).After-clear tells sound made d from to holds ends

pub returns-in-Err-clause-kept : goal.returns-in-Err-clause-kept
returns-in-Err-clause-kept g c = λ tells sound made d from to holds ends. kept g (goal.at.returns-in-Err-clause-kept g c).After-clear tells sound made d from to holds ends

pub returns-then-no_commit-clause-stays : goal.returns-then-no_commit-clause-stays
returns-then-no_commit-clause-stays g c = still (g.H.Host.told c.args.host.now).stops
