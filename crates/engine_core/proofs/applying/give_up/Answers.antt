use Rattle.std.proofs.Common.{◌≡◌, ◌∙◌, false, Err, ap, subst, sym}
use Rattle.net_model.specs.NetData.{NetData}
use Rattle.host_core.specs.HostView.{State}
use Rattle.checkpoint_cell.specs.Settled.{standing, restored_to}
use Rattle.engine_model.specs.Sound.{Sound}
use Rattle.engine_model.specs.Machine.{asked}
use Rattle.engine_model.specs.Stations.{Only, Kept}
use Rattle.engine_model.specs.Answers.{IsUndone}
use Rattle.engine_model.specs.declared.answers.ApplyFault.{ApplyFault}
use Rattle.engine_model.proofs.lemmas.Leading.{kept_wider}
use Rattle.engine_core.specs.Applying.{GaveUp, Hurt}
use Rattle.std.proofs.Common.{Bool, refl}
use Rattle.host_core.specs.Faults.{Rose}
use Rattle.checkpoint_cell.specs.Cell.{cell_of}
use Rattle.engine_model.specs.Answers.{Finds}
use Rattle.engine_model.specs.Machine.{saved_on}
use Rattle.engine_model.specs.declared.answers.BackFault.{BackFault}
use Rattle.engine_core.proofs.Exacts.{taken_hurt, never_refused, stopped_hurt}
use Rattle.engine_core.specs.Saying.{Said, taken_back_as, stopped_as, IsGivenUp}
use Rattle.engine_core.specs.declared.missed.Missed.{Missed}
use Rattle.engine_core.proofs.Gives.{one_way, taken_exit, stopped_exit}
use Rattle.engine_core.proofs.Says.{taken_says, stopped_says, returned, taken_begun, stopped_begun}
use Rattle.engine_core.proofs.Counts.{taken_counts, stopped_counts}
use Rattle.engine_model.specs.Refusals.{ApplyCounts}
use Rattle.engine_model.specs.Faults.{Tries, FailsTwice, Backs}
use Rattle.engine_core.proofs.Tries.{taken_tries, stopped_tries, taken_twice, stopped_twice, taken_backs, stopped_backs, back_or}
use Rattle.engine_core.proofs.applying.give_up.Goals as goal
use Rattle.engine_core.proofs.applying.give_up.Goals.{After-go_back}

kept : (g : _) (c : After-go_back g) → g.H.Host.honest → Sound (g.H.Host.told c.args.host.now) → (from : NetData) → ((s : State) → (g.H.Host.told c.args.host.now).stops.may_leave s → IsUndone s (restored_to from)) → Kept (Only (restored_to from)) (g.H.Host.told c.args.host.now) (g.H.Host.told c.go_back.new.host)
kept g c honest sound from all =
    let old = g.H.Host.told c.args.host.now in
    kept_wider (IsUndone old.state) (Only (restored_to from)) (λ a is. one_way (standing old.state) a (restored_to from) is (all old.state ((g.met.H.Host.lawful c.args.host.now).reads (g.met.H.Host.honest_tells honest)))) old (g.H.Host.told c.go_back.new.host) (c.go_back.ensures.kept honest sound)

pub returns-in-Ok-clause-kept : goal.returns-in-Ok-clause-kept
returns-in-Ok-clause-kept g c = λ honest sound from all. kept g (goal.at.returns-in-Ok-clause-kept g c).After-go_back honest sound from all

pub returns-in-Err-clause-kept : goal.returns-in-Err-clause-kept
returns-in-Err-clause-kept g c = λ honest sound from all. kept g (goal.at.returns-in-Err-clause-kept g c).After-go_back honest sound from all

pub returns-in-Ok-clause-exit : goal.returns-in-Ok-clause-exit
returns-in-Ok-clause-exit g c = λ honest sound from all fault.
    let new = g.H.Host.told c.go_back.new.host in
    subst (λ (a : ApplyFault). GaveUp from (g.H.Host.told c.args.host.now).faults a new) (sym c.taken_back.ensures) (taken_exit from _ c.args.missed new fault (c.in-Ok.ensures.back honest sound from all))

pub returns-in-Err-clause-exit : goal.returns-in-Err-clause-exit
returns-in-Err-clause-exit g c = λ honest sound from all fault.
    let new = g.H.Host.told c.go_back.new.host in
    subst (λ (a : ApplyFault). GaveUp from (g.H.Host.told c.args.host.now).faults a new) (sym c.stopped.ensures)
    (stopped_exit g.H.Host.tells from (g.H.Host.told c.args.host.now) new c.args.missed c.in-Err.fault fault (c.in-Err.ensures.healthy honest sound) c.in-Err.ensures.fails)

pub returns-in-Ok-clause-memory : goal.returns-in-Ok-clause-memory
returns-in-Ok-clause-memory g c = λ is. c.taken_back.ensures ∙ ap taken_back_as is

pub returns-in-Err-clause-memory : goal.returns-in-Err-clause-memory
returns-in-Err-clause-memory g c = λ is. c.stopped.ensures ∙ ap (λ (m : Missed). stopped_as m c.in-Err.fault) is

pub returns-in-Ok-clause-says : goal.returns-in-Ok-clause-says
returns-in-Ok-clause-says g c = λ doc opts made start faults moment why compared settled.
    let old = g.H.Host.told c.args.host.now in
    let new = g.H.Host.told c.go_back.new.host in
    subst (λ (a : ApplyFault). Said g.H.Host.tells (asked doc opts made) start new (Err a)) (sym c.taken_back.ensures)
    (taken_says g.H.Host.tells doc opts made start old new faults moment c.go_back.ensures.bare c.args.missed why compared c.go_back.ensures.later c.go_back.ensures.moves (λ tells. (c.in-Ok.ensures.cleared tells).cell) c.in-Ok.ensures.saved
    (returned g.H.Host.tells old new c.in-Ok.field-0 c.in-Ok.ensures.gave c.in-Ok.ensures.empty c.in-Ok.ensures.idle) settled c.in-Ok.ensures.quiet)

pub returns-in-Err-clause-says : goal.returns-in-Err-clause-says
returns-in-Err-clause-says g c = λ doc opts made start faults moment why compared settled.
    let old = g.H.Host.told c.args.host.now in
    let new = g.H.Host.told c.go_back.new.host in
    subst (λ (a : ApplyFault). Said g.H.Host.tells (asked doc opts made) start new (Err a)) (sym c.stopped.ensures)
    (stopped_says g.H.Host.tells doc opts made start old new faults moment c.go_back.ensures.bare (g.met.H.Host.lawful c.args.host.now).stops (g.met.H.Host.lawful c.args.host.now).reads c.args.missed c.in-Err.fault why c.go_back.ensures.moves
    c.in-Err.ensures.fails c.in-Err.ensures.unset c.go_back.ensures.later)

pub returns-in-Ok-clause-counts : goal.returns-in-Ok-clause-counts
returns-in-Ok-clause-counts g c = λ doc start why.
    let old = g.H.Host.told c.args.host.now in
    let new = g.H.Host.told c.go_back.new.host in
    subst (λ (a : ApplyFault). ApplyCounts start.kernel new.kernel (Err a)) (sym c.taken_back.ensures) (taken_counts g.H.Host.tells doc start old new c.args.missed why c.in-Ok.ensures.quiet)

pub returns-in-Err-clause-counts : goal.returns-in-Err-clause-counts
returns-in-Err-clause-counts g c = λ doc start why.
    let old = g.H.Host.told c.args.host.now in
    let new = g.H.Host.told c.go_back.new.host in
    subst (λ (a : ApplyFault). ApplyCounts start.kernel new.kernel (Err a)) (sym c.stopped.ensures)
    (stopped_counts g.H.Host.tells doc start old new c.args.missed c.in-Err.fault why c.in-Err.ensures.fails)

pub returns-in-Ok-clause-begun : goal.returns-in-Ok-clause-begun
returns-in-Ok-clause-begun g c = subst (λ (a : ApplyFault). IsGivenUp a) (sym c.taken_back.ensures) (taken_begun c.args.missed)

pub returns-in-Err-clause-begun : goal.returns-in-Err-clause-begun
returns-in-Err-clause-begun g c = subst (λ (a : ApplyFault). IsGivenUp a) (sym c.stopped.ensures) (stopped_begun c.args.missed c.in-Err.fault)

-- ---- on an honest host, sound or not

pub returns-in-Ok-clause-hurt : goal.returns-in-Ok-clause-hurt
returns-in-Ok-clause-hurt g c = λ honest start to is rose.
    let new = g.H.Host.told c.go_back.new.host in
    subst (λ (a : ApplyFault). Hurt (Rose start new.faults) to new a) (sym c.taken_back.ensures) (taken_hurt start (g.H.Host.told c.args.host.now).faults to new c.args.missed is rose c.go_back.ensures.later)

pub returns-in-Err-clause-hurt : goal.returns-in-Err-clause-hurt
returns-in-Err-clause-hurt g c = λ honest start to is rose.
    let old = g.H.Host.told c.args.host.now in
    let new = g.H.Host.told c.go_back.new.host in
    subst (λ (a : ApplyFault). Hurt (Rose start new.faults) to new a) (sym c.stopped.ensures)
    (stopped_hurt start old.faults to new c.args.missed c.in-Err.fault is rose c.go_back.ensures.later (λ k n left same.
    never_refused old.state (cell_of old.state.cell) refl k n left
    (λ checkpoint has. subst (λ (f : BackFault). Finds {A = Bool} (saved_on checkpoint.net old.state.net) (Err f)) same (c.in-Err.ensures.exact honest checkpoint has))
    (λ none. sym same ∙ c.in-Err.ensures.unset (g.met.H.Host.honest_tells honest) none)))

-- ---- what was tried

pub returns-in-Ok-clause-tries : goal.returns-in-Ok-clause-tries
returns-in-Ok-clause-tries g c = λ doc opts start why compared.
    let new = g.H.Host.told c.go_back.new.host in
    subst (λ (a : ApplyFault). Tries (opts.no_verify ≡ false) start.faults start.kernel.refusals new (Err a)) (sym c.taken_back.ensures) (taken_tries (opts.no_verify ≡ false) start.faults start.kernel.refusals new c.args.missed)

pub returns-in-Err-clause-tries : goal.returns-in-Err-clause-tries
returns-in-Err-clause-tries g c = λ doc opts start why compared.
    let old = g.H.Host.told c.args.host.now in
    let new = g.H.Host.told c.go_back.new.host in
    subst (λ (a : ApplyFault). Tries (opts.no_verify ≡ false) start.faults start.kernel.refusals new (Err a)) (sym c.stopped.ensures)
    (stopped_tries g.H.Host.tells doc start old new c.go_back.ensures.later (opts.no_verify ≡ false) c.args.missed c.in-Err.fault why c.in-Err.ensures.fails compared)

pub returns-in-Ok-clause-twice : goal.returns-in-Ok-clause-twice
returns-in-Ok-clause-twice g c = λ honest start is rose.
    let new = g.H.Host.told c.go_back.new.host in
    subst (λ (a : ApplyFault). FailsTwice ⊥ start new (Err a)) (sym c.taken_back.ensures) (taken_twice ⊥ start new c.args.missed)

pub returns-in-Err-clause-twice : goal.returns-in-Err-clause-twice
returns-in-Err-clause-twice g c = λ honest start is rose.
    let old = g.H.Host.told c.args.host.now in
    let new = g.H.Host.told c.go_back.new.host in
    subst (λ (a : ApplyFault). FailsTwice ⊥ start new (Err a)) (sym c.stopped.ensures) (stopped_twice ⊥ g.H.Host.tells start old new c.args.missed c.in-Err.fault is rose c.in-Err.ensures.fails)

pub returns-in-Ok-clause-backs : goal.returns-in-Ok-clause-backs
returns-in-Ok-clause-backs g c = λ honest before unset.
    let tells = g.met.H.Host.honest_tells honest in
    let old = g.H.Host.told c.args.host.now in
    let new = g.H.Host.told c.go_back.new.host in
    subst (λ (a : ApplyFault). Backs before new (Err a)) (sym c.taken_back.ensures) (taken_backs before new c.args.missed
    (back_or before old new c.in-Ok.field-0 (c.in-Ok.ensures.reads honest) (c.in-Ok.ensures.empty tells) (λ was. (c.in-Ok.ensures.idle was).same tells) unset))

pub returns-in-Err-clause-backs : goal.returns-in-Err-clause-backs
returns-in-Err-clause-backs g c = λ honest before unset. subst (λ (a : ApplyFault). Backs before (g.H.Host.told c.go_back.new.host) (Err a)) (sym c.stopped.ensures) (stopped_backs before (g.H.Host.told c.go_back.new.host) c.args.missed c.in-Err.fault)

-- ---- a change may still wait where the network was seen

pub returns-in-Ok-clause-seen : goal.returns-in-Ok-clause-seen
returns-in-Ok-clause-seen g c = c.go_back.ensures.seen

pub returns-in-Err-clause-seen : goal.returns-in-Err-clause-seen
returns-in-Err-clause-seen g c = c.go_back.ensures.seen
