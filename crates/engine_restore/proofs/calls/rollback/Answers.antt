use Rattle.std.proofs.Common.{◌≡◌, ◌∙◌, refl, sym, ap, subst}
use Rattle.std.specs.Prelude.{⊤, Bool}
use Rattle.checkpoint_cell.specs.Cell.{cell_of}
use Rattle.checkpoint_cell.specs.Settled.{Standing, standing}
use Rattle.checkpoint_cell.specs.Steps.{Holds}
use Rattle.engine_model.specs.Answers.{IsUndone}
use Rattle.engine_model.specs.Faults.{HasSet}
use Rattle.engine_model.specs.Machine.{Outcome, rollback}
use Rattle.engine_model.specs.Sound.{Sound}
use Rattle.engine_model.specs.Stations.{Only, Kept, Ends}
use Rattle.engine_model.specs.declared.answers.BackFault.{BackFault}
use Rattle.engine_model.specs.declared.answers.BackFault.TheVariants.{OutOfMemory}
use Rattle.engine_model.proofs.lemmas.Backs.{undone_only, rolled_back, rollback_empty, has_set, fault_exit, fault_reads, fault_answers, fault_says}
use Rattle.engine_model.proofs.lemmas.Failing.{fails_before, fails_counts}
use Rattle.engine_model.proofs.lemmas.Finding.{rolled_exact, rolled_after, rollback_exact}
use Rattle.engine_model.proofs.lemmas.Leading.{kept_wider}
use Rattle.engine_model.proofs.lemmas.Machines.{ends_within, ends_reads, read_within, same_reads, going_as}
use Rattle.engine_restore.proofs.Apart.{done_failed, none_memory, back_memory, err_is, begun_set}
use Rattle.engine_restore.proofs.calls.rollback.Goals as goal
use Rattle.engine_restore.proofs.calls.rollback.Goals.{After-go_back, In-Ok-true}

only : (g : _) (c : After-go_back g) → g.H.Host.honest → Sound (g.H.Host.told c.args.host.now) → (a : Standing) → IsUndone (g.H.Host.told c.args.host.now).state a → a ≡ (rollback (standing (g.H.Host.told c.args.host.now).state)).after
only g c honest sound = undone_only (g.H.Host.told c.args.host.now).state (sound.fit (g.H.Host.told c.args.host.now).state ((g.met.H.Host.lawful c.args.host.now).reads (g.met.H.Host.honest_tells honest)))

ends : (g : _) (c : In-Ok-true g) → g.H.Host.honest → Sound (g.H.Host.told c.args.host.now) → Ends (rollback (standing (g.H.Host.told c.args.host.now).state)).after (g.H.Host.told c.go_back.new.host)
ends g c honest sound =
    let done = c.in-Ok-true.ensures.ends honest sound c.in-Ok-true.field-0-test in
    subst (λ (x : Standing). Ends x (g.H.Host.told c.go_back.new.host)) (only g (goal.at.In-Ok-true g c).After-go_back honest sound done.0 done.1) done.2

kept : (g : _) (c : After-go_back g) → g.H.Host.honest → Sound (g.H.Host.told c.args.host.now) → Kept (Only (rollback (standing (g.H.Host.told c.args.host.now).state)).after) (g.H.Host.told c.args.host.now) (g.H.Host.told c.go_back.new.host)
kept g c honest sound =
    let old = g.H.Host.told c.args.host.now in
    kept_wider (IsUndone old.state) (Only (rollback (standing old.state)).after) (only g c honest sound) old (g.H.Host.told c.go_back.new.host) (c.go_back.ensures.kept honest sound)

pub returns-in-Ok-true : goal.returns-in-Ok-true
returns-in-Ok-true g c =
    let at = (goal.at.returns-in-Ok-true g c).In-Ok-true in
    let old = g.H.Host.told c.args.host.now in
    let new = g.H.Host.told c.go_back.new.host in
    let after = (rollback (standing old.state)).after in
    let e = c.in-Ok-true.ensures in
    let was = c.in-Ok-true.field-0-test in
    record {
      says = tt;
      answer = λ honest sound.
          let tells = g.met.H.Host.honest_tells honest in
          record {
            answer = rolled_back old.state (sound.fit old.state ((g.met.H.Host.lawful c.args.host.now).reads tells)) (e.set tells was);
            after = ends g at honest sound new.state ((g.met.H.Host.lawful c.go_back.new.host).reads tells);
          };
      exact = λ honest. rolled_exact old.state (cell_of old.state.cell) refl (e.set (g.met.H.Host.honest_tells honest) was) (λ checkpoint is. e.exact honest checkpoint is);
      exit = λ honest sound. ends_within old new after (ends g at honest sound);
      reads = λ honest sound. ends_reads old new after ((g.met.H.Host.lawful c.go_back.new.host).reads (g.met.H.Host.honest_tells honest)) (ends g at honest sound);
      kept = λ honest sound. kept g (goal.at.In-Ok-true g at).After-go_back honest sound;
      counts = e.quiet;
      gave = λ tells. e.gave tells was;
      done = λ tells. has_set old.state (cell_of old.state.cell) (e.set tells was);
      cleared = e.cleared;
      after = λ honest.
          let tells = g.met.H.Host.honest_tells honest in
          rolled_after old.state new.state (cell_of old.state.cell) refl (e.set tells was) (λ checkpoint is. e.exact honest checkpoint is) (e.cleared tells).cell (e.reads honest was) (e.saved tells);
      begun = λ tells. tt;
      memory = λ tells is. absurd (done_failed _ _ is);
      unbegun = tt;
      moment = c.go_back.ensures.moves.later;
      later = c.go_back.ensures.later;
    }

pub returns-in-Ok-false : goal.returns-in-Ok-false
returns-in-Ok-false g c =
    let old = g.H.Host.told c.args.host.now in
    let new = g.H.Host.told c.go_back.new.host in
    let e = c.in-Ok-false.ensures in
    let was = c.in-Ok-false.field-0-test in
    let none = λ (tells : g.H.Host.tells). rollback_empty old.state (e.empty tells was) in
    let answer = λ (tells : g.H.Host.tells). ap (λ (o : Outcome ⊤ BackFault). o.answer) (none tells) in
    record {
      says = answer;
      answer = λ honest sound.
          let tells = g.met.H.Host.honest_tells honest in
          record {
            answer = answer tells;
            after = ap standing ((e.idle was).same tells) ∙ sym (ap (λ (o : Outcome ⊤ BackFault). o.after) (none tells));
          };
      exact = λ honest. answer (g.met.H.Host.honest_tells honest);
      exit = λ honest sound.
          let tells = g.met.H.Host.honest_tells honest in
          read_within old new (e.idle was).stops (subst (λ k. Holds k new) (sym (e.empty tells was)) (e.cleared tells));
      reads = λ honest sound. λ stands is. record {
        station = standing old.state;
        is = (refl, refl);
        like = same_reads old new ((e.idle was).same (g.met.H.Host.honest_tells honest)) stands is;
      };
      kept = λ honest sound. kept g (goal.at.returns-in-Ok-false g c).After-go_back honest sound;
      counts = (e.idle was).unmade;
      gave = λ tells. tt;
      done = λ tells. tt;
      cleared = λ tells. tt;
      after = λ honest. tt;
      begun = λ tells begun. absurd (begun tt);
      memory = λ tells is. absurd (none_memory is);
      unbegun = λ before. e.idle was;
      moment = c.go_back.ensures.moves.later;
      later = c.go_back.ensures.later;
    }

pub returns-in-Err : goal.returns-in-Err
returns-in-Err g c =
    let at = (goal.at.returns-in-Err g c).After-go_back in
    let tells_of = g.H.Host.tells in
    let old = g.H.Host.told c.args.host.now in
    let new = g.H.Host.told c.go_back.new.host in
    let machine = rollback (standing old.state) in
    let fault = c.in-Err.fault in
    let e = c.in-Err.ensures in
    let memory = λ (tells : tells_of). λ (is : fault ≡ OutOfMemory). has_set old.state (cell_of old.state.cell) (e.memory tells (back_memory fault is)) in
    record {
      says = fault_says tells_of machine.answer old new (g.met.H.Host.lawful c.args.host.now).stops (g.met.H.Host.lawful c.args.host.now).reads fault e.fails;
      answer = λ honest sound. fault_answers tells_of (HasSet (cell_of old.state.cell)) machine old new fault (e.healthy honest sound) e.fails (λ is. memory (g.met.H.Host.honest_tells honest) is);
      exact = λ honest. rollback_exact old.state (cell_of old.state.cell) refl Bool fault (λ checkpoint is. e.exact honest checkpoint is) (e.unset (g.met.H.Host.honest_tells honest));
      exit = λ honest sound.
          fault_exit tells_of machine.after old new ((g.met.H.Host.lawful c.args.host.now).reads (g.met.H.Host.honest_tells honest)) ⊤ fault (e.healthy honest sound) e.fails
          (λ begun. going_as (IsUndone old.state) (Only machine.after) old new (only g at honest sound) (e.going honest sound begun));
      reads = λ honest sound.
          let tells = g.met.H.Host.honest_tells honest in
          fault_reads tells_of machine.after old new ((g.met.H.Host.lawful c.args.host.now).reads tells) tells ⊤ fault ((g.met.H.Host.lawful c.go_back.new.host).reads tells) (e.healthy honest sound) e.fails
          (λ begun. going_as (IsUndone old.state) (Only machine.after) old new (only g at honest sound) (e.going honest sound begun));
      kept = λ honest sound. kept g at honest sound;
      counts = fails_counts tells_of old new ⊤ fault e.fails;
      gave = λ tells. tt;
      done = λ tells. tt;
      cleared = λ tells. tt;
      after = λ honest. tt;
      begun = λ tells begun. begun_set (cell_of old.state.cell) fault (e.unset tells) begun;
      memory = λ tells is. memory tells (err_is fault is);
      unbegun = λ before. fails_before tells_of old new fault e.fails before;
      moment = c.go_back.ensures.moves.later;
      later = c.go_back.ensures.later;
    }
