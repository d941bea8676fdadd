use Rattle.std.proofs.Common.{◌∙◌, Ok, sym, ap, subst}
use Rattle.std.specs.Prelude.{ℕ, Option, IsSome}
use Rattle.checkpoint_cell.specs.Cell.{cell_of}
use Rattle.checkpoint_cell.specs.Settled.{standing}
use Rattle.engine_model.specs.Faults.{HasTaken}
use Rattle.engine_model.specs.Machine.{recover, settled_as}
use Rattle.engine_model.specs.Stations.{Only, entry_of, at, left_by}
use Rattle.engine_model.specs.declared.answers.Recovered.{Recovered}
use Rattle.engine_model.specs.declared.answers.Recovered.TheVariants.{Nothing, Waiting, Restored}
use Rattle.engine_model.proofs.lemmas.Refusals.{back_as}
use Rattle.engine_restore.proofs.Apart.{done_failed}
use Rattle.engine_restore.proofs.Settlings.{same_fault, same_done, due_kept, due_clear, taken_restored, settle_says, settle_exact, settle_answers, settle_exit}
use Rattle.engine_restore.proofs.calls.settle.Goals as goal

pub returns-in-Ok : goal.returns-in-Ok
returns-in-Ok g c =
    let old = g.H.Host.told c.args.host.now in
    let e = c.in-Ok.ensures in
    let done = c.in-Ok.done in
    let due = ap (λ (o : Option ℕ). Ok o) (sym c.due_at.ensures) in
    record {
      says = tt;
      answer = λ honest sound. let a = e.answer honest sound in record { answer = ap settled_as a.answer ∙ due; after = a.after };
      exact = λ honest. ap settled_as (e.exact honest) ∙ due;
      exit = e.exit;
      reads = e.reads;
      kept = c.recover.ensures.kept;
      counts = e.counts;
      gave = λ tells taken.
          e.gave tells (same_done done Restored (taken_restored c.args.now (standing old.state) (cell_of old.state.cell) done taken (λ is. e.nothing tells (same_done done Nothing is))
          (λ deadline is. e.waiting tells deadline (same_done done (Waiting deadline) is))));
      memory = λ tells is. absurd (done_failed _ _ is);
      set_there = λ is. done_failed _ _ is;
      cleared = λ tells none. e.cleared tells (due_clear done (sym c.due_at.ensures ∙ none));
      idle = λ some. e.idle (due_kept done (subst (λ (o : Option ℕ). IsSome o) c.due_at.ensures some));
      untaken = λ tells none. e.idle (λ is. none (e.restored tells (same_done done Restored is)));
      after = e.after;
      begun = λ tells. tt;
      unbegun = tt;
      moment = c.recover.ensures.moment;
      later = c.recover.ensures.later;
    }

pub returns-in-Err : goal.returns-in-Err
returns-in-Err g c =
    let old = g.H.Host.told c.args.host.now in
    let new = g.H.Host.told c.recover.new.host in
    let e = c.in-Err.ensures in
    let fault = c.in-Err.fault in
    let machine = recover c.args.now (standing old.state) in
    record {
      says = settle_says g.H.Host.tells machine.answer old new fault e.says;
      answer = λ honest sound. settle_answers (HasTaken c.args.now (cell_of old.state.cell)) c.args.now (standing old.state) old new fault (e.answer honest sound);
      exact = λ honest. settle_exact machine.answer fault (e.exact honest);
      exit = λ honest sound. settle_exit machine.after (entry_of old) (left_by new) fault (e.exit honest sound);
      reads = λ honest sound. settle_exit machine.after (at (standing old.state)) (Only (standing new.state)) fault (e.reads honest sound);
      kept = c.recover.ensures.kept;
      counts = back_as Recovered (Option ℕ) old.kernel new.kernel fault e.counts;
      gave = λ tells taken. tt;
      memory = λ tells is. e.memory tells (same_fault _ _ is);
      set_there = λ is. e.set_there (same_fault _ _ is);
      cleared = λ tells. tt;
      idle = tt;
      untaken = λ tells none. tt;
      after = λ honest. tt;
      begun = e.begun;
      unbegun = e.unbegun;
      moment = c.recover.ensures.moment;
      later = c.recover.ensures.later;
    }
