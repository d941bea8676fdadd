-- All that is said of a commit, from what the engine promises of it.
use Rattle.std.proofs.Common.{◌≡◌, inl, refl, ap, Some}
use Rattle.std.specs.Prelude.{◌≢◌, ⊤, Result, Ok, Err, codes}
use Rattle.checkpoint_cell.specs.Settled.{standing}
use Rattle.engine_model.specs.Machine.{commit}
use Rattle.engine_model.specs.Sound.{Sound}
use Rattle.engine_model.specs.Stations.{Stands, Entry, Only, Kept, at}
use Rattle.engine_model.specs.Exit.{CommitExit}
use Rattle.engine_model.specs.Faults.{CommitAnswers}
use Rattle.engine_model.specs.declared.Left.TheVariants as left
use Rattle.engine_model.specs.declared.CommitFault.{CommitFault}
use Rattle.engine_model.specs.declared.CommitFault.TheVariants.{NoCheckpoint, Unfinished, Expired, HostFault, InDoubt}
use Rattle.command_words.specs.Words.{command_of}
use Rattle.command_words.specs.declared.Command.TheVariants.{Commit}
use Rattle.top_model.specs.Said.{committed, line}
use Rattle.top_model.specs.Orders.{committing, order_named}
use Rattle.top_model.specs.Machine.{told, commit_cause}
use Rattle.top_model.specs.Texts.{error_line}
use Rattle.top_model.specs.Runs.{Run, Gives, entry, reads, left_at_exit}
use Rattle.top_model.specs.Told.{Answer, Told, ErrText}
use Rattle.top_model.specs.Telling.{Tells}
use Rattle.top_model.specs.Causes.{MayAnswer, Comes, Expects, ExactlyOf}
use Rattle.top_model.specs.Exits.{CommitLeaves}
use Rattle.top_model.specs.Answered.{GoesOn, Unbegun, Answered}
use Rattle.top_model.specs.declared.report.Cause.TheVariants.{Done}
use Rattle.top_model.proofs.lemmas.Writes.{told_done, told_refused}

abbrev answer_of : Result ⊤ CommitFault → Answer
answer_of result = told (λ (x : ⊤). committed) commit_cause result

not_rolled : left.NotBegun ≢ left.RolledBack
not_rolled e = cc

-- the line without a note before it
lined : (fault : CommitFault) → ErrText (Ok committing) (commit_cause fault) (error_line (commit_cause fault))
lined NoCheckpoint = refl
lined (Unfinished since deadline) = refl
lined (Expired since deadline) = refl
lined HostFault = refl
lined InDoubt = refl

module _ (r : Run) (is : command_of r.words ≡ Some Commit) (tells_if : r.honest → r.host_tells) where
  gives : Gives r (Ok committing)
  gives = (r.source.inputs, λ t. refl, ap (order_named r.in_script r.source.inputs) is)

  may : (result : Result ⊤ CommitFault) → MayAnswer (Ok committing) (answer_of result)
  may (Ok x) = tt
  may (Err NoCheckpoint) = tt
  may (Err (Unfinished since deadline)) = tt
  may (Err (Expired since deadline)) = tt
  may (Err HostFault) = tt
  may (Err InDoubt) = tt

  comes : (result : Result ⊤ CommitFault) → CommitAnswers r.host_tells r.now r.host r.host_after result → Comes r (Ok committing) (answer_of result)
  comes (Ok x) a = λ t. record { answer = ap answer_of (a t).answer; after = (a t).after }
  comes (Err NoCheckpoint) a = λ t. ap answer_of (a t).answer
  comes (Err (Unfinished since deadline)) a = λ t. ap answer_of (a t).answer
  comes (Err (Expired since deadline)) a = λ t. ap answer_of (a t).answer
  comes (Err HostFault) a = (a.0, (a.1, not_rolled))
  comes (Err InDoubt) a = (a.0, tt, λ t. ap answer_of (a.1 t))

  expects : (result : Result ⊤ CommitFault) → CommitAnswers r.host_tells r.now r.host r.host_after result → r.host_tells → Expects r (Ok committing) (answer_of result)
  expects (Ok x) a t = record { answer = ap answer_of (a t).answer; after = (a t).after }
  expects (Err NoCheckpoint) a t = record { answer = ap answer_of (a t).answer; after = (a t).after }
  expects (Err (Unfinished since deadline)) a t = record { answer = ap answer_of (a t).answer; after = (a t).after }
  expects (Err (Expired since deadline)) a t = record { answer = ap answer_of (a t).answer; after = (a t).after }
  expects (Err HostFault) a t = a.0
  expects (Err InDoubt) a t = a.0

  exactly : (result : Result ⊤ CommitFault) → CommitAnswers r.host_tells r.now r.host r.host_after result → r.host_tells → ExactlyOf r (Ok committing) (answer_of result)
  exactly (Ok x) a t = (ap answer_of (a t).answer, (a t).after)
  exactly (Err NoCheckpoint) a t = ap answer_of (a t).answer
  exactly (Err (Unfinished since deadline)) a t = ap answer_of (a t).answer
  exactly (Err (Expired since deadline)) a t = ap answer_of (a t).answer
  exactly (Err HostFault) a t = a.0
  exactly (Err InDoubt) a t = (a.0, ap answer_of (a.1 t))

  leaves : (entry : Entry) (left : Stands) (result : Result ⊤ CommitFault) → CommitExit r.now entry left result → CommitLeaves r.now entry left (answer_of result)
  leaves entry left (Ok x) exit = exit
  leaves entry left (Err NoCheckpoint) exit = exit
  leaves entry left (Err (Unfinished since deadline)) exit = exit
  leaves entry left (Err (Expired since deadline)) exit = exit
  leaves entry left (Err HostFault) exit = exit
  leaves entry left (Err InDoubt) exit = exit

  module _ (result : Result ⊤ CommitFault) (answers : CommitAnswers r.host_tells r.now r.host r.host_after result)
      (exits : r.host_tells → Sound r.host → CommitExit r.now (entry r) (left_at_exit r) result)
      (read_exits : r.host_tells → Sound r.host → CommitExit r.now (at (reads r)) (Only (standing r.host_after.state)) result)
      (kept : r.host_tells → Sound r.host → Kept (Only (commit r.now (reads r)).after) r.host r.host_after) (idle : Unbegun r (Ok committing) (answer_of result))
      (same : r.host_after.kernel ≡ r.host.kernel) where
    pub answered : GoesOn r → Told r (Ok committing) (answer_of result) → Answered r
    answered goes_on told = record {
      order = Ok committing;
      gives = gives;
      answer = answer_of result;
      may = may result;
      comes = comes result answers;
      counts = inl same;
      tried = tt;
      told = told;
      exactly = λ honest. exactly result answers (tells_if honest);
      expects = λ a. expects result answers (tells_if a.honest);
      leaves = λ a. leaves (entry r) (left_at_exit r) result (exits (tells_if a.honest) a.sound);
      reads_as = λ a. leaves (at (reads r)) (Only (standing r.host_after.state)) result (read_exits (tells_if a.honest) a.sound);
      kept = λ a. kept (tells_if a.honest) a.sound;
      spares = λ a. tt;
      compares = λ a never. absurd never;
      looks = tt;
      unbegun = idle;
      waits = tt;
      goes_on = goes_on;
    }

pub told_committed : (r : Run) → Tells r.sinks_tell (line (codes "committed")) Done r.out r.out_after r.report → r.err_after ≡ r.err → Told r (Ok committing) (Ok committed)
told_committed r t same = told_done r (Ok committing) committed (line (codes "committed")) refl refl t same

pub told_fault : (r : Run) (fault : CommitFault) → Tells r.sinks_tell (error_line (commit_cause fault)) (commit_cause fault) r.err r.err_after r.report → r.out_after ≡ r.out
    → Told r (Ok committing) (Err (commit_cause fault))
told_fault r fault t same = told_refused r (Ok committing) (commit_cause fault) (lined fault) t same
