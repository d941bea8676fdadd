-- All that is said of a workload, from what the work on a host of its own promises.
use Rattle.std.proofs.Common.{◌≡◌, ◌∙◌, inl, refl, ap, [], List}
use Rattle.std.specs.Prelude.{◌≢◌, Result, Ok, Err}
use Rattle.net_model.specs.NetData.{NetData}
use Rattle.net_model.specs.declared.Link.{Link}
use Rattle.document_model.specs.declared.Doc.{Doc}
use Rattle.document_model.specs.declared.Refused.{Refused}
use Rattle.merge_model.specs.declared.fault.MergeFault.TheVariants as merge
use Rattle.host_core.specs.HostView.{HostView}
use Rattle.checkpoint_cell.specs.Settled.{standing}
use Rattle.engine_model.specs.declared.ApplyFault.TheVariants as apply
use Rattle.engine_model.proofs.lemmas.Leading.{kept_stays}
use Rattle.scenario_model.specs.Answering.{IsRun, WorkAnswers}
use Rattle.scenario_model.specs.Asking.{first_net, both_merged, then_merge}
use Rattle.scenario_model.specs.declared.work.Summary.{Summary}
use Rattle.scenario_model.specs.declared.work.WorkFault.{WorkFault}
use Rattle.scenario_model.specs.declared.work.WorkFault.TheVariants as work
use Rattle.top_model.specs.Said.{IsSummary, summed, summary_lines}
use Rattle.top_model.specs.Orders.{Text, Order, generating, committing, rolling_back, recovering}
use Rattle.top_model.specs.Machine.{sum_up}
use Rattle.top_model.specs.Texts.{error_line}
use Rattle.top_model.specs.Runs.{Run, reads}
use Rattle.top_model.specs.Told.{Answer, Told}
use Rattle.top_model.specs.Causes.{MayWant, MayAnswer, Comes, Expects, expected}
use Rattle.top_model.specs.Answered.{Answered}
use Rattle.top_model.specs.declared.report.Cause.{Cause}
use Rattle.top_model.specs.declared.report.Cause.TheVariants.{Done, MergeRefused, OutOfMemory}
use Rattle.top_model.proofs.lemmas.Wanting.{may_want_order}
use Rattle.answer_text.specs.Speaking.{Spoken}
use Rattle.answer_text.proofs.lemmas.Told.{told_done, told_refused}
use Rattle.command_laws.specs.Looked.{ChangesNothing}
use Rattle.command_laws.specs.Worked.{Works, work_cause}
use Rattle.command_laws.proofs.lemmas.Looks.{Ran, left_before, reads_before}

generating_committing : (devices : List Link) (first second : Doc) → generating devices first second ≢ committing
generating_committing devices first second e = cc

generating_rolling_back : (devices : List Link) (first second : Doc) → generating devices first second ≢ rolling_back
generating_rolling_back devices first second e = cc

generating_recovering : (devices : List Link) (first second : Doc) → generating devices first second ≢ recovering
generating_recovering devices first second e = cc

-- the answer that is told of a workload
abbrev pub answer_of : List Link → Doc → Doc → Result Summary Cause → Answer
answer_of devices first second (Ok summary) = Ok (summed devices first second)
answer_of devices first second (Err cause) = Err cause

-- on an honest host the counts are of the documents
pub worked_counts : (devices : List Link) (first second : Doc) (new : HostView) (summary : Summary) → IsRun (first_net devices) first second summary new → IsSummary devices first second summary
worked_counts devices first second new summary a = record { middle = a.middle; last = a.last; first_plan = a.first_plan; second_plan = a.second_plan; counts = a.counts }

-- on an honest host a fault is told by its cause
pub worked_fault : (devices : List Link) (first second : Doc) (old new : HostView) (fault : WorkFault) → WorkAnswers devices first second old new (Err fault)
    → Works devices first second (Err (work_cause fault))
worked_fault devices first second old new (work.Make fault) a = tt
worked_fault devices first second old new (work.Dump fault) a = tt
worked_fault devices first second old new (work.Apply (apply.Pending deadline)) a = tt
worked_fault devices first second old new (work.Apply (apply.MergeRefused refused)) a = a
worked_fault devices first second old new (work.Apply (apply.HostFault left)) a = tt
worked_fault devices first second old new (work.Apply (apply.KernelRefused k n left)) a = tt
worked_fault devices first second old new (work.Apply (apply.NotVerified found left)) a = tt
worked_fault devices first second old new (work.Apply apply.InDoubt) a = tt
worked_fault devices first second old new (work.Apply (apply.Damaged area)) a = tt
worked_fault devices first second old new (work.Apply (apply.HardwareDiffers names)) a = tt
worked_fault devices first second old new (work.Apply apply.OutOfMemory) a = tt
worked_fault devices first second old new (work.Merge (merge.Refused refused)) a = a
worked_fault devices first second old new (work.Merge merge.OutOfMemory) a = tt
worked_fault devices first second old new (work.Back fault) a = tt
worked_fault devices first second old new work.OutOfMemory a = tt

module _ (r : Run) (devices : List Link) (first second : Doc) where
  abbrev Asks : Order
  Asks = generating devices first second

  -- the counts were told
  pub told_summary : (summary : Summary) (text : Text) → text ≡ summary_lines summary → IsSummary devices first second summary
      → Spoken r.sinks_tell Done text (error_line Done) r.out r.out_after r.err r.err_after r.report → Told r (Ok Asks) (Ok (summed devices first second))
  told_summary summary text lines is spoken = told_done r (Ok Asks) (λ c t e. e) (summed devices first second) text [] (summary, is, lines) refl spoken

  -- a refusal was told
  pub told_refusal : (cause : Cause) → Works devices first second (Err cause)
      → Spoken r.sinks_tell cause [] (error_line cause) r.out r.out_after r.err r.err_after r.report → Told r (Ok Asks) (Err cause)
  told_refusal (MergeRefused refused) w spoken = told_refused r (Ok Asks) (MergeRefused refused) [] refl spoken
  told_refusal OutOfMemory w spoken = told_refused r (Ok Asks) OutOfMemory [] (inl refl) spoken
  told_refusal cause w spoken = absurd w

  -- the machine's answer
  machine_is : (merged : Result NetData Refused) → both_merged (first_net devices) first second ≡ merged → expected r (Ok Asks) ≡ sum_up devices first second merged
  machine_is merged is = ap (sum_up devices first second) is

  last_is : (summary : Summary) (is : IsSummary devices first second summary) → both_merged (first_net devices) first second ≡ Ok is.last
  last_is summary is = ap (then_merge second) is.first_plan.merges ∙ is.second_plan.merges

  may : (result : Result Summary Cause) → Works devices first second result → MayAnswer (Ok Asks) (answer_of devices first second result)
  may (Ok summary) w = tt
  may (Err (MergeRefused refused)) w = tt
  may (Err OutOfMemory) w = tt
  may (Err cause) w = absurd w

  comes : MayWant r → (result : Result Summary Cause) → Works devices first second result → Comes r (Ok Asks) (answer_of devices first second result)
  comes want (Ok summary) w = machine_is (Ok w.last) (last_is summary w)
  comes want (Err (MergeRefused refused)) w = machine_is (Err refused) w
  comes want (Err OutOfMemory) w = want
  comes want (Err cause) w = absurd w

  module _ (same : standing r.host_after.state ≡ reads r) where
    expects : MayWant r → (result : Result Summary Cause) → Works devices first second result → Expects r (Ok Asks) (answer_of devices first second result)
    expects want (Ok summary) w = record { answer = machine_is (Ok w.last) (last_is summary w); after = same }
    expects want (Err (MergeRefused refused)) w = record { answer = machine_is (Err refused) w; after = same }
    expects want (Err OutOfMemory) w = want
    expects want (Err cause) w = absurd w

    -- all that is said of a workload
    pub generate_answered : r.untouched → ChangesNothing r.host_tells r.host r.host_after → (result : Result Summary Cause) → Works devices first second result
        → Ran r Asks (answer_of devices first second result) → Answered r
    generate_answered untouched nothing result w ran =
        let want : MayWant r = may_want_order r ran.inputs Asks ran.is (generating_committing devices first second) (generating_rolling_back devices first second) (generating_recovering devices first second) in
        record {
          order = Ok Asks;
          gives = (ran.inputs, ran.may_read, ran.is);
          answer = answer_of devices first second result;
          may = may result w;
          comes = comes want result w;
          counts = nothing.unmade;
          tried = tt;
          told = ran.told;
          goes_on = ran.goes_on;
          exactly = λ honest. tt;
          expects = λ a. expects want result w;
          leaves = λ a. left_before r nothing;
          reads_as = λ a. reads_before r nothing (ran.goes_on.tells a.honest);
          kept = λ a. kept_stays _ r.host r.host_after a.sound nothing.stops;
          spares = λ a. tt;
          compares = λ a never. absurd never;
          looks = untouched;
          unbegun = tt;
          waits = tt;
        }
