-- A document at which a service stops where no count rose: it is refused, or memory ran out.
use Rattle.std.proofs.Common.{◌≡◌, ◌∙◌, ℕ, Some, None, refl, sym, ap, subst}
use Rattle.std.specs.Prelude.{Result, Ok, Err}
use Rattle.net_model.specs.NetData.{NetData}
use Rattle.document_model.specs.declared.Doc.{Doc}
use Rattle.document_model.specs.declared.Refused.{Refused}
use Rattle.host_core.specs.Faults.{Rose, RoseTwice}
use Rattle.host_core.specs.Folders.{File, FolderView}
use Rattle.host_core.specs.HostView.{HostView}
use Rattle.checkpoint_cell.specs.Settled.{Standing, standing, restored_to, settled}
use Rattle.merge_model.specs.MergedNet.{merge}
use Rattle.engine_model.specs.Machine.{Asked, Outcome, apply, merged_as}
use Rattle.engine_model.specs.Stations.{Within, Settled, entry_of, left_by}
use Rattle.engine_model.specs.Exit.{ApplyExit}
use Rattle.engine_model.specs.Faults.{ApplyAnswers, IsOutcome}
use Rattle.engine_model.specs.declared.answers.Applied.{Applied}
use Rattle.engine_model.specs.declared.answers.ApplyFault.{ApplyFault}
use Rattle.engine_model.specs.declared.answers.ApplyFault.TheVariants as af
use Rattle.boot_service.specs.Serving.{Applies, asked_of}
use Rattle.boot_service.specs.Stops.{IsAt, merged_or}
use Rattle.boot_service.proofs.lemmas.Settling.{settles_to}
use Rattle.top_model.specs.Orders.{Text}
use Rattle.top_model.specs.declared.report.Cause.{Cause}
use Rattle.top_model.specs.declared.report.Cause.TheVariants.{DocRefused, BadLine, BatchLine, BatchLarge, NoSuchName, FolderFault, OutOfMemory}
use Rattle.service_run.specs.Documents.{document_of, taking, why, why_of, taken_as, refusal_of, serve_cause}
use Rattle.service_run.specs.Reading.{IsReadAs, DocumentOutcome}
use Rattle.boot_service.specs.declared.fault.ServeFault.TheVariants.{Apply}

-- why a document isn't read
pub data Unread (tells : Type 0) (name : Text) (old new : FolderView) (cause : Cause) : Type 0 where
  memory : cause ≡ OutOfMemory → Unread tells name old new cause
  unfound : cause ≡ NoSuchName → Unread tells name old new cause
  failed : Rose old.faults new.faults → Unread tells name old new cause
  denied : (tells → IsReadAs name old (Err cause)) → Unread tells name old new cause

pub unread_as : (tells : Type 0) (name : Text) (old new : FolderView) (cause : Cause) → DocumentOutcome tells name old new (Err cause) → Unread tells name old new cause
unread_as tells name old new (DocRefused fault) h = denied h
unread_as tells name old new (BadLine n) h = denied h
unread_as tells name old new (BatchLine n) h = denied h
unread_as tells name old new BatchLarge h = denied h
unread_as tells name old new NoSuchName h = unfound refl
unread_as tells name old new FolderFault h = failed h
unread_as tells name old new OutOfMemory h = memory refl
unread_as tells name old new _ h = absurd h

-- why a change isn't made
pub data Unmade (a : Asked) (old new : HostView) (fault : ApplyFault) : Type 0 where
  starved : serve_cause (Apply fault) ≡ OutOfMemory → Unmade a old new fault
  broken : Rose old.faults new.faults → Unmade a old new fault
  machine : IsOutcome (apply a (standing old.state)) new (Err fault) → Unmade a old new fault

unmade_as : (a : Asked) (old new : HostView) (fault : ApplyFault) → ApplyAnswers a old new (Err fault) → Unmade a old new fault
unmade_as a old new (af.Pending deadline) h = machine h
unmade_as a old new (af.MergeRefused refused) h = machine h
unmade_as a old new (af.HostFault left) h = broken h
unmade_as a old new (af.KernelRefused k n left) h = absurd h
unmade_as a old new (af.NotVerified found left) h = absurd h
unmade_as a old new af.InDoubt h = broken h
unmade_as a old new (af.Damaged area) h = machine h
unmade_as a old new (af.HardwareDiffers names) h = machine h
unmade_as a old new af.OutOfMemory h = starved refl

-- the merge was refused, and the network is as it was
pub record IsRefused (net : NetData) (doc : Doc) (fault : ApplyFault) (new : HostView) : Type 0 where
  pub refused : Refused
  pub merges : merge net doc ≡ Err refused
  pub is : fault ≡ af.MergeRefused refused
  pub at : IsAt net new

module _ (net : NetData) (doc : Doc) (now : ℕ) (old new : HostView) (honest tells : Type 0) (here : IsAt net old) where
  settled_here : (station : Standing) → settled now (standing old.state) ≡ Some station → station ≡ restored_to net
  settled_here station h =
      let e : Some (restored_to net) ≡ Some station = ap (settled now) (sym here.reads) ∙ h in
      let f : restored_to net ≡ station = cc in
      sym f

  stays_at : (h : honest) (fault : ApplyFault) (refused : Refused) → Applies honest tells (asked_of doc now) old new (Err fault) → fault ≡ af.MergeRefused refused → standing new.state ≡ restored_to net → IsAt net new
  stays_at h fault refused applies is reads =
      let within : Within (left_by new) (Settled now (entry_of old)) =
      subst (λ (f : ApplyFault). ApplyExit (asked_of doc now) (entry_of old) (left_by new) (Rose old.faults new.faults) (RoseTwice old.faults new.faults) (Err f)) is (applies.exit h here.sound) in
      record {
        sound = (applies.kept h here.sound).sound;
        reads = reads;
        left = λ s left.
            let near = within (standing s) (s, left, refl) in
            settles_to net s ((applies.kept h here.sound).sound.fit s left) (λ at. sym (near.like at) ∙ ap (settled at) (settled_here near.station near.is));
      }

  refused_as : (h : honest) (fault : ApplyFault) → Applies honest tells (asked_of doc now) old new (Err fault) → (m : Result NetData Refused) → merge net doc ≡ m
      → (merged_as (asked_of doc now) net m).answer ≡ Err fault → standing new.state ≡ (merged_as (asked_of doc now) net m).after → IsRefused net doc fault new
  refused_as h fault applies (Ok to) e answer after = absurd cc
  refused_as h fault applies (Err refused) e answer after =
      let is : fault ≡ af.MergeRefused refused = cc in
      record { refused = refused; merges = e; is = is; at = stays_at h fault refused applies is after }

  pub refused_here : (h : honest) (fault : ApplyFault) → Applies honest tells (asked_of doc now) old new (Err fault) → IsOutcome (apply (asked_of doc now) (standing old.state)) new (Err fault) → IsRefused net doc fault new
  refused_here h fault applies is =
      let there : apply (asked_of doc now) (standing old.state) ≡ merged_as (asked_of doc now) net (merge net doc) = ap (apply (asked_of doc now)) here.reads in
      refused_as h fault applies (merge net doc) refl
      (subst (λ (o : Outcome Applied ApplyFault). o.answer ≡ Err fault) there is.answer)
      (subst (λ (o : Outcome Applied ApplyFault). standing new.state ≡ o.after) there is.after)

  pub unmade : (h : honest) (fault : ApplyFault) → Applies honest tells (asked_of doc now) old new (Err fault) → Unmade (asked_of doc now) old new fault
  unmade h fault applies = unmade_as (asked_of doc now) old new fault (applies.answer h here.sound)

-- on that network this is why
pub merge_why : (net : NetData) (file : File) (doc : Doc) (refused : Refused) → document_of file ≡ Ok doc → merge net doc ≡ Err refused → (taking net file ≡ None) × (serve_cause (Apply (af.MergeRefused refused)) ≡ why net file)
merge_why net file doc refused reads merges = (
  ap (taken_as net) reads ∙ ap merged_or merges,
  sym (ap (why_of net) reads ∙ ap refusal_of merges),
)
