-- Where the notes of a policy are those of its document on some networks, they are so on more.
use Rattle.std.proofs.Common.{◌≡◌, ◌⊎◌, inl, inr, Some}
use Rattle.std.specs.Prelude.{Result, Ok, Err}
use Rattle.net_model.specs.NetData.{NetData}
use Rattle.policy_model.specs.Values.{PolicyData}
use Rattle.top_model.specs.Orders.{Text, Order, planning_policy, applying_policy}
use Rattle.top_model.specs.Texts.{error_line}
use Rattle.top_model.specs.Machine.{ground_of}
use Rattle.top_model.specs.Runs.{Run, reads}
use Rattle.top_model.specs.Grounds.{Grounds}
use Rattle.top_model.specs.Told.{NotedOn, PlanErr, ApplyErr, ErrText, ErrTextOn}
use Rattle.engine_model.specs.declared.Left.TheVariants as side
use Rattle.top_model.specs.declared.report.Cause.{Cause}
use Rattle.top_model.specs.declared.report.Cause.TheVariants.{Done, DocRefused, MergeRefused, Pending, ReadFault, HostFault, InDoubt, KernelRefused, NotVerified, OutOfMemory}

module _ (on more : NetData → Type 0) (wider : (net : NetData) → on net → more net) (early later : Type 0) (lets : early → later) where
  module _ (p : PolicyData) (text : Text) where
    noted_wider : (cause : Cause) → NotedOn on p cause text → NotedOn more p cause text
    noted_wider cause n = record { net = n.net; doc = n.doc; is_on = wider n.net n.is_on; reads = n.reads; is = n.is }

    plan_wider : (cause : Cause) → PlanErr on p cause text → PlanErr more p cause text
    plan_wider Done is = noted_wider Done is
    plan_wider (MergeRefused refused) is = noted_wider (MergeRefused refused) is
    plan_wider OutOfMemory (inl is) = inl is
    plan_wider OutOfMemory (inr is) = inr (noted_wider OutOfMemory is)
    plan_wider cause is = is

    line_or : (cause : Cause) → (text ≡ error_line cause) ⊎ NotedOn on p cause text → (text ≡ error_line cause) ⊎ NotedOn more p cause text
    line_or cause (inl is) = inl is
    line_or cause (inr is) = inr (noted_wider cause is)

    early_or : (cause : Cause) → (early × (text ≡ error_line cause)) ⊎ NotedOn on p cause text → (later × (text ≡ error_line cause)) ⊎ NotedOn more p cause text
    early_or cause (inl is) = inl (lets is.0, is.1)
    early_or cause (inr is) = inr (noted_wider cause is)

    apply_wider : (cause : Cause) → ApplyErr early on p cause text → ApplyErr later more p cause text
    apply_wider ReadFault is = is
    apply_wider (Pending deadline) is = is
    apply_wider (DocRefused fault) is = is
    apply_wider Done is = noted_wider Done is
    apply_wider (MergeRefused refused) is = noted_wider (MergeRefused refused) is
    apply_wider (HostFault side.RolledBack) is = early_or (HostFault side.RolledBack) is
    apply_wider (HostFault side.Pending) is = early_or (HostFault side.Pending) is
    apply_wider (KernelRefused k n side.RolledBack) is = noted_wider (KernelRefused k n side.RolledBack) is
    apply_wider (KernelRefused k n side.Pending) is = early_or (KernelRefused k n side.Pending) is
    apply_wider (NotVerified found left) is = noted_wider (NotVerified found left) is
    apply_wider InDoubt is = noted_wider InDoubt is
    apply_wider cause is = line_or cause is

  -- the errors of a policy that is evaluated on such a network
  pub err_wider : (order : Result Order Cause) (cause : Cause) (text : Text) → ErrTextOn early on order cause text → ErrTextOn later more order cause text
  err_wider (Ok (planning_policy p in_batch)) cause text is = plan_wider p text cause is
  err_wider (Ok (applying_policy p opts)) cause text is = apply_wider p text cause is
  err_wider order cause text is = is

-- an order that evaluates no policy which is a document
abbrev pub IsPlain : Result Order Cause → Type 0
IsPlain (Ok (planning_policy p in_batch)) = ⊥
IsPlain (Ok (applying_policy p opts)) = ⊥
IsPlain order = Unit {0}

-- what it writes to the errors is the same on all networks
pub plain_err : (early : Type 0) (on : NetData → Type 0) (order : Result Order Cause) (cause : Cause) (text : Text) → IsPlain order → ErrText order cause text → ErrTextOn early on order cause text
plain_err early on (Ok (planning_policy p in_batch)) cause text plain is = absurd plain
plain_err early on (Ok (applying_policy p opts)) cause text plain is = absurd plain
plain_err early on order cause text plain is = is

-- on an honest host a policy is evaluated where the machine evaluates it
pub stood : (r : Run) (order : Result Order Cause) (net : NetData) → r.honest → Grounds r order net → ground_of r.now order (reads r) ≡ Some net
stood r (Ok order) net honest is = is.stood honest
stood r (Err refusal) net honest is = absurd is
