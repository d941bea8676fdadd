-- What a report says of the answer behind it.
use Rattle.std.proofs.Common.{◌≡◌, ◌∙◌, ◌⊎◌, inl, inr, refl, sym, ap, subst, ℕ}
use Rattle.std.specs.Prelude.{Result, Ok, Err}
use Rattle.engine_model.specs.declared.Left.TheVariants as left
use Rattle.top_model.specs.Said.{Said}
use Rattle.top_model.specs.Orders.{Order, making}
use Rattle.top_model.specs.Texts.{status_of}
use Rattle.top_model.specs.Runs.{Run, Alone, Asks, Quiet, SinkRose, Acknowledged}
use Rattle.top_model.specs.Told.{Answer, cause_of, Told}
use Rattle.top_model.specs.Causes.{MayWant, Refuses, Comes}
use Rattle.top_model.specs.Answered.{Rests, Answered}
use Rattle.top_model.specs.Promises.{CommitTakesNone, RefusedExactly, Statuses}
use Rattle.top_model.specs.declared.report.Report.{Report}
use Rattle.top_model.specs.declared.report.Cause.{Cause}
use Rattle.top_model.specs.declared.report.Cause.TheVariants.{Done, DocRefused, Usage, BadLine, BatchLine, BatchLarge, NoSuchName, ReadFault, WriteFault, HostFault, KernelRefused, OutOfMemory}

-- the order that was asked is the one that was answered
pub order_is : (r : Run) (a : Answered r) (order : Result Order Cause) → Asks r order → a.order ≡ order
order_is r a order asks = sym a.gives.2 ∙ asks a.gives.0 a.gives.1

-- an honest host that is sound is all that any order asks
pub rests : (r : Run) (order : Result Order Cause) → Alone r → Rests r order
rests r (Ok (making links)) alone = alone.honest
rests r order alone = alone

-- the report is of the answer's cause, or of the fault that stands for it
pub reported : (r : Run) (a : Answered r) → (r.report.cause ≡ cause_of a.answer) ⊎ (r.report.cause ≡ WriteFault (status_of (cause_of a.answer)))
reported r a = elim a.told.written as (λ v. (r.report.cause ≡ cause_of a.answer) ⊎ (r.report.cause ≡ WriteFault (status_of (cause_of a.answer)))) [
  | inl whole ↦ inl (ap (λ (x : Report). x.cause) whole.report)
  | inr cut ↦ inr (ap (λ (x : Report). x.cause) cut.report)
]

-- the report is of the answer's cause, or a sink failed
pub told_or_cut : (r : Run) (a : Answered r) → (r.report.cause ≡ cause_of a.answer) ⊎ SinkRose r
told_or_cut r a = elim a.told.written as (λ v. (r.report.cause ≡ cause_of a.answer) ⊎ SinkRose r) [ inl whole ↦ inl (ap (λ (x : Report). x.cause) whole.report) | inr cut ↦ inr cut.rose ]

-- the status is the one of the cause
pub statuses : (r : Run) → Answered r → Statuses r
statuses r a = elim a.told.written as (λ v. Statuses r) [
  | inl whole ↦ ap (λ (x : Report). x.status) whole.report ∙ ap status_of (sym (ap (λ (x : Report). x.cause) whole.report))
  | inr cut ↦ ap (λ (x : Report). x.status) cut.report ∙ ap status_of (sym (ap (λ (x : Report). x.cause) cut.report))
]

-- no answer is refused as done, or as a sink's fault
pub not_done : (r : Run) (order : Result Order Cause) → Comes r order (Err Done) → ⊥
not_done r (Err refusal) comes = comes.1
not_done r (Ok order) comes = comes

-- and none as a sink's fault
pub not_fault : (r : Run) (order : Result Order Cause) (s : ℕ) → Comes r order (Err (WriteFault s)) → ⊥
not_fault r (Err refusal) s comes = comes.1
not_fault r (Ok order) s comes = comes

-- only what is done has the status 0, and only out of memory 8
zero_done : (c : Cause) → status_of c ≡ 0 → c ≡ Done
zero_done Done e = refl
zero_done (HostFault left.NotBegun) e = cc
zero_done (HostFault left.RolledBack) e = cc
zero_done (HostFault left.Pending) e = cc
zero_done (KernelRefused k n left.NotBegun) e = cc
zero_done (KernelRefused k n left.RolledBack) e = cc
zero_done (KernelRefused k n left.Pending) e = cc
zero_done c e = cc

-- only out of memory has the status 8
pub eight_memory : (c : Cause) → status_of c ≡ 8 → c ≡ OutOfMemory
eight_memory OutOfMemory e = refl
eight_memory (HostFault left.NotBegun) e = cc
eight_memory (HostFault left.RolledBack) e = cc
eight_memory (HostFault left.Pending) e = cc
eight_memory (KernelRefused k n left.NotBegun) e = cc
eight_memory (KernelRefused k n left.RolledBack) e = cc
eight_memory (KernelRefused k n left.Pending) e = cc
eight_memory c e = cc

-- a sink's faults of one status
pub same_status : (s t : ℕ) → WriteFault s ≡ WriteFault t → s ≡ t
same_status s t e = cc

fault_done : (s : ℕ) → WriteFault s ≡ Done → ⊥
fault_done s e = cc

fault_memory : (s : ℕ) → WriteFault s ≡ OutOfMemory → ⊥
fault_memory s e = cc

-- a refusal is never acknowledged
refused_done : (r : Run) (order : Result Order Cause) (c : Cause) → Comes r order (Err c)
    → (r.report.cause ≡ c) ⊎ (r.report.cause ≡ WriteFault (status_of c)) → Acknowledged r → ⊥
refused_done r order c comes (inl is) (inl done) = not_done r order (subst (λ x. Comes r order (Err x)) (sym is ∙ done) comes)
refused_done r order c comes (inl is) (inr fault) = not_fault r order 0 (subst (λ x. Comes r order (Err x)) (sym is ∙ fault) comes)
refused_done r order c comes (inr is) (inl done) = fault_done (status_of c) (sym is ∙ done)
refused_done r order c comes (inr is) (inr fault) = not_done r order (subst (λ x. Comes r order (Err x)) (zero_done c (same_status (status_of c) 0 (sym is ∙ fault))) comes)

-- what is acknowledged is done
pub is_done : (r : Run) (order : Result Order Cause) (answer : Answer) → Comes r order answer → (r.report.cause ≡ cause_of answer) ⊎ (r.report.cause ≡ WriteFault (status_of (cause_of answer)))
    → Acknowledged r → (said : Said) × (answer ≡ Ok said)
is_done r order (Ok said) comes is done = (said, refl)
is_done r order (Err c) comes is done = absurd (refused_done r order c comes is done)

-- ---- out of memory

done_memory : (said : Said) → cause_of (Ok said) ≡ OutOfMemory → ⊥
done_memory said e = cc

may_want : (r : Run) (order : Result Order Cause) → Comes r order (Err OutOfMemory) → MayWant r
may_want r (Err refusal) comes = comes.1
may_want r (Ok order) comes = comes

wants : (r : Run) (order : Result Order Cause) (answer : Answer) → Comes r order answer → cause_of answer ≡ OutOfMemory → MayWant r
wants r order (Ok said) comes is = absurd (done_memory said is)
wants r order (Err c) comes is = may_want r order (subst (λ x. Comes r order (Err x)) is comes)

-- a sink's fault isn't behind another
behind_eight : (r : Run) (order : Result Order Cause) (answer : Answer) → Comes r order answer → cause_of answer ≡ WriteFault 8 → ⊥
behind_eight r order (Ok said) comes is = fault_done 8 (sym is)
behind_eight r order (Err c) comes is = not_fault r order 8 (subst (λ x. Comes r order (Err x)) is comes)

-- the one word `commit` never runs out of memory
pub commit_takes_none : (r : Run) → Answered r → CommitTakesNone r
commit_takes_none r a alone = (
  λ memory. elim (reported r a) as (λ v. ⊥) [
    | inl is ↦ (wants r a.order a.answer a.comes (sym is ∙ memory)).commit alone
    | inr cut ↦ fault_memory (status_of (cause_of a.answer)) (sym cut ∙ memory)
  ],
  λ fault. elim (reported r a) as (λ v. ⊥) [
    | inl is ↦ behind_eight r a.order a.answer a.comes (sym is ∙ fault)
    | inr cut ↦ (wants r a.order a.answer a.comes (eight_memory (cause_of a.answer) (same_status (status_of (cause_of a.answer)) 8 (sym cut ∙ fault)))).commit alone
  ],
)

-- ---- refusals before any call on the host

refuses : (r : Run) (refusal : Cause) (answer : Answer) → Quiet r → Refuses r refusal answer → Told r (Err refusal) answer → Told r (Err refusal) (Err refusal) ⊎ Told r (Err refusal) (Err OutOfMemory)
refuses r refusal (Err Usage) quiet is told = inl (subst (λ c. Told r (Err refusal) (Err c)) (sym is) told)
refuses r refusal (Err NoSuchName) quiet is told = inl (subst (λ c. Told r (Err refusal) (Err c)) (sym is) told)
refuses r refusal (Err (DocRefused fault)) quiet is told = inl (subst (λ c. Told r (Err refusal) (Err c)) (sym is) told)
refuses r refusal (Err (BadLine n)) quiet is told = inl (subst (λ c. Told r (Err refusal) (Err c)) (sym is) told)
refuses r refusal (Err (BatchLine n)) quiet is told = inl (subst (λ c. Told r (Err refusal) (Err c)) (sym is) told)
refuses r refusal (Err BatchLarge) quiet is told = inl (subst (λ c. Told r (Err refusal) (Err c)) (sym is) told)
refuses r refusal (Err ReadFault) quiet is told = absurd (quiet.source is.0)
refuses r refusal (Err OutOfMemory) quiet is told = inr told
refuses r refusal answer quiet is told = absurd is

-- a refusal before any call on the host comes exactly where it is asked for
pub refused_exactly : (r : Run) → Answered r → RefusedExactly r
refused_exactly r a refusal asks quiet =
    let comes : Comes r (Err refusal) a.answer = subst (λ o. Comes r o a.answer) (order_is r a (Err refusal) asks) a.comes in
    (comes.0, refuses r refusal a.answer quiet comes.1 (subst (λ o. Told r o a.answer) (order_is r a (Err refusal) asks) a.told))
