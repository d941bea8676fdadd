-- When each answer comes.
use Rattle.std.specs.Prelude.{◌≡◌, ◌≢◌, ◌⊎◌, ℕ, List, [], Bool, false, Option, Some, None, Result, Ok, Err}
use Rattle.net_model.specs.NetData.{NetData}
use Rattle.net_model.specs.declared.Call.{Call}
use Rattle.doc_tree.specs.Shape.{Shape}
use Rattle.policy_model.specs.Values.{PolicyData}
use Rattle.policy_model.specs.declared.fault.PolicyFault.TheVariants as policy
use Rattle.document_model.specs.declared.Refused.{Refused}
use Rattle.host_core.specs.HostView.{HasNet, IsMade}
use Rattle.merge_model.specs.MergedNet.{merge}
use Rattle.document_model.specs.declared.Doc.{Doc}
use Rattle.checkpoint_cell.specs.Cell.{saved_net}
use Rattle.checkpoint_cell.specs.Settled.{settled}
use Rattle.engine_model.specs.Machine.{asked}
use Rattle.engine_model.specs.Sound.{Sound}
use Rattle.engine_model.specs.Faults.{IsOutcome, LeftSays, HasSet, HasTaken, Verified, HadDamaged, Differs, SettlesOnly, StandsDamaged, StillOpen}
use Rattle.engine_model.specs.declared.Left.{Left}
use Rattle.engine_model.specs.declared.Left.TheVariants.{NotBegun, RolledBack, Pending as Unknown}
use Rattle.command_words.specs.Words.{lone}
use Rattle.command_words.specs.declared.Command.TheVariants.{Commit, Rollback, Recover}
use Rattle.top_model.specs.Said.{Said, printed, evaluated, committed, restored}
use Rattle.top_model.specs.Orders.{Order, value_on, document_on, showing, planning, evaluating, planning_policy, applying_policy, simulating, applying, committing, rolling_back, recovering, checking, making, generating}
use Rattle.top_model.specs.Machine.{first_net, said_plan, simulated, machine_of}
use Rattle.top_model.specs.Runs.{Run, reads, reads_after, HostRose, SourceRose}
use Rattle.top_model.specs.Grounds.{IsGround, IsDocumentOf}
use Rattle.top_model.specs.Told.{Answer}
use Rattle.top_model.specs.declared.report.DocFault.{DocFault}
use Rattle.top_model.specs.declared.report.DocFault.TheVariants as doc_fault
use Rattle.top_model.specs.declared.report.Cause.{Cause}
use Rattle.top_model.specs.declared.report.Cause.TheVariants.{DocRefused, MergeRefused, Usage, BadLine, BatchLine, BatchLarge, CallRefused, Pending, NoCheckpoint, Unfinished, Expired, Exists, NoSuchName, ReadFault, HostFault, InDoubt, KernelRefused, NotVerified, Damaged, HardwareDiffers, OutOfMemory}

-- the command machine's answer to what the host reads as
abbrev pub expected : Run → Result Order Cause → Answer
expected r order = (machine_of r.now order (reads r)).answer

-- memory never runs out for these words where nothing is to be restored
pub record MayWant (r : Run) : Type 0 where
  pub commit : lone r.words ≢ Some Commit
  pub rollback : r.host_tells → lone r.words ≡ Some Rollback → HasSet (reads r).cell
  pub recover : r.host_tells → lone r.words ≡ Some Recover → HasTaken r.now (reads r).cell

-- ---- on an honest host that is sound

-- a fault brings the fault answers, and out of memory comes of its own; every other answer is the machine's, and the host then reads
-- as what the machine leaves. No call is refused, and what is found is what was wanted
abbrev pub Expects : Run → Result Order Cause → Answer → Type 0
Expects r order (Err ReadFault) = SourceRose r
Expects r order (Err (HostFault left)) = HostRose r
Expects r order (Err InDoubt) = HostRose r
Expects r order (Err (KernelRefused k n left)) = ⊥
Expects r order (Err (NotVerified found left)) = ⊥
Expects r order (Err OutOfMemory) = MayWant r
Expects r order answer = IsOutcome (machine_of r.now order (reads r)) r.host_after answer

-- ---- on an honest host, sound or not

-- a commit that is in doubt is the machine's; an apply makes a change, and each pair that is left has its network
abbrev pub InDoubtAs : Run → Order → Type 0
InDoubtAs r (applying doc opts) = (said : Said) × (expected r (Ok (applying doc opts)) ≡ Ok said) × HasNet (machine_of r.now (Ok (applying doc opts)) (reads r)).after.net r.host_after
InDoubtAs r (applying_policy p opts) = (said : Said) × (expected r (Ok (applying_policy p opts)) ≡ Ok said) × HasNet (machine_of r.now (Ok (applying_policy p opts)) (reads r)).after.net r.host_after
InDoubtAs r order = expected r (Ok order) ≡ Ok committed

-- the putting of an apply's checkpoint may fail half way, so that none stands behind its open gate
abbrev pub MayPutHalf : Run → Order → Type 0
MayPutHalf r (applying doc opts) = HostRose r
MayPutHalf r (applying_policy p opts) = HostRose r
MayPutHalf r order = ⊥

-- where it is done, what stands is what the machine leaves
abbrev pub StandsAs : Run → Order → Type 0
StandsAs r order = reads_after r ≡ (machine_of r.now (Ok order) (reads r)).after

-- A fault brings the fault answers, and out of memory comes of its own; every other answer is the machine's. A first network's
-- making is the machine's on each honest host already.
abbrev pub Exactly : Run → Order → Answer → Type 0
Exactly r (generating devices first second) answer = Unit {0}
Exactly r (making links) answer = Unit {0}
Exactly r order (Err ReadFault) = SourceRose r
Exactly r order (Err (HostFault left)) = HostRose r
Exactly r order (Err InDoubt) = HostRose r × InDoubtAs r order
Exactly r order (Err (KernelRefused k n left)) = ⊥
Exactly r order (Err (NotVerified found left)) = ⊥
Exactly r order (Err (Damaged area)) = MayPutHalf r order ⊎ (expected r (Ok order) ≡ Err (Damaged area))
Exactly r order (Err (HardwareDiffers names)) = MayPutHalf r order ⊎ (expected r (Ok order) ≡ Err (HardwareDiffers names))
Exactly r order (Err OutOfMemory) = MayWant r
Exactly r order (Ok said) = (expected r (Ok order) ≡ Ok said) × StandsAs r order
Exactly r order answer = expected r (Ok order) ≡ answer

abbrev pub ExactlyOf : Run → Result Order Cause → Answer → Type 0
ExactlyOf r (Ok order) answer = Exactly r order answer
ExactlyOf r (Err refusal) answer = Unit {0}

-- ---- on every host

-- the host tells its content, and the machine answers so
abbrev pub RefusedAs : Run → Result Order Cause → Cause → Type 0
RefusedAs r order cause = r.host_tells → expected r order ≡ Err cause

-- the document of a plan or an apply
abbrev pub document_in : Order → Option Doc
document_in (planning doc in_batch) = Some doc
document_in (applying doc opts) = Some doc
document_in _ = None

abbrev pub HasDocument : Result Order Cause → Doc → Type 0
HasDocument (Ok order) doc = document_in order ≡ Some doc
HasDocument (Err refusal) doc = ⊥

-- the document of a run: the one that was read, or what its policy is on the network that was dumped
abbrev pub IsDocument : Run → Result Order Cause → Doc → Type 0
IsDocument r (Ok (planning_policy p in_batch)) doc = IsDocumentOf r (planning_policy p in_batch) p doc
IsDocument r (Ok (applying_policy p opts)) doc = IsDocumentOf r (applying_policy p opts) p doc
IsDocument r order doc = HasDocument order doc

-- the merge of the document with what was dumped last breaks this rule
pub record BreaksRule (r : Run) (order : Result Order Cause) (refused : Refused) : Type 0 where
  pub doc : Doc
  pub net : NetData
  pub is_doc : IsDocument r order doc
  pub dumped : r.host_after.fresh ≡ Some net
  pub broken : merge net doc ≡ Err refused

-- what was found isn't the merge of the network that was saved
pub record IsOther (r : Run) (order : Result Order Cause) (found : NetData) : Type 0 where
  pub doc : Doc
  pub saved : NetData
  pub is_doc : IsDocument r order doc
  pub is_saved : saved_net r.host_after.state.cell ≡ Some saved
  pub other : merge saved doc ≢ Ok found

-- an apply that verifies dumped the merge of the network that was saved
abbrev pub IsVerified : Run → Result Order Cause → Type 0
IsVerified r (Ok (applying doc opts)) = opts.no_verify ≡ false → Verified (asked doc opts r.now) r.host_after
IsVerified r (Ok (applying_policy p opts)) = opts.no_verify ≡ false → (doc : Doc) × IsDocumentOf r (applying_policy p opts) p doc × Verified (asked doc opts r.now) r.host_after
IsVerified r order = Unit {0}

-- no apply is in doubt whose change is to wait
abbrev pub IsToStay : Order → Type 0
IsToStay (applying doc opts) = opts.no_commit ≡ false
IsToStay (applying_policy p opts) = opts.no_commit ≡ false
IsToStay order = Unit {0}

-- An apply that verifies and is in doubt dumped what one does that is done. A commit that is in doubt found a change that waits and
-- isn't due.
abbrev pub IsDoubted : Run → Result Order Cause → Type 0
IsDoubted r (Ok (applying doc opts)) = IsVerified r (Ok (applying doc opts))
IsDoubted r (Ok (applying_policy p opts)) = IsVerified r (Ok (applying_policy p opts))
IsDoubted r (Ok committing) = expected r (Ok committing) ≡ Ok committed
IsDoubted r order = Unit {0}

-- of what is refused before any call on the host: the refusal, unless the source failed or memory ran out before it
abbrev pub Refuses : Run → Cause → Answer → Type 0
Refuses r refusal (Err Usage) = refusal ≡ Usage
Refuses r refusal (Err NoSuchName) = refusal ≡ NoSuchName
Refuses r refusal (Err (DocRefused fault)) = refusal ≡ DocRefused fault
Refuses r refusal (Err (BadLine n)) = refusal ≡ BadLine n
Refuses r refusal (Err (BatchLine n)) = refusal ≡ BatchLine n
Refuses r refusal (Err BatchLarge) = refusal ≡ BatchLarge
Refuses r refusal (Err ReadFault) = SourceRose r × (refusal ≢ Usage)
Refuses r refusal (Err OutOfMemory) = MayWant r
Refuses r refusal answer = ⊥

-- what a fault's answer says of what stands; only an apply rolls back, and a first network may be half made
abbrev pub IsLeft : Run → Order → Left → Type 0
IsLeft r (making links) NotBegun = Unit {0}
IsLeft r (applying doc opts) left = LeftSays r.host_tells r.host r.host_after left
IsLeft r (applying_policy p opts) left = LeftSays r.host_tells r.host r.host_after left
IsLeft r order left = LeftSays r.host_tells r.host r.host_after left × (left ≢ RolledBack)

-- of a call that was refused: one was made, and only an apply tells that all was rolled back. Where it isn't, the change is being made, and
-- its checkpoint has a saved network
abbrev pub IsLeftRefused : Run → Order → Left → Type 0
IsLeftRefused r (applying doc opts) left = LeftSays r.host_tells r.host r.host_after left × (left ≢ NotBegun) × (left ≡ Unknown → StillOpen r.host_tells r.host_after)
IsLeftRefused r (applying_policy p opts) left = LeftSays r.host_tells r.host r.host_after left × (left ≢ NotBegun) × (left ≡ Unknown → StillOpen r.host_tells r.host_after)
IsLeftRefused r order left = (left ≡ Unknown) × StillOpen r.host_tells r.host_after

-- ---- which answers each order has beside what it says

abbrev pub OfShow : Cause → Type 0
OfShow (HostFault NotBegun) = Unit {0}
OfShow (Damaged area) = area ≡ 0
OfShow OutOfMemory = Unit {0}
OfShow cause = ⊥

abbrev pub OfPlan : Cause → Type 0
OfPlan ReadFault = Unit {0}
OfPlan (MergeRefused refused) = Unit {0}
OfPlan cause = OfShow cause

abbrev pub OfSimulate : Cause → Type 0
OfSimulate ReadFault = Unit {0}
OfSimulate (CallRefused n k) = Unit {0}
OfSimulate cause = OfShow cause

abbrev pub OfApply : Cause → Type 0
OfApply ReadFault = Unit {0}
OfApply (Pending deadline) = Unit {0}
OfApply (MergeRefused refused) = Unit {0}
OfApply (HostFault left) = Unit {0}
OfApply (KernelRefused k n left) = Unit {0}
OfApply (NotVerified found left) = Unit {0}
OfApply InDoubt = Unit {0}
OfApply (Damaged area) = Unit {0}
OfApply (HardwareDiffers names) = Unit {0}
OfApply OutOfMemory = Unit {0}
OfApply cause = ⊥

-- what refuses a policy once the host was looked at: it has no value, or its value is no document
abbrev pub IsLate : DocFault → Type 0
IsLate (doc_fault.Policy (policy.NoValue path)) = Unit {0}
IsLate (doc_fault.Policy policy.TooDeep) = Unit {0}
IsLate (doc_fault.Policy policy.TooLarge) = Unit {0}
IsLate (doc_fault.Schema refusal) = Unit {0}
IsLate fault = ⊥

-- a value that is printed isn't read as a document
abbrev pub HasNoValue : DocFault → Type 0
HasNoValue (doc_fault.Policy refusal) = IsLate (doc_fault.Policy refusal)
HasNoValue fault = ⊥

abbrev pub OfEvaluate : Cause → Type 0
OfEvaluate ReadFault = Unit {0}
OfEvaluate (DocRefused fault) = HasNoValue fault
OfEvaluate cause = OfShow cause

abbrev pub OfPlanPolicy : Cause → Type 0
OfPlanPolicy (DocRefused fault) = IsLate fault
OfPlanPolicy cause = OfPlan cause

abbrev pub OfApplyPolicy : Cause → Type 0
OfApplyPolicy (DocRefused fault) = IsLate fault
OfApplyPolicy cause = OfApply cause

abbrev pub OfCommit : Cause → Type 0
OfCommit NoCheckpoint = Unit {0}
OfCommit (Unfinished since deadline) = Unit {0}
OfCommit (Expired since deadline) = Unit {0}
OfCommit (HostFault NotBegun) = Unit {0}
OfCommit InDoubt = Unit {0}
OfCommit OutOfMemory = Unit {0}
OfCommit cause = ⊥

abbrev pub OfRecover : Cause → Type 0
OfRecover (HostFault left) = left ≢ RolledBack
OfRecover (KernelRefused k n left) = Unit {0}
OfRecover (Damaged area) = Unit {0}
OfRecover (HardwareDiffers names) = Unit {0}
OfRecover OutOfMemory = Unit {0}
OfRecover cause = ⊥

abbrev pub OfRollback : Cause → Type 0
OfRollback NoCheckpoint = Unit {0}
OfRollback cause = OfRecover cause

abbrev pub OfCheck : Cause → Type 0
OfCheck (HostFault NotBegun) = Unit {0}
OfCheck (Damaged area) = Unit {0}
OfCheck (HardwareDiffers names) = Unit {0}
OfCheck OutOfMemory = Unit {0}
OfCheck cause = ⊥

abbrev pub OfInit : Cause → Type 0
OfInit ReadFault = Unit {0}
OfInit Exists = Unit {0}
OfInit (HostFault NotBegun) = Unit {0}
OfInit OutOfMemory = Unit {0}
OfInit cause = ⊥

abbrev pub OfGenerate : Cause → Type 0
OfGenerate (MergeRefused refused) = Unit {0}
OfGenerate OutOfMemory = Unit {0}
OfGenerate cause = ⊥

-- of what is refused before any call on the host, `Refuses` says it
abbrev pub MayAnswer : Result Order Cause → Answer → Type 0
MayAnswer order (Ok said) = Unit {0}
MayAnswer (Ok (showing only json)) (Err cause) = OfShow cause
MayAnswer (Ok (planning doc in_batch)) (Err cause) = OfPlan cause
MayAnswer (Ok (evaluating p)) (Err cause) = OfEvaluate cause
MayAnswer (Ok (planning_policy p in_batch)) (Err cause) = OfPlanPolicy cause
MayAnswer (Ok (applying_policy p opts)) (Err cause) = OfApplyPolicy cause
MayAnswer (Ok (simulating calls)) (Err cause) = OfSimulate cause
MayAnswer (Ok (applying doc opts)) (Err cause) = OfApply cause
MayAnswer (Ok committing) (Err cause) = OfCommit cause
MayAnswer (Ok rolling_back) (Err cause) = OfRollback cause
MayAnswer (Ok recovering) (Err cause) = OfRecover cause
MayAnswer (Ok checking) (Err cause) = OfCheck cause
MayAnswer (Ok (making links)) (Err cause) = OfInit cause
MayAnswer (Ok (generating devices first second)) (Err cause) = OfGenerate cause
MayAnswer (Err refusal) (Err cause) = Unit {0}

-- ---- when each of them comes

-- a network that is printed or planned from is the one that was dumped
abbrev pub WasDumped : Run → NetData → Type 0
WasDumped r net = r.host_tells → r.host_after.fresh ≡ Some net

-- the network is printed as it was asked for
pub record Prints (r : Run) (only : Option (List ℕ)) (json : Bool) (said : Said) : Type 0 where
  pub net : NetData
  pub dumped : WasDumped r net
  pub is_said : said ≡ printed only json net

-- the calls lead to the merge of the document, and are said as it was asked for
pub record Plans (r : Run) (doc : Doc) (in_batch : Bool) (said : Said) : Type 0 where
  pub from : NetData
  pub to : NetData
  pub dumped : WasDumped r from
  pub merges : merge from doc ≡ Ok to
  pub is_said : said ≡ said_plan in_batch from to

-- the value of the policy on the network that was dumped
pub record Evaluates (r : Run) (p : PolicyData) (said : Said) : Type 0 where
  pub net : NetData
  pub tree : Shape
  pub is_ground : IsGround r (evaluating p) net
  pub value : value_on p net ≡ Ok tree
  pub is_said : said ≡ evaluated tree

-- a plan from the network that was dumped, for the document that the policy is there
pub record PlansPolicy (r : Run) (p : PolicyData) (in_batch : Bool) (said : Said) : Type 0 where
  pub doc : Doc
  pub plans : Plans r doc in_batch said
  pub is_ground : IsGround r (planning_policy p in_batch) plans.from
  pub reads : document_on p plans.from ≡ Ok doc

-- the network is printed that the calls lead to from the one that was dumped
pub record Simulates (r : Run) (calls : List Call) (said : Said) : Type 0 where
  pub from : NetData
  pub to : NetData
  pub dumped : WasDumped r from
  pub leads : simulated 1 calls from ≡ Ok to
  pub is_said : said ≡ printed None false to

-- on a run from the network that was dumped the calls before this one are accepted, and it is refused with this number
pub record IsFirstRefused (r : Run) (order : Order) (n k : ℕ) : Type 0 where
  pub calls : List Call
  pub from : NetData
  pub is_order : order ≡ simulating calls
  pub dumped : WasDumped r from
  pub refused : simulated 1 calls from ≡ Err (CallRefused n k)

-- what a check says is the machine's of the checkpoint as it reads and of the network that was dumped
abbrev pub Checks : Run → Said → Type 0
Checks r said = r.host_tells → (machine_of r.now (Ok checking) (record { net = r.host_after.fresh; cell = (reads r).cell })).answer ≡ Ok said

-- what a check is run for: where the checkpoint area isn't empty, each stop leaves what can be recovered from
abbrev pub SaysSound : Run → Type 0
SaysSound r = r.host_after.state.cell ≢ [] → Sound r.host_after

-- nothing was to be taken back, or it waits, by the machine; or something was, and no checkpoint stands
abbrev pub IsRecovered : Run → Said → Type 0
IsRecovered r restored = HasTaken r.now (reads r).cell × ((reads_after r).cell ≡ None)
IsRecovered r said = expected r (Ok recovering) ≡ Ok said

-- what is done; a commit is the machine's, with what it leaves, and so is a workload, on every host; an apply that verifies dumped the
-- merge of the network that was saved
abbrev pub IsDoneAs : Run → Order → Said → Type 0
IsDoneAs r (showing only json) said = Prints r only json said
IsDoneAs r (planning doc in_batch) said = Plans r doc in_batch said
IsDoneAs r (evaluating p) said = Evaluates r p said
IsDoneAs r (planning_policy p in_batch) said = PlansPolicy r p in_batch said
IsDoneAs r (simulating calls) said = Simulates r calls said
IsDoneAs r committing said = r.host_tells → IsOutcome (machine_of r.now (Ok committing) (reads r)) r.host_after (Ok said)
IsDoneAs r checking said = Checks r said × (r.honest → SaysSound r)
IsDoneAs r (generating devices first second) said = expected r (Ok (generating devices first second)) ≡ Ok said
IsDoneAs r rolling_back said = r.host_tells → HasSet (reads r).cell × ((reads_after r).cell ≡ None)
IsDoneAs r recovering said = r.host_tells → IsRecovered r said
IsDoneAs r (making links) said = r.host_tells → (expected r (Ok (making links)) ≡ Ok said) × IsMade (first_net links) r.host.state r.host_after
IsDoneAs r (applying doc opts) said = r.host_tells → IsVerified r (Ok (applying doc opts))
IsDoneAs r (applying_policy p opts) said = r.host_tells → IsVerified r (Ok (applying_policy p opts))

-- the host reads as before
abbrev pub StaysRead : Run → Type 0
StaysRead r = r.host_tells → reads_after r ≡ reads r

-- Nothing was done but what was to be taken back first: where nothing was, no kernel call was made. No checkpoint stands, and an honest
-- host, sound or not, reads as what was settled.
pub record OnlySettled (r : Run) : Type 0 where
  pub calls : SettlesOnly r.host_tells r.now r.host.state r.host.kernel r.host_after.kernel
  pub none : r.host_tells → (reads_after r).cell ≡ None
  pub stands : r.honest → settled r.now (reads r) ≡ Some (reads_after r)

abbrev pub LooksOnly : Run → Order → Type 0
LooksOnly r (planning doc in_batch) = StaysRead r
LooksOnly r (applying doc opts) = OnlySettled r
LooksOnly r (evaluating p) = StaysRead r
LooksOnly r (planning_policy p in_batch) = StaysRead r
LooksOnly r (applying_policy p opts) = OnlySettled r
LooksOnly r order = Unit {0}

-- a network is compared only where an apply is to verify
abbrev pub IsCompared : Order → Type 0
IsCompared (applying doc opts) = opts.no_verify ≡ false
IsCompared (applying_policy p opts) = opts.no_verify ≡ false
IsCompared order = ⊥

-- a rule is broken on the network that was dumped last, or in a workload on one that its host had
abbrev pub BrokeRule : Run → Order → Refused → Type 0
BrokeRule r (generating devices first second) refused = expected r (Ok (generating devices first second)) ≡ Err (MergeRefused refused)
BrokeRule r order refused = (r.host_tells → BreaksRule r (Ok order) refused) × LooksOnly r order

-- the policy is refused on the network that was dumped, which the host tells as its last dump
pub record WasLate {A : Type 0} (r : Run) (order : Order) (read : NetData → Result A Cause) (fault : DocFault) : Type 0 where
  pub net : NetData
  pub fresh : r.host_tells → r.host_after.fresh ≡ Some net
  pub is_ground : IsGround r order net
  pub refused : read net ≡ Err (DocRefused fault)

abbrev pub RefusedLate : Run → Order → DocFault → Type 0
RefusedLate r (evaluating p) fault = WasLate r (evaluating p) (value_on p) fault
RefusedLate r (planning_policy p in_batch) fault = WasLate r (planning_policy p in_batch) (document_on p) fault
RefusedLate r (applying_policy p opts) fault = WasLate r (applying_policy p opts) (document_on p) fault
RefusedLate r order fault = ⊥

-- What is told as damaged was so at some moment since the entry, and stands so as the host reads. No kernel call was made then, but where
-- a change was to be taken back first, unless a checkpoint stands by which to take this one back.
abbrev pub IsDamage : Run → ℕ → Type 0
IsDamage r area = r.host_tells → HadDamaged area r.host r.host_after × StandsDamaged r.host_tells area r.now r.host.state r.host.kernel r.host_after

-- of what was asked of the host
abbrev pub Ends : Run → Order → Answer → Type 0
Ends r order (Ok said) = IsDoneAs r order said
Ends r order (Err ReadFault) = SourceRose r × r.untouched
Ends r order (Err Exists) = RefusedAs r (Ok order) Exists × StaysRead r
Ends r order (Err (Pending deadline)) = RefusedAs r (Ok order) (Pending deadline) × StaysRead r
Ends r order (Err NoCheckpoint) = RefusedAs r (Ok order) NoCheckpoint
Ends r order (Err (Unfinished since deadline)) = RefusedAs r (Ok order) (Unfinished since deadline)
Ends r order (Err (Expired since deadline)) = RefusedAs r (Ok order) (Expired since deadline)
Ends r order (Err (DocRefused fault)) = RefusedLate r order fault × LooksOnly r order
Ends r order (Err (MergeRefused refused)) = BrokeRule r order refused
Ends r order (Err (CallRefused n k)) = IsFirstRefused r order n k × StaysRead r
Ends r order (Err (HostFault left)) = HostRose r × IsLeft r order left
Ends r order (Err InDoubt) = HostRose r × IsToStay order × (r.host_tells → IsDoubted r (Ok order))
Ends r order (Err (KernelRefused k n left)) = IsLeftRefused r order left
Ends r order (Err (NotVerified found left)) = (left ≡ RolledBack) × IsCompared order × LeftSays r.host_tells r.host r.host_after RolledBack × (r.host_tells → IsOther r (Ok order) found)
Ends r order (Err (Damaged area)) = IsDamage r area
Ends r order (Err (HardwareDiffers names)) = r.host_tells → Differs names r.host_after
Ends r order (Err OutOfMemory) = MayWant r
Ends r order answer = ⊥

abbrev pub Comes : Run → Result Order Cause → Answer → Type 0
Comes r (Err refusal) answer = r.untouched × Refuses r refusal answer
Comes r (Ok order) answer = Ends r order answer
