-- What a command promises by its report, and what it writes.
use Rattle.std.specs.Prelude.{◌≡◌, ◌≢◌, ◌⊎◌, ℕ, [], Some, Result, Ok, Err}
use Rattle.net_model.specs.NetData.{NetData}
use Rattle.document_model.specs.declared.Doc.{Doc}
use Rattle.host_core.specs.Streams.{Appends, AppendsSome}
use Rattle.checkpoint_cell.specs.Settled.{restored_to, settled}
use Rattle.engine_model.specs.declared.ApplyOpts.{ApplyOpts}
use Rattle.command_words.specs.Words.{lone, command_of}
use Rattle.command_words.specs.declared.Command.TheVariants.{Commit, Generate}
use Rattle.top_model.specs.Said.{Said, Says}
use Rattle.top_model.specs.Orders.{Text, Order, applying}
use Rattle.top_model.specs.Machine.{machine_of}
use Rattle.top_model.specs.Texts.{status_of}
use Rattle.top_model.specs.Runs.{Run, Asks, AsksApply, Alone, Quiet, Acknowledged, SinkRose, reads, reads_after}
use Rattle.top_model.specs.Grounds.{Grounds, TakesFirst}
use Rattle.top_model.specs.Told.{Told, ErrTextOn}
use Rattle.top_model.specs.Causes.{expected}
use Rattle.top_model.specs.Answered.{Rests}
use Rattle.top_model.specs.declared.report.Cause.{Cause}
use Rattle.top_model.specs.declared.report.Cause.TheVariants.{Done, WriteFault, OutOfMemory}

-- ---- without a fault

-- Where neither the host's count rose nor the source's, the answer is the command machine's, or out of memory; and it
-- leaves what the machine leaves.
pub record IsMachine (r : Run) (order : Result Order Cause) : Type 0 where
  pub told : Told r order (expected r order)
  pub stands : reads_after r ≡ (machine_of r.now order (reads r)).after

abbrev pub Complete : Run → Type 0
Complete r = (order : Result Order Cause) → Rests r order → Asks r order → Quiet r → IsMachine r order ⊎ Told r order (Err OutOfMemory)

-- An apply of a policy is the apply of the document that the policy is on the network after the settling: the same answer, the same texts,
-- and the same state.
abbrev pub AppliesAsDocument : Run → Type 0
AppliesAsDocument r = (doc : Doc) (opts : ApplyOpts) (from : NetData) → Alone r → AsksApply r doc opts from → settled r.now (reads r) ≡ Some (restored_to from) → Quiet r
    → IsMachine r (Ok (applying doc opts)) ⊎ Told r (Ok (applying doc opts)) (Err OutOfMemory)

-- ---- with and without faults

-- what is done is what the machine does
pub record IsDone (r : Run) (order : Result Order Cause) : Type 0 where
  pub said : Said
  pub is_said : expected r order ≡ Ok said
  pub stands : reads_after r ≡ (machine_of r.now order (reads r)).after

abbrev pub DoneOnly : Run → Type 0
DoneOnly r = (order : Result Order Cause) → Rests r order → Asks r order → Acknowledged r → IsDone r order

-- a refusal before any call on the host comes exactly where the words or what was read give it, on every host
abbrev pub RefusedExactly : Run → Type 0
RefusedExactly r = (refusal : Cause) → Asks r (Err refusal) → Quiet r → r.untouched × (Told r (Err refusal) (Err refusal) ⊎ Told r (Err refusal) (Err OutOfMemory))

-- for the one word `commit` memory never runs out
abbrev pub CommitTakesNone : Run → Type 0
CommitTakesNone r = lone r.words ≡ Some Commit → (r.report.cause ≢ OutOfMemory) × (r.report.cause ≢ WriteFault 8)

-- a generated workload has a host of its own: the one that is handed in stays the very same, and nothing is read
abbrev pub StandsApart : Run → Type 0
StandsApart r = (count seed : ℕ) → command_of r.words ≡ Some (Generate count seed) → r.untouched × (r.source_after ≡ r.source)

-- the status is the one of the cause
abbrev pub Statuses : Run → Type 0
Statuses r = r.report.status ≡ status_of r.report.cause

-- ---- what is written, on every host

-- Where no sink failed: to the errors the notes of a document that was read and the line of the cause, and to the output
-- nothing but what a command that is done says.
pub record IsWritten (r : Run) (order : Result Order Cause) : Type 0 where
  pub out : Text
  pub err : Text
  pub to_out : r.sinks_tell → Appends out r.out r.out_after
  pub to_err : r.sinks_tell → Appends err r.err r.err_after
  pub is_err : ErrTextOn (TakesFirst r) (Grounds r order) order r.report.cause err
  pub silent : r.report.cause ≢ Done → out ≡ []
  -- on a host that is asked for no more than it promises, it says what the machine says
  pub says : Rests r order → r.report.cause ≡ Done → (said : Said) × (expected r order ≡ Ok said) × Says said out

abbrev pub WritesAll : Run → Type 0
WritesAll r = (order : Result Order Cause) → Asks r order → (SinkRose r → ⊥) → IsWritten r order

-- where one failed: the beginning of each text of an answer of this status
pub record IsCutOff (r : Run) (order : Result Order Cause) (status : ℕ) : Type 0 where
  pub cause : Cause
  pub is_status : status_of cause ≡ status
  pub out : Text
  pub err : Text
  pub to_out : r.sinks_tell → AppendsSome out r.out r.out_after
  pub to_err : r.sinks_tell → AppendsSome err r.err r.err_after
  pub is_err : ErrTextOn (TakesFirst r) (Grounds r order) order cause err
  pub silent : cause ≢ Done → out ≡ []
  -- after a write that fails nothing more is written
  pub stops : (r.sinks_tell → Appends [] r.out r.out_after) ⊎ (r.sinks_tell → Appends err r.err r.err_after)
  pub says : Rests r order → cause ≡ Done → (said : Said) × (expected r order ≡ Ok said) × Says said out

abbrev pub WritesSome : Run → Type 0
WritesSome r = (order : Result Order Cause) → Asks r order → (status : ℕ) → r.report.cause ≡ WriteFault status → IsCutOff r order status

-- a sink's fault is answered only where its count rose, and where it isn't answered no count rose
pub record WriteFaults (r : Run) : Type 0 where
  pub only : (status : ℕ) → r.report.cause ≡ WriteFault status → SinkRose r
  pub out : ((status : ℕ) → r.report.cause ≢ WriteFault status) → r.out_after.faults ≡ r.out.faults
  pub err : ((status : ℕ) → r.report.cause ≢ WriteFault status) → r.err_after.faults ≡ r.err.faults

pub record Texts (r : Run) : Type 0 where
  pub all : WritesAll r
  pub some : WritesSome r
  pub faults : WriteFaults r
