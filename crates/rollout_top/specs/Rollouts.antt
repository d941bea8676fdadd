-- The command `rollout`: what is asked, what it answers, and how it is told.
use Rattle.std.specs.Prelude.{◌≡◌, ◌⊎◌, ℕ, false, List, [], Option, Some, None, Result, Ok, Err}
use Rattle.document_model.specs.declared.Doc.{Doc}
use Rattle.host_core.specs.Faults.{Rose}
use Rattle.host_core.specs.declared.Host.{Ghosts as HostGhosts}
use Rattle.host_core.specs.declared.Source.{Ghosts as SourceGhosts}
use Rattle.host_core.specs.declared.Sink.{Ghosts as SinkGhosts}
use Rattle.host_core.specs.declared.Clock.{Ghosts as ClockGhosts}
use Rattle.rollout_model.specs.Rollout.{Rollout, begun}
use Rattle.rollout_model.specs.Safe.{IsAt}
use Rattle.rollout_model.specs.declared.node.NodeState.{NodeState}
use Rattle.rollout_model.specs.declared.node.NodeState.TheVariants.{Committed}
use Rattle.rollout_model.specs.declared.node.Event.{Event}
use Rattle.rollout_model.specs.declared.node.Event.TheVariants.{Starved}
use Rattle.rollout_core.specs.Calm.{Calm}
use Rattle.rollout_core.specs.Holding.{AllClean}
use Rattle.rollout_run.specs.Printing.{Prints}
use Rattle.rollout_run.specs.Whole.{Rolled}
use Rattle.rollout_run.specs.declared.printing.Printed.{Printed}
use Rattle.rollout_run.specs.declared.printing.Printed.TheVariants.{Whole, Cut}
use Rattle.rollout_run.specs.declared.roll.Ended.{Ended}
use Rattle.top_model.specs.Orders.{Text, Inputs, and_then, input, document}
use Rattle.top_model.specs.Texts.{status_of, error_line, note_lines}
use Rattle.top_model.specs.Told.{report_of}
use Rattle.top_model.specs.declared.report.Report.{Report}
use Rattle.top_model.specs.declared.report.Cause.{Cause}
use Rattle.top_model.specs.declared.report.Cause.TheVariants.{Done, WriteFault, Halted, OutOfMemory}
use Rattle.answer_text.specs.Speaking.{Spoken}
use Rattle.order_reading.specs.Reading.{Reads, GoesOn, Took, Takes, itself}
use Rattle.rollout_top.specs.declared.prepare.Prepared.{Prepared}

-- ---- what is asked

-- the document of a FILE, or why there is none
abbrev pub document_named : Inputs → Option Text → Result Doc Cause
document_named inputs file = and_then (input false inputs file) document

-- there is none, for this cause
abbrev pub no_document : Cause → Result Doc Cause
no_document cause = Err cause

-- ---- why it ended

-- nothing halted it; or memory that ran out did; or another event
abbrev pub halted_cause : Option Event → Cause
halted_cause None = Done
halted_cause (Some (Starved i)) = OutOfMemory
halted_cause (Some event) = Halted event

-- where not all was printed, the answer is told by its status
abbrev pub cause_printed : Printed → Cause → Cause
cause_printed Whole cause = cause
cause_printed Cut cause = WriteFault (status_of cause)

-- ---- before the first step

-- the notes of a document, and a rollout in which nothing was done
pub record Prepares (limit nodes : ℕ) (doc : Doc) (prepared : Prepared) : Type 0 where
  pub notes : prepared.notes.items ≡ note_lines doc.notes
  pub core : prepared.core ≡ begun nodes limit

-- nothing was done on any node, and the cause was told
pub record Unbegun {H W C : Type 0} (P : SinkGhosts W) (cause : Cause) (nodes ends : List H) (clock clock_after : C) (out out_after err err_after : W) (report : Report) : Type 0 where
  pub same_nodes : ends ≡ nodes
  pub same_clock : clock_after ≡ clock
  pub told : Spoken P.tells cause [] (error_line cause) (P.told out) (P.told out_after) (P.told err) (P.told err_after) report

-- ---- the whole

-- all that a rollout works with
pub record World (H S W C : Type 0) : Type 0 where
  pub nodes : List H
  pub source : S
  pub out : W
  pub err : W
  pub clock : C

abbrev pub world : {H S W C : Type 0} → List H → S → W → W → C → World H S W C
world nodes source out err clock = record { nodes = nodes; source = source; out = out; err = err; clock = clock }

-- how long the change of a node waits for its commit, in seconds
abbrev pub waiting_time : ℕ
waiting_time = 60

-- each node is committed
abbrev pub AllCommitted : Rollout → Type 0
AllCommitted r = (i : ℕ) (state : NodeState) → IsAt r i state → state ≡ Committed

-- A document was rolled out over these nodes, with these sinks and this clock.
pub record RolledOut {H W C : Type 0} (G : HostGhosts H) (K : ClockGhosts C) (P : SinkGhosts W) (limit : ℕ) (doc : Doc) (nodes ends : List H) (clock clock_after : C)
    (out out_after err err_after : W) (report : Report) : Type 0 where
  pub err_between : W
  pub noted : Printed
  -- the notes of the document come first
  pub notes : Prints P.tells Whole (note_lines doc.notes) (P.told err) (P.told err_between) noted
  pub last : Rollout
  pub ended : Ended
  -- then the rollout, with a line for each event and one at the end
  pub rolled : Rolled G K P doc waiting_time limit nodes ends clock clock_after noted out out_after last ended
  pub printed : Printed
  -- then the line of the answer: that memory ran out, where it did
  pub line : Prints P.tells ended.printed (error_line (halted_cause ended.halted_by)) (P.told err_between) (P.told err_after) printed
  -- done, halted by its first event, or out of memory; or a write that failed, with the status of that
  pub reported : report ≡ report_of (cause_printed printed (halted_cause ended.halted_by))
  -- on every host: done is told only where each node is committed, also where that answer wasn't written whole
  pub acknowledged : (report.cause ≡ Done) ⊎ (report.cause ≡ WriteFault 0) → AllCommitted last
  -- where the hosts are honest, were sound and had no checkpoint, where nothing fails, the document fits each node and the clock
  -- goes on: done with each node committed, or out of memory
  pub done : G.honest → AllClean G nodes → Calm G doc waiting_time nodes rolled.steps ends
      → (Rose (P.told out).faults (P.told out_after).faults → ⊥) → (Rose (P.told err).faults (P.told err_after).faults → ⊥)
      → ((report ≡ report_of Done) × AllCommitted last) ⊎ (report ≡ report_of OutOfMemory)

-- a document was rolled out, or memory ran out before the first step
abbrev pub RollsDocument : {H W C : Type 0} → HostGhosts H → ClockGhosts C → SinkGhosts W → ℕ → Doc → List H → List H → C → C → W → W → W → W → Report → Type 0
RollsDocument G K P limit doc nodes ends clock clock_after out out_after err err_after report =
    RolledOut G K P limit doc nodes ends clock clock_after out out_after err err_after report
    ⊎ Unbegun P OutOfMemory nodes ends clock clock_after out out_after err err_after report

module _ {H S W C : Type 0} (G : HostGhosts H) (F : SourceGhosts S) (K : ClockGhosts C) (P : SinkGhosts W) (limit : ℕ) (file : Text) (old new : World H S W C) (report : Report) where
  -- there is no document, or memory ran out before the first step: nothing was done on any node
  pub record Refuses : Type 0 where
    pub cause : Cause
    pub why : Reads itself (λ inputs. document_named inputs (Some file)) F.tells (F.told old.source) (F.told new.source) (Err cause)
    -- of a document that is refused no more was taken than the limit and one byte
    pub took : Takes F.tells (F.told old.source) (F.told new.source) (Some file) (no_document cause)
    pub unbegun : Unbegun P cause old.nodes new.nodes old.clock new.clock old.out new.out old.err new.err report

  -- the document of the FILE was rolled out
  pub record RollsOut : Type 0 where
    pub doc : Doc
    pub inputs : Inputs
    pub may_read : F.tells → inputs ≡ (F.told old.source).inputs
    pub read : document_named inputs (Some file) ≡ Ok doc
    pub took : F.tells → Took (F.told old.source) (F.told new.source) (Some file)
    pub rolled : RolledOut G K P limit doc old.nodes new.nodes old.clock new.clock old.out new.out old.err new.err report

  pub record RolloutAnswers : Type 0 where
    pub source : GoesOn F.tells (F.told old.source) (F.told new.source)
    pub answers : Refuses ⊎ RollsOut
