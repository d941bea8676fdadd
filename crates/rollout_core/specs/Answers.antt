-- Which event the answer of each call is.
use Rattle.std.specs.Prelude.{ℕ, ⊤, Bool, false, not, Result, Ok, Err, if◌then◌else◌}
use Rattle.checkpoint_cell.specs.declared.Phase.TheVariants.{Waiting}
use Rattle.checkpoint_cell.specs.declared.Seen.{Seen}
use Rattle.checkpoint_cell.specs.declared.Seen.TheVariants.{Set}
use Rattle.checkpoint_cell.specs.Cell.{is_due}
use Rattle.engine_model.specs.declared.answers.Left.TheVariants.{NotBegun, RolledBack}
use Rattle.engine_model.specs.declared.answers.Applied.{Applied}
use Rattle.engine_model.specs.declared.answers.ApplyFault.{ApplyFault}
use Rattle.engine_model.specs.declared.answers.ApplyFault.TheVariants as ap
use Rattle.engine_model.specs.declared.answers.CommitFault.{CommitFault}
use Rattle.engine_model.specs.declared.answers.CommitFault.TheVariants as co
use Rattle.engine_model.specs.declared.answers.BackFault.{BackFault}
use Rattle.engine_model.specs.declared.answers.BackFault.TheVariants as ba
use Rattle.engine_model.specs.declared.answers.Checked.{Checked}
use Rattle.engine_model.specs.declared.answers.CheckFault.{CheckFault}
use Rattle.engine_model.specs.declared.answers.CheckFault.TheVariants as ch
use Rattle.rollout_model.specs.declared.node.Event.{Event}
use Rattle.rollout_model.specs.declared.node.Event.TheVariants.{Open, Refused, Unclear, Starved, Good, Bad, Closed, Late, Back}

-- of a change that is to wait: what left the node as it was is a refusal
abbrev pub opening_fault : ℕ → ApplyFault → Event
opening_fault i (ap.Pending deadline) = Refused i
opening_fault i (ap.MergeRefused refused) = Refused i
opening_fault i (ap.HostFault NotBegun) = Refused i
opening_fault i (ap.HostFault RolledBack) = Refused i
opening_fault i (ap.KernelRefused k n RolledBack) = Refused i
opening_fault i (ap.NotVerified found RolledBack) = Refused i
opening_fault i ap.OutOfMemory = Starved i
opening_fault i fault = Unclear i

abbrev pub opening : ℕ → Result Applied ApplyFault → Event
opening i (Ok applied) = Open i
opening i (Err fault) = opening_fault i fault

-- a change waits, and its time isn't up
abbrev pub in_time : ℕ → Seen → Bool
in_time now (Set Waiting made deadline) = not (is_due made deadline now)
in_time now seen = false

-- of a look at a node
abbrev pub probing : ℕ → ℕ → Result Checked CheckFault → Event
probing now i (Ok checked) = if in_time now checked.cell then Good i else Bad i
probing now i (Err ch.OutOfMemory) = Starved i
probing now i (Err fault) = Unclear i

-- of a commit
abbrev pub closing : ℕ → Result ⊤ CommitFault → Event
closing i (Ok done) = Closed i
closing i (Err (co.Expired made deadline)) = Late i
closing i (Err fault) = Unclear i

-- of a rollback
abbrev pub returning : ℕ → Result ⊤ BackFault → Event
returning i (Ok done) = Back i
returning i (Err ba.OutOfMemory) = Starved i
returning i (Err fault) = Unclear i
