-- The order that is handed over, and what is known of it.
use Rattle.std.specs.Prelude.{List, Bool, true, ◌&&◌, Option, Some, None, map, Result, Ok}
use Rattle.document_model.specs.Entries.{is_document, has_short_doc}
use Rattle.host_core.specs.Streams.{SourceView}
use Rattle.policy_lang.specs.Held.{data_of}
use Rattle.command_words.specs.declared.Command.{Command}
use Rattle.command_words.specs.declared.Command.TheVariants as command
use Rattle.top_model.specs.Orders.{Text, and_then, tree_of, policy, calls_of, hardware_list, policy_or_document, showing, planning, planning_policy, evaluating, simulating, applying, applying_policy, committing, rolling_back, recovering, checking, making, generating}
use Rattle.top_model.specs.Orders as model
use Rattle.top_model.specs.Lines.{Timed, timed_of}
use Rattle.top_model.specs.declared.Step.{Step}
use Rattle.top_model.specs.declared.Cause.{Cause}
use Rattle.order_reading.specs.declared.order.Order.{Order}
use Rattle.order_reading.specs.declared.order.Order.TheVariants.{Show, Plan, PlanPolicy, Evaluate, Simulate, Apply, ApplyPolicy, Commit, Rollback, Recover, Check, Init, Generate}
use Rattle.order_reading.specs.declared.order.Purpose.{Purpose}
use Rattle.order_reading.specs.declared.order.Purpose.TheVariants as purpose
pub use Rattle.top_model.specs.Taking.{read_there, file_read}
use Rattle.order_reading.specs.Reading.{Takes}

-- the order as the definitions have it
abbrev pub as_defined : Order → model.Order
as_defined (Show only json) = showing only json
as_defined (Plan doc in_batch) = planning doc in_batch
as_defined (PlanPolicy policy in_batch) = planning_policy (data_of policy) in_batch
as_defined (Evaluate policy) = evaluating (data_of policy)
as_defined (Simulate calls) = simulating calls
as_defined (Apply doc opts) = applying doc opts
as_defined (ApplyPolicy policy opts) = applying_policy (data_of policy) opts
as_defined Commit = committing
as_defined Rollback = rolling_back
as_defined Recover = recovering
as_defined Check = checking
as_defined (Init links) = making links
as_defined (Generate devices first second) = generating devices first second

-- the document of an order is right: what holds of each document that was read holds of it
abbrev pub has_right_document : Order → Bool
has_right_document (Plan doc in_batch) = is_document doc && has_short_doc doc
has_right_document (Apply doc opts) = is_document doc && has_short_doc doc
has_right_document (Generate devices first second) = is_document first && has_short_doc first && is_document second && has_short_doc second
has_right_document _ = true

-- ---- the FILE of a command

-- what is asked with what was read of the FILE, or why nothing was read
abbrev pub order_of_file : Purpose → Result Text Cause → Result model.Order Cause
order_of_file (purpose.Plan in_batch) bytes = and_then (and_then bytes tree_of) (policy_or_document (λ p. planning_policy p in_batch) (λ doc. planning doc in_batch))
order_of_file purpose.Evaluate bytes = and_then (and_then bytes policy) (λ p. Ok (evaluating p))
order_of_file purpose.Simulate bytes = and_then (and_then bytes calls_of) (λ calls. Ok (simulating calls))
order_of_file (purpose.Apply opts) bytes = and_then (and_then bytes tree_of) (policy_or_document (λ p. applying_policy p opts) (λ doc. applying doc opts))
order_of_file purpose.Init bytes = and_then (and_then bytes hardware_list) (λ links. Ok (making links))

-- nothing but that FILE is read, and of it no more than the limit and one byte
abbrev pub TakesFile : {A : Type 0} → Type 0 → Type 0 → SourceView → SourceView → Option (Option Text) → Result A Cause → Type 0
TakesFile untouched tells old new None result = untouched
TakesFile untouched tells old new (Some file) result = Takes tells old new file result

-- ---- memory

-- a command for which memory is taken before any call on the host: it reads an input, or makes a workload
abbrev pub TakesMemory : Option Command → Type 0
TakesMemory (Some (command.Plan file in_batch)) = Unit {0}
TakesMemory (Some (command.Policy file)) = Unit {0}
TakesMemory (Some (command.Simulate file)) = Unit {0}
TakesMemory (Some (command.Apply file no_commit no_verify timeout)) = Unit {0}
TakesMemory (Some (command.Init file)) = Unit {0}
TakesMemory (Some (command.Generate count seed)) = Unit {0}
TakesMemory _ = ⊥

-- ---- a script's steps

abbrev pub steps_seen : List Step → List Timed
steps_seen steps = map timed_of steps
