-- Which commands the words of an order are.
use Rattle.std.proofs.Common.{◌≡◌, ◌∙◌, ℕ, refl, sym, ap, subst, Bool, true, false, List, Option, Some, None}
use Rattle.std.specs.Prelude.{◌&&◌, Result, Ok, Err}
use Rattle.net_model.specs.declared.Link.{Link}
use Rattle.net_model.specs.declared.Call.{Call}
use Rattle.doc_tree.specs.Shape.{Shape}
use Rattle.document_model.specs.declared.Doc.{Doc}
use Rattle.policy_model.specs.Values.{PolicyData}
use Rattle.engine_model.specs.declared.ApplyOpts.{ApplyOpts}
use Rattle.command_words.specs.Words.{command_of}
use Rattle.command_words.specs.declared.Command.{Command}
use Rattle.command_words.specs.declared.Command.TheVariants.{Show, Plan, Policy, Simulate, Apply, Commit, Rollback, Recover, Check, Init, Script, Generate, Service, Rollout}
use Rattle.top_model.specs.Orders.{Inputs, Order, planning, evaluating, planning_policy, applying_policy, simulating, applying, committing, making, generating, and_then, input, tree_of, policy, hardware_list, calls_of, policy_or_document, workload, generated_devices, generated_first, generated_second, generated, opts, order_named, order_of, Text}
use Rattle.order_reading.specs.declared.order.Order.{Order as Asked}
use Rattle.order_reading.specs.declared.order.Order.TheVariants as asked_as
use Rattle.order_reading.specs.AsDefined.{as_defined, file_read}
use Rattle.top_model.specs.declared.report.Cause.{Cause}
use Rattle.command_laws.specs.Worked.{works_apart}
use Rattle.command_laws.proofs.lemmas.Either.{either}

abbrev asks : Order → Result Order Cause
asks order = Ok order

abbrev IsNoEnd : Result Order Cause → Type 0
IsNoEnd order = order ≡ asks committing → ⊥

no_end : (c : Cause) → IsNoEnd (Err c)
no_end c e = cc

no_plan : (in_batch : Bool) (x : Result Shape Cause) → IsNoEnd (and_then x (policy_or_document (λ p. planning_policy p in_batch) (λ doc. planning doc in_batch)))
no_plan in_batch x = either IsNoEnd no_end (λ p. planning_policy p in_batch) (λ doc. planning doc in_batch) (λ p e. cc) (λ doc e. cc) x

no_value : (x : Result PolicyData Cause) → IsNoEnd (and_then x (λ p. asks (evaluating p)))
no_value (Ok p) e = cc
no_value (Err c) e = cc

no_simulate : (x : Result (List Call) Cause) → and_then x (λ calls. asks (simulating calls)) ≡ asks committing → ⊥
no_simulate (Ok calls) e = cc
no_simulate (Err c) e = cc

no_apply : (how : ApplyOpts) (x : Result Shape Cause) → IsNoEnd (and_then x (policy_or_document (λ p. applying_policy p how) (λ doc. applying doc how)))
no_apply how x = either IsNoEnd no_end (λ p. applying_policy p how) (λ doc. applying doc how) (λ p e. cc) (λ doc e. cc) x

no_init : (x : Result (List Link) Cause) → and_then x (λ links. asks (making links)) ≡ asks committing → ⊥
no_init (Ok links) e = cc
no_init (Err c) e = cc

no_works : (links : Result (List Link) Cause) (first second : Result Doc Cause) → workload links first second ≡ asks committing → ⊥
no_works (Err c) first second e = cc
no_works (Ok links) (Err c) second e = cc
no_works (Ok links) (Ok first) (Err c) e = cc
no_works (Ok links) (Ok first) (Ok second) e = cc

no_generate : (count seed : ℕ) → generated count seed ≡ asks committing → ⊥
no_generate count seed e = no_works (generated_devices count seed) (generated_first count seed) (generated_second count seed) e

-- only the command `commit` asks for the end of a change
pub commit_named : (in_script : Bool) (inputs : Inputs) (command : Option Command) → order_named in_script inputs command ≡ asks committing → command ≡ Some Commit
commit_named in_script inputs None e = cc
commit_named in_script inputs (Some (Show only json)) e = cc
commit_named in_script inputs (Some (Plan file in_batch)) e = absurd (no_plan in_batch (and_then (input in_script inputs file) tree_of) e)
commit_named in_script inputs (Some (Policy file)) e = absurd (no_value (and_then (input in_script inputs file) policy) e)
commit_named in_script inputs (Some (Simulate file)) e = absurd (no_simulate (and_then (input in_script inputs file) calls_of) e)
commit_named in_script inputs (Some (Apply file no_commit no_verify timeout)) e = absurd (no_apply (opts no_commit no_verify timeout) (and_then (input in_script inputs file) tree_of) e)
commit_named in_script inputs (Some Commit) e = refl
commit_named in_script inputs (Some Rollback) e = cc
commit_named in_script inputs (Some Recover) e = cc
commit_named in_script inputs (Some Check) e = cc
commit_named in_script inputs (Some (Init file)) e = absurd (no_init (and_then (input in_script inputs file) hardware_list) e)
commit_named in_script inputs (Some (Script file)) e = cc
commit_named in_script inputs (Some (Generate count seed)) e = absurd (no_generate count seed e)
commit_named in_script inputs (Some (Service dir)) e = cc
commit_named in_script inputs (Some (Rollout limit file dirs)) e = cc

abbrev IsWork : Order → Type 0
IsWork (generating devices first second) = Unit {0}
IsWork order = ⊥

same_order : (a b : Order) → asks a ≡ asks b → a ≡ b
same_order a b e = cc

abbrev no_order_of : Cause → Result Order Cause
no_order_of c = Err c

no_order : (c : Cause) (order : Order) → no_order_of c ≡ asks order → ⊥
no_order c order e = cc

works_is : (links : Result (List Link) Cause) (first second : Result Doc Cause) (order : Order) → workload links first second ≡ asks order → IsWork order
works_is (Err c) first second order e = absurd (no_order c order e)
works_is (Ok links) (Err c) second order e = absurd (no_order c order e)
works_is (Ok links) (Ok first) (Err c) order e = absurd (no_order c order e)
works_is (Ok links) (Ok first) (Ok second) order e = subst IsWork (same_order (generating links first second) order e) tt

generated_is : (count seed : ℕ) (order : Order) → generated count seed ≡ asks order → IsWork order
generated_is count seed order e = works_is (generated_devices count seed) (generated_first count seed) (generated_second count seed) order e

is_apart : (order : Asked) → IsWork (as_defined order) → works_apart order ≡ true
is_apart (asked_as.Generate devices first second) is = refl
is_apart order is = absurd is

-- the words `generate` are carried out on a host of their own
pub generate_named : (in_script : Bool) (inputs : Inputs) (words : List Text) (count seed : ℕ) (order : Asked) → command_of words ≡ Some (Generate count seed)
    → order_of in_script inputs words ≡ asks (as_defined order) → works_apart order ≡ true
generate_named in_script inputs words count seed order is gives =
    is_apart order (generated_is count seed (as_defined order) (ap (order_named in_script inputs) (sym is) ∙ gives))

-- and read nothing
pub generate_reads_none : (in_script : Bool) (words : List Text) (count seed : ℕ) → command_of words ≡ Some (Generate count seed) → file_read in_script (command_of words) ≡ None
generate_reads_none in_script words count seed is = ap (file_read in_script) is ∙ no_file in_script
  where
    no_file : (in_script : Bool) → file_read in_script (Some (Generate count seed)) ≡ None
    no_file true = refl
    no_file false = refl

-- of four that hold the first holds
pub first_of_four : (a b c d : Bool) → (a && b && c && d) ≡ true → a ≡ true
first_of_four true b c d e = refl
first_of_four false b c d e = cc

-- and the third
pub third_holds : (a b c d : Bool) → (a && b && c && d) ≡ true → c ≡ true
third_holds true true true d e = refl
third_holds true true false d e = cc
third_holds true false c d e = cc
third_holds false b c d e = cc

-- of two that hold the first holds
pub first_holds : (a b : Bool) → (a && b) ≡ true → a ≡ true
first_holds true b e = refl
first_holds false b e = cc
