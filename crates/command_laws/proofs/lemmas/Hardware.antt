-- The links of a hardware list are a valid network of devices.
use Rattle.std.proofs.Common.{◌≡◌, refl, subst, ℕ, Bool, true, List, Option, None, Some}
use Rattle.std.specs.Prelude.{Result, Ok, Err, IfOk}
use Rattle.net_model.specs.declared.Link.{Link}
use Rattle.doc_tree.specs.Shape.{Shape}
use Rattle.tree_schema.proofs.lemmas.OnValues.{if_told}
use Rattle.link_schema.specs.Hardware.{hardware}
use Rattle.link_schema.proofs.lemmas.HardwareLists.{IsShort, hardware_short, list_valid, devices_alone}
use Rattle.command_words.specs.Words.{command_of}
use Rattle.command_words.specs.declared.Command.{Command}
use Rattle.command_words.specs.declared.Command.TheVariants as command
use Rattle.top_model.specs.Orders as model
use Rattle.top_model.specs.Orders.{Text, Inputs, planning, evaluating, planning_policy, applying_policy, policy, simulating, applying, making, generating, with_fault, tree_of, hardware_of_tree, hardware_list, calls_of, reprinted, reread, workload, generated_devices, generated_first, generated_second, generated, input, opts, order_named, order_of}
use Rattle.top_model.specs.declared.report.DocFault.TheVariants.{Schema}
use Rattle.scenario_model.specs.Draws.{devices as devices_drawn}
use Rattle.scenario_model.specs.Trees.{hardware_tree}
use Rattle.document_model.specs.declared.Doc.{Doc}
use Rattle.top_model.specs.declared.report.Cause.{Cause}
use Rattle.top_model.proofs.lemmas.Orders.{if_ok, if_right, if_fault}
use Rattle.order_reading.specs.AsDefined.{as_defined}
use Rattle.order_reading.specs.declared.order.Order.{Order}
use Rattle.order_reading.specs.declared.order.Order.TheVariants.{Show, Plan, PlanPolicy, Evaluate, ApplyPolicy, Simulate, Apply, Commit, Rollback, Recover, Check, Init, Generate}
use Rattle.command_laws.specs.First.{is_hardware, has_hardware}
use Rattle.command_laws.proofs.lemmas.Either.{either}

-- ---- of the order that is read

hardware_is : (ls : List Link) → IsShort ls → is_hardware ls ≡ true
hardware_is ls short = rw (list_valid ls short, devices_alone ls short) refl

abbrev RightLinks : List Link → Type 0
RightLinks links = is_hardware links ≡ true

told_right : (tree : Shape) → IfOk (hardware_of_tree tree) RightLinks
told_right tree = if_told IsShort RightLinks (λ links notes. links) (λ links notes short. hardware_is links short) (hardware tree) (hardware_short tree)

list_is : (bytes : Text) → IfOk (hardware_list bytes) RightLinks
unfolding hardware_list
list_is bytes = if_ok RightLinks (tree_of bytes) (λ tree. with_fault Schema (hardware_of_tree tree)) (λ tree. if_fault RightLinks Schema (hardware_of_tree tree) (told_right tree))

abbrev RightOrder : model.Order → Type 0
RightOrder (making links) = is_hardware links ≡ true
RightOrder (generating devices first second) = is_hardware devices ≡ true
RightOrder order = Unit {0}

abbrev RightIfOk : Result model.Order Cause → Type 0
RightIfOk order = IfOk order RightOrder

-- a workload's devices are those of a hardware list
reread_right : (tree : Shape) → IfOk (reread hardware_of_tree tree) RightLinks
reread_right tree = if_ok RightLinks (reprinted tree) (λ tree. with_fault Schema (hardware_of_tree tree)) (λ tree. if_fault RightLinks Schema (hardware_of_tree tree) (told_right tree))

devices_right : (count seed : ℕ) → IfOk (generated_devices count seed) RightLinks
unfolding generated_devices
devices_right count seed = reread_right (hardware_tree (devices_drawn seed count))

workload_right : (links : Result (List Link) Cause) (first second : Result Doc Cause) → IfOk links RightLinks → IfOk (workload links first second) RightOrder
workload_right (Err cause) first second right = tt
workload_right (Ok links) (Err cause) second right = tt
workload_right (Ok links) (Ok first) (Err cause) right = tt
workload_right (Ok links) (Ok first) (Ok second) right = right

generated_right : (count seed : ℕ) → IfOk (generated count seed) RightOrder
generated_right count seed = workload_right (generated_devices count seed) (generated_first count seed) (generated_second count seed) (devices_right count seed)

module _ (in_script : Bool) (inputs : Inputs) where
  order_right : (c : Option Command) → IfOk (order_named in_script inputs c) RightOrder
  order_right None = tt
  order_right (Some (command.Show only json)) = tt
  order_right (Some (command.Plan file in_batch)) =
      either RightIfOk (λ cause. tt) (λ p. planning_policy p in_batch) (λ doc. planning doc in_batch) (λ p. tt) (λ doc. tt) (model.and_then (input in_script inputs file) tree_of)
  order_right (Some (command.Policy file)) = if_ok RightOrder (model.and_then (input in_script inputs file) policy) (λ p. Ok (evaluating p)) (λ p. tt)
  order_right (Some (command.Simulate file)) = if_ok RightOrder (model.and_then (input in_script inputs file) calls_of) (λ calls. Ok (simulating calls)) (λ calls. tt)
  order_right (Some (command.Apply file no_commit no_verify timeout)) =
      let how = opts no_commit no_verify timeout in
      either RightIfOk (λ cause. tt) (λ p. applying_policy p how) (λ doc. applying doc how) (λ p. tt) (λ doc. tt) (model.and_then (input in_script inputs file) tree_of)
  order_right (Some command.Commit) = tt
  order_right (Some command.Rollback) = tt
  order_right (Some command.Recover) = tt
  order_right (Some command.Check) = tt
  order_right (Some (command.Init file)) =
      if_right RightOrder RightLinks (model.and_then (input in_script inputs file) hardware_list) (λ links. Ok (making links))
      (if_ok RightLinks (input in_script inputs file) hardware_list list_is) (λ links right. right)
  order_right (Some (command.Script file)) = tt
  order_right (Some (command.Generate count seed)) = generated_right count seed
  order_right (Some (command.Service dir)) = tt
  order_right (Some (command.Rollout limit file dirs)) = tt

  right_order : (words : List Text) (order : model.Order) → order_of in_script inputs words ≡ Ok order → RightOrder order
  right_order words order is = subst (λ (r : Result model.Order Cause). IfOk r RightOrder) is (order_right (command_of words))

  -- the links that the words give are a hardware list's
  pub hardware_right : (words : List Text) (order : Order) → order_of in_script inputs words ≡ Ok (as_defined order) → has_hardware order ≡ true
  hardware_right words (Show only json) is = refl
  hardware_right words (Plan doc in_batch) is = refl
  hardware_right words (PlanPolicy p in_batch) is = refl
  hardware_right words (Evaluate p) is = refl
  hardware_right words (ApplyPolicy p how) is = refl
  hardware_right words (Simulate calls) is = refl
  hardware_right words (Apply doc how) is = refl
  hardware_right words Commit is = refl
  hardware_right words Rollback is = refl
  hardware_right words Recover is = refl
  hardware_right words Check is = refl
  hardware_right words (Init links) is = right_order words (making links) is
  hardware_right words (Generate devices first second) is = right_order words (generating devices first second) is
