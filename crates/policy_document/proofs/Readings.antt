-- The value and the document of a policy on a network, from what was read and evaluated.
use Rattle.std.proofs.Common.{◌≡◌, refl, subst}
use Rattle.std.specs.Prelude.{Result, Ok, Err, None}
use Rattle.doc_tree.specs.Shape.{Shape, shape}
use Rattle.doc_tree.specs.declared.Tree.{Tree}
use Rattle.net_model.specs.NetData.{NetData}
use Rattle.document_model.specs.declared.Doc.{Doc}
use Rattle.show_core.specs.Network.{network_tree}
use Rattle.policy_model.specs.Values.{PolicyData, policy_value}
use Rattle.policy_model.specs.declared.PolicyFault.{PolicyFault}
use Rattle.policy_model.specs.declared.PolicyFault.TheVariants as policy_fault
use Rattle.policy_lang.specs.Answers.{GivesTree}
use Rattle.order_reading.specs.Faults.{policy_cause}
use Rattle.order_reading.specs.Reading.{Answers, itself}
use Rattle.top_model.specs.Orders.{with_fault, document_of_tree, value_on, document_on}
use Rattle.top_model.specs.declared.report.DocFault.TheVariants.{Schema, Policy}
use Rattle.top_model.specs.declared.report.Cause.{Cause}
use Rattle.top_model.specs.declared.report.Cause.TheVariants.{DocRefused, BadLine, BatchLine, BatchLarge, OutOfMemory}

pub value_read : (p : PolicyData) (net : NetData) (running : Shape) (tree : Tree) → running ≡ network_tree net None → GivesTree (policy_value running p) (Ok tree) → value_on p net ≡ Ok (shape tree)
unfolding value_on
value_read p net running tree same is = rw (← same, is) refl

pub value_not : (p : PolicyData) (net : NetData) (running : Shape) (e : PolicyFault) → running ≡ network_tree net None → GivesTree (policy_value running p) (Err e) → Answers shape (value_on p net) (Err (policy_cause e))
unfolding value_on
value_not p net running e same is = subst (λ (s : Shape). Answers shape (with_fault Policy (policy_value s p)) (Err (policy_cause e))) same (go (policy_value running p) e is)
  where
    refused : (r : Result Shape PolicyFault) (e : PolicyFault) → r ≡ Err e → with_fault Policy r ≡ Err (DocRefused (Policy e))
    refused r e is = rw is refl

    go : (r : Result Shape PolicyFault) (e : PolicyFault) → GivesTree r (Err e) → Answers shape (with_fault Policy r) (Err (policy_cause e))
    go r policy_fault.OutOfMemory is = tt
    go r (policy_fault.WrongShape path) is = refused r (policy_fault.WrongShape path) is
    go r (policy_fault.BadExpression path) is = refused r (policy_fault.BadExpression path) is
    go r (policy_fault.UnknownCapture path) is = refused r (policy_fault.UnknownCapture path) is
    go r (policy_fault.CaptureCycle path) is = refused r (policy_fault.CaptureCycle path) is
    go r (policy_fault.NoValue path) is = refused r (policy_fault.NoValue path) is
    go r policy_fault.TooDeep is = refused r policy_fault.TooDeep is
    go r policy_fault.TooLarge is = refused r policy_fault.TooLarge is

pub document_read : (p : PolicyData) (net : NetData) (tree : Shape) (result : Result Doc Cause) → value_on p net ≡ Ok tree → Answers itself (with_fault Schema (document_of_tree tree)) result
    → Answers itself (document_on p net) result
unfolding document_on
document_read p net tree result is h = rw is h

pub document_not : (p : PolicyData) (net : NetData) (cause : Cause) → Answers shape (value_on p net) (Err cause) → Answers itself (document_on p net) (Err cause)
unfolding document_on
document_not p net (DocRefused fault) is = rw is refl
document_not p net (BadLine n) is = rw is refl
document_not p net (BatchLine n) is = rw is refl
document_not p net BatchLarge is = rw is refl
document_not p net OutOfMemory is = tt
document_not p net cause is = absurd is
