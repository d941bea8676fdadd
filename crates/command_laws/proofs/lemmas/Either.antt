-- What holds of the order of a FILE that is a policy or a document holds by cases.
use Rattle.std.proofs.Common.{Bool, true, false}
use Rattle.std.specs.Prelude.{if◌then◌else◌, Result, Ok, Err}
use Rattle.doc_tree.specs.Shape.{Shape}
use Rattle.document_model.specs.declared.Doc.{Doc}
use Rattle.policy_model.specs.Values.{PolicyData}
use Rattle.policy_model.specs.Policies.{is_policy, policy_of_tree}
use Rattle.top_model.specs.Orders.{Order, and_then, with_fault, document_of_tree, policy_or_document}
use Rattle.top_model.specs.declared.report.DocFault.{DocFault}
use Rattle.top_model.specs.declared.report.DocFault.TheVariants.{Schema, Policy}
use Rattle.top_model.specs.declared.report.Cause.{Cause}
use Rattle.top_model.specs.declared.report.Cause.TheVariants.{DocRefused}

module _ (P : Result Order Cause → Type 0) (refused : (cause : Cause) → P (Err cause)) where
  -- of what is read of a tree
  of_read : {A E : Type 0} (fault : E → DocFault) (order : A → Order) → ((x : A) → P (Ok (order x))) → (x : Result A E) → P (and_then (with_fault fault x) (λ y. Ok (order y)))
  of_read fault order goes (Ok x) = goes x
  of_read fault order goes (Err e) = refused (DocRefused (fault e))

  module _ (of_policy : PolicyData → Order) (of_document : Doc → Order) (policies : (p : PolicyData) → P (Ok (of_policy p))) (documents : (doc : Doc) → P (Ok (of_document doc))) where
    by_word : (tree : Shape) (is : Bool) → P (if is then and_then (with_fault Policy (policy_of_tree tree)) (λ p. Ok (of_policy p)) else and_then (with_fault Schema (document_of_tree tree)) (λ doc. Ok (of_document doc)))
    by_word tree true = of_read Policy of_policy policies (policy_of_tree tree)
    by_word tree false = of_read Schema of_document documents (document_of_tree tree)

    -- of a tree that was read, or wasn't
    pub either : (tree : Result Shape Cause) → P (and_then tree (policy_or_document of_policy of_document))
    either (Ok tree) = by_word tree (is_policy tree)
    either (Err cause) = refused cause
