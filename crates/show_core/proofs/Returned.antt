-- Where a call returns the tree of a network, a writer may write it.
use Rattle.std.proofs.Common.{◌≡◌, ◌≤◌, ℕ, List, true, Option, Result, sym, subst, arith}
use Rattle.std.specs.Prelude.{IfOk}
use Rattle.std.proofs.lemmas.Result.{IfOk-weaker}
use Rattle.doc_tree.specs.Shape.{Shape, shape, is_distinct, has_short_lists, levels}
use Rattle.doc_tree.specs.declared.limits.TheConstants.{MAX_LEVELS}
use Rattle.doc_tree.specs.declared.tree.Tree.{Tree}
use Rattle.net_model.specs.Facts.{Facts}
use Rattle.net_model.specs.NetData.{NetData}
use Rattle.show_core.specs.Network.{network_tree}
use Rattle.show_core.proofs.lemmas.Writable.{IsWritable}
use Rattle.show_core.proofs.lemmas.NetTrees.{network_writable}

module _ {E : Type 0} (net : NetData) (facts : Facts net) (only : Option (List ℕ)) (r : Result Tree E) (made : IfOk r (λ tree. shape tree ≡ network_tree net only)) where
  returned : (P : Shape → Type 0) → (IsWritable 7 (network_tree net only) → P (network_tree net only)) → IfOk r (λ tree. P (shape tree))
  returned P is = IfOk-weaker r (λ tree. shape tree ≡ network_tree net only) (λ tree. P (shape tree)) (λ tree e. subst P (sym e) (is (network_writable net facts only))) made

  -- its keys differ
  pub returned_distinct : IfOk r (λ tree. is_distinct (shape tree) ≡ true)
  returned_distinct = returned (λ s. is_distinct s ≡ true) (λ is. is.distinct)

  -- its lists are short
  pub returned_short : IfOk r (λ tree. has_short_lists (shape tree) ≡ true)
  returned_short = returned (λ s. has_short_lists s ≡ true) (λ is. is.short)

  -- it has no more levels than a document may
  pub returned_depth : IfOk r (λ tree. levels (shape tree) ≤ MAX_LEVELS)
  returned_depth = returned (λ s. levels s ≤ MAX_LEVELS) (λ is. omega (arith, is.depth))
