-- What a map holds that is being built, and what a tree is, unless memory ran out.
use Rattle.std.specs.Prelude.{◌≡◌, map, Result, IfOk}
use Rattle.doc_tree.specs.Shape.{Shape, shape, pair_shape}
use Rattle.doc_tree.specs.declared.tree.Tree.{Tree}
use Rattle.show_core.specs.Fields.{Fields}
use Rattle.show_core.specs.declared.pairs.Pairs.{Pairs}

-- a tree of this shape, unless memory ran out
abbrev pub IsTree : {E : Type 0} → Shape → Result Tree E → Type 0
IsTree form tree = IfOk tree (λ t. shape t ≡ form)

-- each key with the shape of its tree, unless memory ran out
pub record Holds (held : Fields) (p : Pairs) : Type 0 where
  pub is : IfOk p.pairs (λ pairs. map pair_shape pairs.items ≡ held)
