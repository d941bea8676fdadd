use Rattle.std.proofs.Common.{ℕ, List, subst}
use Rattle.doc_tree.specs.Shape.{text}
use Rattle.show_core.specs.Pairs.{IsTree}
use Rattle.show_core.proofs.pairs.Pairs.put_word.Goals as goal

pub returns : goal.returns
returns c held value h is =
    c.put.ensures held (text value) h (subst (λ (w : List ℕ). IsTree (text w) c.word_tree-tree.result) is c.word_tree-tree.ensures)
