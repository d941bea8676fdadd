-- The strings and keys of a tree are UTF-8.
use Rattle.std.specs.Prelude.{⊤}
use Rattle.std.specs.Str.{IsUtf8}
use Rattle.doc_tree.specs.Shape.{Shape, nothing, truth, whole, text, list, mapping, Shapes, no_shapes, more, Pairs, no_pairs, pair}

abbrev mutual
  pub HasUtf8 : Shape → Type 0
  HasUtf8 nothing = ⊤
  HasUtf8 (truth b) = ⊤
  HasUtf8 (whole z) = ⊤
  HasUtf8 (text s) = IsUtf8 s
  HasUtf8 (list ss) = ShapesHaveUtf8 ss
  HasUtf8 (mapping ps) = PairsHaveUtf8 ps

  pub ShapesHaveUtf8 : Shapes → Type 0
  ShapesHaveUtf8 no_shapes = ⊤
  ShapesHaveUtf8 (more s ss) = HasUtf8 s × ShapesHaveUtf8 ss

  pub PairsHaveUtf8 : Pairs → Type 0
  PairsHaveUtf8 no_pairs = ⊤
  PairsHaveUtf8 (pair k s ps) = IsUtf8 k × HasUtf8 s × PairsHaveUtf8 ps
