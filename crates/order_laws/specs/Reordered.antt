-- Trees that are the same but for the order of the keys in their maps.
use Rattle.std.specs.Prelude.{◌≡◌, ℕ, List, false}
use Rattle.std.specs.Str.{bytes_eq}
use Rattle.doc_tree.specs.Shape.{Shape, list, mapping, Shapes, no_shapes, more, Pairs, no_pairs, pair}

mutual
  -- the same tree, or one whose maps, at any level, have their pairs in another order; lists keep their order
  pub data IsReordered : Shape → Shape → Type 0 where
    same : (s : Shape) → IsReordered s s
    lists : (ss ts : Shapes) → AreReordered ss ts → IsReordered (list ss) (list ts)
    maps : (ps qs : Pairs) → ArePermuted ps qs → IsReordered (mapping ps) (mapping qs)

  -- item by item
  pub data AreReordered : Shapes → Shapes → Type 0 where
    no_items : AreReordered no_shapes no_shapes
    items : (s t : Shape) (ss ts : Shapes) → IsReordered s t → AreReordered ss ts → AreReordered (more s ss) (more t ts)

  -- two neighbours of different keys change places, any number of times, and each value may be reordered in itself
  pub data ArePermuted : Pairs → Pairs → Type 0 where
    no_keys : ArePermuted no_pairs no_pairs
    keys : (k : List ℕ) (s t : Shape) (ps qs : Pairs) → IsReordered s t → ArePermuted ps qs → ArePermuted (pair k s ps) (pair k t qs)
    swapped : (k l : List ℕ) (s t : Shape) (ps : Pairs) → bytes_eq k l ≡ false → ArePermuted (pair k s (pair l t ps)) (pair l t (pair k s ps))
    chained : (ps qs rs : Pairs) → ArePermuted ps qs → ArePermuted qs rs → ArePermuted ps rs
