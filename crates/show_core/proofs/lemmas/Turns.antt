-- The turns of a loop that pushes the trees of a list's items, or of those that pass a test.
use Rattle.std.proofs.Common.{◌≡◌, ◌∙◌, ◌<◌, ◌+◌, ℕ, List, [], ◌∷◌, ◌++◌, length, get_or, take, map, Bool, true, false, cond, sym, ap}
use Rattle.std.specs.List.{filter}
use Rattle.std.proofs.lemmas.List.{append-nil, map_push, take_more}
use Rattle.std.proofs.lemmas.List.Elements.{filter_more}
use Rattle.doc_tree.specs.Shape.{Shape, shape}
use Rattle.doc_tree.specs.declared.tree.Tree.{Tree}

module _ {X : Type 0} (tree : X → Shape) where
  -- one more tree, for one more item
  pushed : (xs ys : List X) (x : X) (before after : List Tree) (t : Tree) → ys ≡ xs ++ x ∷ [] → shape t ≡ tree x → map shape before ≡ map tree xs → after ≡ before ++ t ∷ [] → map shape after ≡ map tree ys
  pushed xs ys x before after t more is held push =
      ap (map shape) push ∙ map_push shape before t ∙ (λ k. held k ++ is k ∷ []) ∙ sym (map_push tree xs x) ∙ sym (ap (map tree) more)

  module _ (xs : List X) (i : ℕ) (x : X) (lt : i < length xs) (at : x ≡ get_or xs i x) (before : List Tree) where
    -- a turn that pushes the item's tree
    pub turn : (after : List Tree) (t : Tree) → shape t ≡ tree x → map shape before ≡ map tree (take i xs) → after ≡ before ++ t ∷ [] → map shape after ≡ map tree (take (i + 1) xs)
    turn after t = pushed (take i xs) (take (i + 1) xs) x before after t (take_more xs i x lt ∙ ap (λ (y : X). take i xs ++ y ∷ []) (sym at))

    module _ (p : X → Bool) where
      kept : (b : Bool) → p x ≡ b → filter p (take (i + 1) xs) ≡ filter p (take i xs) ++ cond b (x ∷ []) []
      kept b is = filter_more p xs i x lt ∙ ap (λ (y : X). filter p (take i xs) ++ cond (p y) (y ∷ []) []) (sym at) ∙ ap (λ (c : Bool). filter p (take i xs) ++ cond c (x ∷ []) []) is

      -- a turn that pushes the tree of an item that passes
      pub turn_where : p x ≡ true → (after : List Tree) (t : Tree) → shape t ≡ tree x → map shape before ≡ map tree (filter p (take i xs)) → after ≡ before ++ t ∷ [] → map shape after ≡ map tree (filter p (take (i + 1) xs))
      turn_where passes after t = pushed (filter p (take i xs)) (filter p (take (i + 1) xs)) x before after t (kept true passes)

      -- a turn that passes over an item
      pub turn_past : p x ≡ false → map shape before ≡ map tree (filter p (take i xs)) → map shape before ≡ map tree (filter p (take (i + 1) xs))
      turn_past fails held = held ∙ sym (ap (map tree) (kept false fails ∙ append-nil (filter p (take i xs))))
