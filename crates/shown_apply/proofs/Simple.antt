-- Maps and lists of simple trees are simple.
use Rattle.std.proofs.Common.{◌≡◌, ◌<◌, ◌^◌, ℕ, List, [], ◌∷◌, ◌++◌, map, Bool, true, false, Option, Some, None, IfSome}
use Rattle.std.specs.List.{All}
use Rattle.std.proofs.lemmas.List.Elements.{All-head, All-tail}
use Rattle.doc_tree.specs.Shape.{Shape, shapes_of, pairs_of}
use Rattle.show_core.specs.Fields.{Fields, field, field_of, fields_if, number}
use Rattle.shown_apply.proofs.Low.{low, IsSimple, AreSimple, HasSimple}

-- a number of 32 bits
pub narrow : (m : ℕ) → m < 2 ^ 32 → IsSimple (number m)
narrow m lt = lt

-- keys of ASCII, and simple trees under them
pub record SimpleFields (fs : Fields) : Type 0 where
  pub simple : HasSimple (pairs_of fs)

-- a pair
pub field_simple : (k : List ℕ) (s : Shape) → low k ≡ true → IsSimple s → SimpleFields (field k s)
field_simple k s named is = record { simple = (named, is, tt) }

-- a pair where there is something, else none
pub field_of_simple : {X : Type 0} (k : List ℕ) (tree : X → Shape) (P : X → Type 0) (o : Option X) → low k ≡ true → IfSome o P → ((x : X) → P x → IsSimple (tree x)) → SimpleFields (field_of k tree o)
field_of_simple k tree P None named has is = record { simple = tt }
field_of_simple k tree P (Some x) named has is = record { simple = (named, is x has, tt) }

-- pairs where the test is true, else none
pub fields_if_simple : {fs : Fields} (b : Bool) → SimpleFields fs → SimpleFields (fields_if b fs)
fields_if_simple true all = all
fields_if_simple false all = record { simple = tt }

joined : (fs gs : Fields) → HasSimple (pairs_of fs) → HasSimple (pairs_of gs) → HasSimple (pairs_of (fs ++ gs))
joined [] gs first next = next
joined (p ∷ fs) gs first next = (first.0, first.1, joined fs gs first.2 next)

-- pairs, and then more of them
pub fields_then : {fs gs : Fields} → SimpleFields fs → SimpleFields gs → SimpleFields (fs ++ gs)
fields_then {fs} {gs} first next = record { simple = joined fs gs first.simple next.simple }

-- the trees of a list's items
pub each_simple : {X : Type 0} (tree : X → Shape) (xs : List X) → All (λ x. IsSimple (tree x)) xs → AreSimple (shapes_of (map tree xs))
each_simple tree [] all = tt
each_simple tree (x ∷ xs) all = (All-head (λ y. IsSimple (tree y)) x xs all, each_simple tree xs (All-tail (λ y. IsSimple (tree y)) x xs all))
