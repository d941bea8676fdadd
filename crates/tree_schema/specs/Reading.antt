-- What the reading of a tree gives: a value, with the places of what was read over on the way; or the first refusal.
use Rattle.std.specs.Prelude.{ℕ, suc, List, [], ◌∷◌, ◌++◌, map, Option, Some, Result, Ok, Err}
use Rattle.std.specs.List.{cons_option}
use Rattle.base_model.specs.declared.PathStep.{PathStep}
use Rattle.base_model.specs.declared.PathStep.TheVariants.{At}
use Rattle.doc_tree.specs.Shape.{Shape, list, Shapes, no_shapes, more}
use Rattle.tree_schema.specs.declared.fault.Reason.{Reason}
use Rattle.tree_schema.specs.declared.fault.Reason.TheVariants.{WrongType}

-- The steps from the node that is read to a place in it. A node doesn't know where it stands itself.
abbrev pub Steps : Type 0
Steps = List PathStep

abbrev pub Reading : Type 0 → Type 0
Reading X = Result (X × List Steps) (Reason × Steps)

-- the value, and nothing was read over
abbrev pub given : {X : Type 0} → X → Reading X
given x = Ok (x, [])

-- the value, and the node was read over
abbrev pub given_over : {X : Type 0} → X → Reading X
given_over x = Ok (x, [] ∷ [])

-- the node is refused
abbrev pub refuse : {X : Type 0} → Reason → Reading X
refuse reason = Err (reason, [])

-- a value that is looked at as a whole
abbrev pub at_once : {X : Type 0} → Result X Reason → Reading X
at_once (Ok x) = given x
at_once (Err reason) = refuse reason

-- the same, seen from one step above
abbrev pub below : {X : Type 0} → PathStep → Reading X → Reading X
below step (Ok (x, notes)) = Ok (x, map (λ (place : Steps). step ∷ place) notes)
below step (Err (reason, place)) = Err (reason, step ∷ place)

-- the same of another value
abbrev pub with_value : {X Y : Type 0} → (X → Y) → Reading X → Reading Y
with_value f (Ok (x, notes)) = Ok (f x, notes)
with_value f (Err refusal) = Err refusal

-- these notes, and then those of the reading
abbrev pub after : {X : Type 0} → List Steps → Reading X → Reading X
after notes (Ok (x, further)) = Ok (x, notes ++ further)
after notes (Err refusal) = Err refusal

-- one reading, and after it the next; the first refusal is the answer
abbrev pub and_then : {X Y : Type 0} → Reading X → (X → Reading Y) → Reading Y
and_then (Ok (x, notes)) next = after notes (next x)
and_then (Err refusal) next = Err refusal

-- ---- lists

-- the items one after another, each below its position, of which the first is i; one that gives nothing is dropped
abbrev pub read_items : {X : Type 0} → (Shape → Reading (Option X)) → ℕ → Shapes → Reading (List X)
read_items read i no_shapes = given []
read_items read i (more s ss) = and_then (below (At i) (read s)) (λ x. with_value (cons_option x) (read_items read (suc i) ss))

abbrev pub read_list : {X : Type 0} → (Shape → Reading (Option X)) → Shape → Reading (List X)
read_list read (list ss) = read_items read 0 ss
read_list read _ = refuse WrongType

-- an item that is looked at as a whole
abbrev pub item : {X : Type 0} → (Shape → Result X Reason) → Shape → Reading (Option X)
item look s = with_value Some (at_once (look s))
