-- Every tree has a level and a node.
use Rattle.std.proofs.Common.{◌≡◌, ◌<◌, ℕ, false, None, refl, arith}
use Rattle.std.specs.Prelude.{nat_le}
use Rattle.std.proofs.lemmas.Bool.{lt-leb}
use Rattle.doc_tree.specs.Shape.{Shape, nothing, truth, whole, text, list, mapping, levels}
use Rattle.policy_model.specs.Values.{nodes}
use Rattle.policy_values.specs.Sizes.{left_behind}

has_level : (s : Shape) → 0 < levels s
has_level nothing = omega arith
has_level (truth b) = omega arith
has_level (whole z) = omega arith
has_level (text t) = omega arith
has_level (list ss) = omega arith
has_level (mapping ps) = omega arith

has_node : (s : Shape) → 0 < nodes s
has_node nothing = omega arith
has_node (truth b) = omega arith
has_node (whole z) = omega arith
has_node (text t) = omega arith
has_node (list ss) = omega arith
has_node (mapping ps) = omega arith

-- no tree fits no room ..
pub no_room : (room : ℕ) (s : Shape) → room ≡ 0 → false ≡ nat_le (levels s) room
no_room room s none = let more = has_level s in rw (lt-leb (levels s) room (omega arith)) refl

-- .. nor no nodes
pub none_left : (left : ℕ) (s : Shape) → left ≡ 0 → None ≡ left_behind left (nodes s)
none_left left s none = let more = has_node s in rw (lt-leb (nodes s) left (omega arith)) refl
