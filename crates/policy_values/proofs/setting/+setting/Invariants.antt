use Rattle.std.proofs.Common.{◌≡◌, ◌≤◌, ℕ, get_or, map, length}
use Rattle.doc_tree.specs.Shape.{shape, shapes_of}
use Rattle.doc_tree.specs.declared.Tree.{Tree}
use Rattle.policy_model.specs.Steps.{set_each}
use Rattle.policy_values.proofs.InPlace.{half_set}
use Rattle.policy_values.proofs.setting.+setting.Given as goal

abbrev pub invariant-set_each-loop-i : goal.invariant-set_each-loop-i
invariant-set_each-loop-i l = record {
  whole : length l.trees.items ≡ length l.initial.trees.items;
  ahead : (k : ℕ) (d : Tree) → l.i ≤ k → get_or l.trees.items k d ≡ get_or l.initial.trees.items k d;
  made : half_set l.value l.path l.trees.items l.i ≡ set_each l.value l.path (shapes_of (map shape l.initial.trees.items));
}
