use Rattle.std.proofs.Common.{◌≡◌, ℕ, length}
use Rattle.doc_tree.specs.Shape.{shape}
use Rattle.policy_values.specs.Tables.{tables, halfway, AreReady, seen}
use Rattle.policy_values.proofs.values.pass.Given as goal

abbrev pub invariant-loop-i : goal.invariant-loop-i
invariant-loop-i l = record {
  whole : length l.values.items ≡ length l.captures;
  half : (n : ℕ) → AreReady l.captures (shape l.running) n l.done l.ready → seen l.initial.values.items ≡ tables l.captures (shape l.running) n
      → seen l.values.items ≡ halfway l.captures (shape l.running) n l.i;
}
