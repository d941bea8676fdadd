use Rattle.std.proofs.Common.{◌≡◌, map}
use Rattle.doc_tree.specs.Shape.{shape}
use Rattle.policy_values.specs.Tables.{was_ready, tables, seen}
use Rattle.policy_values.proofs.values.capture_values.Given as goal

abbrev pub invariant-loop-pass : goal.invariant-loop-pass
invariant-loop-pass l = record {
  known : seen l.values.items ≡ tables l.captures (shape l.running) l._pass;
  done : l.done.items ≡ map (was_ready l.captures (shape l.running) l._pass) l.captures;
}
