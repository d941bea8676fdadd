use Rattle.std.proofs.Common.{◌≡◌, ◌+◌, ◌*◌, ◌-◌, [], map}
use Rattle.doc_tree.specs.Shape.{shape, pair_shape}
use Rattle.yaml_read.specs.Reading.{items, pairs, node}
use Rattle.yaml_read.specs.Seen.{all_seen}
use Rattle.yaml_read.proofs.Fronts.{behind_front}
use Rattle.yaml_read.proofs.reader.+reader.Given as goal

abbrev pub decreases-node : goal.decreases-node
decreases-node l = 3 * l.levels

abbrev pub decreases-value_of : goal.decreases-value_of
decreases-value_of l = 3 * l.levels + 1

abbrev pub decreases-items : goal.decreases-items
decreases-items l = 3 * l.levels + 2

abbrev pub decreases-pairs : goal.decreases-pairs
decreases-pairs l = 3 * l.levels + 2

abbrev pub invariant-items-loop-turn : goal.invariant-items-loop-turn
invariant-items-loop-turn l =
    behind_front (map shape l.items.items) (items l.levels (node l.levels) (l.turns - l._turn) l.column (all_seen l.rest))
    ≡ items l.levels (node l.levels) l.turns l.column (all_seen l.rows)

abbrev pub invariant-pairs-loop-turn : goal.invariant-pairs-loop-turn
invariant-pairs-loop-turn l =
    behind_front (map pair_shape l.entries) (pairs l.levels (node l.levels) (l.turns - l._turn) l.column (map (λ p. p.0) l.entries) (all_seen l.rest))
    ≡ pairs l.levels (node l.levels) l.turns l.column [] (all_seen l.rows)
