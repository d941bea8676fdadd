use Rattle.std.proofs.Common.{◌≡◌, ◌+◌, ◌*◌, ◌-◌, [], map}
use Rattle.doc_tree.specs.Shape.{shape, pair_shape}
use Rattle.yaml_read.specs.Flow.{flow_items, flow_pairs, flow}
use Rattle.yaml_read.proofs.Fronts.{behind_front}
use Rattle.yaml_read.proofs.flow.+flow.Given as goal

abbrev pub decreases-flow : goal.decreases-flow
decreases-flow l = 3 * l.levels

abbrev pub decreases-flow_value : goal.decreases-flow_value
decreases-flow_value l = 3 * l.levels + 1

abbrev pub decreases-flow_items : goal.decreases-flow_items
decreases-flow_items l = 3 * l.levels + 2

abbrev pub decreases-flow_pairs : goal.decreases-flow_pairs
decreases-flow_pairs l = 3 * l.levels + 2

abbrev pub invariant-flow_items-loop-turn : goal.invariant-flow_items-loop-turn
invariant-flow_items-loop-turn l =
    behind_front (map shape l.items.items) (flow_items l.repeats l.levels (flow l.repeats l.levels) (l.turns - l._turn) l.rest)
    ≡ flow_items l.repeats l.levels (flow l.repeats l.levels) l.turns l.text

abbrev pub invariant-flow_pairs-loop-turn : goal.invariant-flow_pairs-loop-turn
invariant-flow_pairs-loop-turn l =
    behind_front (map pair_shape l.entries) (flow_pairs l.repeats l.levels (flow l.repeats l.levels) (l.turns - l._turn) (map (λ p. p.0) l.entries) l.rest)
    ≡ flow_pairs l.repeats l.levels (flow l.repeats l.levels) l.turns [] l.text
