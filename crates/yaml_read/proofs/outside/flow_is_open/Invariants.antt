use Rattle.std.proofs.Common.{◌≡◌, ◌≤◌, ◌-◌, true, false}
use Rattle.yaml_read.specs.Outside.{flow_is_open}
use Rattle.yaml_read.proofs.outside.flow_is_open.Given as goal

abbrev pub invariant-loop-turn : goal.invariant-loop-turn
invariant-loop-turn l = record {
  within : l.depth ≤ l._turn;
  so_far : flow_is_open (l.turns - l._turn) l.depth l.fresh l.spaced l.rest ≡ flow_is_open l.turns 0 true false l.text;
}
