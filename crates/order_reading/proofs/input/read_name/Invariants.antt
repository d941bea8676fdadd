use Rattle.std.proofs.Common.{◌-◌, vec_len}
use Rattle.top_model.specs.Orders.{read_limit}
use Rattle.order_reading.proofs.Inputs.{Reading}
use Rattle.order_reading.proofs.input.read_name.Given as goal

abbrev pub invariant-loop-bytes : goal.invariant-loop-bytes
invariant-loop-bytes g l = Reading g.S.Source.tells (g.S.Source.told l.initial.src) (g.S.Source.told l.src) l.bytes.items

abbrev pub decreases-loop-bytes : goal.decreases-loop-bytes
decreases-loop-bytes g l = read_limit - vec_len l.bytes
