use Rattle.std.proofs.Common.{◌-◌, arith}
use Rattle.std.proofs.Math.Nat.{one-le-pow}
use Rattle.addr_text.proofs.Powers.{fields_fit, fields_behind}
use Rattle.addr_text.proofs.v6.placed.Goals as goal

pub pow-requires : goal.pow-requires
pow-requires c = fields_behind c.args.front.count c.requires.count c.if-front-eq0.false

pub overflow_mul-result : goal.overflow_mul-result
overflow_mul-result c = let e = fields_fit c.args.front.count c.args.front.bits c.requires.count c.requires.within in rw c.pow.ensures (omega (arith, e, one-le-pow (8 - c.args.front.count) 65536 (omega arith)))

pub returns-else-front-eq0-clause-bound : goal.returns-else-front-eq0-clause-bound
returns-else-front-eq0-clause-bound c = rw c.pow.ensures (fields_fit c.args.front.count c.args.front.bits c.requires.count c.requires.within)
