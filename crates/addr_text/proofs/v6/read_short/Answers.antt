use Rattle.std.proofs.Common.{◌≤◌, ◌-◌, ◌^◌, arith}
use Rattle.std.proofs.Math.Nat.{pow-le-pow_right}
use Rattle.addr_text.proofs.v6.read_short.Goals as goal

pub overflow_add-result : goal.overflow_add-result
overflow_add-result c =
    let front = c.in_ok-front.front in
    let back = c.in_ok-back.back in
    let below : back.count ≤ 8 - front.count = omega arith in
    let room : 65536 ^ back.count ≤ 65536 ^ (8 - front.count) = pow-le-pow_right (omega arith) below in
    omega (arith, room, c.placed.ensures.bound, c.in_ok-back.ensures.within)
