use Rattle.std.proofs.Common.{arith}
use Rattle.net_image.proofs.Coding.{by_latest, first_net, first_damaged}
use Rattle.net_image.proofs.Images.{found, found_in}
use Rattle.net_image.proofs.image.decode.Goals as goal

pub returns-in-Ok-clause-net : goal.returns-in-Ok-clause-net
returns-in-Ok-clause-net c = by_latest c.args.bytes.now c.in-Ok.net c.in-Ok.ensures

pub returns-in-Ok-clause-image : goal.returns-in-Ok-clause-image
returns-in-Ok-clause-image c = found c.args.bytes.now c.in-Ok.net (λ i. omega (arith, c.type_inv.bytes i)) (by_latest c.args.bytes.now c.in-Ok.net c.in-Ok.ensures)

pub returns-in-Err-Damaged-clause-net : goal.returns-in-Err-Damaged-clause-net
returns-in-Err-Damaged-clause-net c = first_net c.args.bytes.now (rw c.in-Err-Damaged.field-0-is at c.in-Err-Damaged.ensures) c.first.result c.first.ensures

pub returns-in-Err-Damaged-clause-image : goal.returns-in-Err-Damaged-clause-image
returns-in-Err-Damaged-clause-image c =
    found_in c.args.bytes.now (λ i. omega (arith, c.type_inv.bytes i)) c.first.result (first_net c.args.bytes.now (rw c.in-Err-Damaged.field-0-is at c.in-Err-Damaged.ensures) c.first.result c.first.ensures)

pub returns-in-Err-Damaged-clause-damaged : goal.returns-in-Err-Damaged-clause-damaged
returns-in-Err-Damaged-clause-damaged c = first_damaged c.args.bytes.now (rw c.in-Err-Damaged.field-0-is at c.in-Err-Damaged.ensures) c.first.result c.first.ensures
