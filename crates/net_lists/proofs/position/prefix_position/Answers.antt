use Rattle.std.proofs.Common.{arith}
use Rattle.std.proofs.lemmas.List.Sorted.{searchable_from_sorted}
use Rattle.net_model.specs.Address.{Block}
use Rattle.net_model.specs.Order.{block_cmp}
use Rattle.net_model.specs.OrderLaws.{block_cmp_total}
use Rattle.net_model.specs.Valid.{same_block}
use Rattle.net_model.proofs.lemmas.Rises.{sorted-rises, apart-rises}
use Rattle.net_model.proofs.lemmas.Ties.{blocks_tie}
use Rattle.net_model.proofs.lemmas.Places.{stands, gap}
use Rattle.net_lists.proofs.position.prefix_position.Goals as goal

pub returns-in-Ok : goal.returns-in-Ok
returns-in-Ok c =
    let k : Block = c.args.prefix.now in
    stands same_block block_cmp block_cmp_total blocks_tie k c.args.addrs.now (apart-rises same_block block_cmp blocks_tie c.args.addrs.now c.requires) c.in-Ok.i (omega (arith, c.in-Ok.ensures.bound)) c.in-Ok.ensures.position

pub returns-in-Err : goal.returns-in-Err
returns-in-Err c =
    let k : Block = c.args.prefix.now in
    gap same_block block_cmp block_cmp_total blocks_tie k block_cmp (λ y h. h) (λ y h. h) c.args.addrs.now c.in-Err.i c.in-Err.ensures.bound (c.in-Err.ensures.position (searchable_from_sorted block_cmp_total (λ (b : Block). b) c.args.addrs.now k (sorted-rises block_cmp block_cmp_total c.args.addrs.now c.requires)))
