use Rattle.std.proofs.Common.{rules, ap, arith}
use Rattle.std.specs.Ordering.{nat_cmp, ordering_then}
use Rattle.std.proofs.lemmas.Fn.{always_returns_same}
use Rattle.std.proofs.lemmas.List.Sorted.{searchable_from_sorted}
use Rattle.net_model.specs.Address.{Block}
use Rattle.net_model.specs.Order.{address_cmp, block_cmp}
use Rattle.net_model.specs.Valid.{same_address}
use Rattle.net_model.proofs.lemmas.Ties.{addresses_tie, by_address, by_address_total, address_not_back}
use Rattle.net_model.proofs.lemmas.Rises.{sorted_by-rises}
use Rattle.net_model.proofs.lemmas.Places.{stands, gap}
use Rattle.net_lists.proofs.position.address_position.Goals as goal

pub returns-in-Ok : goal.returns-in-Ok
returns-in-Ok c =
    let k : Block = c.args.prefix.now in
    let at = c.in-Ok.ensures.position (λ (b : Block). address_cmp b.addr k.addr) (always_returns_same _ _ _ (λ a r after called. search rules)) in
    stands (λ (a b : Block). same_address a.addr b.addr) by_address by_address_total (λ a b. addresses_tie a.addr b.addr) k c.args.addrs.now c.requires.differ c.in-Ok.i (omega (arith, c.in-Ok.ensures.bound)) at

pub returns-in-Err : goal.returns-in-Err
returns-in-Err c =
    let k : Block = c.args.prefix.now in
    let at = c.in-Err.ensures.position (λ (b : Block). address_cmp b.addr k.addr) (always_returns_same _ _ _ (λ a r after called. search rules)) in
    gap (λ (a b : Block). same_address a.addr b.addr) by_address by_address_total (λ a b. addresses_tie a.addr b.addr) k block_cmp
    (λ y h. ap (λ r. ordering_then r (nat_cmp y.len k.len)) h) (λ y h. ap (λ r. ordering_then r (nat_cmp y.len k.len)) h)
    c.args.addrs.now c.in-Err.i c.in-Err.ensures.bound (at (searchable_from_sorted by_address_total (λ (b : Block). b) c.args.addrs.now k (sorted_by-rises block_cmp by_address address_not_back c.args.addrs.now c.requires.in_order)))
