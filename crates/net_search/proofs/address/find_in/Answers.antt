use Rattle.std.proofs.Common.{rules, ap, sym, ◌∙◌, Some, arith}
use Rattle.std.proofs.lemmas.Fn.{always_returns_same}
use Rattle.std.proofs.lemmas.List.Sorted.{searchable_from_sorted}
use Rattle.net_model.specs.Address.{Block, block}
use Rattle.net_model.specs.Order.{address_cmp, block_cmp}
use Rattle.net_model.specs.Valid.{same_address}
use Rattle.net_model.proofs.lemmas.Rises.{sorted_by-rises}
use Rattle.net_model.proofs.lemmas.Search.{found_first, none_found}
use Rattle.net_model.proofs.lemmas.Ties.{addresses_tie, by_address, by_address_total, address_not_back}
use Rattle.net_search.proofs.address.find_in.Goals as goal

pub returns-in-Ok : goal.returns-in-Ok
returns-in-Ok c =
    let at = c.in-Ok.ensures.position (λ (b : Block). address_cmp b.addr c.args.addr) (always_returns_same _ _ _ (λ a r after called. search rules)) in
    ap Some c.index-prefixes-i.is ∙ found_first (λ (a b : Block). same_address a.addr b.addr) by_address by_address_total (λ a b. addresses_tie a.addr b.addr) (block c.args.addr 0) c.args.prefixes.now c.in-Ok.i c.index-prefixes-i.result c.requires.differ (omega (arith, c.in-Ok.ensures.bound)) (at c.index-prefixes-i.result)

pub returns-in-Err : goal.returns-in-Err
returns-in-Err c =
    let at = c.in-Err.ensures.position (λ (b : Block). address_cmp b.addr c.args.addr) (always_returns_same _ _ _ (λ a r after called. search rules)) in
    sym (none_found (λ (a b : Block). same_address a.addr b.addr) by_address by_address_total (λ a b. addresses_tie a.addr b.addr) (block c.args.addr 0) c.args.prefixes.now c.in-Err.field-0 (at (searchable_from_sorted by_address_total (λ (b : Block). b) c.args.prefixes.now (block c.args.addr 0) (sorted_by-rises block_cmp by_address address_not_back c.args.prefixes.now c.requires.in_order))))
