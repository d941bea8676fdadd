-- Addresses that differ, in order.
use Rattle.std.proofs.Common.{rules, ◌≡◌, List, Ordering, Less, Equal, Greater, sym, ap, ◌∙◌, IsPermutation}
use Rattle.std.specs.List.Sorted.{IsSortedBy}
use Rattle.std.specs.Ordering.{is_lt, is_eq, ordering_reverse}
use Rattle.std.specs.Cmp.{IsTotalOrder}
use Rattle.std.specs.Cmp.Rules.{comparing}
use Rattle.net_model.specs.Address.{Block}
use Rattle.net_model.specs.Words.{steps_up}
use Rattle.net_model.specs.Order.{address_cmp}
use Rattle.net_model.specs.Valid.{same_address, addresses_differ}
use Rattle.net_model.proofs.lemmas.Orders.{address_cmp_total}
use Rattle.net_model.proofs.lemmas.Ties.{addresses_tie}
use Rattle.net_model.proofs.lemmas.Rises.{apart-steps}
use Rattle.net_model.proofs.lemmas.Permute.{apart-IsPermutation}
use Rattle.link_rules.specs.Rules.{by_address}

by_address_total : IsTotalOrder by_address
by_address_total = search (comparing, rules, address_cmp_total)

turned : (r s : Ordering) → r ≡ ordering_reverse s → is_eq r ≡ is_eq s
turned r Less e = ap is_eq e
turned r Equal e = ap is_eq e
turned r Greater e = ap is_eq e

-- sorted by address, they differ where each is before the next
pub differ_sorted : (xs ys : List Block) → IsPermutation xs ys → IsSortedBy (λ x y. is_lt (by_address x y)) ys → steps_up by_address ys ≡ addresses_differ xs
differ_sorted xs ys moved up =
    sym (apart-steps (λ (a b : Block). same_address a.addr b.addr) by_address by_address_total (λ a b. addresses_tie a.addr b.addr) ys up)
    ∙ sym (apart-IsPermutation (λ (a b : Block). same_address a.addr b.addr) (λ a b. addresses_tie a.addr b.addr ∙ turned (address_cmp a.addr b.addr) (address_cmp b.addr a.addr) (address_cmp_total.antisymm a.addr b.addr) ∙ sym (addresses_tie b.addr a.addr)) xs ys moved)
