use Rattle.std.proofs.Common.{subst, ◌∙◌, IsPermutation}
use Rattle.net_model.specs.Order.{block_cmp}
use Rattle.net_model.specs.OrderLaws.{block_cmp_total}
use Rattle.net_model.proofs.lemmas.Rises.{Climbs-sorted}
use Rattle.net_model.proofs.lemmas.Sorting.{exact_sorted}
use Rattle.net_model.proofs.lemmas.Exact.{exact_blocks}
use Rattle.net_core.proofs.sorting.sorted_addresses.Goals as goal

pub returns : goal.returns
returns c =
    c.of.ensures
    ∙ exact_sorted block_cmp block_cmp_total exact_blocks c.args.addrs c.sort_addresses.new.addrs.items
    (subst (λ xs. IsPermutation xs c.sort_addresses.new.addrs.items) c.into_vec-addrs.ensures c.in_ok-sort_addresses.ensures.moved)
    (Climbs-sorted block_cmp block_cmp_total c.sort_addresses.new.addrs.items c.in_ok-sort_addresses.ensures.sorted)
