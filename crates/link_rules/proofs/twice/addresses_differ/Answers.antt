use Rattle.std.proofs.Common.{IsPermutation, ap, subst, ◌∙◌}
use Rattle.net_model.specs.Words.{steps_up}
use Rattle.link_rules.specs.Rules.{by_address}
use Rattle.link_rules.proofs.Apart.{differ_sorted}
use Rattle.link_rules.proofs.twice.addresses_differ.Goals as goal

pub returns : goal.returns
returns c =
    c.step_up.ensures
    ∙ ap (steps_up by_address) c.deref.ensures.value
    ∙ differ_sorted c.args.addrs.now c.sort_by_address.new.addrs.items
    (subst (λ xs. IsPermutation xs c.sort_by_address.new.addrs.items) c.in_ok-sorted.ensures c.in_ok-sort_by_address.ensures.moved)
    c.in_ok-sort_by_address.ensures.sorted
