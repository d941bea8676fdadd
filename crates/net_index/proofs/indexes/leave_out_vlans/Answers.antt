use Rattle.std.proofs.Common.{◌∙◌, ◌<◌, ℕ, List, not, length, take, ap, sym, arith}
use Rattle.net_model.specs.Words.{rises, is_among}
use Rattle.net_model.specs.Order.{name_cmp}
use Rattle.net_index.specs.InIndex.{listed}
use Rattle.net_model.specs.OfName.{over}
use Rattle.net_model.proofs.lemmas.ListChanges.{all_kept, none_kept, left_out_more}
use Rattle.net_model.proofs.lemmas.Parts.{rises_filter}
use Rattle.net_lists.proofs.lemmas.LinkLists.{over_rise}
use Rattle.net_index.proofs.indexes.leave_out_vlans.Goals as goal

pub loop-at-init : goal.loop-at-init
loop-at-init c = λ k. c.requires.lists k ∙ sym (all_kept (over c.args.links.now k))

pub leave_out_vlan-requires-clause-lists : goal.leave_out_vlan-requires-clause-lists
leave_out_vlan-requires-clause-lists c = λ k.
    ap (rises name_cmp) (c.loop-at.invariant k)
    ∙ rises_filter name_cmp (λ n. not (is_among (take c.loop-at.at c.args.goes.now) n)) (over c.args.links.now k) (over_rise c.args.links.now k c.requires.in_order)

pub leave_out_vlan-requires-clause-within : goal.leave_out_vlan-requires-clause-within
leave_out_vlan-requires-clause-within c = λ k none.
    let name : List ℕ = c.index-goes-at.result in
    ap (λ (ns : List (List ℕ)). is_among ns name) (c.loop-at.invariant k) ∙ none_kept (λ n. not (is_among (take c.loop-at.at c.args.goes.now) n)) name (over c.args.links.now k) none

pub loop-at-preserved : goal.loop-at-preserved
loop-at-preserved c =
    let inside : c.loop-at.at < length c.args.goes.now = omega (arith, c.loop-at-test.true, c.loop-at.auto.at-end) in
    left_out_more c.args.goes.now c.loop-at.at c.index-goes-at.result (over c.args.links.now) (listed c.loop-at.index) (listed c.leave_out_vlan.new.index) inside c.index-goes-at.is c.loop-at.invariant c.leave_out_vlan.ensures
