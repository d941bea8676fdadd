use Rattle.std.proofs.Common.{arith, rules, refl, ◌≡◌, ◌<◌, ◌≤◌, List, length, get_or, sym, ap, subst, ◌∙◌}
use Rattle.net_model.specs.Address.{Block}
use Rattle.net_model.specs.Valid.{same_block}
use Rattle.link_planner.specs.Drafts.{DraftData}
use Rattle.plan_core.specs.Parts.{HasAddress}
use Rattle.plan_core.proofs.Exact.{one_block, block_itself}
use Rattle.plan_core.proofs.Places.{item_there}
use Rattle.plan_core.proofs.Stepping.{OfFirst, no_call_on, on_safe, next_on, all_on}
use Rattle.plan_core.proofs.put_on.add_addresses_of.Goals as goal

pub loop-addr-init : goal.loop-addr-init
loop-addr-init c = no_call_on (OfFirst same_block (λ (e : DraftData). HasAddress e.net c.args.there.now.name) (λ (e : DraftData). c.args.there.now.addrs) 0) c.args.draft.now c.requires.within (λ y among. absurd cc)

pub add_some-requires : goal.add_some-requires
add_some-requires c = on_safe (λ e. (λ (e : DraftData). HasAddress e.net c.args.there.now.name) e c.addr-item.result) c.loop-addr.draft c.address_on-call.result c.address_on-call.ensures

pub loop-addr-preserved : goal.loop-addr-preserved
loop-addr-preserved c =
    let list : c.deref-addr-items.result.now ≡ c.args.there.now.addrs = search rules in
    let before : c.loop-addr.addr-index < length c.deref-addr-items.result.now = omega arith in
    rw c.in_ok-add_some.ensures (next_on same_block one_block block_itself (λ (e : DraftData). HasAddress e.net c.args.there.now.name) (λ (e : DraftData). c.args.there.now.addrs) (λ m a b advances. refl) (λ a b advances part y h. part.addrs c.args.there.now.name y h) c.args.draft.now c.loop-addr.draft c.loop-addr.addr-index c.addr-item.result (subst (λ (xs : List Block). c.loop-addr.addr-index < length xs) list before) (c.addr-item.is ∙ ap (λ (xs : List Block). get_or xs c.loop-addr.addr-index c.addr-item.result) list) c.loop-addr.invariant c.address_on-call.result c.address_on-call.ensures)

pub returns : goal.returns
returns c =
    let list : c.deref-addr-items.result.now ≡ c.args.there.now.addrs = search rules in
    all_on same_block one_block block_itself (λ (e : DraftData). HasAddress e.net c.args.there.now.name) (λ (e : DraftData). c.args.there.now.addrs) (λ m a b advances. refl) c.args.draft.now c.loop-addr.draft c.loop-addr.addr-index (subst (λ (xs : List Block). length xs ≤ c.loop-addr.addr-index) list c.loop-addr-test.false) (subst (λ (xs : List Block). c.loop-addr.addr-index ≤ length xs) list (omega arith)) c.loop-addr.invariant

pub address_on-call-requires-clause-there : goal.address_on-call-requires-clause-there
address_on-call-requires-clause-there c =
    let list : c.deref-addr-items.result.now ≡ c.args.there.now.addrs = search rules in
    let before : c.loop-addr.addr-index < length c.deref-addr-items.result.now = omega arith in
    subst (λ t. HasAddress t c.args.there.now.name c.addr-item.result) (sym c.loop-addr.invariant.advances.target) (c.requires.there c.addr-item.result (item_there same_block block_itself c.args.there.now.addrs c.loop-addr.addr-index c.addr-item.result (subst (λ (xs : List Block). c.loop-addr.addr-index < length xs) list before) (c.addr-item.is ∙ ap (λ (xs : List Block). get_or xs c.loop-addr.addr-index c.addr-item.result) list)))
