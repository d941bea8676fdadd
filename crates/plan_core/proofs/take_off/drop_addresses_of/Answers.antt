use Rattle.std.proofs.Common.{arith, rules, refl, ◌≡◌, ◌<◌, ◌≤◌, List, length, get_or, sym, ap, subst, ◌∙◌}
use Rattle.net_model.specs.Address.{Block}
use Rattle.net_model.specs.Valid.{same_block}
use Rattle.link_planner.specs.Drafts.{DraftData}
use Rattle.plan_core.specs.Parts.{HasAddress, AddressFits}
use Rattle.plan_core.proofs.Exact.{one_block, block_itself}
use Rattle.plan_core.proofs.Stepping.{OfFirst, no_call_off, off_safe, next_off, all_off}
use Rattle.plan_core.proofs.take_off.drop_addresses_of.Goals as goal

pub loop-addr-init : goal.loop-addr-init
loop-addr-init c = no_call_off (OfFirst same_block (λ (e : DraftData). AddressFits e.target e.net c.args.link.now.name) (λ (e : DraftData). c.args.link.now.addrs) 0) c.args.draft.now (λ y among. absurd cc)

pub add_some-requires : goal.add_some-requires
add_some-requires c = off_safe (λ e. (λ (e : DraftData). AddressFits e.target e.net c.args.link.now.name) e c.addr-item.result) c.loop-addr.draft c.address_off-call.result c.address_off-call.ensures

pub loop-addr-preserved : goal.loop-addr-preserved
loop-addr-preserved c =
    let list : c.deref-addr-items.result.now ≡ c.args.link.now.addrs = search rules in
    let before : c.loop-addr.addr-index < length c.deref-addr-items.result.now = omega arith in
    rw c.in_ok-add_some.ensures (next_off same_block one_block block_itself (λ (e : DraftData). AddressFits e.target e.net c.args.link.now.name) (λ (e : DraftData). c.args.link.now.addrs) (λ m a b advances. refl) (λ a b advances part y h has. subst (λ t. HasAddress t c.args.link.now.name y) (sym advances.target) (h (part.addrs c.args.link.now.name y has))) c.args.draft.now c.loop-addr.draft c.loop-addr.addr-index c.addr-item.result (subst (λ (xs : List Block). c.loop-addr.addr-index < length xs) list before) (c.addr-item.is ∙ ap (λ (xs : List Block). get_or xs c.loop-addr.addr-index c.addr-item.result) list) c.loop-addr.invariant c.address_off-call.result c.address_off-call.ensures)

pub returns : goal.returns
returns c =
    let list : c.deref-addr-items.result.now ≡ c.args.link.now.addrs = search rules in
    all_off same_block one_block block_itself (λ (e : DraftData). AddressFits e.target e.net c.args.link.now.name) (λ (e : DraftData). c.args.link.now.addrs) (λ m a b advances. refl) c.args.draft.now c.loop-addr.draft c.loop-addr.addr-index (subst (λ (xs : List Block). length xs ≤ c.loop-addr.addr-index) list c.loop-addr-test.false) (subst (λ (xs : List Block). c.loop-addr.addr-index ≤ length xs) list (omega arith)) c.loop-addr.invariant
