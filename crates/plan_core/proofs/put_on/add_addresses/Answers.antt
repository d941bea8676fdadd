use Rattle.std.proofs.Common.{arith, rules, ◌≡◌, ◌<◌, ◌≤◌, List, length, take, get_or, sym, ap, subst, ◌∙◌}
use Rattle.net_model.specs.Valid.{address_count}
use Rattle.net_model.specs.Lists.{NetData}
use Rattle.net_model.specs.declared.link.Link.{Link}
use Rattle.plan_core.specs.Parts.{HasAddress, LinkIsFilled}
use Rattle.net_model.specs.Address.{Block}
use Rattle.std.proofs.Common.{ℕ}
use Rattle.plan_core.proofs.Linking.{FirstFilled, link_on}
use Rattle.plan_core.proofs.PartOf.{all_links, all_count, filled_target, all_filled}
use Rattle.plan_core.proofs.Stepping.{no_call_on, on_as}
use Rattle.plan_core.proofs.put_on.add_addresses.Goals as goal

pub loop-there-init : goal.loop-there-init
loop-there-init c = no_call_on (FirstFilled 0) c.args.draft.now c.requires (λ k d lt. absurd (omega (arith, lt)))

pub add_addresses_of-requires-clause-there : goal.add_addresses_of-requires-clause-there
add_addresses_of-requires-clause-there c =
    let list : c.deref-there-items.result.now ≡ c.args.draft.now.target.links = search rules in
    let before : c.loop-there.there-index < length c.deref-there-items.result.now = omega arith in
    subst (λ t. LinkIsFilled t c.there-item.result) (sym c.loop-there.invariant.advances.target) (filled_target c.args.draft.now.target c.laws.ensures.target c.loop-there.there-index c.there-item.result
    (subst (λ (xs : List Link). c.loop-there.there-index < length xs) list before)
    (c.there-item.is ∙ ap (λ (xs : List Link). get_or xs c.loop-there.there-index c.there-item.result) list))

pub add_addresses_of-requires-clause-within : goal.add_addresses_of-requires-clause-within
add_addresses_of-requires-clause-within c = c.loop-there.invariant.within

pub loop-there-preserved : goal.loop-there-preserved
loop-there-preserved c =
    let list : c.deref-there-items.result.now ≡ c.args.draft.now.target.links = search rules in
    let before : c.loop-there.there-index < length c.deref-there-items.result.now = omega arith in
    link_on c.args.draft.now c.loop-there.draft c.add_addresses_of.new.draft c.loop-there.there-index c.there-item.result (subst (λ (xs : List Link). c.loop-there.there-index < length xs) list before)
    (c.there-item.is ∙ ap (λ (xs : List Link). get_or xs c.loop-there.there-index c.there-item.result) list) c.loop-there.invariant c.in_ok-add_addresses_of.ensures

pub returns : goal.returns
returns c =
    let list : c.deref-there-items.result.now ≡ c.args.draft.now.target.links = search rules in
    let end : length c.args.draft.now.target.links ≤ c.loop-there.there-index = subst (λ (xs : List Link). length xs ≤ c.loop-there.there-index) list c.loop-there-test.false in
    let d = c.loop-there.draft in
    let links : d.target.links ≡ c.args.draft.now.target.links = ap (λ (n : NetData). n.links) c.loop-there.invariant.advances.target in
    on_as (address_count (take c.loop-there.there-index c.args.draft.now.target.links)) (address_count c.args.draft.now.target.links) (FirstFilled c.loop-there.there-index) (λ e. (n : List ℕ) (b : Block) → HasAddress e.target n b → HasAddress e.net n b) c.args.draft.now d (all_count c.args.draft.now.target.links c.loop-there.there-index end)
    (all_filled d.target d.net (all_links (LinkIsFilled d.net) d.target.links c.loop-there.there-index (subst (λ (xs : List Link). length xs ≤ c.loop-there.there-index) (sym links) end) c.loop-there.invariant.done)) c.loop-there.invariant
