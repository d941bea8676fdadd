use Rattle.std.proofs.Common.{arith, rules, ◌≡◌, ◌<◌, ◌≤◌, List, length, take, get_or, sym, ap, subst, ◌∙◌}
use Rattle.net_model.specs.Valid.{address_count}
use Rattle.net_model.specs.Lists.{NetData}
use Rattle.net_model.specs.declared.link.Link.{Link}
use Rattle.plan_core.specs.Parts.{LinkFits}
use Rattle.plan_core.proofs.Linking.{FirstFit, link_off}
use Rattle.plan_core.proofs.PartOf.{all_links, all_count}
use Rattle.plan_core.proofs.Stepping.{no_call_off, off_as}
use Rattle.plan_core.proofs.take_off.drop_addresses.Goals as goal

pub loop-link-init : goal.loop-link-init
loop-link-init c = no_call_off (FirstFit 0) c.args.draft.now (λ k d lt. absurd (omega (arith, lt)))

pub loop-link-preserved : goal.loop-link-preserved
loop-link-preserved c =
    let list : c.deref-link-items.result.now ≡ c.args.draft.now.start.links = search rules in
    let before : c.loop-link.link-index < length c.deref-link-items.result.now = omega arith in
    link_off c.args.draft.now c.loop-link.draft c.drop_if_kept.new.draft c.loop-link.link-index c.link-item.result (subst (λ (xs : List Link). c.loop-link.link-index < length xs) list before)
    (c.link-item.is ∙ ap (λ (xs : List Link). get_or xs c.loop-link.link-index c.link-item.result) list) c.loop-link.invariant c.in_ok-drop_if_kept.ensures

pub returns : goal.returns
returns c =
    let list : c.deref-link-items.result.now ≡ c.args.draft.now.start.links = search rules in
    let end : length c.args.draft.now.start.links ≤ c.loop-link.link-index = subst (λ (xs : List Link). length xs ≤ c.loop-link.link-index) list c.loop-link-test.false in
    let d = c.loop-link.draft in
    let links : d.start.links ≡ c.args.draft.now.start.links = ap (λ (n : NetData). n.links) c.loop-link.invariant.advances.start in
    off_as (address_count (take c.loop-link.link-index c.args.draft.now.start.links)) (address_count c.args.draft.now.start.links) (FirstFit c.loop-link.link-index) (λ e. FirstFit (length e.start.links) e) c.args.draft.now d (all_count c.args.draft.now.start.links c.loop-link.link-index end)
    (all_links (LinkFits d.start d.target d.net) d.start.links c.loop-link.link-index (subst (λ (xs : List Link). length xs ≤ c.loop-link.link-index) (sym links) end) c.loop-link.invariant.done) c.loop-link.invariant
