use Rattle.std.proofs.Common.{◌≡◌, Bool, true, false, take, sym, ap, subst, ◌∙◌, arith}
use Rattle.std.specs.List.{list_any}
use Rattle.net_model.specs.Links.{is_twin}
use Rattle.net_model.specs.declared.Link.{Link}
use Rattle.merge_model.specs.Places.{at_link}
use Rattle.merge_model.proofs.lemmas.FirstSecond.{second_here, second_later}
use Rattle.net_model.specs.Twins.{HasVlans}
use Rattle.link_order.proofs.lemmas.More.{take_one}
use Rattle.net_model.proofs.lemmas.Vlans.{twin_told, twin_again, twin_none}
use Rattle.link_rules.proofs.twins.vlan_twin.Goals as goal

abbrev same : Link → Link → Bool
same a b = is_twin a.kind b.kind

pub returns-then-not-first : goal.returns-then-not-first
returns-then-not-first c =
    let seen : list_any (λ (x : Link). same x c.index-links-i.result) (take c.loop-i.i c.args.links.now) ≡ true =
    sym (twin_told (take c.loop-i.i c.args.links.now) c.loop-i.seen c.index-links-i.result.kind c.loop-i.invariant.0)
    ∙ twin_again c.in_ok-first.first _ c.in_ok-first.ensures.first c.if-not-first.true in
    sym (ap at_link (second_here same c.args.links.now c.loop-i.i c.index-links-i.result (omega (arith, c.loop-i-test.true)) c.index-links-i.is seen)) ∙ c.loop-i.invariant.1

pub loop-i-preserved : goal.loop-i-preserved
loop-i-preserved c =
    let none : list_any (λ (x : Link). same x c.index-links-i.result) (take c.loop-i.i c.args.links.now) ≡ false =
    sym (twin_told (take c.loop-i.i c.args.links.now) c.loop-i.seen c.index-links-i.result.kind c.loop-i.invariant.0)
    ∙ twin_none c.in_ok-first.first _ c.in_ok-first.ensures.first c.if-not-first.false in (
      subst (HasVlans c.is_first_vlan.new.seen) (sym (take_one c.args.links.now c.loop-i.i c.index-links-i.result (omega (arith, c.loop-i-test.true)) c.index-links-i.is))
          (c.in_ok-first.ensures.seen (take c.loop-i.i c.args.links.now) c.loop-i.invariant.0),
      ap at_link (second_later same c.args.links.now c.loop-i.i c.index-links-i.result (omega (arith, c.loop-i-test.true)) c.index-links-i.is none) ∙ c.loop-i.invariant.1,
    )
