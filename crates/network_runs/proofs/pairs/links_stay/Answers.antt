use Rattle.std.proofs.Common.{◌≡◌, ◌∙◌, true, Some, refl, sym, subst}
use Rattle.net_model.specs.Lists.{NetData}
use Rattle.net_model.specs.declared.Link.{Link}
use Rattle.kernel_model.specs.Addresses.{has_block}
use Rattle.link_planner.specs.LinkPlans.{MayPlanLinks}
use Rattle.network_runs.proofs.pairs.links_stay.Goals as goal

-- the links of a network may be planned to those of the same network
itself : (net : NetData) → MayPlanLinks net net
itself net = record {
  devices = refl;
  rules = λ r is. is;
  routes = λ r is. is;
  addrs = λ n k t b kept found same has.
      let e : Some k ≡ Some t = sym found ∙ same in
      let is : k ≡ t = cc in
      subst (λ (l : Link). has_block b l.addrs ≡ true) is has;
}

pub plan_links-requires : goal.plan_links-requires
plan_links-requires g = itself g.args.net.now
