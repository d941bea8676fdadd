-- Networks of which each has what the other has are equal.
use Rattle.std.proofs.Common.{◌≡◌, ℕ, List, Option, Some, None, refl, sym, ap, ◌∙◌}
use Rattle.std.specs.Prelude.{option_map}
use Rattle.std.specs.List.{list_any}
use Rattle.net_model.specs.Address.{Block}
use Rattle.net_model.specs.Links.{find_link}
use Rattle.net_model.specs.Valid.{same_block, same_key, same_rule}
use Rattle.net_model.specs.NetData.{NetData, IsNet}
use Rattle.net_model.specs.declared.link.Link.{Link}
use Rattle.net_model.proofs.lemmas.FactsHold.{facts}
use Rattle.net_model.proofs.lemmas.SameLists.{same_links, same_addresses, same_routes, same_rules}
use Rattle.net_model.specs.Edits.{same_route}
use Rattle.link_planner.specs.LinkPlans.{without_addrs, ReachesLinks}
use Rattle.plan_core.specs.Parts.{HasAddress, HasRoute, HasRule, IsPartOf}
use Rattle.plan_core.proofs.Members.{same_found}
use Rattle.plan_core.proofs.Exact.{one_rule, rule_itself, one_route, route_itself, one_block, block_itself, key_itself, key_both, key_of_both, rule_both, rule_of_both, block_once, block_both, block_of_both}
use Rattle.plan_core.proofs.PartOf.{found_other, has_of, link_with}

-- the link with other addresses
abbrev with_all : List Block → Link → Link
with_all addrs l = record l { addrs = addrs }

module _ (target net : NetData) (good : IsNet target) (is : IsNet net) (part : IsPartOf net target) where
  module _ (each : (n : List ℕ) (b : Block) → HasAddress target n b → HasAddress net n b) where
    one_link : (n : List ℕ) (l t : Link) → find_link n net.links ≡ Some l → find_link n target.links ≡ Some t → without_addrs l ≡ without_addrs t → l ≡ t
    one_link n l t found at same = ap (with_all l.addrs) same ∙ ap (λ (bs : List Block). with_all bs t) addrs
      where
        addrs : l.addrs ≡ t.addrs
        addrs = same_addresses l.addrs t.addrs ((facts net is).link n l found).addresses_rise ((facts target good).link n t at).addresses_rise
            (same_found same_block one_block block_itself same_block block_itself block_of_both block_both l.addrs t.addrs (block_once t.addrs ((facts target good).link n t at).address_once)
            (λ b h. sym (has_of target n t b at) ∙ part.addrs n b (has_of net n l b found ∙ h))
            (λ b h. sym (has_of net n l b found) ∙ each n b (has_of target n t b at ∙ h)))

    pub links_one : net.links ≡ target.links
    links_one = same_links net.links target.links is.in_order.links good.in_order.links (λ n. of n (find_link n net.links) refl)
      where
        none : (a b : Option Link) → option_map without_addrs a ≡ option_map without_addrs b → a ≡ None → a ≡ b
        none None None same e = refl
        none None (Some t) same e = absurd cc
        none (Some l) b same e = absurd cc

        of : (n : List ℕ) (o : Option Link) → find_link n net.links ≡ o → find_link n net.links ≡ find_link n target.links
        of n None e = none (find_link n net.links) (find_link n target.links) (part.links n) e
        of n (Some l) e =
            let t = found_other (find_link n net.links) (find_link n target.links) l (part.links n) e in
            e ∙ ap Some (one_link n l t.0 e t.1 t.2) ∙ sym t.1

  pub routes_one : ((r : _) → HasRoute target r → HasRoute net r) → net.routes ≡ target.routes
  routes_one each = same_routes net.routes target.routes is.in_order.routes good.in_order.routes
      (same_found same_route one_route route_itself same_key key_itself key_of_both key_both net.routes target.routes (facts target good).keys part.routes each)

  pub rules_one : ((r : _) → HasRule target r → HasRule net r) → net.rules ≡ target.rules
  rules_one each = same_rules net.rules target.rules is.in_order.rules good.in_order.rules
      (same_found same_rule one_rule rule_itself same_rule rule_itself rule_of_both rule_both net.rules target.rules (facts target good).rules part.rules each)

-- links that have reached target's are those, but for addresses that are missing
pub part_of_reached : (before target net : NetData) → ReachesLinks before target net → ((r : _) → HasRule before r → HasRule target r) → IsPartOf net target
part_of_reached before target net reached rules = record {
  links = reached.links;
  addrs = λ n b h.
      let l = link_with net n b h in
      let t = found_other (find_link n net.links) (find_link n target.links) l.0 (reached.links n) l.1 in
      has_of target n t.0 b t.1 ∙ reached.addrs n l.0 t.0 b l.1 t.1 l.2;
  routes = reached.routes;
  rules = λ r h. rules r (ap (list_any (same_rule r)) (sym reached.rules) ∙ h);
}
