-- What of one network stands in another.
use Rattle.std.specs.Prelude.{◌≡◌, ℕ, ◌<◌, true, List, length, option_map, slice_index_or}
use Rattle.std.specs.List.{list_any}
use Rattle.net_model.specs.Address.{Block}
use Rattle.net_model.specs.Rule.{RuleParts}
use Rattle.net_model.specs.Links.{find_link}
use Rattle.net_model.specs.Valid.{same_rule}
use Rattle.net_model.specs.Lists.{NetData}
use Rattle.net_model.specs.declared.Link.{Link}
use Rattle.net_model.specs.declared.Route.{Route}
use Rattle.kernel_model.specs.Addresses.{has_block}
use Rattle.plan_model.specs.Undisturbed.{has_route}
use Rattle.plan_model.specs.Wants.{has_address}
use Rattle.link_planner.specs.Kept.{is_kept}
use Rattle.link_planner.specs.LinkPlans.{without_addrs}

-- the address, with its length, the route, the rule is there
abbrev pub HasAddress : NetData → List ℕ → Block → Type 0
HasAddress net name block = has_address net name block ≡ true

abbrev pub HasRoute : NetData → Route → Type 0
HasRoute net route = has_route route net.routes ≡ true

abbrev pub HasRule : NetData → RuleParts → Type 0
HasRule net rule = list_any (same_rule rule) net.rules ≡ true

-- the same links but for addresses, and at most the addresses, routes and rules of the other
pub record IsPartOf (few all : NetData) : Type 0 where
  pub links : (n : List ℕ) → option_map without_addrs (find_link n few.links) ≡ option_map without_addrs (find_link n all.links)
  pub addrs : (n : List ℕ) (b : Block) → HasAddress few n b → HasAddress all n b
  pub routes : (r : Route) → HasRoute few r → HasRoute all r
  pub rules : (r : RuleParts) → HasRule few r → HasRule all r

-- what is there stands in target
abbrev pub AddressFits : NetData → NetData → List ℕ → Block → Type 0
AddressFits target net name block = HasAddress net name block → HasAddress target name block

abbrev pub RouteFits : NetData → NetData → Route → Type 0
RouteFits target net route = HasRoute net route → HasRoute target route

abbrev pub RuleFits : NetData → NetData → RuleParts → Type 0
RuleFits target net rule = HasRule net rule → HasRule target rule

-- this holds of each of the list
abbrev pub EachAddress : List Block → (Block → Type 0) → Type 0
EachAddress addrs P = (b : Block) → has_block b addrs ≡ true → P b

abbrev pub EachRoute : List Route → (Route → Type 0) → Type 0
EachRoute routes P = (r : Route) → has_route r routes ≡ true → P r

abbrev pub EachRule : List RuleParts → (RuleParts → Type 0) → Type 0
EachRule rules P = (r : RuleParts) → list_any (same_rule r) rules ≡ true → P r

-- this holds of as many links, from the first on
abbrev pub EachLink : ℕ → List Link → (Link → Type 0) → Type 0
EachLink count links P = (k : ℕ) (d : Link) → k < count → P (slice_index_or links k d)

-- the link's addresses, if it is kept, stand in target
abbrev pub LinkFits : NetData → NetData → NetData → Link → Type 0
LinkFits start target net link = is_kept start target link.name ≡ true → EachAddress link.addrs (AddressFits target net link.name)

-- the link's addresses are there
abbrev pub LinkIsFilled : NetData → Link → Type 0
LinkIsFilled net link = EachAddress link.addrs (HasAddress net link.name)

-- and those of all kept links
abbrev pub AllLinksFit : NetData → NetData → NetData → Type 0
AllLinksFit start target net = EachLink (length start.links) start.links (LinkFits start target net)

-- the addresses of the one network are there
abbrev pub HasAddresses : NetData → NetData → Type 0
HasAddresses all net = (n : List ℕ) (b : Block) → HasAddress all n b → HasAddress net n b
