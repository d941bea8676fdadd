-- What merging the document of a printed state gives.
use Rattle.std.specs.Prelude.{◌≡◌, false, List, map, Some, None, if◌then◌else◌}
use Rattle.net_model.specs.NetData.{NetData, ordered}
use Rattle.net_model.specs.declared.Link.{Link}
use Rattle.document_model.specs.declared.Wish.TheVariants.{Up, Down}
use Rattle.merge_model.specs.Members.{Member}
use Rattle.merge_model.specs.Lifted.{members}
use Rattle.merge_model.specs.Routes.{merged_routes}
use Rattle.merge_model.specs.RuleNumbers.{merged_rules}
use Rattle.merge_model.specs.Resolver.{merged_dns}
use Rattle.merge_model.specs.Merge.{links_of, links_broken, routes_broken, merged, least_refusal}
use Rattle.shown_model.specs.Shown.{shown_link, shown_doc}

-- over its own links the network keeps DNS, its rules and its routes, and none of the rules on stated routes is broken
pub record KeepsLists (net : NetData) : Type 0 where
  pub dns : merged_dns (shown_doc net).dns net.dns ≡ net.dns
  pub rules : merged_rules (shown_doc net).rules net.rules ≡ net.rules
  pub routes : merged_routes net.links (shown_doc net).routes net.routes ≡ net.routes
  pub stand : routes_broken net.links (shown_doc net).routes ≡ None

-- a link's member: of its kind, up or down as it is, under its controller, and not lifted
abbrev pub shown_member : List Link → Link → Member
shown_member links l = record { name = l.name; kind = l.kind; old = Some l; entry = Some (shown_link links l); wish = Some (if l.up then Up else Down); controller = l.controller; lifted = false }

-- there is one for each link, in the order of the links
abbrev pub KeepsMembers : NetData → Type 0
KeepsMembers net = members net.links (shown_doc net).links ≡ map (shown_member net.links) net.links

-- the merged links are the links
abbrev pub KeepsLinks : NetData → Type 0
KeepsLinks net = links_of net.links (shown_doc net).links ≡ net.links

-- and none of the rules on links is broken
abbrev pub BreaksNoLinkRule : NetData → Type 0
BreaksNoLinkRule net = links_broken net.links (shown_doc net).links ≡ None

-- merging the document breaks no rule and gives the network again
pub record MergesToItself (net : NetData) : Type 0 where
  pub rules : least_refusal net (shown_doc net) ≡ None
  pub same : ordered (merged net (shown_doc net)) ≡ net
