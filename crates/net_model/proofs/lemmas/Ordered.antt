-- What putting in order means.
use Rattle.std.proofs.Common.{◌≡◌, Bool, true, List, [], ◌∷◌, map, None, Ordering, refl, sym, ap, ◌∙◌, IsPermutation}
use Rattle.std.specs.List.{list_all}
use Rattle.std.specs.Ordering.{is_eq}
use Rattle.std.specs.Cmp.{IsTotalOrder}
use Rattle.std.proofs.lemmas.List.Sorted.{IsPermutation-refl, IsPermutation-trans, IsPermutation-sym}
use Rattle.net_model.specs.Words.{apart, rises, sorted}
use Rattle.net_model.specs.Address.{Block}
use Rattle.net_model.specs.Rule.{RuleParts}
use Rattle.net_model.specs.Order.{block_cmp, link_cmp, route_cmp, rule_cmp}
use Rattle.net_model.specs.OrderLaws.{block_cmp_total, rule_cmp_total}
use Rattle.net_model.specs.Links.{same_name}
use Rattle.net_model.specs.Valid.{route_stands, keys_differ, same_key, same_rule, least_broken}
use Rattle.net_model.specs.NetData.{NetData, IsNet, IsRearranged, arranged, ordered}
use Rattle.net_model.specs.declared.link.Link.{Link}
use Rattle.net_model.specs.declared.route.Route.{Route}
use Rattle.net_model.specs.declared.dns.Dns.{Dns}
use Rattle.net_model.proofs.lemmas.Truth.{and_left, and_right}
use Rattle.net_model.proofs.lemmas.Orders.{link_cmp_total, route_cmp_total}
use Rattle.net_model.proofs.lemmas.Rises.{Climbs-sorted, sorted-rises, apart-sorted}
use Rattle.net_model.proofs.lemmas.Permute.{apart-IsPermutation}
use Rattle.net_model.proofs.lemmas.Sorting.{sorted_moves, sorted_climbs, rising_sorted}
use Rattle.net_model.proofs.lemmas.Found.{names_tie}
use Rattle.net_model.proofs.lemmas.Ties.{keys_tie, rules_tie}
use Rattle.net_model.proofs.lemmas.AllParts.{all_parts}
use Rattle.net_model.proofs.lemmas.ValidMoved.{tied_both, apart_map}

module _ {X : Type 0} (E : X → X → Bool) (R : X → X → Ordering) (total : IsTotalOrder R) (tie : (x y : X) → E x y ≡ is_eq (R x y)) where
  -- what is put in order rises, where members differ
  pub sorted_rises : (xs : List X) → apart E xs ≡ true → rises R (sorted R xs) ≡ true
  sorted_rises xs differ =
      sym (apart-sorted E R total tie (sorted R xs) (sorted_climbs R total xs))
      ∙ sym (apart-IsPermutation E (tied_both E R total tie) xs (sorted R xs) (sorted_moves R total xs))
      ∙ differ

  -- and then the order in which they are given makes no difference
  pub same_sorted : (xs ys : List X) → IsPermutation xs ys → apart E xs ≡ true → sorted R xs ≡ sorted R ys
  same_sorted xs ys moved differ =
      rising_sorted R total ys (sorted R xs) (IsPermutation-trans ys xs (sorted R xs) (IsPermutation-sym xs ys moved) (sorted_moves R total xs)) (sorted_rises xs differ) (sorted_climbs R total xs)

-- a strictly sorted list is in order already
pub sorted_itself : {X : Type 0} (R : X → X → Ordering) → IsTotalOrder R → (xs : List X) → rises R xs ≡ true → sorted R xs ≡ xs
sorted_itself R total xs up = sym (rising_sorted R total xs xs (IsPermutation-refl xs) up (Climbs-sorted R total xs (sorted-rises R total xs up)))

abbrev net_from : List Link → List Route → List RuleParts → Dns → NetData
net_from links routes rules dns = record { links = links; routes = routes; rules = rules; dns = dns }

pub any_order : (a b : NetData) → IsRearranged a b → least_broken a ≡ None → ordered a ≡ ordered b
any_order a b s none =
    let p = all_parts a none in
    let names : apart same_name (map arranged a.links) ≡ true = apart_map arranged same_name same_name (λ x y. refl) a.links ∙ p.names in
    ap (λ x. net_from x (sorted route_cmp a.routes) (sorted rule_cmp a.rules) a.dns) (same_sorted same_name link_cmp link_cmp_total names_tie (map arranged a.links) (map arranged b.links) s.links names)
    ∙ ap (λ x. net_from (sorted link_cmp (map arranged b.links)) x (sorted rule_cmp a.rules) a.dns) (same_sorted same_key route_cmp route_cmp_total keys_tie a.routes b.routes s.routes (and_right (list_all (route_stands a.links) a.routes) (keys_differ a.routes) p.routes))
    ∙ ap (λ x. net_from (sorted link_cmp (map arranged b.links)) (sorted route_cmp b.routes) x a.dns) (same_sorted same_rule rule_cmp rule_cmp_total rules_tie a.rules b.rules s.rules p.rules)
    ∙ ap (λ x. net_from (sorted link_cmp (map arranged b.links)) (sorted route_cmp b.routes) (sorted rule_cmp b.rules) x) s.dns

arranged_itself : (l : Link) → rises block_cmp l.addrs ≡ true → arranged l ≡ l
arranged_itself l up = ap (λ (bs : List Block). record l { addrs = bs }) (sorted_itself block_cmp block_cmp_total l.addrs up)

all_arranged_themselves : (links : List Link) → list_all (λ l. rises block_cmp l.addrs) links ≡ true → map arranged links ≡ links
all_arranged_themselves [] h = refl
all_arranged_themselves (l ∷ ls) h =
    let head : arranged l ≡ l = arranged_itself l (and_left (rises block_cmp l.addrs) (list_all (λ k. rises block_cmp k.addrs) ls) h) in
    let rest : map arranged ls ≡ ls = all_arranged_themselves ls (and_right (rises block_cmp l.addrs) (list_all (λ k. rises block_cmp k.addrs) ls) h) in
    ap (λ k. k ∷ map arranged ls) head ∙ ap (λ ks. l ∷ ks) rest

pub in_order : (net : NetData) → IsNet net → ordered net ≡ net
in_order net is =
    let links : sorted link_cmp (map arranged net.links) ≡ net.links = ap (sorted link_cmp) (all_arranged_themselves net.links is.in_order.addrs) ∙ sorted_itself link_cmp link_cmp_total net.links is.in_order.links in
    ap (λ x. net_from x (sorted route_cmp net.routes) (sorted rule_cmp net.rules) net.dns) links
    ∙ ap (λ x. net_from net.links x (sorted rule_cmp net.rules) net.dns) (sorted_itself route_cmp route_cmp_total net.routes is.in_order.routes)
    ∙ ap (λ x. net_from net.links net.routes x net.dns) (sorted_itself rule_cmp rule_cmp_total net.rules is.in_order.rules)
