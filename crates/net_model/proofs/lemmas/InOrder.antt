-- Networks whose lists are in order, as a test and as facts.
use Rattle.std.proofs.Common.{◌≡◌, ℕ, ◌+◌, ◌<◌, zero, suc, Bool, true, false, ◌&&◌, List, [], ◌∷◌, map, length, get_or, Option, Some, None, IsTrue, ◌↔◌, Ordering, refl, sym, ap, ◌∙◌, arith}
use Rattle.std.specs.Prelude.{if◌then◌else◌}
use Rattle.std.specs.List.{list_all}
use Rattle.std.specs.List.Sorted.{IsSortedBy}
use Rattle.std.specs.Option.{is_none}
use Rattle.std.specs.Ordering.{is_lt}
use Rattle.std.proofs.lemmas.List.Sorted.{IsPermutation-trans, IsPermutation-sym}
use native.Mathlib.Numerals.{unary_clauses}
use Rattle.net_model.specs.Words.{rises, sorted}
use Rattle.net_model.specs.Order.{block_cmp, link_cmp, route_cmp, rule_cmp}
use Rattle.net_model.specs.OrderLaws.{rule_cmp_total}
use Rattle.net_model.specs.Valid.{least_broken}
use Rattle.net_model.specs.NetData.{NetData, IsNet, IsInOrder, IsRearranged, IsSorting, AreSorted, is_in_order, is_net, arranged, ordered}
use Rattle.net_model.proofs.lemmas.Truth.{and_left, and_right, and_both}
use Rattle.net_model.proofs.lemmas.Orders.{link_cmp_total, route_cmp_total}
use Rattle.net_model.proofs.lemmas.Rises.{Climbs, sorted-rises}
use Rattle.net_model.proofs.lemmas.Sorting.{sorted_moves, sorted_climbs}
use Rattle.net_model.proofs.lemmas.ValidMoved.{least_broken-sorting}

-- the test passes where the lists are in order
pub passes_in_order : (net : NetData) → IsInOrder net → is_in_order net ≡ true
passes_in_order net i = rw (i.links, i.addrs, i.routes, i.rules) refl

-- and only there
pub in_order_passes : (net : NetData) → is_in_order net ≡ true → IsInOrder net
in_order_passes net h3 =
    let h2 = and_left (rises link_cmp net.links && list_all (λ l. rises block_cmp l.addrs) net.links && rises route_cmp net.routes) (rises rule_cmp net.rules) h3 in
    let h1 = and_left (rises link_cmp net.links && list_all (λ l. rises block_cmp l.addrs) net.links) (rises route_cmp net.routes) h2 in
    record {
      links = and_left (rises link_cmp net.links) (list_all (λ l. rises block_cmp l.addrs) net.links) h1;
      addrs = and_right (rises link_cmp net.links) (list_all (λ l. rises block_cmp l.addrs) net.links) h1;
      routes = and_right (rises link_cmp net.links && list_all (λ l. rises block_cmp l.addrs) net.links) (rises route_cmp net.routes) h2;
      rules = and_right (rises link_cmp net.links && list_all (λ l. rises block_cmp l.addrs) net.links && rises route_cmp net.routes) (rises rule_cmp net.rules) h3;
    }

nothing : {X : Type 0} (o : Option X) → is_none o ≡ true → o ≡ None
nothing None h = refl
nothing (Some x) h = cc

net_passes : (net : NetData) → is_net net ≡ true → IsNet net
net_passes net h = record {
  valid = nothing (least_broken net) (and_left (is_none (least_broken net)) (is_in_order net) h);
  in_order = in_order_passes net (and_right (is_none (least_broken net)) (is_in_order net) h);
}

-- the test of a network is exact
pub is_net_exact : (net : NetData) → IsTrue (is_net net) ↔ IsNet net
is_net_exact net = (λ t. net_passes net t, λ is. and_both (is_none (least_broken net)) (is_in_order net) (ap is_none is.valid) (passes_in_order net is.in_order))

-- lists in order are sorted
pub sorted_in_order : (net : NetData) → IsInOrder net → AreSorted net
sorted_in_order net i = record {
  links = sorted-rises link_cmp link_cmp_total net.links i.links;
  routes = sorted-rises route_cmp route_cmp_total net.routes i.routes;
  rules = sorted-rises rule_cmp rule_cmp_total net.rules i.rules;
}

climbs_at : {X : Type 0} (R : X → X → Ordering) (xs : List X) → Climbs R xs → (k : ℕ) (d : X) → k + 1 < length xs → is_lt (R (get_or xs (k + 1) d) (get_or xs k d)) ≡ false
climbs_at R [] c k d lt = absurd (omega arith)
climbs_at R (x ∷ []) c zero d lt = absurd (omega arith)
climbs_at R (x ∷ y ∷ ys) c zero d lt = c.0.0
climbs_at R (x ∷ xs) c (suc k) d lt =
    let rest = climbs_at R xs c.1 k d (omega arith) in
    simp unary_clauses (simp unary_clauses at rest)

climbs_sorted : {X : Type 0} (R : X → X → Ordering) (xs : List X) → Climbs R xs → IsSortedBy (λ x y. is_lt (R x y)) xs
climbs_sorted R xs c = λ k d low lt. climbs_at R xs c k d lt

-- the lists put in order are a sorting of each network with the same lists in another order
sorts : (a b : NetData) → IsRearranged a b → IsSorting b (ordered a)
sorts a b r = record {
  links = IsPermutation-trans (map arranged b.links) (map arranged a.links) (sorted link_cmp (map arranged a.links)) (IsPermutation-sym (map arranged a.links) (map arranged b.links) r.links) (sorted_moves link_cmp link_cmp_total (map arranged a.links));
  routes = IsPermutation-trans b.routes a.routes (sorted route_cmp a.routes) (IsPermutation-sym a.routes b.routes r.routes) (sorted_moves route_cmp route_cmp_total a.routes);
  rules = IsPermutation-trans b.rules a.rules (sorted rule_cmp a.rules) (IsPermutation-sym a.rules b.rules r.rules) (sorted_moves rule_cmp rule_cmp_total a.rules);
  dns = r.dns;
  sorted = sorted_all a;
}
  where
    sorted_all : (a : NetData) → AreSorted (ordered a)
    sorted_all a = record {
      links = climbs_sorted link_cmp (sorted link_cmp (map arranged a.links)) (sorted_climbs link_cmp link_cmp_total (map arranged a.links));
      routes = climbs_sorted route_cmp (sorted route_cmp a.routes) (sorted_climbs route_cmp route_cmp_total a.routes);
      rules = climbs_sorted rule_cmp (sorted rule_cmp a.rules) (sorted_climbs rule_cmp rule_cmp_total a.rules);
    }

sorts_itself : (a : NetData) → IsSorting a (ordered a)
sorts_itself a = record {
  links = sorted_moves link_cmp link_cmp_total (map arranged a.links);
  routes = sorted_moves route_cmp route_cmp_total a.routes;
  rules = sorted_moves rule_cmp rule_cmp_total a.rules;
  dns = refl;
  sorted = record {
    links = climbs_sorted link_cmp (sorted link_cmp (map arranged a.links)) (sorted_climbs link_cmp link_cmp_total (map arranged a.links));
    routes = climbs_sorted route_cmp (sorted route_cmp a.routes) (sorted_climbs route_cmp route_cmp_total a.routes);
    rules = climbs_sorted rule_cmp (sorted rule_cmp a.rules) (sorted_climbs rule_cmp rule_cmp_total a.rules);
  };
}

-- the same lists in another order break the same part
pub least_broken-rearranged : (a b : NetData) → IsRearranged a b → least_broken a ≡ least_broken b
least_broken-rearranged a b r = sym (least_broken-sorting a (ordered a) (sorts_itself a)) ∙ least_broken-sorting b (ordered a) (sorts a b r)

and_no : (b : Bool) → (b && false) ≡ false
and_no true = refl
and_no false = refl

-- lists out of order are no network
pub no_net-order : (net : NetData) → is_in_order net ≡ false → is_net net ≡ false
no_net-order net h = rw h (and_no (is_none (least_broken net)))

-- nor are lists that break a part
pub no_net-broken : (net : NetData) (part : ℕ) → least_broken net ≡ Some part → is_net net ≡ false
no_net-broken net part h = ap (λ o. is_none o && is_in_order net) h

-- what the test chooses
pub tested : (net : NetData) (b : Bool) → is_net net ≡ b → (let o : Option NetData = if b then Some net else None in o) ≡ (if is_net net then Some net else None)
tested net b h = ap (λ v. let o : Option NetData = if v then Some net else None in o) (sym h)
