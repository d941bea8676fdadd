-- What the sorted lists are, where no part is broken.
use Rattle.std.proofs.Common.{◌≡◌, Bool, true, false, not, ◌&&◌, ◌||◌, List, [], ◌∷◌, map, None, refl, sym, ap, ◌∙◌}
use Rattle.std.specs.List.{list_any, list_all}
use Rattle.net_model.specs.Words.{apart, rises, sorted}
use Rattle.net_model.specs.Address.{Block}
use Rattle.net_model.specs.Rule.{RuleParts}
use Rattle.net_model.specs.Order.{block_cmp, link_cmp, route_cmp, rule_cmp}
use Rattle.net_model.specs.OrderLaws.{block_cmp_total, rule_cmp_total}
use Rattle.net_model.specs.Links.{same_name}
use Rattle.net_model.specs.Valid.{all_v4, same_address, same_block, addresses_differ, addresses_fit, route_stands, keys_differ, same_key, same_rule, least_broken}
use Rattle.net_model.specs.NetData.{NetData, IsNet, IsSorting, arranged, ordered}
use Rattle.net_model.specs.declared.link.Link.{Link}
use Rattle.net_model.specs.declared.route.Route.{Route}
use Rattle.net_model.specs.declared.dns.Dns.{Dns}
use Rattle.net_model.proofs.lemmas.Truth.{and_left, and_right, not_true, or_left_false, or_right_false}
use Rattle.net_model.proofs.lemmas.Orders.{link_cmp_total, route_cmp_total}
use Rattle.net_model.proofs.lemmas.Rises.{Climbs, Climbs-sorted, apart-sorted}
use Rattle.net_model.proofs.lemmas.Permute.{list_all-IsPermutation, apart-IsPermutation}
use Rattle.net_model.proofs.lemmas.Sorting.{sorted_moves, sorted_climbs, rising_sorted}
use Rattle.net_model.proofs.lemmas.Found.{names_tie}
use Rattle.net_model.proofs.lemmas.Ties.{blocks_tie, keys_tie, rules_tie}
use Rattle.net_model.proofs.lemmas.AllParts.{all_parts}
use Rattle.net_model.proofs.lemmas.ValidMoved.{least_broken-sorting, tied_both}

none_weaker : {X : Type 0} (E F : X → X → Bool) → ((x y : X) → F x y ≡ false → E x y ≡ false) → (x : X) (ys : List X) → list_any (F x) ys ≡ false → list_any (E x) ys ≡ false
none_weaker E F less x [] h = refl
none_weaker E F less x (y ∷ ys) h =
    rw (less x y (or_left_false (F x y) (list_any (F x) ys) h), none_weaker E F less x ys (or_right_false (F x y) (list_any (F x) ys) h)) refl

apart_weaker : {X : Type 0} (E F : X → X → Bool) → ((x y : X) → F x y ≡ false → E x y ≡ false) → (xs : List X) → apart F xs ≡ true → apart E xs ≡ true
apart_weaker E F less [] h = refl
apart_weaker E F less (x ∷ xs) h =
    let none : list_any (E x) xs ≡ false = none_weaker E F less x xs (not_true (list_any (F x) xs) (and_left (not (list_any (F x) xs)) (apart F xs) h)) in
    let rest : apart E xs ≡ true = apart_weaker E F less xs (and_right (not (list_any (F x) xs)) (apart F xs) h) in
    rw (none, rest) refl

no_and : (b c : Bool) → b ≡ false → (b && c) ≡ false
no_and b c h = rw h refl

addresses_rise : (bs : List Block) → addresses_differ bs ≡ true → rises block_cmp (sorted block_cmp bs) ≡ true
addresses_rise bs h =
    let blocks : apart same_block bs ≡ true = apart_weaker same_block (λ a b. same_address a.addr b.addr) (λ a b no. no_and (same_address a.addr b.addr) _ no) bs h in
    sym (apart-sorted same_block block_cmp block_cmp_total blocks_tie (sorted block_cmp bs) (sorted_climbs block_cmp block_cmp_total bs))
    ∙ sym (apart-IsPermutation same_block (tied_both same_block block_cmp block_cmp_total blocks_tie) bs (sorted block_cmp bs) (sorted_moves block_cmp block_cmp_total bs))
    ∙ blocks

each_rises : (links : List Link) → addresses_fit links ≡ true → list_all (λ l. rises block_cmp l.addrs) (map arranged links) ≡ true
each_rises [] h = refl
each_rises (x ∷ xs) h =
    let fits = and_left ((x.up || all_v4 x.addrs) && addresses_differ x.addrs) (addresses_fit xs) h in
    let first : rises block_cmp (sorted block_cmp x.addrs) ≡ true = addresses_rise x.addrs (and_right (x.up || all_v4 x.addrs) (addresses_differ x.addrs) fits) in
    rw (first, each_rises xs (and_right ((x.up || all_v4 x.addrs) && addresses_differ x.addrs) (addresses_fit xs) h)) refl

abbrev net_from : List Link → List Route → List RuleParts → Dns → NetData
net_from links routes rules dns = record { links = links; routes = routes; rules = rules; dns = dns }

-- the lists are a network, and those given in order
pub record IsMade (given net : NetData) : Type 0 where
  pub given_valid : least_broken given ≡ None
  pub closed : IsNet net
  pub is : net ≡ ordered given

pub made : (given net : NetData) → IsSorting given net → least_broken net ≡ None → IsMade given net
made given net s none =
    let before : least_broken given ≡ None = sym (least_broken-sorting given net s) ∙ none in
    let p = all_parts net none in
    let q = all_parts given before in
    let links_climb : Climbs link_cmp net.links = Climbs-sorted link_cmp link_cmp_total net.links s.sorted.links in
    let routes_climb : Climbs route_cmp net.routes = Climbs-sorted route_cmp route_cmp_total net.routes s.sorted.routes in
    let rules_climb : Climbs rule_cmp net.rules = Climbs-sorted rule_cmp rule_cmp_total net.rules s.sorted.rules in
    let links_rise : rises link_cmp net.links ≡ true = sym (apart-sorted same_name link_cmp link_cmp_total names_tie net.links links_climb) ∙ p.names in
    let keys : keys_differ net.routes ≡ true = and_right (list_all (route_stands net.links) net.routes) (keys_differ net.routes) p.routes in
    let routes_rise : rises route_cmp net.routes ≡ true = sym (apart-sorted same_key route_cmp route_cmp_total keys_tie net.routes routes_climb) ∙ keys in
    let rules_rise : rises rule_cmp net.rules ≡ true = sym (apart-sorted same_rule rule_cmp rule_cmp_total rules_tie net.rules rules_climb) ∙ p.rules in
    record {
      given_valid = before;
      closed = record {
        valid = none;
        in_order = record {
          links = links_rise;
          addrs = sym (list_all-IsPermutation (λ l. rises block_cmp l.addrs) (map arranged given.links) net.links s.links) ∙ each_rises given.links q.addresses;
          routes = routes_rise;
          rules = rules_rise;
        };
      };
      is =
          ap (λ x. net_from x net.routes net.rules net.dns) (rising_sorted link_cmp link_cmp_total (map arranged given.links) net.links s.links links_rise links_climb)
          ∙ ap (λ x. net_from (sorted link_cmp (map arranged given.links)) x net.rules net.dns) (rising_sorted route_cmp route_cmp_total given.routes net.routes s.routes routes_rise routes_climb)
          ∙ ap (λ x. net_from (sorted link_cmp (map arranged given.links)) (sorted route_cmp given.routes) x net.dns) (rising_sorted rule_cmp rule_cmp_total given.rules net.rules s.rules rules_rise rules_climb)
          ∙ ap (λ x. net_from (sorted link_cmp (map arranged given.links)) (sorted route_cmp given.routes) (sorted rule_cmp given.rules) x) s.dns;
    }
