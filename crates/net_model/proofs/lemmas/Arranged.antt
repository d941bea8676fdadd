-- Valid lists that are put in order are a network.
use Rattle.std.proofs.Common.{◌≡◌, Bool, true, false, not, ◌&&◌, ◌||◌, List, [], ◌∷◌, map, None, refl, sym, ◌∙◌}
use Rattle.std.specs.List.{list_any, list_all}
use Rattle.net_model.specs.Words.{apart, rises, sorted}
use Rattle.net_model.specs.Address.{Block}
use Rattle.net_model.specs.Order.{block_cmp, link_cmp, route_cmp, rule_cmp}
use Rattle.net_model.specs.OrderLaws.{block_cmp_total, rule_cmp_total}
use Rattle.net_model.specs.Links.{same_name}
use Rattle.net_model.specs.Valid.{all_v4, same_address, same_block, addresses_differ, addresses_fit, route_stands, keys_differ, same_key, same_rule, least_broken}
use Rattle.net_model.specs.NetData.{NetData, IsNet, IsInOrder, IsSorting, arranged, ordered}
use Rattle.net_model.specs.declared.link.Link.{Link}
use Rattle.net_model.proofs.lemmas.Truth.{and_left, and_right, and_both, not_true, not_false, or_left_false, or_right_false}
use Rattle.net_model.proofs.lemmas.Orders.{link_cmp_total, route_cmp_total}
use Rattle.net_model.proofs.lemmas.Permute.{list_all-IsPermutation}
use Rattle.net_model.proofs.lemmas.Sorting.{sorted_moves}
use Rattle.net_model.proofs.lemmas.Found.{names_tie}
use Rattle.net_model.proofs.lemmas.Ties.{blocks_tie, keys_tie, rules_tie}
use Rattle.net_model.proofs.lemmas.AllParts.{all_parts}
use Rattle.net_model.proofs.lemmas.InOrder.{sorted_in_order}
use Rattle.net_model.proofs.lemmas.Ordered.{sorted_rises}
use Rattle.net_model.proofs.lemmas.ValidMoved.{least_broken-sorting, apart_map}

no_and : (b c : Bool) → b ≡ false → (b && c) ≡ false
no_and b c h = rw h refl

no_or : (b c : Bool) → b ≡ false → c ≡ false → (b || c) ≡ false
no_or b c h k = rw (h, k) refl

no_block : (b : Block) (bs : List Block) → list_any (λ (c : Block). same_address b.addr c.addr) bs ≡ false → list_any (same_block b) bs ≡ false
no_block b [] h = refl
no_block b (c ∷ cs) h =
    no_or (same_block b c) (list_any (same_block b) cs)
    (no_and (same_address b.addr c.addr) _ (or_left_false (same_address b.addr c.addr) (list_any (λ (d : Block). same_address b.addr d.addr) cs) h))
    (no_block b cs (or_right_false (same_address b.addr c.addr) (list_any (λ (d : Block). same_address b.addr d.addr) cs) h))

-- blocks of different addresses are different
blocks_differ : (bs : List Block) → addresses_differ bs ≡ true → apart same_block bs ≡ true
blocks_differ [] h = refl
blocks_differ (b ∷ bs) h =
    and_both (not (list_any (same_block b) bs)) (apart same_block bs)
    (not_false (list_any (same_block b) bs) (no_block b bs (not_true (list_any (λ (c : Block). same_address b.addr c.addr) bs) (and_left (not (list_any (λ (c : Block). same_address b.addr c.addr) bs)) (addresses_differ bs) h))))
    (blocks_differ bs (and_right (not (list_any (λ (c : Block). same_address b.addr c.addr) bs)) (addresses_differ bs) h))

each_rises : (links : List Link) → addresses_fit links ≡ true → list_all (λ (l : Link). rises block_cmp l.addrs) (map arranged links) ≡ true
each_rises [] h = refl
each_rises (x ∷ xs) h =
    and_both (rises block_cmp (sorted block_cmp x.addrs)) (list_all (λ (l : Link). rises block_cmp l.addrs) (map arranged xs))
    (sorted_rises same_block block_cmp block_cmp_total blocks_tie x.addrs
    (blocks_differ x.addrs (and_right (x.up || all_v4 x.addrs) (addresses_differ x.addrs) (and_left ((x.up || all_v4 x.addrs) && addresses_differ x.addrs) (addresses_fit xs) h))))
    (each_rises xs (and_right ((x.up || all_v4 x.addrs) && addresses_differ x.addrs) (addresses_fit xs) h))

-- a network's lists, put in order, are a network where they break no part of validity
pub ordered_net : (net : NetData) → least_broken net ≡ None → IsNet (ordered net)
ordered_net net none =
    let p = all_parts net none in
    let rising : IsInOrder (ordered net) = record {
      links = sorted_rises same_name link_cmp link_cmp_total names_tie (map arranged net.links) (apart_map arranged same_name same_name (λ x y. refl) net.links ∙ p.names);
      addrs = sym (list_all-IsPermutation (λ (l : Link). rises block_cmp l.addrs) (map arranged net.links) (sorted link_cmp (map arranged net.links)) (sorted_moves link_cmp link_cmp_total (map arranged net.links))) ∙ each_rises net.links p.addresses;
      routes = sorted_rises same_key route_cmp route_cmp_total keys_tie net.routes (and_right (list_all (route_stands net.links) net.routes) (keys_differ net.routes) p.routes);
      rules = sorted_rises same_rule rule_cmp rule_cmp_total rules_tie net.rules p.rules;
    } in
    let sorting : IsSorting net (ordered net) = record {
      links = sorted_moves link_cmp link_cmp_total (map arranged net.links);
      routes = sorted_moves route_cmp route_cmp_total net.routes;
      rules = sorted_moves rule_cmp rule_cmp_total net.rules;
      dns = refl;
      sorted = sorted_in_order (ordered net) rising;
    } in
    record { valid = least_broken-sorting net (ordered net) sorting ∙ none; in_order = rising }
