-- Which routes a device loses with an address.
use Rattle.std.proofs.Common.{◌≡◌, ◌∙◌, ◌==◌, ℕ, suc, Bool, true, false, not, ◌&&◌, ◌||◌, cond, List, [], ◌∷◌, length, map, filter, Option, Some, None, refl, sym, ap, arith, eqb-true}
use Rattle.std.specs.List.{list_any, list_all}
use Rattle.std.specs.Option.{option_map_or}
use Rattle.net_model.specs.Address.{Address, Block}
use Rattle.net_model.specs.Words.{bool_eq}
use Rattle.net_model.specs.OnLink.{is_link_local, holds, is_on_link}
use Rattle.net_model.specs.Name.{same_bytes}
use Rattle.net_model.specs.Links.{find_link, is_named, named_passes}
use Rattle.net_model.specs.Valid.{names_differ, same_block, route_on_link, route_stands, keys_differ}
use Rattle.net_model.specs.Edits.{changed, edit_link, stays_on_link}
use Rattle.net_model.specs.NetData.{NetData, IsNet}
use Rattle.net_model.proofs.lemmas.AllParts.{all_parts}
use Rattle.net_model.proofs.lemmas.ByName.{found_passing, passing_found, passes_as}
use Rattle.net_model.proofs.lemmas.Changes.{map_found}
use Rattle.net_model.proofs.lemmas.Found.{one_name, itself, names_differ-rises}
use Rattle.net_model.proofs.lemmas.Grounded.{found_named}
use Rattle.net_model.proofs.lemmas.Parts.{all_more}
use Rattle.net_model.proofs.lemmas.Same.{same_block_exact}
use Rattle.net_model.proofs.lemmas.Truth.{and_left, and_right, and_both, or_left_false, or_right_false}
use Rattle.kernel_model.specs.Addresses.{without_address}
use Rattle.kernel_laws.proofs.lemmas.Changed.{changed_at, changed_keeps}
use Rattle.kernel_step.specs.Leaning.{leans_on, is_cut_off}
use Rattle.net_model.specs.OfName.{routes_of, key_of}
use Rattle.net_model.specs.declared.link.Link.{Link}
use Rattle.net_model.specs.declared.route.Route.{Route}
use Rattle.net_model.specs.declared.route_key.RouteKey.{RouteKey}

-- a list of no length has no key
pub none_long : (keys : List RouteKey) → (length keys == 0) ≡ true → keys ≡ []
none_long [] h = refl
none_long (k ∷ ks) h = let e : suc (length ks) ≡ 0 = eqb-true (suc (length ks)) 0 h in absurd (omega (arith, e))

-- where the index has none of the device, all stay
pub all_stay : (dev : List ℕ) (links : List Link) (routes : List Route) → routes_of routes dev ≡ [] → filter (stays_on_link dev links) routes ≡ routes
all_stay dev links [] none = refl
all_stay dev links (r ∷ rs) none =
    elim (same_bytes r.dev dev) as (λ v. map key_of (cond v (r ∷ filter (λ q. same_bytes q.dev dev) rs) (filter (λ q. same_bytes q.dev dev) rs)) ≡ []
    → cond (not v || named_passes (λ l. route_on_link l r) links dev) (r ∷ filter (stays_on_link dev links) rs) (filter (stays_on_link dev links) rs) ≡ r ∷ rs) [
      | true ↦ λ h. absurd cc
      | false ↦ λ h. ap (λ (rest : List Route). r ∷ rest) (all_stay dev links rs h)
    ] none

-- what leans on a subnet and isn't cut off stays
module _ (gone : Block) (name : List ℕ) (links : List Link) (l : Link) (differ : names_differ links ≡ true) (found : find_link name links ≡ Some l) where
  decided : (leans here on : Bool) → (leans || (not here || on)) ≡ true → ((leans && here) && not on) ≡ false → (not here || on) ≡ true
  decided true true true h k = refl
  decided true true false h k = sym k
  decided true false on h k = refl
  decided false here on h k = h

  one_stays : (r : Route) → (leans_on gone r || stays_on_link name links r) ≡ true → is_cut_off gone l r ≡ false → stays_on_link name links r ≡ true
  one_stays r h k =
      let on : named_passes (λ m. route_on_link m r) links name ≡ route_on_link l r = passes_as (λ m. route_on_link m r) links name l differ found in
      let cut : ((leans_on gone r && same_bytes r.dev name) && not (route_on_link l r)) ≡ false =
      ap (λ (n : List ℕ). (leans_on gone r && same_bytes r.dev n) && not (route_on_link l r)) (sym (found_named links name l found)) ∙ k in
      ap (λ b. not (same_bytes r.dev name) || b) on
      ∙ decided (leans_on gone r) (same_bytes r.dev name) (route_on_link l r) (ap (λ b. leans_on gone r || (not (same_bytes r.dev name) || b)) (sym on) ∙ h) cut

  -- so where none is cut off all stay
  pub none_lost : (routes : List Route) → list_all (λ r. leans_on gone r || stays_on_link name links r) routes ≡ true → list_any (is_cut_off gone l) routes ≡ false → filter (stays_on_link name links) routes ≡ routes
  none_lost [] h k = refl
  none_lost (r ∷ rs) h k =
      let here : stays_on_link name links r ≡ true =
      one_stays r (and_left (leans_on gone r || stays_on_link name links r) (list_all (λ q. leans_on gone q || stays_on_link name links q) rs) h) (or_left_false (is_cut_off gone l r) (list_any (is_cut_off gone l) rs) k) in
      ap (λ b. cond b (r ∷ filter (stays_on_link name links) rs) (filter (stays_on_link name links) rs)) here
      ∙ ap (λ (rest : List Route). r ∷ rest)
      (none_lost rs (and_right (leans_on gone r || stays_on_link name links r) (list_all (λ q. leans_on gone q || stays_on_link name links q) rs) h) (or_right_false (is_cut_off gone l r) (list_any (is_cut_off gone l) rs) k))

-- a gateway that lies elsewhere is held by another address
others_hold : (gone : Block) (g : Address) (addrs : List Block) → holds gone g ≡ false → list_any (λ b. holds b g) addrs ≡ true → list_any (λ b. holds b g) (filter (λ b. not (same_block gone b)) addrs) ≡ true
others_hold gone g [] off h = h
others_hold gone g (b ∷ bs) off h =
    elim (same_block gone b) as (λ v. same_block gone b ≡ v → list_any (λ c. holds c g) (cond (not v) (b ∷ filter (λ c. not (same_block gone c)) bs) (filter (λ c. not (same_block gone c)) bs)) ≡ true) [
      | true ↦ λ e.
          let none : holds b g ≡ false = ap (λ (c : Block). holds c g) (sym ((same_block_exact gone b).0 e)) ∙ off in
          others_hold gone g bs off (ap (λ v. v || list_any (λ c. holds c g) bs) (sym none) ∙ h)
      | false ↦ λ e.
          elim (holds b g) as (λ v. (v || list_any (λ c. holds c g) bs) ≡ true → (v || list_any (λ c. holds c g) (filter (λ c. not (same_block gone c)) bs)) ≡ true) [
            | true ↦ λ k. refl
            | false ↦ λ k. others_hold gone g bs off k
          ] h
    ] refl

-- so it stays on-link
still_on : (gone : Block) (addrs : List Block) (v6 : Bool) (o : Option Address) → option_map_or (holds gone) o false ≡ false → option_map_or (is_on_link addrs v6) o true ≡ true
    → option_map_or (is_on_link (filter (λ b. not (same_block gone b)) addrs) v6) o true ≡ true
still_on gone addrs v6 None off h = refl
still_on gone addrs v6 (Some g) off h =
    and_both (bool_eq g.v6 v6) (is_link_local g || list_any (λ b. holds b g) (filter (λ b. not (same_block gone b)) addrs))
    (and_left (bool_eq g.v6 v6) (is_link_local g || list_any (λ b. holds b g) addrs) h)
    (elim (is_link_local g) as (λ v. (v || list_any (λ b. holds b g) addrs) ≡ true → (v || list_any (λ b. holds b g) (filter (λ b. not (same_block gone b)) addrs)) ≡ true) [
      | true ↦ λ k. refl
      | false ↦ λ k. others_hold gone g addrs off k
    ] (and_right (bool_eq g.v6 v6) (is_link_local g || list_any (λ b. holds b g) addrs) h))

-- in a network each route leans on the address that goes, or stays without it
module _ (net : NetData) (is : IsNet net) (name : List ℕ) (gone : Block) where
  leans_one : (r : Route) → route_stands net.links r ≡ true → (leans_on gone r || stays_on_link name (edit_link name (without_address gone) net.links) r) ≡ true
  leans_one r h =
      elim (leans_on gone r) as (λ v. leans_on gone r ≡ v → (v || stays_on_link name (edit_link name (without_address gone) net.links) r) ≡ true) [
        | true ↦ λ e. refl
        | false ↦ λ off. elim (same_bytes r.dev name) as (λ w. same_bytes r.dev name ≡ w → (not w || named_passes (λ l. route_on_link l r) (edit_link name (without_address gone) net.links) name) ≡ true) [
          | false ↦ λ e. refl
          | true ↦ λ e.
              let dev : r.dev ≡ name = one_name r.dev name e in
              let b = passing_found (λ l. l.up && route_on_link l r) net.links r.dev (names_differ-rises net.links is.in_order.links) h in
              let there : find_link name net.links ≡ Some b.0 = ap (λ n. find_link n net.links) (sym dev) ∙ b.1 in
              let named : is_named name b.0 ≡ true = ap (λ n. same_bytes n name) (found_named net.links name b.0 there) ∙ itself name in
              let new : find_link name (edit_link name (without_address gone) net.links) ≡ Some (changed name (without_address gone) b.0) =
              map_found (changed name (without_address gone)) (changed_keeps (λ (l : Link). l.name) name (without_address gone) (λ l. refl)) net.links name b.0 there in
              found_passing (λ l. route_on_link l r) (edit_link name (without_address gone) net.links) name (changed name (without_address gone) b.0) new
              (ap (λ (l : Link). route_on_link l r) (changed_at name (without_address gone) b.0 named)
              ∙ still_on gone b.0.addrs r.dest.addr.v6 r.gateway off (and_right b.0.up (route_on_link b.0 r) b.2))
        ] refl
      ] refl

  pub all_lean : list_all (λ r. leans_on gone r || stays_on_link name (edit_link name (without_address gone) net.links) r) net.routes ≡ true
  all_lean = all_more (route_stands net.links) (λ r. leans_on gone r || stays_on_link name (edit_link name (without_address gone) net.links) r) leans_one net.routes (and_left (list_all (route_stands net.links) net.routes) (keys_differ net.routes) (all_parts net is.valid).routes)
