-- What edits of routes do to the indexes.
use Rattle.std.proofs.Common.{◌≡◌, ◌∙◌, ℕ, Bool, true, false, not, ◌&&◌, ◌||◌, List, [], filter, length, get_or, remove, ◌<◌, refl, sym, ap}
use Rattle.std.specs.Prelude.{if◌then◌else◌}
use Rattle.std.specs.Option.{option_map_or, option_eq}
use Rattle.net_model.specs.Name.{same_bytes}
use Rattle.net_model.specs.Words.{rises, put}
use Rattle.net_model.specs.Order.{route_cmp}
use Rattle.net_model.specs.Links.{named_passes}
use Rattle.net_model.specs.Valid.{same_address, same_key, route_on_link}
use Rattle.net_model.specs.declared.link.Link.{Link}
use Rattle.net_model.specs.declared.route.Route.{Route}
use Rattle.net_model.proofs.lemmas.Found.{one_name, itself}
use Rattle.net_model.proofs.lemmas.Orders.{route_cmp_total}
use Rattle.net_model.proofs.lemmas.Rises.{apart-rises}
use Rattle.net_model.proofs.lemmas.Ties.{keys_tie}
use Rattle.net_model.proofs.lemmas.Truth.{and_right}
use Rattle.net_model.proofs.lemmas.Places.{found_itself}
use Rattle.net_index.specs.declared.index.Index.{Index}
use Rattle.net_index.specs.declared.indexes.Indexes.{Indexes}
use Rattle.net_model.specs.declared.route_key.RouteKey.{RouteKey}
use Rattle.net_model.specs.KeyOrder.{key_cmp, is_other, key_cmp_total}
use Rattle.net_model.specs.Listed.{ChangesAt, Same, Puts}
use Rattle.net_index.specs.InIndex.{listed}
use Rattle.net_model.specs.Edits.{same_route, stays_on_link}
use Rattle.net_model.specs.RoutePosition.{IsRouteAt, key_stays}
use Rattle.net_model.specs.OfName.{key_of, routes_of}
use Rattle.net_index.specs.Indexed.{AreIndexes}
use Rattle.net_model.proofs.lemmas.Listing.{keys_placed, keys_gone, keys_stay, keys_kept, ties_turned}

-- ---- the laws of edits, where the indexes are those of the lists before

-- a route that is put into its place, and its key into its device's list
pub put_route : (route : Route) (links : List Link) (routes : List Route) (old : Indexes) (new : Index RouteKey) → rises route_cmp routes ≡ true → AreIndexes links routes old
    → Puts key_cmp (key_of route) (same_bytes route.dev) (listed old.routes) (listed new) → AreIndexes links (put route_cmp route routes) (record old { routes = new })
put_route route links routes old new up is puts = record {
  over = is.over;
  ports = is.ports;
  vlans = is.vlans;
  by_dev = λ k. puts k ∙ ap (λ (ks : List RouteKey). if same_bytes route.dev k then put key_cmp (key_of route) ks else ks) (is.by_dev k)
      ∙ sym (keys_placed key_of (λ r. same_bytes r.dev k) key_cmp key_cmp_total route routes up);
}

-- lists of devices that have grown without a change
pub same_routes : (links : List Link) (routes : List Route) (old : Indexes) (new : Index RouteKey) → AreIndexes links routes old → Same (listed old.routes) (listed new) → AreIndexes links routes (record old { routes = new })
same_routes links routes old new is same = record { over = is.over; ports = is.ports; vlans = is.vlans; by_dev = λ k. same k ∙ is.by_dev k }

-- the routes of devices that go, whose lists are emptied
pub cleared_routes : (goes : List ℕ → Bool) (links : List Link) (routes : List Route) (old : Indexes) (new : Index RouteKey) → AreIndexes links routes old
    → ((k : List ℕ) → listed new k ≡ (if goes k then [] else listed old.routes k)) → AreIndexes links (filter (λ r. not (goes r.dev)) routes) (record old { routes = new })
cleared_routes goes links routes old new is cleared = record {
  over = is.over;
  ports = is.ports;
  vlans = is.vlans;
  by_dev = λ k.
      elim (goes k) as (λ v. goes k ≡ v → listed new k ≡ (if v then [] else listed old.routes k) → listed new k ≡ routes_of (filter (λ r. not (goes r.dev)) routes) k) [
        | true ↦ λ e h. h ∙ sym (keys_gone key_of (λ r. same_bytes r.dev k) (λ r. not (goes r.dev)) (λ r on. ap not (ap goes (one_name r.dev k on) ∙ e)) routes)
        | false ↦ λ e h. h ∙ is.by_dev k ∙ sym (keys_stay key_of (λ r. same_bytes r.dev k) (λ r. not (goes r.dev)) (λ r on. ap not (ap goes (one_name r.dev k on) ∙ e)) routes)
      ] refl (cleared k);
}

-- a route of another device isn't the same
off_device : (route r : Route) (k : List ℕ) → same_bytes k route.dev ≡ false → same_bytes r.dev k ≡ true → same_route route r ≡ false
off_device route r k off on =
    elim (same_route route r) as (λ v. same_route route r ≡ v → v ≡ false) [
      | true ↦ λ e.
          let same : same_bytes route.dev r.dev ≡ true = and_right (same_key route r && option_eq same_address route.gateway r.gateway) (same_bytes route.dev r.dev) e in
          let one : k ≡ route.dev = sym (one_name r.dev k on) ∙ sym (one_name route.dev r.dev same) in
          sym (itself route.dev) ∙ ap (λ (n : List ℕ). same_bytes n route.dev) (sym one) ∙ off
      | false ↦ λ e. refl
    ] refl

-- a route that is removed at its place, and its key that is taken out of its device's list
pub removed_route : (route : Route) (i : ℕ) (links : List Link) (routes : List Route) (old : Indexes) (new : Index RouteKey) → IsRouteAt route routes i → AreIndexes links routes old
    → ChangesAt route.dev (filter (is_other (key_of route)) (listed old.routes route.dev)) (listed old.routes) (listed new)
    → AreIndexes links (remove routes i) (record old { routes = new })
removed_route route i links routes old new at is changes = record {
  over = is.over;
  ports = is.ports;
  vlans = is.vlans;
  by_dev = λ k.
      elim (same_bytes k route.dev) as (λ v. same_bytes k route.dev ≡ v → listed new k ≡ routes_of (remove routes i) k) [
        | true ↦ λ e.
            let one : k ≡ route.dev = one_name k route.dev e in
            ap (listed new) one ∙ changes.here ∙ ap (λ (n : List ℕ). filter (is_other (key_of route)) (listed old.routes n)) (sym one) ∙ ap (filter (is_other (key_of route))) (is.by_dev k)
            ∙ sym (ap (λ (rs : List Route). routes_of rs k) at.by_key ∙ keys_kept key_of (λ r. same_bytes r.dev k) (λ r. not (same_key route r)) (is_other (key_of route)) routes (λ i d lt. tie (get_or routes i d)))
        | false ↦ λ e. changes.others k e ∙ is.by_dev k
            ∙ sym (ap (λ (rs : List Route). routes_of rs k) at.removes ∙ keys_stay key_of (λ r. same_bytes r.dev k) (λ r. not (same_route route r)) (λ r on. ap not (off_device route r k e on)) routes)
      ] refl;
}
  where
    tie : (r : Route) → is_other (key_of route) (key_of r) ≡ not (same_key route r)
    tie r = ap not (ties_turned key_cmp key_cmp_total (key_of r) (key_of route) ∙ sym (keys_tie route r))

-- a device's routes that stay on-link, and their keys that are kept
pub kept_on_link : (name : List ℕ) (links : List Link) (routes : List Route) (old : Indexes) (new : Index RouteKey) → rises route_cmp routes ≡ true → AreIndexes links routes old
    → ChangesAt name (filter (key_stays name links routes) (listed old.routes name)) (listed old.routes) (listed new)
    → AreIndexes links (filter (stays_on_link name links) routes) (record old { routes = new })
kept_on_link name links routes old new up is changes = record {
  over = is.over;
  ports = is.ports;
  vlans = is.vlans;
  by_dev = λ k.
      elim (same_bytes k name) as (λ v. same_bytes k name ≡ v → listed new k ≡ routes_of (filter (stays_on_link name links) routes) k) [
        | true ↦ λ e.
            let one : k ≡ name = one_name k name e in
            ap (listed new) one ∙ changes.here ∙ ap (λ (n : List ℕ). filter (key_stays name links routes) (listed old.routes n)) (sym one) ∙ ap (filter (key_stays name links routes)) (is.by_dev k)
            ∙ sym (keys_kept key_of (λ r. same_bytes r.dev k) (stays_on_link name links) (key_stays name links routes) routes agree)
        | false ↦ λ e. changes.others k e ∙ is.by_dev k
            ∙ sym (keys_stay key_of (λ r. same_bytes r.dev k) (stays_on_link name links) (λ r on. elsewhere r (ap (λ (n : List ℕ). same_bytes n name) (one_name r.dev k on) ∙ e)) routes)
      ] refl;
}
  where
    agree : (i : ℕ) (d : Route) → i < length routes → key_stays name links routes (key_of (get_or routes i d)) ≡ stays_on_link name links (get_or routes i d)
    agree i d lt = ap (λ o. option_map_or (stays_on_link name links) o true) (found_itself same_key route_cmp route_cmp_total keys_tie routes (apart-rises same_key route_cmp keys_tie routes up) i d lt)

    elsewhere : (r : Route) → same_bytes r.dev name ≡ false → stays_on_link name links r ≡ true
    elsewhere r off = ap (λ b. not b || named_passes (λ l. route_on_link l r) links name) off
