-- Of what hangs on a link, only what is up changes where that goes down.
use Rattle.std.proofs.Common.{◌≡◌, ℕ, Bool, true, false, not, ◌&&◌, cond, List, [], ◌∷◌, filter, Some, refl, sym, ap, ◌∙◌}
use Rattle.std.specs.Prelude.{if◌then◌else◌}
use Rattle.std.specs.List.{list_all}
use Rattle.net_model.specs.Address.{Block}
use Rattle.net_model.specs.Words.{is_among}
use Rattle.net_model.specs.Links.{find_link}
use Rattle.net_model.specs.Valid.{names_differ, all_v4, route_on_link, route_stands, keys_differ}
use Rattle.net_model.specs.NetData.{NetData, IsNet}
use Rattle.net_model.specs.declared.link.Link.{Link}
use Rattle.net_model.specs.declared.route.Route.{Route}
use Rattle.net_model.proofs.lemmas.Truth.{and_left, and_right}
use Rattle.net_model.proofs.lemmas.Found.{names_differ-rises}
use Rattle.net_model.proofs.lemmas.Grounded.{found_named}
use Rattle.net_model.proofs.lemmas.FactsHold.{facts}
use Rattle.net_model.proofs.lemmas.AllParts.{all_parts}
use Rattle.net_model.proofs.lemmas.ByName.{passing_found, passes_as, map_by_name}
use Rattle.kernel_model.specs.Words.{hangs_on}
use Rattle.kernel_model.specs.UpDown.{v4_alone, lowered, fallen}
use Rattle.link_step.specs.declared.hanging.Affected.TheVariants.{Up}
use Rattle.link_step.specs.Hanging.{hangs, hangs_affected, affected_on}
use Rattle.link_step.proofs.Hangers.{and_yes, among_affected}

-- addresses without an IPv6 one stay
all_stay : (addrs : List Block) → all_v4 addrs ≡ true → v4_alone addrs ≡ addrs
all_stay [] h = refl
all_stay (b ∷ bs) h =
    ap (λ v. cond v (b ∷ v4_alone bs) (v4_alone bs)) (and_left (not b.addr.v6) (all_v4 bs) h)
    ∙ ap (λ (rest : List Block). b ∷ rest) (all_stay bs (and_right (not b.addr.v6) (all_v4 bs) h))

-- a link that is down stays as it is
down_stays : (falls : List ℕ → Bool) (l : Link) → l.up ≡ false → all_v4 l.addrs ≡ true → lowered falls l ≡ l
down_stays falls l down v4 =
    let up : (l.up && not (falls l.name)) ≡ l.up = ap (λ b. b && not (falls l.name)) down ∙ sym down in
    let addrs : (if falls l.name then v4_alone l.addrs else l.addrs) ≡ l.addrs =
    elim (falls l.name) as (λ v. (if v then v4_alone l.addrs else l.addrs) ≡ l.addrs) [ true ↦ all_stay l.addrs v4 | false ↦ refl ] in
    ap (λ b. let x : Link = record l { up = b; addrs = if falls l.name then v4_alone l.addrs else l.addrs } in x) up
    ∙ ap (λ (bs : List Block). let x : Link = record l { addrs = bs } in x) addrs

-- two tests that agree on the names of links that are up change the same
module _ (net : NetData) (is : IsNet net) (p q : List ℕ → Bool) (same : (n : List ℕ) (l : Link) → find_link n net.links ≡ Some l → l.up ≡ true → p n ≡ q n) where
  differ : names_differ net.links ≡ true
  differ = names_differ-rises net.links is.in_order.links

  links_as : (n : List ℕ) (l : Link) → find_link n net.links ≡ Some l → lowered p l ≡ lowered q l
  links_as n l found = elim l.up as (λ v. l.up ≡ v → lowered p l ≡ lowered q l) [
    | true ↦ λ e. (let agree : p l.name ≡ q l.name = ap p (found_named net.links n l found) ∙ same n l found e ∙ ap q (sym (found_named net.links n l found)) in rw agree refl)
    | false ↦ λ e.
        let v4 : all_v4 l.addrs ≡ true = ((facts net is).link n l found).down_without_v6 e in
        down_stays p l e v4 ∙ sym (down_stays q l e v4)
  ] refl

  routes_as : (rs : List Route) → list_all (route_stands net.links) rs ≡ true → filter (λ r. not (p r.dev)) rs ≡ filter (λ r. not (q r.dev)) rs
  routes_as [] h = refl
  routes_as (r ∷ rs) h =
      let dev = passing_found (λ l. l.up && route_on_link l r) net.links r.dev differ (and_left (route_stands net.links r) (list_all (route_stands net.links) rs) h) in
      let agree : p r.dev ≡ q r.dev = same r.dev dev.0 dev.1 (and_left dev.0.up (route_on_link dev.0 r) dev.2) in
      ap (λ b. cond (not b) (r ∷ filter (λ s. not (p s.dev)) rs) (filter (λ s. not (p s.dev)) rs)) agree
      ∙ ap (λ (rest : List Route). cond (not (q r.dev)) (r ∷ rest) rest) (routes_as rs (and_right (route_stands net.links r) (list_all (route_stands net.links) rs) h))

  fallen_as : fallen p net ≡ fallen q net
  fallen_as =
      rw (map_by_name (lowered p) (lowered q) net.links differ links_as, routes_as net.routes (and_left (list_all (route_stands net.links) net.routes) (keys_differ net.routes) (all_parts net is.valid).routes)) refl

-- so where what is up falls, all that hangs on the link has fallen
pub fallen_up : (net : NetData) → IsNet net → (root : List ℕ) → fallen (is_among (affected_on Up net.links root)) net ≡ fallen (hangs_on net.links root) net
fallen_up net is root =
    let apart : names_differ net.links ≡ true = names_differ-rises net.links is.in_order.links in
    fallen_as net is (is_among (affected_on Up net.links root)) (hangs_on net.links root) (λ n l found up.
    among_affected Up net.links root n
    ∙ passes_as (hangs_affected Up net.links root) net.links n l apart found
    ∙ ap (λ b. hangs net.links root l && b) up
    ∙ and_yes (hangs net.links root l)
    ∙ sym (passes_as (hangs net.links root) net.links n l apart found))
