-- Two tests that agree on each name change the same.
use Rattle.std.proofs.Common.{◌≡◌, ℕ, Bool, false, not, List, [], ◌∷◌, map, filter, Option, Some, None, refl, ap, ◌∙◌}
use Rattle.std.proofs.lemmas.List.Elements.{filter_agree}
use Rattle.net_model.specs.Lists.{NetData}
use Rattle.net_model.specs.declared.link.Link.{Link}
use Rattle.net_model.specs.declared.route.Route.{Route}
use Rattle.net_model.specs.Edits.{unless_gone, port_freed, freed, without}

pub map_agree : {X Y : Type 0} (f g : X → Y) → ((x : X) → f x ≡ g x) → (xs : List X) → map f xs ≡ map g xs
map_agree f g same [] = refl
map_agree {Y = Y} f g same (x ∷ xs) = ap (λ (y : Y). y ∷ map f xs) (same x) ∙ ap (λ (ys : List Y). g x ∷ ys) (map_agree f g same xs)

module _ (p q : List ℕ → Bool) (same : (n : List ℕ) → p n ≡ q n) where
  gone_agree : (o : Option (List ℕ)) → unless_gone p o ≡ unless_gone q o
  gone_agree None = refl
  gone_agree (Some n) = rw (same n) refl

  port_agree : (l : Link) (o : Option (List ℕ)) → l.controller ≡ o → port_freed p l ≡ port_freed q l
  port_agree l None e = rw e refl
  port_agree l (Some n) e = rw (e, same n) refl

  freed_agree : (l : Link) → freed p l ≡ freed q l
  freed_agree l = rw (gone_agree l.controller, port_agree l l.controller refl, gone_agree l.bond.primary) refl

  routes_agree : (rs : List Route) → filter (λ r. not (p r.dev)) rs ≡ filter (λ r. not (q r.dev)) rs
  routes_agree rs = filter_agree (λ r. not (p r.dev)) (λ r. not (q r.dev)) (λ r. ap not (same r.dev)) rs

  -- what remains without those that go
  pub without_agree : (net : NetData) → without p net ≡ without q net
  without_agree net =
      rw (filter_agree (λ l. not (p l.name)) (λ l. not (q l.name)) (λ l. ap not (same l.name)) net.links, map_agree (freed p) (freed q) freed_agree (filter (λ l. not (q l.name)) net.links), routes_agree net.routes) refl

-- ---- where none go

no_name_goes : (o : Option (List ℕ)) → unless_gone (λ n. false) o ≡ o
no_name_goes None = refl
no_name_goes (Some n) = refl

no_port_freed : (l : Link) (o : Option (List ℕ)) → l.controller ≡ o → port_freed (λ n. false) l ≡ l.port
no_port_freed l None e = rw e refl
no_port_freed l (Some n) e = rw e refl

no_links_go : (ls : List Link) → map (freed (λ n. false)) (filter (λ l. not false) ls) ≡ ls
no_links_go [] = refl
no_links_go (l ∷ ls) =
    ap (λ (rest : List Link). freed (λ n. false) l ∷ rest) (no_links_go ls)
    ∙ ap (λ (x : Link). x ∷ ls) (rw (no_name_goes l.controller, no_port_freed l l.controller refl, no_name_goes l.bond.primary) refl)

no_routes_go : (rs : List Route) → filter (λ r. not false) rs ≡ rs
no_routes_go [] = refl
no_routes_go (r ∷ rs) = ap (λ (rest : List Route). r ∷ rest) (no_routes_go rs)

-- all remains
pub without_none : (net : NetData) → without (λ n. false) net ≡ net
without_none net = rw (no_links_go net.links, no_routes_go net.routes) refl
