-- Networks without links that go.
use Rattle.std.proofs.Common.{◌≡◌, ℕ, Bool, true, false, not, ◌||◌, cond, List, [], ◌∷◌, map, filter, Option, Some, None, refl, sym, ap, ◌∙◌}
use Rattle.std.specs.Prelude.{if◌then◌else◌}
use Rattle.std.specs.Option.{option_map_or}
use Rattle.net_model.specs.Lists.{NetData}
use Rattle.net_model.specs.Options.{default_port}
use Rattle.net_model.specs.Edits.{unless_gone, port_freed, freed, without}
use Rattle.net_model.specs.declared.link.Link.{Link}
use Rattle.net_model.specs.declared.route.Route.{Route}

-- what goes in two steps goes as if in one
module _ (p q r : List ℕ → Bool) (is : (n : List ℕ) → r n ≡ (p n || q n)) where
  gone_more : (o : Option (List ℕ)) → unless_gone q (unless_gone p o) ≡ unless_gone r o
  gone_more None = refl
  gone_more (Some n) = rw (is n) (elim (p n) as (λ v. unless_gone q (if v then None else Some n) ≡ (if v || q n then None else Some n)) [ true ↦ refl | false ↦ refl ])

  port_more : (l : Link) (o : Option (List ℕ)) → l.controller ≡ o → port_freed q (freed p l) ≡ port_freed r l
  port_more l None e = rw e refl
  port_more l (Some n) e =
      rw (e, is n) (elim (p n) as (λ v. (if option_map_or q (if v then None else Some n) false then default_port else (if v then default_port else l.port)) ≡ (if v || q n then default_port else l.port)) [ true ↦ refl | false ↦ refl ])

  freed_more : (l : Link) → freed q (freed p l) ≡ freed r l
  freed_more l = rw (gone_more l.controller, port_more l l.controller refl, gone_more l.bond.primary) refl

  links_more : (xs : List Link) → map (freed q) (filter (λ l. not (q l.name)) (map (freed p) (filter (λ l. not (p l.name)) xs))) ≡ map (freed r) (filter (λ l. not (r l.name)) xs)
  links_more [] = refl
  links_more (x ∷ xs) =
      let rest = links_more xs in
      rw (is x.name)
      (elim (p x.name) as (λ v. map (freed q) (filter (λ l. not (q l.name)) (map (freed p) (cond (not v) (x ∷ filter (λ l. not (p l.name)) xs) (filter (λ l. not (p l.name)) xs)))) ≡ map (freed r) (cond (not (v || q x.name)) (x ∷ filter (λ l. not (r l.name)) xs) (filter (λ l. not (r l.name)) xs))) [
        | true ↦ rest
        | false ↦
            elim (q x.name) as (λ w. map (freed q) (cond (not w) (freed p x ∷ filter (λ l. not (q l.name)) (map (freed p) (filter (λ l. not (p l.name)) xs))) (filter (λ l. not (q l.name)) (map (freed p) (filter (λ l. not (p l.name)) xs)))) ≡ map (freed r) (cond (not w) (x ∷ filter (λ l. not (r l.name)) xs) (filter (λ l. not (r l.name)) xs))) [
              | true ↦ rest
              | false ↦ ap (λ (ls : List Link). freed q (freed p x) ∷ ls) rest ∙ ap (λ (l : Link). l ∷ map (freed r) (filter (λ l. not (r l.name)) xs)) (freed_more x)
            ]
      ])

  routes_more : (rs : List Route) → filter (λ x. not (q x.dev)) (filter (λ x. not (p x.dev)) rs) ≡ filter (λ x. not (r x.dev)) rs
  routes_more [] = refl
  routes_more (y ∷ ys) =
      let rest = routes_more ys in
      rw (is y.dev)
      (elim (p y.dev) as (λ v. filter (λ x. not (q x.dev)) (cond (not v) (y ∷ filter (λ x. not (p x.dev)) ys) (filter (λ x. not (p x.dev)) ys)) ≡ cond (not (v || q y.dev)) (y ∷ filter (λ x. not (r x.dev)) ys) (filter (λ x. not (r x.dev)) ys)) [
        | true ↦ rest
        | false ↦
            elim (q y.dev) as (λ w. cond (not w) (y ∷ filter (λ x. not (q x.dev)) (filter (λ x. not (p x.dev)) ys)) (filter (λ x. not (q x.dev)) (filter (λ x. not (p x.dev)) ys)) ≡ cond (not w) (y ∷ filter (λ x. not (r x.dev)) ys) (filter (λ x. not (r x.dev)) ys)) [
              | true ↦ rest
              | false ↦ ap (λ (zs : List Route). y ∷ zs) rest
            ]
      ])

  pub without_more : (net : NetData) → without q (without p net) ≡ without r net
  without_more net = rw (links_more net.links, routes_more net.routes) refl

-- ---- where none go

no_name_goes : (o : Option (List ℕ)) → unless_gone (λ n. false) o ≡ o
no_name_goes None = refl
no_name_goes (Some n) = refl

no_port_freed : (l : Link) (o : Option (List ℕ)) → l.controller ≡ o → port_freed (λ n. false) l ≡ l.port
no_port_freed l None e = rw e refl
no_port_freed l (Some n) e = rw e refl

no_links_go : (ls : List Link) → map (freed (λ n. false)) (filter (λ l. not false) ls) ≡ ls
no_links_go [] = refl
no_links_go (l ∷ ls) =
    ap (λ (rest : List Link). freed (λ n. false) l ∷ rest) (no_links_go ls)
    ∙ ap (λ (x : Link). x ∷ ls) (rw (no_name_goes l.controller, no_port_freed l l.controller refl, no_name_goes l.bond.primary) refl)

no_routes_go : (rs : List Route) → filter (λ r. not false) rs ≡ rs
no_routes_go [] = refl
no_routes_go (r ∷ rs) = ap (λ (rest : List Route). r ∷ rest) (no_routes_go rs)

-- all remains
pub without_none : (net : NetData) → without (λ n. false) net ≡ net
without_none net = rw (no_links_go net.links, no_routes_go net.routes) refl

-- two tests that agree on each name leave the same
pub without_agree : (p q : List ℕ → Bool) → ((n : List ℕ) → p n ≡ q n) → (net : NetData) → without p net ≡ without q net
without_agree p q same net = sym (without_none (without p net)) ∙ without_more p (λ n. false) q (λ n. sym (same n) ∙ or_none (p n)) net
  where
    or_none : (b : Bool) → b ≡ (b || false)
    or_none true = refl
    or_none false = refl
