-- A port that is detached: what the links are then, and what is left where the port or its controller goes.
use Rattle.std.proofs.Common.{◌≡◌, ◌∙◌, ℕ, ◌<◌, suc, Bool, true, false, not, ◌&&◌, ◌||◌, cond, List, [], ◌∷◌, map, filter, length, Option, Some, None, refl, sym, ap, subst, arith}
use Rattle.std.specs.Prelude.{is_some, if◌then◌else◌}
use Rattle.std.specs.Option.{option_map_or}
use Rattle.std.proofs.lemmas.List.{map-id}
use Rattle.net_model.specs.Name.{same_bytes}
use Rattle.net_model.specs.Words.{is_among}
use Rattle.net_model.specs.Links.{find_link, is_named, named_passes, is_port_of, ports_of}
use Rattle.net_model.specs.Valid.{names_differ}
use Rattle.net_model.specs.Edits.{let_go, unless_gone, detached, freed, without}
use Rattle.net_model.specs.NetData.{NetData, IsNet}
use Rattle.net_model.specs.declared.link.Link.{Link}
use Rattle.net_model.specs.declared.call.Call.TheVariants.{Detach}
use Rattle.net_model.proofs.lemmas.Truth.{or_left_false, or_right_false}
use Rattle.net_model.proofs.lemmas.Found.{one_name, names_differ-rises}
use Rattle.net_model.proofs.lemmas.Grounded.{found_named}
use Rattle.net_model.proofs.lemmas.ByName.{map_by_name}
use Rattle.net_model.proofs.lemmas.Listing.{keys_left}
use Rattle.net_model.proofs.lemmas.Parts.{length_filter}
use Rattle.kernel_model.specs.Ports.{after_detach}
use Rattle.kernel_laws.proofs.lemmas.Changed.{changed_keeps}
use Rattle.kernel_laws.proofs.lemmas.StepKeeps.{keeps_net}
use Rattle.kernel_laws.proofs.lemmas.Taking.{is_accepted}
use Rattle.link_step.proofs.Hangers.{and_yes}
use Rattle.link_step.proofs.Primaries.{held}
use Rattle.link_step.proofs.Writing.{and_no}

-- without one of them there are fewer names
fewer : (names : List (List ℕ)) (n : List ℕ) → is_among names n ≡ true → length (filter (λ k. not (same_bytes k n)) names) < length names
fewer [] n h = absurd cc
fewer (m ∷ ms) n h =
    elim (same_bytes m n) as (λ v. (v || is_among ms n) ≡ true → length (cond (not v) (m ∷ filter (λ k. not (same_bytes k n)) ms) (filter (λ k. not (same_bytes k n)) ms)) < suc (length ms)) [
      | true ↦ λ _. omega (arith, length_filter (λ k. not (same_bytes k n)) ms)
      | false ↦ λ later. (let rest : length (filter (λ k. not (same_bytes k n)) ms) < length ms = fewer ms n later in omega (arith, rest))
    ] h

-- where one of two doesn't hold, the other does
second_holds : (a b : Bool) → (a || b) ≡ true → a ≡ false → b ≡ true
second_holds a b either off = sym (ap (λ v. v || b) off) ∙ either

first_holds : (a b : Bool) → (a || b) ≡ true → b ≡ false → a ≡ true
first_holds true b either off = refl
first_holds false b either off = sym off ∙ either

-- ---- the links after it

module _ (port : List ℕ) where
  abbrev d : Link → Link
  d = detached port

  pub named : (l : Link) → (detached port l).name ≡ l.name
  named = changed_keeps (λ (l : Link). l.name) port let_go (λ l. refl)

  port_test : (k : List ℕ) (l : Link) → is_port_of k (detached port l) ≡ (is_port_of k l && not (same_bytes l.name port))
  port_test k l = elim (same_bytes l.name port) as (λ v. option_map_or (λ c. same_bytes c k) (if v then let_go l else l).controller false ≡ (is_port_of k l && not v)) [
    | true ↦ sym (and_no (is_port_of k l))
    | false ↦ sym (and_yes (is_port_of k l))
  ]

  ports_then : (links : List Link) (k : List ℕ) → ports_of (map (detached port) links) k ≡ filter (λ n. not (same_bytes n port)) (ports_of links k)
  ports_then links k = keys_left (λ (l : Link). l.name) (is_port_of k) (detached port) (λ n. not (same_bytes n port)) named (port_test k) links

  -- a link without ports gets none
  pub no_ports : (links : List Link) (k : List ℕ) → ports_of links k ≡ [] → ports_of (map (detached port) links) k ≡ []
  no_ports links k none = ports_then links k ∙ ap (filter (λ n. not (same_bytes n port))) none

  -- one that has this port has fewer
  pub fewer_ports : (links : List Link) (k : List ℕ) → is_among (ports_of links k) port ≡ true → length (ports_of (map (detached port) links) k) < length (ports_of links k)
  fewer_ports links k among = subst (λ (ns : List (List ℕ)). length ns < length (ports_of links k)) (sym (ports_then links k)) (fewer (ports_of links k) port among)

  -- a link without a controller gets none
  pub no_controller : (links : List Link) (n : List ℕ) → named_passes (λ l. is_some l.controller) links n ≡ false → named_passes (λ l. is_some l.controller) (map (detached port) links) n ≡ false
  no_controller [] n none = refl
  no_controller (x ∷ xs) n none =
      let here : (is_named n x && is_some x.controller) ≡ false = or_left_false (is_named n x && is_some x.controller) (named_passes (λ l. is_some l.controller) xs n) none in
      let first : (is_named n (d x) && is_some (d x).controller) ≡ false =
      elim (is_named port x) as (λ v. (is_named n (d x) && is_some (if v then let_go x else x).controller) ≡ false) [
        | true ↦ and_no (is_named n (d x))
        | false ↦ ap (λ m. same_bytes m n && is_some x.controller) (named x) ∙ here
      ] in
      ap (λ b. b || named_passes (λ l. is_some l.controller) (map (detached port) xs) n) first
      ∙ no_controller xs n (or_right_false (is_named n x && is_some x.controller) (named_passes (λ l. is_some l.controller) xs n) none)

  -- and the port has none
  pub port_free : (links : List Link) → named_passes (λ l. is_some l.controller) (map (detached port) links) port ≡ false
  port_free [] = refl
  port_free (x ∷ xs) =
      let first : (is_named port (d x) && is_some (d x).controller) ≡ false =
      elim (is_named port x) as (λ v. is_named port x ≡ v → (is_named port (d x) && is_some (if v then let_go x else x).controller) ≡ false) [
        | true ↦ λ e. and_no (is_named port (d x))
        | false ↦ λ e. ap (λ b. b && is_some x.controller) (ap (λ m. same_bytes m port) (named x) ∙ e)
      ] refl in
      ap (λ b. b || named_passes (λ l. is_some l.controller) (map (detached port) xs) port) first ∙ port_free xs

-- ---- what is left without those that go

module _ (goes : List ℕ → Bool) where
  abbrev stays : Link → Bool
  stays l = not (goes l.name)

  -- the link as the change leaves it, if it stays
  abbrev if_left : (Link → Link) → Link → Link
  if_left f l = if goes l.name then l else freed goes (f l)

  keep_left : (f : Link → Link) → ((l : Link) → (f l).name ≡ l.name) → (xs : List Link) → filter stays (map (if_left f) xs) ≡ map (freed goes) (filter stays (map f xs))
  keep_left f name [] = refl
  keep_left f name (x ∷ xs) =
      let rest : filter stays (map (if_left f) xs) ≡ map (freed goes) (filter stays (map f xs)) = keep_left f name xs in
      elim (goes x.name) as (λ v. goes x.name ≡ v → filter stays ((if v then x else freed goes (f x)) ∷ map (if_left f) xs) ≡ map (freed goes) (cond (not v) (f x ∷ filter stays (map f xs)) (filter stays (map f xs)))) [
        | true ↦ λ e. ap (λ b. cond (not b) (x ∷ filter stays (map (if_left f) xs)) (filter stays (map (if_left f) xs))) e ∙ rest
        | false ↦ λ e.
            ap (λ b. cond (not b) (freed goes (f x) ∷ filter stays (map (if_left f) xs)) (filter stays (map (if_left f) xs))) (ap goes (name x) ∙ e)
            ∙ ap (λ (ls : List Link). freed goes (f x) ∷ ls) rest
      ] refl
      ∙ ap (λ (n : List ℕ). map (freed goes) (cond (not (goes n)) (f x ∷ filter stays (map f xs)) (filter stays (map f xs)))) (sym (name x))

  same_if_left : (f : Link → Link) (l : Link) → (goes l.name ≡ false → freed goes (f l) ≡ freed goes l) → if_left f l ≡ if_left (λ (k : Link). k) l
  same_if_left f l same = elim (goes l.name) as (λ v. goes l.name ≡ v → (if v then l else freed goes (f l)) ≡ (if v then l else freed goes l)) [
    | true ↦ λ e. refl
    | false ↦ λ e. same e
  ] refl

  -- a change that is the same of each link that stays
  same_left : (f : Link → Link) → ((l : Link) → (f l).name ≡ l.name) → (xs : List Link) → names_differ xs ≡ true
      → ((n : List ℕ) (l : Link) → find_link n xs ≡ Some l → goes l.name ≡ false → freed goes (f l) ≡ freed goes l)
      → map (freed goes) (filter stays (map f xs)) ≡ map (freed goes) (filter stays xs)
  same_left f name xs differ each =
      sym (keep_left f name xs)
      ∙ ap (filter stays) (map_by_name (if_left f) (if_left (λ (k : Link). k)) xs differ (λ n l found. same_if_left f l (each n l found)))
      ∙ keep_left (λ (k : Link). k) (λ l. refl) xs
      ∙ ap (λ (ls : List Link). map (freed goes) (filter stays ls)) (map-id xs)

  -- a primary that goes, or isn't the port
  gone_again : (port : List ℕ) (o : Option (List ℕ)) → (option_map_or (λ n. same_bytes n port) o false ≡ true → goes port ≡ true) → unless_gone goes (unless_gone (λ n. same_bytes n port) o) ≡ unless_gone goes o
  gone_again port None h = refl
  gone_again port (Some n) h = elim (same_bytes n port) as (λ v. same_bytes n port ≡ v → unless_gone goes (if v then None else Some n) ≡ (if goes n then None else Some n)) [
    | true ↦ λ e. sym (ap (λ b. if b then None else Some n) (ap goes (one_name n port e) ∙ h e))
    | false ↦ λ e. refl
  ] refl

module _ (net : NetData) (is : IsNet net) (port controller : List ℕ) (owns : option_map_or (λ l. l.controller) (find_link port net.links) None ≡ Some controller) where
  there : (p : Link) × (find_link port net.links ≡ Some p) × (p.controller ≡ Some controller)
  there = of (find_link port net.links) refl
    where
      of : (o : Option Link) → find_link port net.links ≡ o → (p : Link) × (find_link port net.links ≡ Some p) × (p.controller ≡ Some controller)
      of None e = absurd (let no : (let o : Option (List ℕ) = None in o) ≡ Some controller = ap (λ o. option_map_or (λ (l : Link). l.controller) o None) (sym e) ∙ owns in cc)
      of (Some p) e = (p, e, ap (λ o. option_map_or (λ (l : Link). l.controller) o None) (sym e) ∙ owns)

  -- a network is left
  pub detached_net : IsNet (after_detach port net)
  detached_net = keeps_net (Detach port) net (after_detach port net) is (is_accepted (Detach port) net is (there.0, there.1, (controller, there.2)))

  -- where the port goes or the controller
  module _ (goes : List ℕ → Bool) (out : (goes port || goes controller) ≡ true) where
    as_before : (l : Link) → find_link l.name net.links ≡ Some l → goes l.name ≡ false → freed goes (detached port l) ≡ freed goes l
    as_before l found left =
        let primary : unless_gone goes (unless_gone (λ n. same_bytes n port) l.bond.primary) ≡ unless_gone goes l.bond.primary =
        gone_again goes port l.bond.primary (λ has. first_holds (goes port) (goes controller) out (ap goes (sym (one_name l.name controller (held net is port controller owns l found has))) ∙ left)) in
        elim (is_named port l) as (λ v. is_named port l ≡ v → freed goes (detached port l) ≡ freed goes l) [
          | true ↦ λ e.
              let own : l.name ≡ port = one_name l.name port e in
              let has : l.controller ≡ Some controller =
              sym (ap (λ o. option_map_or (λ (k : Link). k.controller) o None) (ap (λ m. find_link m net.links) (sym own) ∙ found)) ∙ owns in
              let on : goes controller ≡ true = second_holds (goes port) (goes controller) out (ap goes (sym own) ∙ left) in
              rw (e, has, on, primary) refl
          | false ↦ λ e. rw (e, primary) refl
        ] refl

    -- nothing else is left than before
    pub left_without : without goes (after_detach port net) ≡ without goes net
    left_without =
        ap (λ (ls : List Link). let n : NetData = record net { links = ls; routes = filter (λ r. not (goes r.dev)) net.routes } in n)
        (same_left goes (detached port) (named port) net.links (names_differ-rises net.links is.in_order.links) (λ n l found left.
        as_before l (ap (λ m. find_link m net.links) (found_named net.links n l found) ∙ found) left))
