-- Links that are released before they go.
use Rattle.std.proofs.Common.{◌≡◌, ◌∙◌, ℕ, ◌<◌, ◌-◌, Bool, true, false, not, ◌&&◌, ◌||◌, ◌++◌, cond, List, [], ◌∷◌, map, filter, length, get_or, slice_get, Option, Some, None, refl, sym, ap, arith}
use Rattle.std.specs.Prelude.{is_some, if◌then◌else◌}
use Rattle.std.specs.List.{list_any}
use Rattle.std.specs.Option.{option_map_or}
use Rattle.std.proofs.lemmas.List.Folds.{list_any-append}
use Rattle.std.proofs.lemmas.Option.{none-some, slice_get-get_or, slice_get_within, get_or_from_slice_get}
use Rattle.net_model.specs.Name.{same_bytes}
use Rattle.net_model.specs.Words.{is_among, is_empty}
use Rattle.net_model.specs.Links.{find_link, is_named, named_passes, is_port_of, ports_of}
use Rattle.net_model.specs.Valid.{names_differ}
use Rattle.net_model.specs.Edits.{unless_gone, freed, may_be_named, without}
use Rattle.net_model.specs.NetData.{NetData, IsNet}
use Rattle.net_model.specs.declared.link.Link.{Link}
use Rattle.net_model.proofs.lemmas.Truth.{or_left_false, or_right_false, or_right}
use Rattle.net_model.proofs.lemmas.Found.{one_name, itself, names_differ-rises}
use Rattle.net_model.proofs.lemmas.ByName.{or_left, passing_found, passes_where_found}
use Rattle.net_model.proofs.lemmas.Places.{any_at}
use Rattle.net_model.proofs.lemmas.Ports.{among_ports}
use Rattle.net_model.proofs.lemmas.Ranks.{or_elim}
use Rattle.kernel_model.specs.Ports.{after_detach}
use Rattle.link_step.specs.Releasing.{Releases}
use Rattle.link_step.proofs.Detached.{detached_net, left_without, no_ports, no_controller}
use Rattle.link_step.proofs.Writing.{and_no}

in_one : (n : List ℕ) → is_among (n ∷ []) n ≡ true
in_one n = or_left (same_bytes n n) false (itself n)

the_one : (name n : List ℕ) → is_among (name ∷ []) n ≡ true → n ≡ name
the_one name n h = sym (one_name name n (or_elim (same_bytes name n) false (same_bytes name n ≡ true) (λ e. e) (λ e. absurd cc) h))

-- nothing is released at first
pub released_none : (names : List (List ℕ)) (net : NetData) → IsNet net → Releases names net net
released_none names net is = record {
  net = is;
  same = λ goes each. refl;
  ports = λ n none. none;
  controllers = λ n none. none;
}

-- one step after another
pub released_then : (names : List (List ℕ)) (old mid new : NetData) → Releases names old mid → Releases names mid new → Releases names old new
released_then names old mid new before after = record {
  net = after.net;
  same = λ goes each. after.same goes each ∙ before.same goes each;
  ports = λ n none. after.ports n (before.ports n none);
  controllers = λ n none. after.controllers n (before.controllers n none);
}

-- the release of one of the names
pub released_among : (names : List (List ℕ)) (name : List ℕ) (old new : NetData) → is_among names name ≡ true → Releases (name ∷ []) old new → Releases names old new
released_among names name old new among one = record {
  net = one.net;
  same = λ goes each. one.same goes (λ n h. ap goes (the_one name n h) ∙ each name among);
  ports = one.ports;
  controllers = one.controllers;
}

module _ (net : NetData) (is : IsNet net) (port controller : List ℕ) (owns : option_map_or (λ l. l.controller) (find_link port net.links) None ≡ Some controller) where
  -- a port of a link that goes is detached
  pub releases_controller : Releases (controller ∷ []) net (after_detach port net)
  releases_controller = record {
    net = detached_net net is port controller owns;
    same = λ goes each. left_without net is port controller owns goes (or_right (goes port) (goes controller) (each controller (in_one controller)));
    ports = no_ports port net.links;
    controllers = no_controller port net.links;
  }

  -- a port that goes is detached
  pub releases_port : Releases (port ∷ []) net (after_detach port net)
  releases_port = record {
    net = detached_net net is port controller owns;
    same = λ goes each. left_without net is port controller owns goes (or_left (goes port) (goes controller) (each port (in_one port)));
    ports = no_ports port net.links;
    controllers = no_controller port net.links;
  }

-- ---- the last port

-- a list without a last has none
pub no_last : (names : List (List ℕ)) → None ≡ slice_get names (length names - 1) → names ≡ []
no_last [] h = refl
no_last (n ∷ ns) h =
    let lt : length (n ∷ ns) - 1 < length (n ∷ ns) = omega arith in
    absurd (none-some (get_or (n ∷ ns) (length (n ∷ ns) - 1) n) (h ∙ slice_get-get_or (n ∷ ns) (length (n ∷ ns) - 1) n lt))

-- the last is one of them
pub last_among : (names : List (List ℕ)) (n : List ℕ) → Some n ≡ slice_get names (length names - 1) → is_among names n ≡ true
last_among names n h =
    any_at (λ m. same_bytes m n) names (length names - 1) n (slice_get_within names (length names - 1) n (sym h))
    (ap (λ (m : List ℕ). same_bytes m n) (get_or_from_slice_get names (length names - 1) n n (sym h)) ∙ itself n)

-- a port has the controller that lists it
pub port_owned : (net : NetData) → IsNet net → (controller port : List ℕ) → is_among (ports_of net.links controller) port ≡ true → option_map_or (λ l. l.controller) (find_link port net.links) None ≡ Some controller
port_owned net is controller port among =
    let p = passing_found (is_port_of controller) net.links port (names_differ-rises net.links is.in_order.links) (sym (among_ports net.links controller port) ∙ among) in
    ap (λ (o : Option Link). option_map_or (λ l. l.controller) o None) p.1 ∙ owner p.0.controller p.2
  where
    owner : (o : Option (List ℕ)) → option_map_or (λ c. same_bytes c controller) o false ≡ true → o ≡ Some controller
    owner None h = absurd cc
    owner (Some c) h = ap Some (one_name c controller h)

-- ---- links that no other names

-- a link whose controller isn't found has none
pub uncontrolled : (links : List Link) (name : List ℕ) → names_differ links ≡ true → option_map_or (λ (l : Link). l.controller) (find_link name links) None ≡ None → named_passes (λ l. is_some l.controller) links name ≡ false
uncontrolled links name differ none = passes_where_found (λ l. is_some l.controller) links name differ ∙ of (find_link name links) none
  where
    of : (o : Option Link) → option_map_or (λ (l : Link). l.controller) o None ≡ None → option_map_or (λ (l : Link). is_some l.controller) o false ≡ false
    of None h = refl
    of (Some l) h = ap is_some h

-- one without ports and without a controller is named by none
pub free_of : (links : List Link) (n : List ℕ) → ports_of links n ≡ [] → named_passes (λ l. is_some l.controller) links n ≡ false → may_be_named links n ≡ false
free_of links n ports controller = ap (λ (ns : List (List ℕ)). not (is_empty ns) || named_passes (λ l. is_some l.controller) links n) ports ∙ controller

-- and the other way round
without_ports : (links : List Link) (n : List ℕ) → may_be_named links n ≡ false → ports_of links n ≡ []
without_ports links n free = of (ports_of links n) (or_left_false (not (is_empty (ports_of links n))) (named_passes (λ l. is_some l.controller) links n) free)
  where
    of : (ns : List (List ℕ)) → not (is_empty ns) ≡ false → ns ≡ []
    of [] h = refl
    of (m ∷ ms) h = absurd cc

without_controller : (links : List Link) (n : List ℕ) → may_be_named links n ≡ false → named_passes (λ l. is_some l.controller) links n ≡ false
without_controller links n free = or_right_false (not (is_empty (ports_of links n))) (named_passes (λ l. is_some l.controller) links n) free

-- it stays so where others are released
pub stays_free : (names : List (List ℕ)) (old new : NetData) → Releases names old new → (n : List ℕ) → may_be_named old.links n ≡ false → may_be_named new.links n ≡ false
stays_free names old new released n free = free_of new.links n (released.ports n (without_ports old.links n free)) (released.controllers n (without_controller old.links n free))

-- what fails at each of them, where it fails at each of them before
pub none_then : (p q : List ℕ → Bool) → ((n : List ℕ) → p n ≡ false → q n ≡ false) → (names : List (List ℕ)) → list_any p names ≡ false → list_any q names ≡ false
none_then p q off [] h = refl
none_then p q off (n ∷ ns) h =
    ap (λ b. b || list_any q ns) (off n (or_left_false (p n) (list_any p ns) h)) ∙ none_then p q off ns (or_right_false (p n) (list_any p ns) h)

-- and at one more
pub none_more : (p : List ℕ → Bool) (names : List (List ℕ)) (n : List ℕ) → list_any p names ≡ false → p n ≡ false → list_any p (names ++ n ∷ []) ≡ false
none_more p names n h k = list_any-append p names (n ∷ []) ∙ ap (λ b. b || (p n || false)) h ∙ ap (λ b. b || false) k

-- ---- where others have gone

module _ (goes : List ℕ → Bool) (n : List ℕ) where
  off_port : (o : Option (List ℕ)) → option_map_or (λ c. same_bytes c n) o false ≡ false → option_map_or (λ c. same_bytes c n) (unless_gone goes o) false ≡ false
  off_port None h = refl
  off_port (Some c) h = elim (goes c) as (λ v. option_map_or (λ c. same_bytes c n) (if v then None else Some c) false ≡ false) [ true ↦ refl | false ↦ h ]

  no_ports_left : (links : List Link) → ports_of links n ≡ [] → ports_of (map (freed goes) (filter (λ l. not (goes l.name)) links)) n ≡ []
  no_ports_left [] none = refl
  no_ports_left (x ∷ xs) none =
      elim (is_port_of n x) as (λ v. is_port_of n x ≡ v → map (λ (l : Link). l.name) (cond v (x ∷ filter (is_port_of n) xs) (filter (is_port_of n) xs)) ≡ [] → ports_of (map (freed goes) (cond (not (goes x.name)) (x ∷ filter (λ l. not (goes l.name)) xs) (filter (λ l. not (goes l.name)) xs))) n ≡ []) [
        | true ↦ λ e some. absurd cc
        | false ↦ λ e later.
            let rest : ports_of (map (freed goes) (filter (λ l. not (goes l.name)) xs)) n ≡ [] = no_ports_left xs later in
            elim (goes x.name) as (λ w. ports_of (map (freed goes) (cond (not w) (x ∷ filter (λ l. not (goes l.name)) xs) (filter (λ l. not (goes l.name)) xs))) n ≡ []) [
              | true ↦ rest
              | false ↦
                  ap (λ b. map (λ (l : Link). l.name) (cond b (freed goes x ∷ filter (is_port_of n) (map (freed goes) (filter (λ l. not (goes l.name)) xs))) (filter (is_port_of n) (map (freed goes) (filter (λ l. not (goes l.name)) xs)))))
                  (off_port x.controller e)
                  ∙ rest
            ]
      ] refl none

  off_controller : (b : Bool) (o : Option (List ℕ)) → (b && is_some o) ≡ false → (b && is_some (unless_gone goes o)) ≡ false
  off_controller b None h = h
  off_controller b (Some c) h = elim (goes c) as (λ v. (b && is_some (if v then None else Some c)) ≡ false) [ true ↦ and_no b | false ↦ h ]

  no_controller_left : (links : List Link) → named_passes (λ l. is_some l.controller) links n ≡ false → named_passes (λ l. is_some l.controller) (map (freed goes) (filter (λ l. not (goes l.name)) links)) n ≡ false
  no_controller_left [] none = refl
  no_controller_left (x ∷ xs) none =
      let rest : named_passes (λ l. is_some l.controller) (map (freed goes) (filter (λ l. not (goes l.name)) xs)) n ≡ false =
      no_controller_left xs (or_right_false (is_named n x && is_some x.controller) (named_passes (λ l. is_some l.controller) xs n) none) in
      elim (goes x.name) as (λ w. named_passes (λ l. is_some l.controller) (map (freed goes) (cond (not w) (x ∷ filter (λ l. not (goes l.name)) xs) (filter (λ l. not (goes l.name)) xs))) n ≡ false) [
        | true ↦ rest
        | false ↦
            ap (λ b. b || named_passes (λ l. is_some l.controller) (map (freed goes) (filter (λ l. not (goes l.name)) xs)) n)
            (off_controller (is_named n x) x.controller (or_left_false (is_named n x && is_some x.controller) (named_passes (λ l. is_some l.controller) xs n) none))
            ∙ rest
      ]

  -- a link that no other names stays so
  pub left_free : (net : NetData) → may_be_named net.links n ≡ false → may_be_named (without goes net).links n ≡ false
  left_free net free = free_of (without goes net).links n (no_ports_left net.links (without_ports net.links n free)) (no_controller_left net.links (without_controller net.links n free))
