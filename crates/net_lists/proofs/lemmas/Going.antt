-- Links that go, and what the others name.
use Rattle.std.proofs.Common.{◌≡◌, ◌∙◌, ℕ, ◌<◌, ◌≤◌, Bool, true, false, not, ◌||◌, cond, List, [], ◌∷◌, map, filter, length, get_or, Option, Some, None, refl, sym, ap, arith}
use Rattle.std.specs.Prelude.{is_some, if◌then◌else◌}
use Rattle.std.specs.List.{list_any, list_all}
use Rattle.std.specs.Option.{option_map_or}
use Rattle.net_model.specs.Name.{same_bytes}
use Rattle.net_model.specs.Words.{rises, is_among, is_empty}
use Rattle.net_model.specs.Order.{link_cmp}
use Rattle.net_model.specs.Links.{is_named, is_twin, find_link, named_passes, is_port_of, ports_of}
use Rattle.net_model.specs.Valid.{names_differ, vlans_differ}
use Rattle.net_model.specs.Edits.{unless_gone, freed, has_primary_port, may_be_named}
use Rattle.net_model.specs.declared.link.Link.{Link}
use Rattle.net_model.proofs.lemmas.Truth.{or_left_false, or_right_false, or_right, not_true}
use Rattle.net_model.proofs.lemmas.Found.{one_name, itself, names_differ-rises}
use Rattle.net_model.proofs.lemmas.Grounded.{found_named}
use Rattle.net_model.proofs.lemmas.ByName.{all_map, all_found, passing_found, found_passing, map_by_name}
use Rattle.net_model.proofs.lemmas.Maps.{rises_map}
use Rattle.net_model.proofs.lemmas.Parts.{all_kept}
use Rattle.net_model.proofs.lemmas.Ports.{among_ports}
use Rattle.net_model.proofs.lemmas.ValidMoved.{apart_map}
use Rattle.net_model.proofs.lemmas.ListChanges.{either_way}
use Rattle.net_lists.proofs.lemmas.LinkLists.{ports_left}

-- where one name goes, the links of other names stay
pub one_goes : (goes : List (List ℕ)) (name d : List ℕ) → 1 ≤ length goes → length goes < 2 → name ≡ get_or goes 0 d → (links : List Link) → filter (λ l. not (is_named name l)) links ≡ filter (λ l. not (is_among goes l.name)) links
one_goes [] name d some few own links = absurd (omega arith)
one_goes (n ∷ m ∷ more) name d some few own links = absurd (omega arith)
one_goes (n ∷ []) name d some few own links = all links
  where
    test : (l : Link) → not (is_named name l) ≡ not (is_among (n ∷ []) l.name)
    test l = ap not (either_way l.name name ∙ ap (λ (m : List ℕ). same_bytes m l.name) own ∙ with_none (same_bytes n l.name))
      where
        with_none : (b : Bool) → b ≡ (b || false)
        with_none true = refl
        with_none false = refl

    all : (ls : List Link) → filter (λ l. not (is_named name l)) ls ≡ filter (λ l. not (is_among (n ∷ []) l.name)) ls
    all [] = refl
    all (l ∷ ls) =
        ap (λ b. cond b (l ∷ filter (λ k. not (is_named name k)) ls) (filter (λ k. not (is_named name k)) ls)) (test l)
        ∙ ap (λ (rest : List Link). cond (not (is_among (n ∷ []) l.name)) (l ∷ rest) rest) (all ls)

-- where no name of a list passes, one that is among them doesn't
none_of : (p : List ℕ → Bool) (goes : List (List ℕ)) → list_any p goes ≡ false → (n : List ℕ) → is_among goes n ≡ true → p n ≡ false
none_of p [] none n h = absurd cc
none_of p (m ∷ more) none n h =
    elim (same_bytes m n) as (λ v. same_bytes m n ≡ v → (v || is_among more n) ≡ true → p n ≡ false) [
      | true ↦ λ e _. ap p (sym (one_name m n e)) ∙ or_left_false (p m) (list_any p more) none
      | false ↦ λ _ later. none_of p more (or_right_false (p m) (list_any p more) none) n later
    ] refl h

-- a list that has a name isn't empty
some_there : (ns : List (List ℕ)) (n : List ℕ) → is_among ns n ≡ true → is_empty ns ≡ true → ⊥
some_there [] n h e = absurd cc
some_there (m ∷ ms) n h e = absurd cc

off : (b : Bool) → (b ≡ true → ⊥) → b ≡ false
off true h = absurd (h refl)
off false h = refl

kept : (o : Option (List ℕ)) (goes : List ℕ → Bool) → option_map_or goes o false ≡ false → unless_gone goes o ≡ o
kept None goes h = refl
kept (Some n) goes h = rw h refl

port_there : (o : Option (List ℕ)) (k : List ℕ) → option_map_or (λ c. same_bytes c k) o false ≡ true → is_some o ≡ true
port_there None k h = absurd cc
port_there (Some c) k h = refl

map_nothing : (links : List Link) → map (λ (l : Link). l) links ≡ links
map_nothing [] = refl
map_nothing (l ∷ ls) = ap (λ (rest : List Link). l ∷ rest) (map_nothing ls)

-- where none of the names that go has ports or a controller, no link names them
module _ (links : List Link) (up : rises link_cmp links ≡ true) (primaries : list_all (has_primary_port links) links ≡ true) (goes : List (List ℕ)) (none : list_any (may_be_named links) goes ≡ false) where
  differ : names_differ links ≡ true
  differ = names_differ-rises links up

  module _ (l : Link) (found : find_link l.name links ≡ Some l) where
    -- the controller stays
    controller : (o : Option (List ℕ)) → l.controller ≡ o → option_map_or (is_among goes) o false ≡ false
    controller None e = refl
    controller (Some c) e = off (is_among goes c) (λ h.
        let own : is_port_of c l ≡ true = ap (λ o. option_map_or (λ d. same_bytes d c) o false) e ∙ itself c in
        let there : is_among (ports_of links c) l.name ≡ true = among_ports links c l.name ∙ found_passing (is_port_of c) links l.name l found own in
        let no_ports : not (is_empty (ports_of links c)) ≡ false = or_left_false (not (is_empty (ports_of links c))) (named_passes (λ k. is_some k.controller) links c) (none_of (may_be_named links) goes none c h) in
        some_there (ports_of links c) l.name there (twice (is_empty (ports_of links c)) no_ports))
      where
        twice : (b : Bool) → not b ≡ false → b ≡ true
        twice true h = refl
        twice false h = sym h

    -- and so does the primary
    primary : (o : Option (List ℕ)) → option_map_or (is_among (ports_of links l.name)) o true ≡ true → option_map_or (is_among goes) o false ≡ false
    primary None h = refl
    primary (Some p) h = off (is_among goes p) (λ gone.
        let q = passing_found (is_port_of l.name) links p differ (sym (among_ports links l.name p) ∙ h) in
        let yes : named_passes (λ k. is_some k.controller) links p ≡ true = found_passing (λ k. is_some k.controller) links p q.0 q.1 (port_there q.0.controller l.name q.2) in
        let no : named_passes (λ k. is_some k.controller) links p ≡ false = or_right_false (not (is_empty (ports_of links p))) (named_passes (λ k. is_some k.controller) links p) (none_of (may_be_named links) goes none p gone) in
        let wrong : true ≡ false = sym yes ∙ no in
        absurd cc)

    as_it_is : freed (is_among goes) l ≡ l
    as_it_is =
        let free = controller l.controller refl in
        rw (kept l.controller (is_among goes) free, free, kept l.bond.primary (is_among goes) (primary l.bond.primary (all_found (has_primary_port links) links l.name l primaries found))) refl

  pub none_named : map (freed (is_among goes)) links ≡ links
  none_named =
      map_by_name (freed (is_among goes)) (λ (l : Link). l) links differ (λ n l found. as_it_is l (ap (λ m. find_link m links) (found_named links n l found) ∙ found))
      ∙ map_nothing links

-- to take out those that go and to free the others comes to the same in either order
pub free_then_keep : (goes : List ℕ → Bool) (links : List Link) → filter (λ l. not (goes l.name)) (map (freed goes) links) ≡ map (freed goes) (filter (λ l. not (goes l.name)) links)
free_then_keep goes [] = refl
free_then_keep goes (l ∷ ls) =
    elim (goes l.name) as (λ v. cond (not v) (freed goes l ∷ filter (λ k. not (goes k.name)) (map (freed goes) ls)) (filter (λ k. not (goes k.name)) (map (freed goes) ls)) ≡ map (freed goes) (cond (not v) (l ∷ filter (λ k. not (goes k.name)) ls) (filter (λ k. not (goes k.name)) ls))) [
      | true ↦ free_then_keep goes ls
      | false ↦ ap (λ (rest : List Link). freed goes l ∷ rest) (free_then_keep goes ls)
    ]

-- the links that name none of those that go are strictly sorted where all were
pub rises_freed : (goes : List ℕ → Bool) (links : List Link) → rises link_cmp links ≡ true → rises link_cmp (map (freed goes) links) ≡ true
rises_freed goes links up = rises_map (freed goes) (λ l. refl) links ∙ up

-- and no two of them are twins where no two were
pub twins_freed : (goes : List ℕ → Bool) (links : List Link) → vlans_differ links ≡ true → vlans_differ (map (freed goes) links) ≡ true
twins_freed goes links different = apart_map (freed goes) (λ (a b : Link). is_twin a.kind b.kind) (λ (a b : Link). is_twin a.kind b.kind) (λ a b. refl) links ∙ different

-- a primary that is left is one of the ports that are left
pub primaries_left : (goes : List ℕ → Bool) (links : List Link) → list_all (has_primary_port links) links ≡ true
    → list_all (has_primary_port (map (freed goes) (filter (λ l. not (goes l.name)) links))) (map (freed goes) (filter (λ l. not (goes l.name)) links)) ≡ true
primaries_left goes links old =
    all_map (freed goes) (λ l. has_primary_port left (freed goes l)) (has_primary_port left) (λ l. refl) (filter (λ l. not (goes l.name)) links)
    ∙ all_kept (λ l. not (goes l.name)) (has_primary_port links) (λ l. has_primary_port left (freed goes l)) (λ l own stays. primary l (not_true (goes l.name) stays) l.bond.primary own) links old
  where
    left : List Link
    left = map (freed goes) (filter (λ l. not (goes l.name)) links)

    among_kept : (ns : List (List ℕ)) (p : List ℕ) → goes p ≡ false → is_among ns p ≡ true → is_among (filter (λ n. not (goes n)) ns) p ≡ true
    among_kept [] p stays h = h
    among_kept (n ∷ ns) p stays h =
        elim (same_bytes n p) as (λ v. same_bytes n p ≡ v → (v || is_among ns p) ≡ true → is_among (cond (not (goes n)) (n ∷ filter (λ m. not (goes m)) ns) (filter (λ m. not (goes m)) ns)) p ≡ true) [
          | true ↦ λ e _. ap (λ b. is_among (cond (not b) (n ∷ filter (λ m. not (goes m)) ns) (filter (λ m. not (goes m)) ns)) p) (ap goes (one_name n p e) ∙ stays) ∙ ap (λ b. b || is_among (filter (λ m. not (goes m)) ns) p) e
          | false ↦ λ e later. elim (goes n) as (λ w. is_among (cond (not w) (n ∷ filter (λ m. not (goes m)) ns) (filter (λ m. not (goes m)) ns)) p ≡ true) [
            | true ↦ among_kept ns p stays later
            | false ↦ or_right (same_bytes n p) (is_among (filter (λ m. not (goes m)) ns) p) (among_kept ns p stays later)
          ]
        ] refl h

    primary : (l : Link) → goes l.name ≡ false → (o : Option (List ℕ)) → option_map_or (is_among (ports_of links l.name)) o true ≡ true → option_map_or (is_among (ports_of left l.name)) (unless_gone goes o) true ≡ true
    primary l stays None h = refl
    primary l stays (Some p) h = elim (goes p) as (λ v. goes p ≡ v → option_map_or (is_among (ports_of left l.name)) (if v then None else Some p) true ≡ true) [
      | true ↦ λ e. refl
      | false ↦ λ e. ap (λ (ns : List (List ℕ)). is_among ns p) (ports_left goes links l.name stays) ∙ among_kept (ports_of links l.name) p e h
    ] refl
