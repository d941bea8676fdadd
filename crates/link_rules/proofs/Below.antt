-- The arrows from links to those that they depend on, drawn from the names in links.
use Rattle.std.proofs.Common.{◌≡◌, ◌⊎◌, inl, inr, ◌<◌, ◌≤◌, ◌+◌, ◌-◌, ℕ, Bool, true, false, ◌||◌, List, [], ◌∷◌, map, length, get_or, Option, Some, None, refl, sym, ap, subst, ◌∙◌, arith}
use Rattle.std.specs.List.{position}
use Rattle.std.specs.Option.{option_map_or, option_to_list}
use Rattle.std.proofs.lemmas.Cmp.{nat_list_eq_equiv}
use Rattle.std.proofs.lemmas.List.{get_or-map, length-map, length-append, get_or_append_left, get_or-append-add}
use Rattle.std.proofs.lemmas.List.Quantifiers.{position-Some}
use Rattle.reach.specs.Reach.{is_reached, IsGraph, IsLeast, Represents}
use Rattle.reach.proofs.lemmas.Least.{least_is_reached}
use Rattle.net_model.specs.Name.{same_bytes}
use Rattle.reach.specs.Positions.{positions}
use Rattle.net_model.specs.Links.{is_named, is_port_of}
use Rattle.net_model.specs.Dependence.{has_base, depends_on}
use Rattle.net_model.specs.Valid.{names_differ}
use Rattle.net_model.specs.declared.Kind.{Kind}
use Rattle.net_model.specs.declared.Kind.TheVariants.{Ethernet, Bond, Bridge, Vlan, Vrf, Dummy, Veth}
use Rattle.net_model.specs.declared.Link.{Link}
use Rattle.reach.proofs.lemmas.Positions.{positions_sound, positions_whole}
use Rattle.merge_model.specs.Kinds.{base_of}
use Rattle.link_order.proofs.lemmas.Placed.{unplaced}
use Rattle.link_order.proofs.lemmas.Rows.{positions_same, no_places, named_place, unnamed_place}
use Rattle.link_rules.specs.Rows.{base_row, controls, row_below}

-- the place of a name in the index is that of the link of this name
pub indexed_place : (links : List Link) (name : List ℕ) (o : Option ℕ) → names_differ links ≡ true → position (λ n. same_bytes n name) (map (λ (l : Link). l.name) links) ≡ o → option_to_list o ≡ positions (is_named name) 0 links
indexed_place links name None differ is = unnamed_place links name differ (unplaced (λ (l : Link). l.name) (λ n. same_bytes n name) links is)
indexed_place links name (Some i) differ is =
    let s = position-Some (λ n. same_bytes n name) (map (λ (l : Link). l.name) links) i [] is in
    let inside : i < length links = omega (arith, s.0, length-map links (λ (l : Link). l.name)) in
    named_place links name i differ inside (λ d. ap (λ n. same_bytes n name) (sym (get_or-map (λ (l : Link). l.name) links i d [] inside)) ∙ s.1)

-- what passes is the link of a name
pub placed_by : (links : List Link) (p : Link → Bool) (name : List ℕ) (o : Option ℕ) → ((l : Link) → p l ≡ same_bytes name l.name) → option_to_list o ≡ positions (is_named name) 0 links → option_to_list o ≡ positions p 0 links
placed_by links p name o by at = at ∙ positions_same (is_named name) p (λ l. nat_list_eq_equiv.symm l.name name ∙ sym (by l)) 0 links

-- or nothing passes
pub placed_nowhere : (links : List Link) (p : Link → Bool) → ((l : Link) → p l ≡ false) → option_to_list {X = ℕ} None ≡ positions p 0 links
placed_nowhere links p none = sym (no_places p 0 links (λ k d lt. none (get_or links k d)))

-- a VLAN is over the link of its base's name
pub over_base : (kind : Kind) (q : List ℕ) → has_base kind q ≡ option_map_or (λ b. same_bytes b q) (base_of kind) false
over_base (Ethernet m) q = refl
over_base (Bond m) q = refl
over_base Bridge q = refl
over_base (Vlan base id proto) q = refl
over_base (Vrf t) q = refl
over_base Dummy q = refl
over_base (Veth p) q = refl

below_or_above : (k n : ℕ) → (k < n) ⊎ (n ≤ k)
below_or_above k n = grind arith

or_left : (a b : Bool) → a ≡ true → (a || b) ≡ true
or_left true b h = refl
or_left false b h = absurd cc

or_right : (a b : Bool) → b ≡ true → (a || b) ≡ true
or_right true b h = refl
or_right false b h = h

either : (a b : Bool) → (a || b) ≡ true → (a ≡ true) ⊎ (b ≡ true)
either true b h = inl refl
either false b h = inr h

module _ (links : List Link) where
  over : Link → Link → Bool
  over l b = has_base l.kind b.name

  row_sound : (l d : Link) (k : ℕ) → k < length (row_below links l) → (get_or (row_below links l) k 0 < length links) × (depends_on l (get_or links (get_or (row_below links l) k 0) d) ≡ true)
  row_sound l d k lt = elim (below_or_above k (length (base_row links l))) [
    | inl low ↦
        let s = positions_sound (λ b. has_base l.kind b.name) 0 links k d low in
        let at : s.0 ≡ get_or (row_below links l) k 0 = sym (get_or_append_left (base_row links l) (positions (controls l) 0 links) 0 k low ∙ s.2 ∙ omega arith) in (
          omega (arith, at, s.1),
          subst (λ n. depends_on l (get_or links n d) ≡ true) at (or_left (has_base l.kind (get_or links s.0 d).name) (is_port_of l.name (get_or links s.0 d)) s.3),
        )
    | inr high ↦
        let m : ℕ = k - length (base_row links l) in
        let split : k ≡ length (base_row links l) + m = omega (arith, high) in
        let short : m < length (positions (controls l) 0 links) = omega (arith, lt, split, length-append (base_row links l) (positions (controls l) 0 links)) in
        let s = positions_sound (controls l) 0 links m d short in
        let at : s.0 ≡ get_or (row_below links l) k 0 = sym (ap (λ n. get_or (row_below links l) n 0) split ∙ get_or-append-add (base_row links l) (positions (controls l) 0 links) m 0 ∙ s.2 ∙ omega arith) in (
          omega (arith, at, s.1),
          subst (λ n. depends_on l (get_or links n d) ≡ true) at (or_right (has_base l.kind (get_or links s.0 d).name) (is_port_of l.name (get_or links s.0 d)) s.3),
        )
  ]

  row_whole : (l d : Link) (j : ℕ) → j < length links → depends_on l (get_or links j d) ≡ true → (k : ℕ) × (k < length (row_below links l)) × (get_or (row_below links l) k 0 ≡ j)
  row_whole l d j lt h = elim (either (has_base l.kind (get_or links j d).name) (is_port_of l.name (get_or links j d)) h) [
    | inl base ↦
        let s = positions_whole (λ b. has_base l.kind b.name) 0 links j d lt base in (
          s.0,
          omega (arith, s.1, length-append (base_row links l) (positions (controls l) 0 links)),
          get_or_append_left (base_row links l) (positions (controls l) 0 links) 0 s.0 s.1 ∙ s.2 ∙ omega arith,
        )
    | inr port ↦
        let s = positions_whole (controls l) 0 links j d lt port in (
          length (base_row links l) + s.0,
          omega (arith, s.1, length-append (base_row links l) (positions (controls l) 0 links)),
          get_or-append-add (base_row links l) (positions (controls l) 0 links) s.0 0 ∙ s.2 ∙ omega arith,
        )
  ]

  row_at : (i : ℕ) (d : Link) → i < length links → get_or (map (row_below links) links) i [] ≡ row_below links (get_or links i d)
  row_at i d lt = get_or-map (row_below links) links i d [] lt

  -- they are the graph of dependence
  pub below-Represents : (starts : Link → Bool) (d : Link) → Represents depends_on starts links d (map (row_below links) links) (map starts links)
  below-Represents starts d = record {
    whole = length-map links (row_below links);
    starting = λ i lt. get_or-map starts links i d false lt;
    leading = λ i k lt here.
        let s = row_sound (get_or links i d) d k (subst (λ (row : List ℕ). k < length row) (row_at i d lt) here) in
        ap (λ (row : List ℕ). depends_on (get_or links i d) (get_or links (get_or row k 0) d)) (row_at i d lt) ∙ s.1;
    arrow = λ i j lt jt h.
        let s = row_whole (get_or links i d) d j jt h in
        (s.0, subst (λ (row : List ℕ). s.0 < length row) (sym (row_at i d lt)) s.1, ap (λ (row : List ℕ). get_or row s.0 0) (row_at i d lt) ∙ s.2);
  }

  below-IsGraph : (d : Link) → IsGraph (map (row_below links) links)
  below-IsGraph d i k lt here =
      let inside : i < length links = omega (arith, lt, length-map links (row_below links)) in
      let s = row_sound (get_or links i d) d k (subst (λ (row : List ℕ). k < length row) (row_at i d inside) here) in
      omega (arith, s.0, ap (λ (row : List ℕ). get_or row k 0) (row_at i d inside), length-map links (row_below links))

-- whose places are the list's
pub below_graph : (links : List Link) → IsGraph (map (row_below links) links)
below_graph [] = λ i k lt here. absurd (omega (arith, lt))
below_graph (x ∷ xs) = below-IsGraph (x ∷ xs) x

-- what is marked is what is reached
pub marked_below : (links : List Link) (starts : Link → Bool) (d : Link) (arrows : List (List ℕ)) (ss marks : List Bool) → arrows ≡ map (row_below links) links → ss ≡ map starts links → IsLeast arrows ss marks
    → (j : ℕ) → j < length links → (get_or marks j false ≡ is_reached depends_on starts links (length links) (get_or links j d)) × (length marks ≡ length links)
marked_below links starts d arrows ss marks e f least j lt =
    let whole : IsLeast (map (row_below links) links) (map starts links) marks = subst (λ a. IsLeast a (map starts links) marks) e (subst (λ s. IsLeast arrows s marks) f least) in (
      least_is_reached depends_on starts links d (map (row_below links) links) (map starts links) marks (below-Represents links starts d) (below_graph links) whole j lt,
      whole.whole ∙ length-map links (row_below links),
    )
