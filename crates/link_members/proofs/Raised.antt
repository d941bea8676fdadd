-- The links that a link lifts, found by their names.
use Rattle.std.proofs.Common.{◌≡◌, ℕ, ◌+◌, ◌<◌, zero, suc, Bool, true, false, ◌&&◌, ◌||◌, List, [], ◌∷◌, ◌++◌, map, length, get_or, take, slice_get, Option, Some, None, is_some, if◌then◌else◌, refl, sym, ap, subst, ◌∙◌, arith, rules}
use Rattle.std.specs.List.{list_any, position, filter_map, cons_option}
use Rattle.std.specs.Option.{option_map_or, option_and_then, option_to_list, unwrap_or}
use Rattle.std.specs.Cmp.Lexicographic.{texts_ties}
use Rattle.std.proofs.lemmas.Cmp.{nat_list_cmp_total}
use Rattle.std.proofs.lemmas.List.{get_or-map, length-map}
use Rattle.std.proofs.lemmas.List.Elements.{filter_map-append}
use Rattle.std.proofs.lemmas.List.Quantifiers.{position-Some}
use Rattle.std.proofs.lemmas.Option.{slice_get-get_or}
use Rattle.reach.specs.Reach.{IsGraph, IsLeast, Represents}
use Rattle.net_model.specs.Name.{same_bytes}
use Rattle.net_model.specs.Words.{apart, is_among}
use Rattle.net_model.specs.Order.{name_cmp}
use Rattle.net_model.specs.Dependence.{has_base}
use Rattle.net_model.specs.declared.Kind.{Kind}
use Rattle.net_model.specs.declared.Kind.TheVariants.{Ethernet, Bond, Bridge, Vlan, Vrf, Dummy, Veth}
use Rattle.net_model.proofs.lemmas.Found.{one_name, itself}
use Rattle.net_model.proofs.lemmas.Places.{any_at, only_itself}
use Rattle.document_model.specs.declared.LinkEntry.{LinkEntry}
use Rattle.merge_model.specs.Kinds.{base_of}
use Rattle.merge_model.specs.Members.{Member}
use Rattle.merge_model.specs.Controllers.{ports_by, lists}
use Rattle.merge_model.specs.Lifted.{is_unstated, lifts, starts, is_lifted}
use Rattle.link_members.specs.Lifts.{held_names, if_unstated, unstated_place, unstated_places}
use Rattle.link_members.proofs.Firsts.{listed}
use Rattle.link_members.proofs.Listed.{has_place}
use Rattle.link_order.proofs.lemmas.Marked.{marks_reached}
use Rattle.link_order.proofs.lemmas.More.{take_one}

-- one name more
pub one_place_more : (h : List ℕ → Option ℕ) (names : List (List ℕ)) (i : ℕ) (name : List ℕ) → i < length names → name ≡ get_or names i name → filter_map h (take (i + 1) names) ≡ filter_map h (take i names) ++ option_to_list (h name)
one_place_more h names i name lt is =
    ap (filter_map h) (take_one names i name lt is)
    ∙ filter_map-append h (take i names) (name ∷ [])
    ∙ ap (λ ns. filter_map h (take i names) ++ ns) (last (h name))
  where
    last : (o : Option ℕ) → cons_option o [] ≡ option_to_list o
    last None = refl
    last (Some n) = refl

-- and the place of none
pub no_more : (places : List ℕ) → places ≡ places ++ []
no_more places = search rules

or_right : (a b : Bool) → b ≡ true → (a || b) ≡ true
or_right true b h = refl
or_right false b h = h

and_true : (a b : Bool) → (a && b) ≡ true → (a ≡ true) × (b ≡ true)
and_true true b h = (refl, h)
and_true false b h = absurd cc

both : (a b : Bool) → a ≡ true → b ≡ true → (a && b) ≡ true
both true b h k = k
both false b h k = absurd cc

-- each place is that of one of the names
places_sound : (h : List ℕ → Option ℕ) (names : List (List ℕ)) (k : ℕ) → k < length (filter_map h names) → (q : List ℕ) × (is_among names q ≡ true) × (h q ≡ Some (get_or (filter_map h names) k 0))
places_sound h [] k lt = absurd (omega (arith, lt))
places_sound h (x ∷ xs) k lt = by (h x) refl k lt (places_sound h xs)
  where
    by : (v : Option ℕ) → h x ≡ v → (k : ℕ) → k < length (cons_option v (filter_map h xs)) → ((j : ℕ) → j < length (filter_map h xs) → (q : List ℕ) × (is_among xs q ≡ true) × (h q ≡ Some (get_or (filter_map h xs) j 0)))
        → (q : List ℕ) × ((same_bytes x q || is_among xs q) ≡ true) × (h q ≡ Some (get_or (cons_option v (filter_map h xs)) k 0))
    by None e k lt later = let s = later k lt in (s.0, or_right (same_bytes x s.0) (is_among xs s.0) s.1, s.2)
    by (Some n) e zero lt later = (x, ap (λ b. b || is_among xs x) (itself x), e)
    by (Some n) e (suc k) lt later = let s = later k (omega (arith, lt)) in (s.0, or_right (same_bytes x s.0) (is_among xs s.0) s.1, s.2)

-- and each name that has a place has it among them
places_whole : (h : List ℕ → Option ℕ) (names : List (List ℕ)) (q : List ℕ) (n : ℕ) → is_among names q ≡ true → h q ≡ Some n → (k : ℕ) × (k < length (filter_map h names)) × (get_or (filter_map h names) k 0 ≡ n)
places_whole h [] q n a e = absurd cc
places_whole h (x ∷ xs) q n a e = by (same_bytes x q) refl a (λ b. places_whole h xs q n b e)
  where
    here : (v : Option ℕ) → v ≡ Some n → (k : ℕ) × (k < length (cons_option v (filter_map h xs))) × (get_or (cons_option v (filter_map h xs)) k 0 ≡ n)
    here (Some m) g = (0, omega arith, ap (λ o. unwrap_or o m) g)
    here None g = absurd cc

    further : (v : Option ℕ) → (k : ℕ) × (k < length (filter_map h xs)) × (get_or (filter_map h xs) k 0 ≡ n) → (k : ℕ) × (k < length (cons_option v (filter_map h xs))) × (get_or (cons_option v (filter_map h xs)) k 0 ≡ n)
    further None s = s
    further (Some m) s = (suc s.0, omega (arith, s.1), s.2)

    by : (v : Bool) → same_bytes x q ≡ v → (v || is_among xs q) ≡ true → (is_among xs q ≡ true → (k : ℕ) × (k < length (filter_map h xs)) × (get_or (filter_map h xs) k 0 ≡ n)) → (k : ℕ) × (k < length (cons_option (h x) (filter_map h xs))) × (get_or (cons_option (h x) (filter_map h xs)) k 0 ≡ n)
    by true s b later = here (h x) (ap h (one_name x q s) ∙ e)
    by false s b later = further (h x) (later b)

-- the names that a link holds are those of its base and of the ports of its stated list
held : (kind : Kind) (entry : Option LinkEntry) (q : List ℕ) → is_among (option_map_or (λ base. base ∷ []) (base_of kind) (unwrap_or (option_and_then (ports_by kind) entry) [])) q ≡ (has_base kind q || option_map_or (λ ports. is_among ports q) (option_and_then (ports_by kind) entry) false)
held (Vlan base id proto) None q = refl
held (Vlan base id proto) (Some e) q = refl
held (Ethernet m) entry q = listed (option_and_then (ports_by (Ethernet m)) entry) q
held (Bond m) entry q = listed (option_and_then (ports_by (Bond m)) entry) q
held Bridge entry q = listed (option_and_then (ports_by Bridge) entry) q
held (Vrf t) entry q = listed (option_and_then (ports_by (Vrf t)) entry) q
held Dummy entry q = listed (option_and_then (ports_by Dummy) entry) q
held (Veth p) entry q = listed (option_and_then (ports_by (Veth p)) entry) q

-- a place among the names is that of a link of this name of whose state nothing is stated
place_sound : (ms : List Member) (q : List ℕ) (n : ℕ) (d : Member) → unstated_place ms q ≡ Some n → (n < length ms) × (is_unstated (get_or ms n d) ≡ true) × ((get_or ms n d).name ≡ q)
place_sound ms q n d = by (position (λ x. same_bytes x q) (map (λ (m : Member). m.name) ms)) refl
  where
    at : (i : ℕ) → position (λ x. same_bytes x q) (map (λ (m : Member). m.name) ms) ≡ Some i → (v : Bool) → option_map_or is_unstated (slice_get ms i) false ≡ v → (if v then Some i else None) ≡ Some n → (n < length ms) × (is_unstated (get_or ms n d) ≡ true) × ((get_or ms n d).name ≡ q)
    at i is true u e =
        let s = position-Some (λ x. same_bytes x q) (map (λ (m : Member). m.name) ms) i [] is in
        let same : i ≡ n = ap (λ o. unwrap_or o i) e in
        let inside : i < length ms = omega (arith, s.0, length-map ms (λ (m : Member). m.name)) in
        let unstated : is_unstated (get_or ms i d) ≡ true = ap (λ o. option_map_or is_unstated o false) (sym (slice_get-get_or ms i d inside)) ∙ u in
        let named : (get_or ms i d).name ≡ q = one_name (get_or ms i d).name q (ap (λ x. same_bytes x q) (sym (get_or-map (λ (m : Member). m.name) ms i d [] inside)) ∙ s.1) in
        (omega (arith, inside, same), subst (λ j. is_unstated (get_or ms j d) ≡ true) same unstated, subst (λ j. (get_or ms j d).name ≡ q) same named)
    at i is false u e = absurd cc

    by : (o : Option ℕ) → position (λ x. same_bytes x q) (map (λ (m : Member). m.name) ms) ≡ o → option_and_then (if_unstated ms) o ≡ Some n → (n < length ms) × (is_unstated (get_or ms n d) ≡ true) × ((get_or ms n d).name ≡ q)
    by None is e = absurd cc
    by (Some i) is e = at i is (option_map_or is_unstated (slice_get ms i) false) refl e

-- where names differ each has its own place
own_place : (names : List (List ℕ)) (j : ℕ) → apart same_bytes names ≡ true → j < length names → position (λ n. same_bytes n (get_or names j [])) names ≡ Some j
own_place names j differ lt = by (position (λ n. same_bytes n (get_or names j [])) names) refl
  where
    there : list_any (λ n. same_bytes n (get_or names j [])) names ≡ true
    there = any_at (λ n. same_bytes n (get_or names j [])) names j [] lt (itself (get_or names j []))

    by : (o : Option ℕ) → position (λ n. same_bytes n (get_or names j [])) names ≡ o → o ≡ Some j
    by None e = let wrong : false ≡ true = ap is_some (sym e) ∙ has_place (λ n. same_bytes n (get_or names j [])) names ∙ there in absurd cc
    by (Some i) e =
        let s = position-Some (λ n. same_bytes n (get_or names j [])) names i [] e in
        ap Some (sym (only_itself same_bytes name_cmp nat_list_cmp_total texts_ties names differ i j [] s.0 lt s.1))

place_whole : (ms : List Member) (j : ℕ) (d : Member) → apart same_bytes (map (λ (m : Member). m.name) ms) ≡ true → j < length ms → is_unstated (get_or ms j d) ≡ true → unstated_place ms (get_or ms j d).name ≡ Some j
place_whole ms j d differ lt unstated =
    ap (option_and_then (if_unstated ms)) (ap (λ q. position (λ n. same_bytes n q) (map (λ (m : Member). m.name) ms)) (sym (get_or-map (λ (m : Member). m.name) ms j d [] lt)) ∙ own_place (map (λ (m : Member). m.name) ms) j differ (omega (arith, lt, length-map ms (λ (m : Member). m.name))))
    ∙ ap (λ (v : Bool). if v then Some j else None) (ap (λ o. option_map_or is_unstated o false) (slice_get-get_or ms j d lt) ∙ unstated)

module _ (ms : List Member) where
  abbrev drawn : Member → List ℕ
  drawn m = unstated_places ms (held_names m)

  drawn_sound : (m d : Member) (k : ℕ) → k < length (drawn m) → (get_or (drawn m) k 0 < length ms) × (lifts m (get_or ms (get_or (drawn m) k 0) d) ≡ true)
  drawn_sound m d k lt =
      let s = places_sound (unstated_place ms) (held_names m) k lt in
      let p = place_sound ms s.0 (get_or (drawn m) k 0) d s.2 in
      let holds : (has_base m.kind s.0 || lists m s.0) ≡ true = sym (held m.kind m.entry s.0) ∙ s.1 in
      (p.0, both (is_unstated (get_or ms (get_or (drawn m) k 0) d)) _ p.1 (ap (λ q. has_base m.kind q || lists m q) p.2 ∙ holds))

  drawn_whole : apart same_bytes (map (λ (m : Member). m.name) ms) ≡ true → (m d : Member) (j : ℕ) → j < length ms → lifts m (get_or ms j d) ≡ true → (k : ℕ) × (k < length (drawn m)) × (get_or (drawn m) k 0 ≡ j)
  drawn_whole differ m d j lt h =
      let b = and_true (is_unstated (get_or ms j d)) (has_base m.kind (get_or ms j d).name || lists m (get_or ms j d).name) h in
      places_whole (unstated_place ms) (held_names m) (get_or ms j d).name j (held m.kind m.entry (get_or ms j d).name ∙ b.1) (place_whole ms j d differ lt b.0)

  row_at : (i : ℕ) (d : Member) → i < length ms → get_or (map drawn ms) i [] ≡ drawn (get_or ms i d)
  row_at i d lt = get_or-map drawn ms i d [] lt

  drawn_Represents : apart same_bytes (map (λ (m : Member). m.name) ms) ≡ true → (d : Member) → Represents lifts starts ms d (map drawn ms) (map starts ms)
  drawn_Represents differ d = record {
    whole = length-map ms drawn;
    starting = λ i lt. get_or-map starts ms i d false lt;
    leading = λ i k lt here.
        let s = drawn_sound (get_or ms i d) d k (subst (λ (row : List ℕ). k < length row) (row_at i d lt) here) in
        ap (λ (row : List ℕ). lifts (get_or ms i d) (get_or ms (get_or row k 0) d)) (row_at i d lt) ∙ s.1;
    arrow = λ i j lt jt h.
        let s = drawn_whole differ (get_or ms i d) d j jt h in
        (s.0, subst (λ (row : List ℕ). s.0 < length row) (sym (row_at i d lt)) s.1, ap (λ (row : List ℕ). get_or row s.0 0) (row_at i d lt) ∙ s.2);
  }

  drawn_IsGraph : (d : Member) → IsGraph (map drawn ms)
  drawn_IsGraph d i k lt here =
      let inside : i < length ms = omega (arith, lt, length-map ms drawn) in
      let s = drawn_sound (get_or ms i d) d k (subst (λ (row : List ℕ). k < length row) (row_at i d inside) here) in
      omega (arith, s.0, ap (λ (row : List ℕ). get_or row k 0) (row_at i d inside), length-map ms drawn)

-- the places that the arrows lead to are the list's
pub lifts_graph : (ms : List Member) → IsGraph (map (λ m. unstated_places ms (held_names m)) ms)
lifts_graph [] = λ i k lt here. absurd (omega (arith, lt))
lifts_graph (m ∷ ms) = drawn_IsGraph (m ∷ ms) m

-- and the least marks are those of the links that are lifted
pub all_lifted : (ms : List Member) (arrows : List (List ℕ)) (ss marks : List Bool) → apart same_bytes (map (λ (m : Member). m.name) ms) ≡ true
    → arrows ≡ map (λ m. unstated_places ms (held_names m)) ms → ss ≡ map starts ms → IsLeast arrows ss marks → marks ≡ map (is_lifted ms) ms
all_lifted ms arrows ss marks differ e f least =
    marks_reached lifts starts ms (map (λ m. unstated_places ms (held_names m)) ms) (map starts ms) marks (drawn_Represents ms differ) (lifts_graph ms) (length-map ms (λ m. unstated_places ms (held_names m)))
    (subst (λ a. IsLeast a (map starts ms) marks) e (subst (λ s. IsLeast arrows s marks) f least))
