-- What is known of the links that are strictly sorted by name, of the names that belong to one, and of links that go.
use Rattle.std.proofs.Common.{◌≡◌, ◌∙◌, ℕ, Bool, true, false, not, ◌||◌, cond, List, [], ◌∷◌, map, filter, Some, None, Option, refl, sym, ap}
use Rattle.std.specs.Prelude.{is_some, if◌then◌else◌}
use Rattle.std.specs.List.{list_any, find}
use Rattle.std.specs.Option.{option_map_or}
use Rattle.net_model.specs.Name.{same_bytes}
use Rattle.net_model.specs.Words.{rises, put, is_among}
use Rattle.net_model.specs.Order.{name_cmp, link_cmp}
use Rattle.net_model.specs.Links.{is_named, is_port_of, is_twin, find_link, named_passes, ports_of}
use Rattle.net_model.specs.Dependence.{has_base}
use Rattle.net_model.specs.Valid.{vlans_differ}
use Rattle.net_model.specs.declared.link.Link.{Link}
use Rattle.net_model.specs.declared.link.Kind.{Kind}
use Rattle.net_model.specs.declared.link.Kind.TheVariants.{Vlan}
use Rattle.net_model.specs.declared.options.Proto.{Proto}
use Rattle.net_model.proofs.lemmas.Found.{one_name, names_tie, names_differ-rises, named_passes_found}
use Rattle.net_model.proofs.lemmas.Orders.{link_cmp_total}
use Rattle.net_model.proofs.lemmas.ByName.{passes_as}
use Rattle.net_model.proofs.lemmas.Maps.{rises_map}
use Rattle.net_model.proofs.lemmas.Parts.{apart_filter, rises_filter}
use Rattle.net_model.proofs.lemmas.Ports.{among_filtered}
use Rattle.net_model.proofs.lemmas.Puts.{rises_put, find_other}
use Rattle.net_model.proofs.lemmas.ValidMoved.{apart_map}
use Rattle.net_model.specs.Edits.{changed, unless_gone, freed}
use Rattle.net_model.specs.OfName.{over}
use Rattle.net_model.proofs.lemmas.Listing.{keys_map, keys_filter, keys_rise}

-- the names of VLANs over a base are strictly sorted
pub over_rise : (links : List Link) (k : List ℕ) → rises link_cmp links ≡ true → rises name_cmp (over links k) ≡ true
over_rise links k up = keys_rise (λ (l : Link). l.name) (λ l. has_base l.kind k) name_cmp links up

-- and so are those of the ports of a controller
pub ports_rise : (links : List Link) (k : List ℕ) → rises link_cmp links ≡ true → rises name_cmp (ports_of links k) ≡ true
ports_rise links k up = keys_rise (λ (l : Link). l.name) (is_port_of k) name_cmp links up

-- where none is found, none passes
pub not_there : {X : Type 0} (p : X → Bool) (xs : List X) → find p xs ≡ None → list_any p xs ≡ false
not_there p [] h = refl
not_there {X} p (x ∷ xs) h =
    elim (p x) as (λ v. cond v (Some x) (find p xs) ≡ None → (v || list_any p xs) ≡ false) [
      | true ↦ λ e. absurd cc
      | false ↦ λ e. not_there p xs e
    ] h

-- whether a name is among those of the links that pass: whether the link of the name passes
pub listed_as : (p : Link → Bool) (links : List Link) (name : List ℕ) → rises link_cmp links ≡ true → is_among (map (λ (l : Link). l.name) (filter p links)) name ≡ option_map_or p (find_link name links) false
listed_as p links name up = among_filtered p name links ∙ named_passes_found p links name up

-- a link that is no VLAN has no base
pub no_base : (kind : Kind) → ((base : List ℕ) (id : ℕ) (proto : Proto) → kind ≡ Vlan base id proto → ⊥) → (k : List ℕ) → has_base kind k ≡ false
no_base (Vlan base id proto) none k = absurd (none base id proto refl)
no_base _ none k = refl

-- links stay sorted with one of a new name
pub rises_new : (links : List Link) (l : Link) → rises link_cmp links ≡ true → find_link l.name links ≡ None → rises link_cmp (put link_cmp l links) ≡ true
rises_new links l up none = rises_put link_cmp l (λ a b. is_named a.name b) link_cmp_total names_tie links up (not_there (is_named l.name) links none)

-- and a name that isn't the new one's is as free as before
pub other_new : (links : List Link) (first second : Link) → find_link second.name links ≡ None → same_bytes first.name second.name ≡ false → find_link second.name (put link_cmp first links) ≡ None
other_new links first second none off = find_other link_cmp first (is_named second.name) off links ∙ none

-- the link of a name that is there
pub some_link : (o : Option Link) → is_some o ≡ true → (l : Link) × (o ≡ Some l)
some_link None h = absurd cc
some_link (Some l) h = (l, refl)

no_name : (o : Option (List ℕ)) → is_some o ≡ false → o ≡ None
no_name None h = refl
no_name (Some name) h = absurd cc

-- the link found has no controller where none passes under its name that has one
pub found_free : (links : List Link) (port : List ℕ) (l : Link) → rises link_cmp links ≡ true → find_link port links ≡ Some l → named_passes (λ p. is_some p.controller) links port ≡ false → l.controller ≡ None
found_free links port l up found free = no_name l.controller (sym (passes_as (λ p. is_some p.controller) links port l (names_differ-rises links up) found) ∙ free)

-- so it is no port
pub no_port : (l : Link) (k : List ℕ) → l.controller ≡ None → is_port_of k l ≡ false
no_port l k free = ap (λ o. option_map_or (λ c. same_bytes c k) o false) free

-- what a change of the named link keeps, the change keeps of each
pub changed_keeps : {X : Type 0} (get : Link → X) (name : List ℕ) (g : Link → Link) → ((l : Link) → get (g l) ≡ get l) → (l : Link) → get (changed name g l) ≡ get l
changed_keeps get name g same l = elim (is_named name l) as (λ v. get (if v then g l else l) ≡ get l) [ true ↦ same l | false ↦ refl ]

-- links that go
module _ (goes : List ℕ → Bool) where
  differs : (c k : List ℕ) → goes c ≡ not (goes k) → same_bytes c k ≡ false
  differs c k other = elim (same_bytes c k) as (λ v. same_bytes c k ≡ v → v ≡ false) [
    | true ↦ λ e. absurd (never (goes k) (sym (ap goes (one_name c k e)) ∙ other))
    | false ↦ λ e. refl
  ] refl
    where
      never : (b : Bool) → b ≡ not b → ⊥
      never true h = cc
      never false h = cc

  -- no link has one that goes as its controller then
  pub none_left : (k : List ℕ) → goes k ≡ true → (o : Option (List ℕ)) → option_map_or (λ c. same_bytes c k) (unless_gone goes o) false ≡ false
  none_left k gone None = refl
  none_left k gone (Some c) = elim (goes c) as (λ v. goes c ≡ v → option_map_or (λ c. same_bytes c k) (if v then None else Some c) false ≡ false) [
    | true ↦ λ e. refl
    | false ↦ λ e. differs c k (e ∙ sym (ap not gone))
  ] refl

  -- and one that stays has the ports that it had
  pub all_left : (k : List ℕ) → goes k ≡ false → (o : Option (List ℕ)) → option_map_or (λ c. same_bytes c k) (unless_gone goes o) false ≡ option_map_or (λ c. same_bytes c k) o false
  all_left k stays None = refl
  all_left k stays (Some c) = elim (goes c) as (λ v. goes c ≡ v → option_map_or (λ c. same_bytes c k) (if v then None else Some c) false ≡ same_bytes c k) [
    | true ↦ λ e. sym (differs c k (e ∙ sym (ap not stays)))
    | false ↦ λ e. refl
  ] refl

  -- one that stays has those of its ports that stay
  pub ports_left : (links : List Link) (k : List ℕ) → goes k ≡ false → ports_of (map (freed goes) (filter (λ l. not (goes l.name)) links)) k ≡ filter (λ n. not (goes n)) (ports_of links k)
  ports_left links k stays =
      keys_map (λ (l : Link). l.name) (is_port_of k) (freed goes) (λ l. refl) (λ l. all_left k stays l.controller) (filter (λ l. not (goes l.name)) links)
      ∙ keys_filter (λ (l : Link). l.name) (is_port_of k) (λ n. not (goes n)) links

-- the links that stay are strictly sorted where all were
pub rises_left : (goes : List ℕ → Bool) (links : List Link) → rises link_cmp links ≡ true → rises link_cmp (map (freed goes) (filter (λ l. not (goes l.name)) links)) ≡ true
rises_left goes links up = rises_map (freed goes) (λ l. refl) (filter (λ l. not (goes l.name)) links) ∙ rises_filter link_cmp (λ l. not (goes l.name)) links up

-- and no two of them are twins where no two were
pub twins_left : (goes : List ℕ → Bool) (links : List Link) → vlans_differ links ≡ true → vlans_differ (map (freed goes) (filter (λ l. not (goes l.name)) links)) ≡ true
twins_left goes links differ =
    apart_map (freed goes) (λ (a b : Link). is_twin a.kind b.kind) (λ (a b : Link). is_twin a.kind b.kind) (λ a b. refl) (filter (λ l. not (goes l.name)) links)
    ∙ apart_filter (λ (a b : Link). is_twin a.kind b.kind) (λ (l : Link). not (goes l.name)) links differ
