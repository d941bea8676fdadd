-- The rules 9 to 11 ask the same of links and of their outlines.
use Rattle.std.proofs.Common.{◌≡◌, ℕ, zero, suc, Bool, true, false, not, ◌&&◌, ◌||◌, cond, List, [], ◌∷◌, map, filter, length, Option, Some, None, if◌then◌else◌, refl, ap, ◌∙◌}
use Rattle.std.specs.List.{find}
use Rattle.std.specs.Option.{option_map, option_map_or, option_or, option_and_then}
use Rattle.std.specs.Ordering.{is_lt}
use Rattle.std.proofs.lemmas.List.{length-map}
use Rattle.reach.specs.Reach.{is_reached}
use Rattle.net_model.specs.Order.{link_cmp}
use Rattle.net_model.specs.Links.{is_named, same_name, named_passes, takes, controller_passes, can_be_base, base_passes}
use Rattle.net_model.specs.Dependence.{depends_on, on_cycle}
use Rattle.net_model.specs.Valid.{names_differ}
use Rattle.net_model.specs.declared.Kind.{Kind}
use Rattle.net_model.specs.declared.Kind.TheVariants.{Ethernet, Bond, Bridge, Vlan, Vrf, Dummy, Veth}
use Rattle.net_model.specs.declared.Link.{Link}
use Rattle.net_model.proofs.lemmas.ByName.{any_map}
use Rattle.net_model.proofs.lemmas.ValidMoved.{apart_map}
use Rattle.merge_model.specs.Members.{Member}
use Rattle.merge_model.specs.Merged.{merged_link, merged_links}
use Rattle.merge_model.specs.Places.{at_link, lesser, least_name, first_of, at_rule}
use Rattle.merge_model.specs.BrokenLinks.{port_kind, bad_base, cycle}
use Rattle.link_rules.specs.Rules.{shape_rules}
use Rattle.link_rules.specs.Outline.{outline}

-- what is found among the outlines
found_same : (p q : Link → Bool) → ((l : Link) → q (outline l) ≡ p l) → (links : List Link) → find q (map outline links) ≡ option_map outline (find p links)
found_same p q same [] = refl
found_same p q same (l ∷ ls) = rw (same l) (by (p l) (found_same p q same ls))
  where
    by : (b : Bool) → find q (map outline ls) ≡ option_map outline (find p ls) → cond b (Some (outline l)) (find q (map outline ls)) ≡ option_map outline (cond b (Some l) (find p ls))
    by true rest = refl
    by false rest = rest

place_same : (o : Option Link) → at_link (option_map outline o) ≡ at_link o
place_same None = refl
place_same (Some l) = refl

kept_same : (p q : Link → Bool) → ((l : Link) → q (outline l) ≡ p l) → (links : List Link) → filter q (map outline links) ≡ map outline (filter p links)
kept_same p q same [] = refl
kept_same p q same (l ∷ ls) = rw (same l) (by (p l) (kept_same p q same ls))
  where
    by : (b : Bool) → filter q (map outline ls) ≡ map outline (filter p ls) → cond b (outline l ∷ filter q (map outline ls)) (filter q (map outline ls)) ≡ map outline (cond b (l ∷ filter p ls) (filter p ls))
    by true more = ap (λ (rest : List Link). outline l ∷ rest) more
    by false more = more

taken_same : (links : List Link) (kind : Kind) (controller : Option (List ℕ)) → option_map_or (named_passes (λ c. takes c.kind kind) (map outline links)) controller true ≡ option_map_or (named_passes (λ c. takes c.kind kind) links) controller true
taken_same links kind None = refl
taken_same links kind (Some name) = any_map outline (λ l. is_named name l && takes l.kind kind) (λ l. is_named name l && takes l.kind kind) (λ l. refl) links

port_kind_same : (links : List Link) → port_kind (map outline links) ≡ port_kind links
port_kind_same links =
    ap at_link (found_same (λ l. not (controller_passes (λ c. takes c.kind l.kind) links l)) (λ l. not (controller_passes (λ c. takes c.kind l.kind) (map outline links) l)) (λ l. ap not (taken_same links l.kind l.controller)) links)
    ∙ place_same (find (λ l. not (controller_passes (λ c. takes c.kind l.kind) links l)) links)

base_same : (links : List Link) (kind : Kind) → base_passes (λ b. can_be_base b.kind) (map outline links) kind ≡ base_passes (λ b. can_be_base b.kind) links kind
base_same links (Vlan base id proto) = any_map outline (λ l. is_named base l && can_be_base l.kind) (λ l. is_named base l && can_be_base l.kind) (λ l. refl) links
base_same links (Ethernet m) = refl
base_same links (Bond m) = refl
base_same links Bridge = refl
base_same links (Vrf t) = refl
base_same links Dummy = refl
base_same links (Veth p) = refl

bad_base_same : (links : List Link) → bad_base (map outline links) ≡ bad_base links
bad_base_same links =
    ap at_link (found_same (λ l. not (base_passes (λ b. can_be_base b.kind) links l.kind)) (λ l. not (base_passes (λ b. can_be_base b.kind) (map outline links) l.kind)) (λ l. ap not (base_same links l.kind)) links)
    ∙ place_same (find (λ l. not (base_passes (λ b. can_be_base b.kind) links l.kind)) links)

reached_same : (name : List ℕ) (links : List Link) (steps : ℕ) (l : Link) → is_reached depends_on (is_named name) (map outline links) steps (outline l) ≡ is_reached depends_on (is_named name) links steps l
reached_same name links zero l = refl
reached_same name links (suc steps) l =
    any_map outline (λ c. depends_on c l && (is_named name c || is_reached depends_on (is_named name) links steps c)) (λ c. depends_on c (outline l) && (is_named name c || is_reached depends_on (is_named name) (map outline links) steps c))
    (λ c. ap (λ b. depends_on c l && (is_named name c || b)) (reached_same name links steps c)) links

on_cycle_same : (links : List Link) (l : Link) → on_cycle (map outline links) (outline l) ≡ on_cycle links l
on_cycle_same links l =
    ap (λ n. is_reached depends_on (is_named l.name) (map outline links) n (outline l)) (length-map links outline)
    ∙ reached_same l.name links (length links) l

least_same : (links : List Link) → least_name (map outline links) ≡ option_map outline (least_name links)
least_same [] = refl
least_same (l ∷ ls) = ap (λ o. option_or (option_and_then (lesser (outline l)) o) (Some (outline l))) (least_same ls) ∙ by (least_name ls)
  where
    by : (o : Option Link) → option_or (option_and_then (lesser (outline l)) (option_map outline o)) (Some (outline l)) ≡ option_map outline (option_or (option_and_then (lesser l) o) (Some l))
    by None = refl
    by (Some m) = elim (is_lt (link_cmp m l)) as (λ v. option_or (if v then Some (outline m) else None) (Some (outline l)) ≡ option_map outline (option_or (if v then Some m else None) (Some l))) [
      | true ↦ refl
      | false ↦ refl
    ]

cycle_same : (links : List Link) → cycle (map outline links) ≡ cycle links
cycle_same links =
    ap (λ ls. at_link (least_name ls)) (kept_same (on_cycle links) (on_cycle (map outline links)) (on_cycle_same links) links)
    ∙ ap at_link (least_same (filter (on_cycle links) links))
    ∙ place_same (least_name (filter (on_cycle links) links))

twice_mapped : (ms xs : List Member) → map (λ m. outline (merged_link ms m)) xs ≡ map outline (map (merged_link ms) xs)
twice_mapped ms [] = refl
twice_mapped ms (m ∷ xs) = ap (λ (rest : List Link). outline (merged_link ms m) ∷ rest) (twice_mapped ms xs)

-- where the names of the links differ, those of their outlines do
pub outlines_differ : (ms : List Member) (links : List Link) → links ≡ map (λ m. outline (merged_link ms m)) ms → names_differ (merged_links ms) ≡ true → names_differ links ≡ true
outlines_differ ms links is differ = ap names_differ (is ∙ twice_mapped ms ms) ∙ apart_map outline same_name same_name (λ x y. refl) (merged_links ms) ∙ differ

-- the rules 9 to 11
pub shape_same : (ms : List Member) (links : List Link) → links ≡ map (λ m. outline (merged_link ms m)) ms → first_of at_rule (shape_rules links) ≡ first_of at_rule (shape_rules (merged_links ms))
shape_same ms links is =
    ap (λ ls. first_of at_rule (shape_rules ls)) (is ∙ twice_mapped ms ms)
    ∙ rw (port_kind_same (merged_links ms), bad_base_same (merged_links ms), cycle_same (merged_links ms)) refl
