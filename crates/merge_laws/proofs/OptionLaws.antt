-- The merged options of bonds are right, and those of bridges and ports in range.
use Rattle.std.proofs.Common.{◌≡◌, ℕ, Bool, true, false, ◌&&◌, nat_le, if◌then◌else◌, List, [], ◌∷◌, map, Option, Some, None, refl}
use Rattle.std.specs.List.{list_all}
use Rattle.std.specs.Option.{option_map_or, option_and_then, unwrap_or}
use Rattle.net_model.specs.Name.{same_bytes}
use Rattle.net_model.specs.Links.{is_bridge, is_port_of}
use Rattle.net_model.specs.Options.{default_bridge, default_port, is_within, bond_fits, bridge_in_range, port_in_range}
use Rattle.net_model.specs.Valid.{options_fit}
use Rattle.net_model.specs.declared.Link.{Link}
use Rattle.net_model.specs.declared.BridgeOpts.{BridgeOpts}
use Rattle.net_model.specs.declared.PortOpts.{PortOpts}
use Rattle.net_model.specs.declared.Kind.{Kind}
use Rattle.net_model.specs.declared.Kind.TheVariants.{Bridge}
use Rattle.net_model.proofs.lemmas.Truth.{and_left, and_right, and_both}
use Rattle.document_model.specs.declared.LinkEntry.{LinkEntry}
use Rattle.document_model.specs.declared.BridgeEntry.{BridgeEntry}
use Rattle.document_model.specs.declared.PortEntry.{PortEntry}
use Rattle.merge_model.specs.OptionRules.{bridge_over, port_over}
use Rattle.document_model.specs.Entries.{passes, is_port_entry, is_bridge_entry}
use Rattle.merge_model.specs.Members.{Member, find_member}
use Rattle.merge_model.specs.LinkOptions.{bridge_of, if_bridge, no_bridge, port_of, port_under, if_same_bridge, port_entry, controller_member}
use Rattle.merge_model.specs.Merged.{merged_link, merged_links}
use Rattle.merge_model.specs.BrokenLinks.{bond_options}
use Rattle.merge_laws.proofs.Searches.{all_both, all_find}
use Rattle.merge_laws.proofs.Known.{entry_passes, old_passes, bridge_stated_right, options_right}
use Rattle.merge_laws.proofs.Parts.{none_found}

-- what is known of a member here
abbrev options_known : Member → Bool
options_known m = entry_passes bridge_stated_right m && old_passes options_right m

stated_or : (p : ℕ → Bool) (o : Option ℕ) (n : ℕ) → option_map_or p o true ≡ true → p n ≡ true → p (unwrap_or o n) ≡ true
stated_or p None n h k = k
stated_or p (Some m) n h k = h

over_range : (now : BridgeOpts) (e : BridgeEntry) → bridge_in_range now ≡ true → is_bridge_entry e ≡ true → bridge_in_range (bridge_over now e) ≡ true
over_range now e h k =
    let abc = and_left (option_map_or (is_within 2 30) e.forward_delay true && option_map_or (is_within 1 10) e.hello_time true && option_map_or (is_within 6 40) e.max_age true) (option_map_or (list_all is_port_entry) e.ports true) k in
    let ab = and_left (option_map_or (is_within 2 30) e.forward_delay true && option_map_or (is_within 1 10) e.hello_time true) (option_map_or (is_within 6 40) e.max_age true) abc in
    let now_ab = and_left (is_within 2 30 now.forward_delay && is_within 1 10 now.hello_time) (is_within 6 40 now.max_age) h in
    and_both (is_within 2 30 (unwrap_or e.forward_delay now.forward_delay) && is_within 1 10 (unwrap_or e.hello_time now.hello_time)) (is_within 6 40 (unwrap_or e.max_age now.max_age))
    (and_both (is_within 2 30 (unwrap_or e.forward_delay now.forward_delay)) (is_within 1 10 (unwrap_or e.hello_time now.hello_time))
    (stated_or (is_within 2 30) e.forward_delay now.forward_delay (and_left (option_map_or (is_within 2 30) e.forward_delay true) (option_map_or (is_within 1 10) e.hello_time true) ab) (and_left (is_within 2 30 now.forward_delay) (is_within 1 10 now.hello_time) now_ab))
    (stated_or (is_within 1 10) e.hello_time now.hello_time (and_right (option_map_or (is_within 2 30) e.forward_delay true) (option_map_or (is_within 1 10) e.hello_time true) ab) (and_right (is_within 2 30 now.forward_delay) (is_within 1 10 now.hello_time) now_ab)))
    (stated_or (is_within 6 40) e.max_age now.max_age (and_right (option_map_or (is_within 2 30) e.forward_delay true && option_map_or (is_within 1 10) e.hello_time true) (option_map_or (is_within 6 40) e.max_age true) abc) (and_right (is_within 2 30 now.forward_delay && is_within 1 10 now.hello_time) (is_within 6 40 now.max_age) h))

bridge_before : (o : Option Link) → option_map_or options_right o true ≡ true → bridge_in_range (unwrap_or (option_and_then if_bridge o) default_bridge) ≡ true
bridge_before None h = refl
bridge_before (Some l) h = elim (is_bridge l.kind) as (λ v. bridge_in_range (unwrap_or (if v then Some l.bridge else None) default_bridge) ≡ true) [
  | true ↦ and_left (bridge_in_range l.bridge) (port_in_range l.port) h
  | false ↦ refl
]

entry_known : (o : Option LinkEntry) → option_map_or bridge_stated_right o true ≡ true → is_bridge_entry (option_map_or (λ e. e.bridge) o no_bridge) ≡ true
entry_known None h = refl
entry_known (Some e) h = h

bridge_range : (m : Member) → options_known m ≡ true → (k : Kind) → bridge_in_range (bridge_of m k) ≡ true
bridge_range m h Bridge = over_range (unwrap_or (option_and_then if_bridge m.old) default_bridge) (option_map_or (λ e. e.bridge) m.entry no_bridge)
    (bridge_before m.old (and_right (entry_passes bridge_stated_right m) (old_passes options_right m) h))
    (entry_known m.entry (and_left (entry_passes bridge_stated_right m) (old_passes options_right m) h))
bridge_range m h _ = refl

weaker : (p q : ℕ → Bool) → ((n : ℕ) → p n ≡ true → q n ≡ true) → (o : Option ℕ) → option_map_or p o true ≡ true → option_map_or q o true ≡ true
weaker p q less None h = refl
weaker p q less (Some n) h = less n h

port_by : (now : PortOpts) (o : Option PortEntry) → port_in_range now ≡ true → option_map_or is_port_entry o true ≡ true → port_in_range (port_over now o) ≡ true
port_by now None h k = h
port_by now (Some e) h k =
    let cost : option_map_or (nat_le 1) e.cost true ≡ true = weaker (is_within 1 65535) (nat_le 1) (λ n q. and_left (nat_le 1 n) (nat_le n 65535) q) e.cost (and_left (passes (is_within 1 65535) e.cost) (passes (is_within 0 63) e.priority) k) in
    let priority : option_map_or (λ n. nat_le n 63) e.priority true ≡ true = weaker (is_within 0 63) (λ n. nat_le n 63) (λ n q. and_right (nat_le 0 n) (nat_le n 63) q) e.priority (and_right (passes (is_within 1 65535) e.cost) (passes (is_within 0 63) e.priority) k) in
    and_both (nat_le 1 (unwrap_or e.cost now.cost)) (nat_le (unwrap_or e.priority now.priority) 63)
    (stated_or (nat_le 1) e.cost now.cost cost (and_left (nat_le 1 now.cost) (nat_le now.priority 63) h))
    (stated_or (λ n. nat_le n 63) e.priority now.priority priority (and_right (nat_le 1 now.cost) (nat_le now.priority 63) h))

listed : (o : Option (List PortEntry)) → option_map_or (list_all is_port_entry) o true ≡ true → list_all is_port_entry (unwrap_or o []) ≡ true
listed None h = refl
listed (Some ps) h = h

entry_fits_port : (name : List ℕ) (o : Option LinkEntry) → option_map_or bridge_stated_right o true ≡ true → option_map_or is_port_entry (option_and_then (port_entry name) o) true ≡ true
entry_fits_port name None h = refl
entry_fits_port name (Some e) h = all_find (λ p. same_bytes p.name name) is_port_entry (unwrap_or e.bridge.ports []) (listed e.bridge.ports (and_right _ (option_map_or (list_all is_port_entry) e.bridge.ports true) h))

before_range : (c : Member) (o : Option Link) → option_map_or options_right o true ≡ true → port_in_range (unwrap_or (option_and_then (if_same_bridge c) o) default_port) ≡ true
before_range c None h = refl
before_range c (Some l) h = elim (is_port_of c.name l && option_map_or (λ b. is_bridge b.kind) c.old false) as (λ v. port_in_range (unwrap_or (if v then Some l.port else None) default_port) ≡ true) [
  | true ↦ and_right (bridge_in_range l.bridge) (port_in_range l.port) h
  | false ↦ refl
]

under_range : (m : Member) (o : Option Member) → options_known m ≡ true → option_map_or options_known o true ≡ true → port_in_range (option_map_or (port_under m) o default_port) ≡ true
under_range m None h k = refl
under_range m (Some c) h k = elim (is_bridge c.kind) as (λ v. port_in_range (if v then port_over (unwrap_or (option_and_then (if_same_bridge c) m.old) default_port) (option_and_then (port_entry m.name) c.entry) else default_port) ≡ true) [
  | true ↦ port_by (unwrap_or (option_and_then (if_same_bridge c) m.old) default_port) (option_and_then (port_entry m.name) c.entry)
      (before_range c m.old (and_right (entry_passes bridge_stated_right m) (old_passes options_right m) h))
      (entry_fits_port m.name c.entry (and_left (entry_passes bridge_stated_right c) (old_passes options_right c) k))
  | false ↦ refl
]

controller_known : (ms : List Member) → list_all options_known ms ≡ true → (o : Option (List ℕ)) → option_map_or options_known (option_and_then (λ c. find_member c ms) o) true ≡ true
controller_known ms h None = refl
controller_known ms h (Some c) = all_find (λ m. same_bytes m.name c) options_known ms h

all_ranges : (ms xs : List Member) → list_all options_known ms ≡ true → list_all options_known xs ≡ true → list_all options_right (map (merged_link ms) xs) ≡ true
all_ranges ms [] h k = refl
all_ranges ms (m ∷ xs) h k = and_both (options_right (merged_link ms m)) (list_all options_right (map (merged_link ms) xs))
    (and_both (bridge_in_range (bridge_of m m.kind)) (port_in_range (port_of ms m)) (bridge_range m (and_left (options_known m) (list_all options_known xs) k) m.kind)
    (under_range m (controller_member ms m) (and_left (options_known m) (list_all options_known xs) k) (controller_known ms h m.controller)))
    (all_ranges ms xs h (and_right (options_known m) (list_all options_known xs) k))

regroup : (ls links : List Link) → list_all (λ l. bond_fits links l l.kind && options_right l) ls ≡ true → list_all (λ l. bond_fits links l l.kind && bridge_in_range l.bridge && port_in_range l.port) ls ≡ true
regroup [] links h = refl
regroup (l ∷ ls) links h = and_both (bond_fits links l l.kind && bridge_in_range l.bridge && port_in_range l.port) (list_all (λ q. bond_fits links q q.kind && bridge_in_range q.bridge && port_in_range q.port) ls)
    (assoc (bond_fits links l l.kind) (bridge_in_range l.bridge) (port_in_range l.port) (and_left (bond_fits links l l.kind && options_right l) (list_all (λ q. bond_fits links q q.kind && options_right q) ls) h))
    (regroup ls links (and_right (bond_fits links l l.kind && options_right l) (list_all (λ q. bond_fits links q q.kind && options_right q) ls) h))
  where
    assoc : (a b c : Bool) → (a && (b && c)) ≡ true → (a && b && c) ≡ true
    assoc true true c h = h
    assoc true false c h = h
    assoc false b c h = absurd cc

pub options_fit-law : (ms : List Member) → list_all (entry_passes bridge_stated_right) ms ≡ true → list_all (old_passes options_right) ms ≡ true → bond_options (merged_links ms) ≡ None → options_fit (merged_links ms) ≡ true
options_fit-law ms entries olds h =
    let known : list_all options_known ms ≡ true = all_both (entry_passes bridge_stated_right) (old_passes options_right) ms entries olds in
    regroup (merged_links ms) (merged_links ms) (all_both (λ l. bond_fits (merged_links ms) l l.kind) options_right (merged_links ms)
    (none_found (λ l. bond_fits (merged_links ms) l l.kind) (merged_links ms) h)
    (all_ranges ms ms known known))
