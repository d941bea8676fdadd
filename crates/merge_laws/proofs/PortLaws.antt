-- A port of a bond or bridge has no address, and options that aren't used have their defaults.
use Rattle.std.proofs.Common.{◌≡◌, ◌++◌, ℕ, Bool, true, false, not, ◌||◌, ◌&&◌, if◌then◌else◌, List, [], ◌∷◌, map, Option, Some, None, refl, sym, ap, ◌∙◌}
use Rattle.std.specs.List.{list_all, find}
use Rattle.std.specs.Option.{option_map_or, option_and_then, unwrap_or}
use Rattle.net_model.specs.Address.{Block}
use Rattle.net_model.specs.Words.{apart, is_empty, sorted}
use Rattle.net_model.specs.Order.{block_cmp}
use Rattle.net_model.specs.Links.{named_passes, has_controller, is_bond, is_bridge, is_bond_or_bridge}
use Rattle.net_model.specs.Options.{default_port, is_default_bond, is_default_bridge, is_default_port}
use Rattle.net_model.specs.Valid.{is_bond_or_bridge_port, ports_without_addresses, is_bridge_port, unused_default}
use Rattle.net_model.specs.declared.Link.{Link}
use Rattle.net_model.specs.declared.Kind.{Kind}
use Rattle.net_model.specs.declared.Kind.TheVariants.{Bond, Bridge}
use Rattle.net_model.proofs.lemmas.Truth.{and_left, and_right, and_both, not_false, or_left_false, or_right_false}
use Rattle.document_model.specs.declared.IpEntry.{IpEntry}
use Rattle.document_model.specs.declared.LinkEntry.{LinkEntry}
use Rattle.merge_model.specs.Stated.{is_absent, is_off}
use Rattle.merge_model.specs.Members.{Member, find_member}
use Rattle.merge_model.specs.LinkOptions.{bond_of, bridge_of, port_of, port_under, controller_member}
use Rattle.merge_model.specs.Addresses.{is_bound, own_addrs, addrs_over, v4_of, v6_of, addrs_of}
use Rattle.merge_model.specs.Merged.{merged_link, merged_links, is_up}
use Rattle.merge_model.specs.BrokenLinks.{port_address, has_stated_address, entry_states_address, states_address}
use Rattle.merge_laws.proofs.Searches.{none_fails}
use Rattle.merge_laws.proofs.Each.{Each}
use Rattle.merge_laws.proofs.Members.{same_member}
use Rattle.merge_laws.proofs.Found.{named_found, each_found}
use Rattle.merge_laws.proofs.Parts.{none_at}

-- a test of the controller's kind, of the merged links and of the members
pub controller_kind : (test : Kind → Bool) (ms : List Member) → apart same_member ms ≡ true → (m : Member) → has_controller (λ c. test c.kind) (merged_links ms) (merged_link ms m) ≡ option_map_or (λ c. test c.kind) (controller_member ms m) false
controller_kind test ms h m = by m.controller
  where
    by : (o : Option (List ℕ)) → option_map_or (named_passes (λ (c : Link). test c.kind) (merged_links ms)) o false ≡ option_map_or (λ (c : Member). test c.kind) (option_and_then (λ c. find_member c ms) o) false
    by None = refl
    by (Some c) = named_found (merged_link ms) (λ q. refl) (λ (l : Link). test l.kind) ms h c

pub enslaved_bound : (ms : List Member) → apart same_member ms ≡ true → (m : Member) → is_bond_or_bridge_port (merged_links ms) (merged_link ms m) ≡ is_bound ms m
enslaved_bound ms h m = controller_kind is_bond_or_bridge ms h m

own_none : (ms : List Member) (m : Member) (v6 : Bool) → is_bound ms m ≡ true → own_addrs ms m v6 ≡ []
own_none ms m v6 h = rw h refl

nothing : (xs : List Block) → not (is_empty xs) ≡ false → xs ≡ []
nothing [] h = refl
nothing (x ∷ xs) h = absurd cc

section_none : (section : Option IpEntry) → option_map_or states_address section false ≡ false → addrs_over [] section ≡ []
section_none None h = refl
section_none (Some ip) h = elim (is_off ip) as (λ v. (not v && not (is_empty (unwrap_or ip.addrs []))) ≡ false → (if v then [] else unwrap_or ip.addrs []) ≡ []) [
  | true ↦ λ e. refl
  | false ↦ λ e. nothing (unwrap_or ip.addrs []) e
] h

v4_none : (o : Option LinkEntry) → option_map_or entry_states_address o false ≡ false → addrs_over [] (option_and_then (λ e. e.v4) o) ≡ []
v4_none None h = refl
v4_none (Some e) h = section_none e.v4 (or_left_false (option_map_or states_address e.v4 false) (option_map_or states_address e.v6 false) h)

v6_none : (o : Option LinkEntry) → option_map_or entry_states_address o false ≡ false → addrs_over [] (option_and_then (λ e. e.v6) o) ≡ []
v6_none None h = refl
v6_none (Some e) h = section_none e.v6 (or_right_false (option_map_or states_address e.v4 false) (option_map_or states_address e.v6 false) h)

bound_bare : (ms : List Member) (m : Member) (up : Bool) → is_bound ms m ≡ true → option_map_or entry_states_address m.entry false ≡ false → addrs_of ms m up ≡ []
bound_bare ms m up h k =
    let four : v4_of ms m ≡ [] = ap (λ own. addrs_over own (option_and_then (λ e. e.v4) m.entry)) (own_none ms m false h) ∙ v4_none m.entry k in
    let six : v6_of ms m ≡ [] = ap (λ own. addrs_over own (option_and_then (λ e. e.v6) m.entry)) (own_none ms m true h) ∙ v6_none m.entry k in
    ap (λ xs. if is_absent m.wish then [] else sorted block_cmp (xs ++ (if up then v6_of ms m else []))) four
    ∙ ap (λ xs. if is_absent m.wish then [] else sorted block_cmp (if up then xs else [])) six
    ∙ last (is_absent m.wish) up
  where
    last : (a b : Bool) → (if a then [] else sorted block_cmp (if b then [] else [])) ≡ []
    last true b = refl
    last false true = refl
    last false false = refl

both_false : (a b : Bool) → not (a && b) ≡ true → a ≡ true → b ≡ false
both_false true false h k = refl
both_false true true h k = absurd cc
both_false false b h k = absurd cc

one_bare : (ms : List Member) → apart same_member ms ≡ true → (m : Member) → find_member m.name ms ≡ Some m → not (is_bond_or_bridge_port (merged_links ms) (merged_link ms m) && has_stated_address ms m.name) ≡ true → (not (is_bond_or_bridge_port (merged_links ms) (merged_link ms m)) || is_empty (merged_link ms m).addrs) ≡ true
one_bare ms h m found k = ap (λ b. not b || is_empty (merged_link ms m).addrs) (enslaved_bound ms h m) ∙ elim (is_bound ms m) as (λ v. is_bound ms m ≡ v → (not v || is_empty (merged_link ms m).addrs) ≡ true) [
  | true ↦ λ e.
      let slave : is_bond_or_bridge_port (merged_links ms) (merged_link ms m) ≡ true = enslaved_bound ms h m ∙ e in
      let states : option_map_or entry_states_address m.entry false ≡ false = sym (ap (λ o. option_map_or (λ q. option_map_or entry_states_address q.entry false) o false) found) ∙ both_false (is_bond_or_bridge_port (merged_links ms) (merged_link ms m)) (has_stated_address ms m.name) k slave in
      ap (λ (bs : List Block). is_empty bs) (bound_bare ms m (is_up ms m) e states)
  | false ↦ λ e. refl
] refl

all_bare : (ms xs : List Member) → apart same_member ms ≡ true → Each (λ x. find_member x.name ms ≡ Some x) xs → list_all (λ l. not (is_bond_or_bridge_port (merged_links ms) l && has_stated_address ms l.name)) (map (merged_link ms) xs) ≡ true → list_all (λ l. not (is_bond_or_bridge_port (merged_links ms) l) || is_empty l.addrs) (map (merged_link ms) xs) ≡ true
all_bare ms [] h found k = refl
all_bare ms (m ∷ xs) h found k = and_both (not (is_bond_or_bridge_port (merged_links ms) (merged_link ms m)) || is_empty (merged_link ms m).addrs) (list_all (λ l. not (is_bond_or_bridge_port (merged_links ms) l) || is_empty l.addrs) (map (merged_link ms) xs))
    (one_bare ms h m found.0 (and_left (not (is_bond_or_bridge_port (merged_links ms) (merged_link ms m) && has_stated_address ms m.name)) (list_all (λ l. not (is_bond_or_bridge_port (merged_links ms) l && has_stated_address ms l.name)) (map (merged_link ms) xs)) k))
    (all_bare ms xs h found.1 (and_right (not (is_bond_or_bridge_port (merged_links ms) (merged_link ms m) && has_stated_address ms m.name)) (list_all (λ l. not (is_bond_or_bridge_port (merged_links ms) l && has_stated_address ms l.name)) (map (merged_link ms) xs)) k))

pub ports_without_addresses-law : (ms : List Member) → apart same_member ms ≡ true → port_address ms (merged_links ms) ≡ None → ports_without_addresses (merged_links ms) ≡ true
ports_without_addresses-law ms h k = all_bare ms ms h (each_found ms h)
    (none_fails (λ l. not (is_bond_or_bridge_port (merged_links ms) l && has_stated_address ms l.name)) (λ l. is_bond_or_bridge_port (merged_links ms) l && has_stated_address ms l.name) (λ l e. not_false (is_bond_or_bridge_port (merged_links ms) l && has_stated_address ms l.name) e) (merged_links ms)
    (none_at (find (λ l. is_bond_or_bridge_port (merged_links ms) l && has_stated_address ms l.name) (merged_links ms)) k))

-- ---- unused options

unused_bond : (ms : List Member) (m : Member) (k : Kind) → (is_bond k || is_default_bond (bond_of ms m k)) ≡ true
unused_bond ms m (Bond mode) = refl
unused_bond ms m _ = refl

unused_bridge : (m : Member) (k : Kind) → (is_bridge k || is_default_bridge (bridge_of m k)) ≡ true
unused_bridge m Bridge = refl
unused_bridge m _ = refl

under : (m : Member) (o : Option Member) → (option_map_or (λ c. is_bridge c.kind) o false || is_default_port (option_map_or (port_under m) o default_port)) ≡ true
under m None = refl
under m (Some c) = elim (is_bridge c.kind) as (λ v. is_bridge c.kind ≡ v → (v || is_default_port (port_under m c)) ≡ true) [
  | true ↦ λ e. refl
  | false ↦ λ e. rw e refl
] refl

unused_port : (ms : List Member) → apart same_member ms ≡ true → (m : Member) → (is_bridge_port (merged_links ms) (merged_link ms m) || is_default_port (port_of ms m)) ≡ true
unused_port ms h m = ap (λ b. b || is_default_port (port_of ms m)) (controller_kind is_bridge ms h m) ∙ under m (controller_member ms m)

all_unused : (ms xs : List Member) → apart same_member ms ≡ true → list_all (λ l. (is_bond l.kind || is_default_bond l.bond) && (is_bridge l.kind || is_default_bridge l.bridge) && (is_bridge_port (merged_links ms) l || is_default_port l.port)) (map (merged_link ms) xs) ≡ true
all_unused ms [] h = refl
all_unused ms (m ∷ xs) h = rw (unused_bond ms m m.kind, unused_bridge m m.kind, unused_port ms h m) (all_unused ms xs h)

pub unused_default-law : (ms : List Member) → apart same_member ms ≡ true → unused_default (merged_links ms) ≡ true
unused_default-law ms h = all_unused ms ms h
