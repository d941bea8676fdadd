-- The merged links pass the test of a printable network.
use Rattle.std.proofs.Common.{◌≡◌, ◌++◌, ℕ, Bool, true, false, not, ◌&&◌, ◌||◌, List, [], length, filter, Option, Some, None, zero, suc, if◌then◌else◌, refl, sym, ◌∙◌}
use Rattle.std.specs.List.{list_all}
use Rattle.std.specs.Option.{option_map, option_map_or, option_or, option_and_then, unwrap_or}
use Rattle.net_model.specs.Address.{Block}
use Rattle.net_model.specs.Words.{bool_eq, sorted}
use Rattle.net_model.specs.Order.{block_cmp}
use Rattle.net_model.specs.OrderLaws.{block_cmp_total}
use Rattle.net_model.specs.OnLink.{is_link_local}
use Rattle.net_model.specs.Valid.{mtu_in_range}
use Rattle.net_model.specs.Hardware.{virtual_mac}
use Rattle.net_model.specs.Name.{same_bytes}
use Rattle.net_model.specs.declared.Mac.{Mac}
use Rattle.net_model.specs.declared.Link.{Link}
use Rattle.net_model.proofs.lemmas.Truth.{and_left, and_right}
use Rattle.net_model.proofs.lemmas.Permute.{list_all-IsPermutation}
use Rattle.net_model.proofs.lemmas.Sorting.{sorted_moves}
use Rattle.document_model.specs.Entries.{passes, is_station, is_own, is_ip_entry, is_bridge_entry, is_link_entry}
use Rattle.document_model.specs.declared.IpEntry.{IpEntry}
use Rattle.document_model.specs.declared.LinkEntry.{LinkEntry}
use Rattle.merge_model.specs.Stated.{is_absent, is_stated_down, is_off}
use Rattle.merge_model.specs.Kinds.{permanent_of, base_of}
use Rattle.merge_model.specs.Members.{Member, find_member}
use Rattle.merge_model.specs.Addresses.{is_bound, own_addrs, addrs_over, v4_of, v6_of, addrs_of}
use Rattle.merge_model.specs.Merged.{base_member, down_bases, stated_mac, mac_over, is_up, merged_link, merged_links}
use Rattle.shown_states.proofs.Tests.{is_clear, has_station, is_shown, all_weaker, all_append, all_filtered, all_found, all_mapped, three, three_hold}
use Rattle.shown_states.proofs.Members.{is_known}

-- ---- an entry

record Fits (e : LinkEntry) : Type 0 where
  mac : passes is_station e.mac ≡ true
  v4 : passes (is_ip_entry false) e.v4 ≡ true
  v6 : passes (is_ip_entry true) e.v6 ≡ true

entry_fits : (e : LinkEntry) → is_link_entry e ≡ true → Fits e
entry_fits e h =
    let four = and_left (passes mtu_in_range e.mtu && passes is_station e.mac && passes (is_ip_entry false) e.v4 && passes (is_ip_entry true) e.v6) (is_bridge_entry e.bridge) h in
    let some = and_left (passes mtu_in_range e.mtu && passes is_station e.mac && passes (is_ip_entry false) e.v4) (passes (is_ip_entry true) e.v6) four in
    record {
      mac = (three (passes mtu_in_range e.mtu) (passes is_station e.mac) (passes (is_ip_entry false) e.v4) some).1;
      v4 = (three (passes mtu_in_range e.mtu) (passes is_station e.mac) (passes (is_ip_entry false) e.v4) some).2;
      v6 = and_right (passes mtu_in_range e.mtu && passes is_station e.mac && passes (is_ip_entry false) e.v4) (passes (is_ip_entry true) e.v6) four;
    }

-- ---- a member

record Knows (m : Member) : Type 0 where
  kind : has_station m.kind ≡ true
  old : passes is_shown m.old ≡ true
  entry : passes is_link_entry m.entry ≡ true

pub shown_device : (l : Link) → is_shown l ≡ true → has_station l.kind ≡ true
shown_device l h = (three (is_station l.mac) (list_all is_clear l.addrs) (has_station l.kind) h).2

abbrev pub is_right : Member → Bool
is_right m = is_known is_shown shown_device m

knows : (m : Member) → is_right m ≡ true → Knows m
knows m h =
    let t = three (has_station m.kind) (passes is_shown m.old) (passes is_link_entry m.entry) h in
    record { kind = t.0; old = t.1; entry = t.2 }

-- ---- the MAC

entry_mac : (o : Option LinkEntry) → passes is_link_entry o ≡ true → passes is_station (option_and_then (λ (e : LinkEntry). e.mac) o) ≡ true
entry_mac None h = refl
entry_mac (Some e) h = (entry_fits e h).mac

old_mac : (o : Option Link) → passes is_shown o ≡ true → passes is_station (option_map (λ (l : Link). l.mac) o) ≡ true
old_mac None h = refl
old_mac (Some l) h = (three (is_station l.mac) (list_all is_clear l.addrs) (has_station l.kind) h).0

chosen : {X : Type 0} (p : X → Bool) (b : Bool) (x y : Option X) → passes p x ≡ true → passes p y ≡ true → passes p (if b then x else y) ≡ true
chosen p true x y h k = h
chosen p false x y h k = k

stated_station : (m : Member) → Knows m → passes is_station (stated_mac m) ≡ true
stated_station m k = chosen is_station (is_absent m.wish) (permanent_of m.kind) (option_and_then (λ (e : LinkEntry). e.mac) m.entry) k.kind (entry_mac m.entry k.entry)

-- the MAC that is made from a name begins with 2
virtual_station : (name : List ℕ) → is_station (virtual_mac name) ≡ true
virtual_station name = refl

first_of : (a b c : Option Mac) (d : Mac) → passes is_station a ≡ true → passes is_station b ≡ true → passes is_station c ≡ true → is_station d ≡ true → is_station (unwrap_or (option_or a b) (unwrap_or c d)) ≡ true
first_of (Some a) b c d h k l r = h
first_of None (Some b) c d h k l r = k
first_of None None (Some c) d h k l r = l
first_of None None None d h k l r = r

over_station : (m : Member) (below : Option Mac) → Knows m → passes is_station below ≡ true → is_station (mac_over m below) ≡ true
over_station m below k h = first_of (stated_mac m) (option_map (λ (l : Link). l.mac) m.old) below (virtual_mac m.name) (stated_station m k) (old_mac m.old k.old) h (virtual_station m.name)

module _ (ms : List Member) (all : list_all is_right ms ≡ true) where
  base_right : (o : Option (List ℕ)) → passes is_right (option_and_then (λ base. find_member base ms) o) ≡ true
  base_right None = refl
  base_right (Some base) = all_found (λ (m : Member). same_bytes m.name base) is_right ms all

  below_station : (f : Member → Mac) → ((m : Member) → is_right m ≡ true → is_station (f m) ≡ true) → (o : Option Member) → passes is_right o ≡ true → passes is_station (option_map f o) ≡ true
  below_station f each None h = refl
  below_station f each (Some m) h = each m h

  mac_station : (steps : ℕ) (m : Member) → is_right m ≡ true → is_station (down_bases mac_over ms steps m) ≡ true
  mac_station zero m h = over_station m None (knows m h) refl
  mac_station (suc steps) m h =
      over_station m (option_map (down_bases mac_over ms steps) (base_member ms m)) (knows m h)
      (below_station (down_bases mac_over ms steps) (mac_station steps) (base_member ms m) (base_right (base_of m.kind)))

-- ---- the addresses

old_clear : (v6 : Bool) (o : Option Link) → passes is_shown o ≡ true → list_all is_clear (option_map_or (λ (l : Link). filter (λ (a : Block). bool_eq a.addr.v6 v6) l.addrs) o []) ≡ true
old_clear v6 None h = refl
old_clear v6 (Some l) h = all_filtered is_clear (λ (a : Block). bool_eq a.addr.v6 v6) l.addrs (three (is_station l.mac) (list_all is_clear l.addrs) (has_station l.kind) h).1

either_clear : (b : Bool) (xs ys : List Block) → list_all is_clear xs ≡ true → list_all is_clear ys ≡ true → list_all is_clear (if b then xs else ys) ≡ true
either_clear true xs ys h k = h
either_clear false xs ys h k = k

own_clear : (ms : List Member) (m : Member) (v6 : Bool) → Knows m → list_all is_clear (own_addrs ms m v6) ≡ true
own_clear ms m v6 k = either_clear (is_bound ms m || is_stated_down m.wish) [] (option_map_or (λ (l : Link). filter (λ (a : Block). bool_eq a.addr.v6 v6) l.addrs) m.old []) refl (old_clear v6 m.old k.old)

stated_clear : (v6 : Bool) (own : List Block) (o : Option (List Block)) → list_all is_clear own ≡ true → passes (λ addrs. list_all (λ (b : Block). is_own v6 b.addr) addrs) o ≡ true → list_all is_clear (unwrap_or o own) ≡ true
stated_clear v6 own None h k = h
stated_clear v6 own (Some addrs) h k = all_weaker (λ (b : Block). is_own v6 b.addr) is_clear (λ b own. and_right (bool_eq b.addr.v6 v6) (not (is_link_local b.addr)) own) addrs k

over_clear : (v6 : Bool) (own : List Block) (o : Option IpEntry) → list_all is_clear own ≡ true → passes (is_ip_entry v6) o ≡ true → list_all is_clear (addrs_over own o) ≡ true
over_clear v6 own None h k = h
over_clear v6 own (Some ip) h k = either_clear (is_off ip) [] (unwrap_or ip.addrs own) refl (stated_clear v6 own ip.addrs h k)

entry_v4 : (o : Option LinkEntry) → passes is_link_entry o ≡ true → passes (is_ip_entry false) (option_and_then (λ (e : LinkEntry). e.v4) o) ≡ true
entry_v4 None h = refl
entry_v4 (Some e) h = (entry_fits e h).v4

entry_v6 : (o : Option LinkEntry) → passes is_link_entry o ≡ true → passes (is_ip_entry true) (option_and_then (λ (e : LinkEntry). e.v6) o) ≡ true
entry_v6 None h = refl
entry_v6 (Some e) h = (entry_fits e h).v6

-- sorted addresses are the same addresses
pub sorted_clear : (xs : List Block) → list_all is_clear xs ≡ true → list_all is_clear (sorted block_cmp xs) ≡ true
sorted_clear xs h = sym (list_all-IsPermutation is_clear xs (sorted block_cmp xs) (sorted_moves block_cmp block_cmp_total xs)) ∙ h

addrs_clear : (ms : List Member) (m : Member) (up : Bool) → Knows m → list_all is_clear (addrs_of ms m up) ≡ true
addrs_clear ms m up k =
    let v4 : list_all is_clear (v4_of ms m) ≡ true = over_clear false (own_addrs ms m false) (option_and_then (λ (e : LinkEntry). e.v4) m.entry) (own_clear ms m false k) (entry_v4 m.entry k.entry) in
    let v6 : list_all is_clear (v6_of ms m) ≡ true = over_clear true (own_addrs ms m true) (option_and_then (λ (e : LinkEntry). e.v6) m.entry) (own_clear ms m true k) (entry_v6 m.entry k.entry) in
    either_clear (is_absent m.wish) [] (sorted block_cmp (v4_of ms m ++ (if up then v6_of ms m else []))) refl
    (sorted_clear (v4_of ms m ++ (if up then v6_of ms m else []))
    (all_append is_clear (v4_of ms m) (if up then v6_of ms m else []) v4 (either_clear up (v6_of ms m) [] v6 refl)))

-- ---- the links

pub links_shown : (ms : List Member) → list_all is_right ms ≡ true → list_all is_shown (merged_links ms) ≡ true
links_shown ms all =
    all_mapped (merged_link ms) is_right is_shown
    (λ m h. three_hold (is_station (merged_link ms m).mac) (list_all is_clear (merged_link ms m).addrs) (has_station m.kind)
    (mac_station ms all (length ms) m h) (addrs_clear ms m (is_up ms m) (knows m h)) (knows m h).kind)
    ms all

-- the permanent MACs alone
pub links_devices : (ms : List Member) → list_all (λ (m : Member). has_station m.kind) ms ≡ true → list_all (λ (l : Link). has_station l.kind) (merged_links ms) ≡ true
links_devices ms all = all_mapped (merged_link ms) (λ (m : Member). has_station m.kind) (λ (l : Link). has_station l.kind) (λ m h. h) ms all
