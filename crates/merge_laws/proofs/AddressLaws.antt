-- Each address stands once on a merged link, and IPv6 stands on links that are up alone.
use Rattle.std.proofs.Common.{◌≡◌, ◌++◌, Bool, true, false, not, ◌||◌, if◌then◌else◌, List, [], ◌∷◌, map, filter, Option, Some, None, refl, sym, ◌∙◌}
use Rattle.std.specs.List.{list_all}
use Rattle.std.specs.Option.{option_map_or, option_and_then, unwrap_or}
use Rattle.net_model.specs.Address.{Block}
use Rattle.net_model.specs.OnLink.{is_link_local}
use Rattle.net_model.specs.Words.{bool_eq, sorted}
use Rattle.net_model.specs.Order.{block_cmp}
use Rattle.net_model.specs.OrderLaws.{block_cmp_total}
use Rattle.net_model.specs.Valid.{all_v4, addresses_differ, addresses_fit}
use Rattle.net_model.specs.declared.Link.{Link}
use Rattle.net_model.proofs.lemmas.Truth.{and_left, and_right, and_both}
use Rattle.net_model.proofs.lemmas.Permute.{list_all-IsPermutation}
use Rattle.net_model.proofs.lemmas.Sorting.{sorted_moves}
use Rattle.document_model.specs.Entries.{passes, is_own, is_ip_entry}
use Rattle.document_model.specs.declared.IpEntry.{IpEntry}
use Rattle.document_model.specs.declared.LinkEntry.{LinkEntry}
use Rattle.merge_model.specs.Stated.{is_absent, is_stated_down, is_off}
use Rattle.merge_model.specs.Members.{Member}
use Rattle.merge_model.specs.Addresses.{is_bound, own_addrs, addrs_over, v4_of, v6_of, addrs_of}
use Rattle.merge_model.specs.Merged.{merged_link, merged_links, is_up}
use Rattle.merge_model.specs.BrokenLinks.{address_twice}
use Rattle.merge_laws.proofs.Searches.{all_weaker, all_append, all_filter, all_both}
use Rattle.merge_laws.proofs.Known.{entry_passes, v4_stated_right, v6_stated_right}
use Rattle.merge_laws.proofs.Parts.{none_found}

-- the blocks are of this family
abbrev pub all_of : Bool → List Block → Bool
all_of v6 addrs = list_all (λ b. bool_eq b.addr.v6 v6) addrs

own_family : (ms : List Member) (m : Member) (v6 : Bool) → all_of v6 (own_addrs ms m v6) ≡ true
own_family ms m v6 = elim (is_bound ms m || is_stated_down m.wish) as (λ v. all_of v6 (if v then [] else option_map_or (λ l. filter (λ a. bool_eq a.addr.v6 v6) l.addrs) m.old []) ≡ true) [
  | true ↦ refl
  | false ↦ old_family m.old
]
  where
    old_family : (o : Option Link) → all_of v6 (option_map_or (λ l. filter (λ a. bool_eq a.addr.v6 v6) l.addrs) o []) ≡ true
    old_family None = refl
    old_family (Some l) = all_filter (λ (b : Block). bool_eq b.addr.v6 v6) (λ a. bool_eq a.addr.v6 v6) (λ a h. h) l.addrs

-- what is stated, or this
over_passes : (test : List Block → Bool) → test [] ≡ true → (own : List Block) (section : Option IpEntry) → passes (λ ip. passes test ip.addrs) section ≡ true → test own ≡ true → test (addrs_over own section) ≡ true
over_passes test empty own None h k = k
over_passes test empty own (Some ip) h k = elim (is_off ip) as (λ v. test (if v then [] else unwrap_or ip.addrs own) ≡ true) [
  | true ↦ empty
  | false ↦ stated ip.addrs h
]
  where
    stated : (o : Option (List Block)) → passes test o ≡ true → test (unwrap_or o own) ≡ true
    stated None h = k
    stated (Some addrs) h = h

-- a section states addresses of its family
section_family : (v6 : Bool) (section : Option IpEntry) → passes (is_ip_entry v6) section ≡ true → passes (λ ip. passes (all_of v6) ip.addrs) section ≡ true
section_family v6 None h = refl
section_family v6 (Some ip) h = by ip.addrs h
  where
    by : (o : Option (List Block)) → passes (λ addrs. list_all (λ (b : Block). is_own v6 b.addr) addrs) o ≡ true → passes (all_of v6) o ≡ true
    by None k = refl
    by (Some xs) k = all_weaker (λ (b : Block). is_own v6 b.addr) (λ (b : Block). bool_eq b.addr.v6 v6) (λ b q. and_left (bool_eq b.addr.v6 v6) (not (is_link_local b.addr)) q) xs k

v4_section : (o : Option LinkEntry) → option_map_or v4_stated_right o true ≡ true → passes (is_ip_entry false) (option_and_then (λ e. e.v4) o) ≡ true
v4_section None h = refl
v4_section (Some e) h = h

v6_section : (o : Option LinkEntry) → option_map_or v6_stated_right o true ≡ true → passes (is_ip_entry true) (option_and_then (λ e. e.v6) o) ≡ true
v6_section None h = refl
v6_section (Some e) h = h

pub v4_family : (ms : List Member) (m : Member) → entry_passes v4_stated_right m ≡ true → all_of false (v4_of ms m) ≡ true
v4_family ms m fits = over_passes (all_of false) refl (own_addrs ms m false) (option_and_then (λ e. e.v4) m.entry) (section_family false (option_and_then (λ e. e.v4) m.entry) (v4_section m.entry fits)) (own_family ms m false)

pub v6_family : (ms : List Member) (m : Member) → entry_passes v6_stated_right m ≡ true → all_of true (v6_of ms m) ≡ true
v6_family ms m fits = over_passes (all_of true) refl (own_addrs ms m true) (option_and_then (λ e. e.v6) m.entry) (section_family true (option_and_then (λ e. e.v6) m.entry) (v6_section m.entry fits)) (own_family ms m true)

not_v6 : (v6 : Bool) → bool_eq v6 false ≡ true → not v6 ≡ true
not_v6 true h = h
not_v6 false h = refl

as_v4 : (addrs : List Block) → all_of false addrs ≡ true → all_v4 addrs ≡ true
as_v4 addrs h = all_weaker (λ (b : Block). bool_eq b.addr.v6 false) (λ (b : Block). not b.addr.v6) (λ b k. not_v6 b.addr.v6 k) addrs h

down_v4 : (ms : List Member) (m : Member) → entry_passes v4_stated_right m ≡ true → all_v4 (addrs_of ms m false) ≡ true
down_v4 ms m fits = elim (is_absent m.wish) as (λ v. all_v4 (if v then [] else sorted block_cmp (v4_of ms m ++ [])) ≡ true) [
  | true ↦ refl
  | false ↦ sym (list_all-IsPermutation (λ b. not b.addr.v6) (v4_of ms m ++ []) (sorted block_cmp (v4_of ms m ++ [])) (sorted_moves block_cmp block_cmp_total (v4_of ms m ++ [])))
      ∙ all_append (λ b. not b.addr.v6) (v4_of ms m) [] (as_v4 (v4_of ms m) (v4_family ms m fits)) refl
]

up_or_v4 : (ms : List Member) (m : Member) → entry_passes v4_stated_right m ≡ true → (up : Bool) → (up || all_v4 (addrs_of ms m up)) ≡ true
up_or_v4 ms m fits true = refl
up_or_v4 ms m fits false = down_v4 ms m fits

all_up_or_v4 : (ms xs : List Member) → list_all (entry_passes v4_stated_right) xs ≡ true → list_all (λ l. l.up || all_v4 l.addrs) (map (merged_link ms) xs) ≡ true
all_up_or_v4 ms [] h = refl
all_up_or_v4 ms (m ∷ xs) h = and_both _ (list_all (λ l. l.up || all_v4 l.addrs) (map (merged_link ms) xs)) (up_or_v4 ms m (and_left (entry_passes v4_stated_right m) (list_all (entry_passes v4_stated_right) xs) h) (is_up ms m)) (all_up_or_v4 ms xs (and_right (entry_passes v4_stated_right m) (list_all (entry_passes v4_stated_right) xs) h))

pub addresses_fit-law : (ms : List Member) → list_all (entry_passes v4_stated_right) ms ≡ true → address_twice (merged_links ms) ≡ None → addresses_fit (merged_links ms) ≡ true
addresses_fit-law ms fits h =
    all_both (λ l. l.up || all_v4 l.addrs) (λ l. addresses_differ l.addrs) (merged_links ms) (all_up_or_v4 ms ms fits)
    (none_found (λ l. addresses_differ l.addrs) (merged_links ms) h)
