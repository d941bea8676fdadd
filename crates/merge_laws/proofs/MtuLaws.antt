-- The merged MTUs are in range, and none is above its base's.
use Rattle.std.proofs.Common.{◌≡◌, ℕ, min, Bool, true, false, ◌&&◌, nat_le, if◌then◌else◌, List, [], ◌∷◌, map, length, Option, Some, None, zero, suc, refl, ap, ◌∙◌, ◌⊎◌, inl, inr, arith}
use Rattle.std.specs.List.{list_all}
use Rattle.std.specs.Option.{option_map_or, option_map, option_and_then, unwrap_or}
use Rattle.net_model.specs.Name.{same_bytes}
use Rattle.net_model.specs.Links.{base_passes}
use Rattle.net_model.specs.Valid.{mtu_in_range, mtus_fit}
use Rattle.net_model.specs.declared.Link.{Link}
use Rattle.net_model.proofs.lemmas.Truth.{and_left, and_right, and_both}
use Rattle.document_model.specs.declared.LinkEntry.{LinkEntry}
use Rattle.merge_model.specs.Stated.{is_absent}
use Rattle.merge_model.specs.Kinds.{base_of}
use Rattle.merge_model.specs.Members.{Member, find_member}
use Rattle.merge_model.specs.Merged.{base_member, down_bases, by_bases, mtu_over, stated_mtu, unstated_mtu, merged_link, merged_links}
use Rattle.merge_model.specs.BrokenLinks.{vlan_mtu}
use Rattle.merge_laws.proofs.Searches.{all_find, all_both}
use Rattle.merge_laws.proofs.Known.{entry_passes, old_passes, mtu_stated_right, mtu_right}
use Rattle.merge_laws.proofs.Parts.{none_found}

one_of : (n m : ℕ) → (min n m ≡ n) ⊎ (min n m ≡ m)
one_of n m = grind arith

min_range : (n m : ℕ) → mtu_in_range n ≡ true → mtu_in_range m ≡ true → mtu_in_range (min n m) ≡ true
min_range n m h k = elim (one_of n m) [
  | inl e ↦ ap mtu_in_range e ∙ h
  | inr e ↦ ap mtu_in_range e ∙ k
]

if_stated : (m : Member) → entry_passes mtu_stated_right m ≡ true → option_map_or mtu_in_range (stated_mtu m) true ≡ true
if_stated m h = elim (is_absent m.wish) as (λ v. option_map_or mtu_in_range (if v then Some 1500 else option_and_then (λ e. e.mtu) m.entry) true ≡ true) [
  | true ↦ refl
  | false ↦ by m.entry h
]
  where
    by : (o : Option LinkEntry) → option_map_or mtu_stated_right o true ≡ true → option_map_or mtu_in_range (option_and_then (λ e. e.mtu) o) true ≡ true
    by None k = refl
    by (Some e) k = k

unstated_range : (old : Option Link) (below : Option ℕ) → option_map_or mtu_right old true ≡ true → option_map_or mtu_in_range below true ≡ true → mtu_in_range (unstated_mtu (option_map (λ l. l.mtu) old) below) ≡ true
unstated_range None None h k = refl
unstated_range None (Some m) h k = k
unstated_range (Some l) None h k = h
unstated_range (Some l) (Some m) h k = min_range l.mtu m h k

or_else : (o : Option ℕ) (n : ℕ) → option_map_or mtu_in_range o true ≡ true → mtu_in_range n ≡ true → mtu_in_range (unwrap_or o n) ≡ true
or_else None n h k = k
or_else (Some m) n h k = h

-- what is known of a member here
abbrev mtus_known : Member → Bool
mtus_known m = entry_passes mtu_stated_right m && old_passes mtu_right m

over_range : (m : Member) (below : Option ℕ) → mtus_known m ≡ true → option_map_or mtu_in_range below true ≡ true → mtu_in_range (mtu_over m below) ≡ true
over_range m below h k =
    or_else (stated_mtu m) (unstated_mtu (option_map (λ l. l.mtu) m.old) below) (if_stated m (and_left (entry_passes mtu_stated_right m) (old_passes mtu_right m) h))
    (unstated_range m.old below (and_right (entry_passes mtu_stated_right m) (old_passes mtu_right m) h) k)

mapped : (f : Member → ℕ) (o : Option Member) → option_map_or mtus_known o true ≡ true → ((m : Member) → mtus_known m ≡ true → mtu_in_range (f m) ≡ true) → option_map_or mtu_in_range (option_map f o) true ≡ true
mapped f None h each = refl
mapped f (Some m) h each = each m h

base_known : (ms : List Member) (o : Option (List ℕ)) → list_all mtus_known ms ≡ true → option_map_or mtus_known (option_and_then (λ base. find_member base ms) o) true ≡ true
base_known ms None h = refl
base_known ms (Some base) h = all_find (λ m. same_bytes m.name base) mtus_known ms h

mtu_range : (ms : List Member) → list_all mtus_known ms ≡ true → (steps : ℕ) (m : Member) → mtus_known m ≡ true → mtu_in_range (down_bases mtu_over ms steps m) ≡ true
mtu_range ms all zero m h = over_range m None h refl
mtu_range ms all (suc steps) m h =
    over_range m (option_map (down_bases mtu_over ms steps) (base_member ms m)) h
    (mapped (down_bases mtu_over ms steps) (base_member ms m) (base_known ms (base_of m.kind) all) (λ b k. mtu_range ms all steps b k))

all_mtus : (ms xs : List Member) → list_all mtus_known ms ≡ true → list_all mtus_known xs ≡ true → list_all (λ l. mtu_in_range l.mtu) (map (merged_link ms) xs) ≡ true
all_mtus ms [] known h = refl
all_mtus ms (m ∷ xs) known h = and_both (mtu_in_range (by_bases mtu_over ms m)) (list_all (λ l. mtu_in_range l.mtu) (map (merged_link ms) xs)) (mtu_range ms known (length ms) m (and_left (mtus_known m) (list_all mtus_known xs) h)) (all_mtus ms xs known (and_right (mtus_known m) (list_all mtus_known xs) h))

pub mtus_fit-law : (ms : List Member) → list_all (entry_passes mtu_stated_right) ms ≡ true → list_all (old_passes mtu_right) ms ≡ true → vlan_mtu (merged_links ms) ≡ None → mtus_fit (merged_links ms) ≡ true
mtus_fit-law ms entries olds h =
    let known : list_all mtus_known ms ≡ true = all_both (entry_passes mtu_stated_right) (old_passes mtu_right) ms entries olds in
    all_both (λ l. mtu_in_range l.mtu) (λ l. base_passes (λ b. nat_le l.mtu b.mtu) (merged_links ms) l.kind) (merged_links ms) (all_mtus ms ms known known)
    (none_found (λ l. base_passes (λ b. nat_le l.mtu b.mtu) (merged_links ms) l.kind) (merged_links ms) h)
