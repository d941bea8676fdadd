-- The rules 1 to 17 of the merge in four groups, the lesser of two names, and the order of addresses.
use Rattle.std.specs.Prelude.{ℕ, List, [], ◌∷◌, Option, Some, None, if◌then◌else◌}
use Rattle.std.specs.declared.cmp.Ordering.{Ordering}
use Rattle.std.specs.Ordering.{is_lt, on}
use Rattle.net_model.specs.Address.{Block}
use Rattle.net_model.specs.Order.{name_cmp, address_cmp}
use Rattle.net_model.specs.declared.Link.{Link}
use Rattle.document_model.specs.declared.LinkEntry.{LinkEntry}
use Rattle.document_model.specs.declared.Place.{Place}
use Rattle.merge_model.specs.Members.{Member}
use Rattle.merge_model.specs.BrokenEntries.{duplicate_name, no_type, no_device, physical_kind, missing_detail}
use Rattle.merge_model.specs.BrokenPorts.{port_missing, port_twice, port_conflict}
use Rattle.merge_model.specs.BrokenLinks.{port_kind, bad_base, cycle, vlan_twin, base_down, vlan_mtu, bond_options, port_address, address_twice}

-- the name, or the one beside it where that is less
abbrev pub least_of : List ℕ → Option (List ℕ) → List ℕ
least_of name None = name
least_of name (Some other) = if is_lt (name_cmp other name) then other else name

-- which are asked of entries
abbrev pub entry_rules : List Link → List LinkEntry → List (ℕ × Option Place)
entry_rules links entries = (1, duplicate_name entries) ∷ (2, no_type links entries) ∷ (3, no_device links entries) ∷ (4, physical_kind links entries) ∷ (5, missing_detail links entries) ∷ []

-- of claims and lists of ports
abbrev pub port_rules : List Member → List (ℕ × Option Place)
port_rules ms = (6, port_missing ms) ∷ (7, port_twice ms) ∷ (8, port_conflict ms) ∷ []

-- of the names, kinds and controllers of the merged links
abbrev pub shape_rules : List Link → List (ℕ × Option Place)
shape_rules merged = (9, port_kind merged) ∷ (10, bad_base merged) ∷ (11, cycle merged) ∷ []

-- and of their fields
abbrev pub merged_rules : List Member → List Link → List (ℕ × Option Place)
merged_rules ms merged =
    (12, vlan_twin merged)
    ∷ (13, base_down merged) ∷ (14, vlan_mtu merged) ∷ (15, bond_options merged) ∷ (16, port_address ms merged) ∷ (17, address_twice merged) ∷ []

-- by the address alone
abbrev pub by_address : Block → Block → Ordering
by_address = on (λ (b : Block). b.addr) address_cmp
