-- The controllers of the merged links.
use Rattle.std.specs.Prelude.{ℕ, Bool, false, ◌&&◌, List, [], ◌∷◌, ◌++◌, map, filter, Option, Some, None, if◌then◌else◌, is_none}
use Rattle.std.specs.Option.{option_map_or, option_map, option_and_then, option_to_list}
use Rattle.net_model.specs.Words.{is_among}
use Rattle.net_model.specs.declared.Kind.{Kind}
use Rattle.net_model.specs.declared.Kind.TheVariants.{Bond, Bridge, Vrf}
use Rattle.document_model.specs.declared.LinkEntry.{LinkEntry}
use Rattle.document_model.specs.declared.PortEntry.{PortEntry}
use Rattle.document_model.specs.declared.Claim.{Claim}
use Rattle.document_model.specs.declared.Claim.TheVariants.{To}
use Rattle.merge_model.specs.Stated.{is_absent, claimed}
use Rattle.merge_model.specs.Kinds.{same_type}
use Rattle.merge_model.specs.Members.{Member, find_member}

-- the port list that an entry states for a link of this kind
abbrev pub ports_by : Kind → LinkEntry → Option (List (List ℕ))
ports_by (Bond mode) e = e.bond.ports
ports_by Bridge e = option_map (map (λ (p : PortEntry). p.name)) e.bridge.ports
ports_by (Vrf table) e = e.vrf.ports
ports_by _ e = None

abbrev pub stated_ports : Member → Option (List (List ℕ))
stated_ports m = option_and_then (ports_by m.kind) m.entry

-- the member's stated port list names the link
abbrev pub lists : Member → List ℕ → Bool
lists m name = option_map_or (λ ports. is_among ports name) (stated_ports m) false

abbrev pub own_claim : Member → Option Claim
own_claim m = option_and_then (λ e. e.controller) m.entry

-- the claims on a link: its own stated controller, and one for each stated port list that names it
abbrev pub claims : List Member → Member → List Claim
claims ms m = option_to_list (own_claim m) ++ map (λ c. To c.name) (filter (λ c. lists c m.name) ms)

-- a controller keeps its ports where its type stays and no port list is stated for it
abbrev pub keeps_ports : Member → Bool
keeps_ports c = option_map_or (λ l. same_type l.kind c.kind) c.old false && is_none (stated_ports c)

abbrev pub kept_by : List Member → List ℕ → Option (List ℕ)
kept_by ms name = if option_map_or keeps_ports (find_member name ms) false then Some name else None

-- the current controller, where it keeps its ports
abbrev pub kept_controller : List Member → Member → Option (List ℕ)
kept_controller ms m = option_and_then (kept_by ms) (option_and_then (λ l. l.controller) m.old)

-- a claim decides; rule 8 demands that all claims on a link agree
abbrev pub decided : List Claim → Option (List ℕ) → Option (List ℕ)
decided [] kept = kept
decided (claim ∷ more) kept = claimed claim

-- an Ethernet link that is stated absent has none
abbrev pub merged_controller : List Member → Member → Option (List ℕ)
merged_controller ms m = if is_absent m.wish then None else decided (claims ms m) (kept_controller ms m)

abbrev pub with_controller : List Member → Member → Member
with_controller ms m = record m { controller = merged_controller ms m }

abbrev pub with_controllers : List Member → List Member
with_controllers ms = map (with_controller ms) ms
