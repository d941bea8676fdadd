-- What a document states about links.
use Rattle.std.specs.Prelude.{ℕ, Bool, true, false, not, List, Option, Some, None, find, is_some}
use Rattle.std.specs.Option.{option_map_or}
use Rattle.net_model.specs.Name.{same_bytes}
use Rattle.net_model.specs.declared.Link.{Link}
use Rattle.document_model.specs.declared.IpEntry.{IpEntry}
use Rattle.document_model.specs.declared.LinkEntry.{LinkEntry}
use Rattle.document_model.specs.declared.Claim.{Claim}
use Rattle.document_model.specs.declared.Claim.TheVariants.{Nobody, To}
use Rattle.document_model.specs.declared.Wish.{Wish}
use Rattle.document_model.specs.declared.Wish.TheVariants.{Up, Down, Absent}

-- the entry of this name
abbrev pub find_entry : List ℕ → List LinkEntry → Option LinkEntry
find_entry name entries = find (λ e. same_bytes e.name name) entries

-- an entry has the name of the link
abbrev pub is_mentioned : List LinkEntry → Link → Bool
is_mentioned entries l = is_some (find_entry l.name entries)

abbrev pub is_absent : Option Wish → Bool
is_absent (Some Absent) = true
is_absent _ = false

abbrev pub is_stated_up : Option Wish → Bool
is_stated_up (Some Up) = true
is_stated_up _ = false

abbrev pub is_stated_down : Option Wish → Bool
is_stated_down (Some Down) = true
is_stated_down _ = false

-- the section states that its family is off
abbrev pub is_off : IpEntry → Bool
is_off ip = option_map_or not ip.enabled false

-- the name in a claim
abbrev pub claimed : Claim → Option (List ℕ)
claimed Nobody = None
claimed (To name) = Some name
