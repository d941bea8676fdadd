-- What the values of interfaces are looked at as.
use Rattle.std.specs.Prelude.{ℕ, Bool, List, [], ◌∷◌, Option, Some, option_map, option_and_then, Ok, Err, if◌then◌else◌}
use Rattle.net_model.specs.Address.{Address}
use Rattle.net_model.specs.declared.Mac.{Mac}
use Rattle.net_text.specs.AddrText.{addr_of, hardware_of}
use Rattle.document_model.specs.Entries.{is_station, is_own}
use Rattle.document_model.specs.declared.Claim.{Claim}
use Rattle.document_model.specs.declared.Claim.TheVariants.{Nobody, To}
use Rattle.doc_tree.specs.Shape.{Shape}
use Rattle.tree_schema.specs.declared.Reason.TheVariants.{Unsupported}
use Rattle.tree_schema.specs.Reading.{Reading, item, read_list}
use Rattle.tree_schema.specs.Values.{Looked, and_if, passing, formed, name_from, name, boolean}

-- a name, or the empty string for nobody
abbrev pub claim_from : List ℕ → Option Claim
claim_from [] = Some Nobody
claim_from (b ∷ bs) = option_map To (name_from (b ∷ bs))

abbrev pub claim : Shape → Looked Claim
claim s = formed claim_from s

-- a MAC whose first byte is even and that isn't all zero
abbrev pub station_from : List ℕ → Option Mac
station_from t = option_and_then (passing is_station) (hardware_of t)

abbrev pub station : Shape → Looked Mac
station s = formed station_from s

-- an address of the family; a link-local one is read over before it comes to this
abbrev pub own_address_from : Bool → List ℕ → Option Address
own_address_from v6 t = option_and_then (passing (is_own v6)) (addr_of t)

abbrev pub own_address : Bool → Shape → Looked Address
own_address v6 s = formed (own_address_from v6) s

-- a boolean that isn't true
abbrev pub off : Shape → Looked Bool
off s = and_if (boolean s) (λ on. if on then Err Unsupported else Ok on)

abbrev pub names : Shape → Reading (List (List ℕ))
names s = read_list (item name) s
