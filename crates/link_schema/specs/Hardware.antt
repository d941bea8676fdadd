-- Hardware lists: `hardware`, and its `name` and `mac-address`.
use Rattle.std.specs.Prelude.{ℕ, suc, false, List, [], ◌∷◌, ◌++◌, nat_lt, Some, None, Ok, Err, if◌then◌else◌, codes}
use Rattle.std.specs.List.{list_any}
use Rattle.net_model.specs.Links.{is_named}
use Rattle.net_model.specs.declared.limits.TheConstants.{MAX_LINKS, DEFAULT_MTU}
use Rattle.net_model.specs.Options.{default_bond, default_bridge, default_port}
use Rattle.net_model.specs.declared.Mac.{Mac}
use Rattle.net_model.specs.declared.Link.{Link}
use Rattle.net_model.specs.declared.Kind.TheVariants.{Ethernet}
use Rattle.base_model.specs.declared.PathStep.TheVariants.{Key, At}
use Rattle.doc_tree.specs.Shape.{Shape, list, Shapes, no_shapes, more, item_count}
use Rattle.tree_schema.specs.declared.Reason.TheVariants.{WrongType, OutOfRange, Missing}
use Rattle.tree_schema.specs.Reading.{Reading, given, refuse, below, with_value, and_then}
use Rattle.tree_schema.specs.Values.{Looked, and_if, name, is_null}
use Rattle.tree_schema.specs.Tables.{Table, value, passed_by, read_map, needed, value_under, top_of, unknown}
use Rattle.link_schema.specs.Words.{station}
use Rattle.link_schema.specs.declared.draft.DeviceDraft.{DeviceDraft}

-- a name that no link so far has
abbrev pub new_name : List Link → Shape → Looked (List ℕ)
new_name links s = and_if (name s) (λ n. if list_any (is_named n) links then Err OutOfRange else Ok n)

-- ---- `hardware[]`

abbrev pub device_table : List Link → Table DeviceDraft
device_table links = record {
  keys =
      value "name" (new_name links) (λ (e : DeviceDraft) name. record e { name = Some name })
      ∷ value "mac-address" station (λ (e : DeviceDraft) mac. record e { mac = Some mac })
      ∷ [];
  over = [];
  others = unknown;
}

abbrev pub no_device : DeviceDraft
no_device = record { name = None; mac = None }

-- a link as it is built in: down, with its permanent MAC
abbrev pub built_in : List ℕ → Mac → Link
built_in name mac = record { name = name; kind = Ethernet mac; up = false; mtu = DEFAULT_MTU; mac = mac; controller = None; bond = default_bond; bridge = default_bridge; port = default_port; addrs = [] }

-- both are needed
abbrev pub device_of : DeviceDraft → Reading Link
device_of e = and_then (needed "name" e.name) (λ name. with_value (built_in name) (needed "mac-address" e.mac))

abbrev pub device : List Link → Shape → Reading Link
device links s = and_then (read_map (device_table links) no_device s) device_of

-- ---- the list

-- the links so far, and after them those of the entries from position i on
abbrev pub devices : List Link → ℕ → Shapes → Reading (List Link)
devices links i no_shapes = given links
devices links i (more s ss) = and_then (below (At i) (device links s)) (λ l. devices (links ++ l ∷ []) (suc i) ss)

-- at most as many entries as a network has links; they are counted before one is looked at
abbrev pub hardware_list : Shape → Reading (List Link)
hardware_list (list ss) = if nat_lt MAX_LINKS (item_count ss) then refuse OutOfRange else devices [] 0 ss
hardware_list _ = refuse WrongType

abbrev pub hardware_top : Table (Unit {0})
hardware_top = record { keys = passed_by "hardware" ∷ []; over = []; others = unknown }

-- the list is needed
abbrev pub list_there : Shape → Reading (List Link)
list_there s = if is_null s then refuse Missing else hardware_list s

-- an unknown key comes before all that stands in the list
abbrev pub hardware : Shape → Reading (List Link)
hardware s = and_then (read_map hardware_top tt (top_of s)) (λ looked. below (Key (codes "hardware")) (list_there (value_under "hardware" s)))
