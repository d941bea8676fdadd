-- What was built into the machine, and the MAC of what wasn't.
use Rattle.std.specs.Prelude.{◌≡◌, ℕ, Bool, false, ◌&&◌, List, ◌∷◌, ◌++◌, take, replicate, Option, Some, None}
use Rattle.std.specs.List.{filter_map}
use Rattle.std.specs.Cmp.Lexicographic.{pointwise}
use Rattle.net_model.specs.Name.{same_bytes}
use Rattle.net_model.specs.declared.mac.Mac.{Mac}
use Rattle.net_model.specs.declared.link.Link.{Link}
use Rattle.net_model.specs.declared.link.Kind.{Kind}
use Rattle.net_model.specs.declared.link.Kind.TheVariants.{Ethernet}

-- an Ethernet link's name and permanent MAC
abbrev pub device_of : List ℕ → Kind → Option (List ℕ × Mac)
device_of name (Ethernet permanent) = Some (name, permanent)
device_of name _ = None

-- those of all Ethernet links, in the order of the list
abbrev pub hardware : List Link → List (List ℕ × Mac)
hardware links = filter_map (λ l. device_of l.name l.kind) links

-- one name and one permanent MAC
abbrev pub same_device : List ℕ × Mac → List ℕ × Mac → Bool
same_device a b = same_bytes a.0 b.0 && same_bytes a.1.bytes b.1.bytes

abbrev pub same_devices : List (List ℕ × Mac) → List (List ℕ × Mac) → Bool
same_devices = pointwise same_device

-- the device is the first of the links', and these are left behind it; or it isn't the first
abbrev pub Passes : Option (List Link) → List ℕ × Mac → List Link → Type 0
Passes (Some rest) device links = (more : List (List ℕ × Mac)) → same_devices (device ∷ more) (hardware links) ≡ same_devices more (hardware rest)
Passes None device links = (more : List (List ℕ × Mac)) → same_devices (device ∷ more) (hardware links) ≡ false

-- the MAC of a new virtual link: 02 and the first five bytes of the name, filled with zeros
abbrev pub virtual_mac : List ℕ → Mac
virtual_mac name = record { bytes = 2 ∷ take 5 (name ++ replicate 5 0) }
