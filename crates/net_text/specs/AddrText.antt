-- The texts of addresses, prefixes and MAC addresses, of the model's types.
use Rattle.std.specs.Prelude.{◌≡◌, ℕ, ◌+◌, ◌≤◌, ◌⊎◌, ◌==◌, Bool, true, false, nat_le, List, ◌∷◌, ◌++◌, take, drop, Option, Some, None, if◌then◌else◌}
use Rattle.std.specs.Fmt.{decimal}
use Rattle.std.specs.List.{position}
use Rattle.std.specs.Option.{option_map}
use Rattle.net_model.specs.Address.{Address, Block, address, block, max_len}
use Rattle.net_model.specs.declared.mac.Mac.{Mac}
use Rattle.addr_text.specs.Digits.{octet_of}
use Rattle.addr_text.specs.Dotted.{dotted, dotted_of, IsDotted}
use Rattle.addr_text.specs.Find.{at_place}
use Rattle.addr_text.specs.MacReader.{mac_of}
use Rattle.addr_text.specs.V6.{IsV6}
use Rattle.addr_text.specs.V6Reader.{v6_of}
use Rattle.addr_text.specs.V6Text.{v6_text}

-- the text of an address that is written
abbrev pub addr_text : Address → List ℕ
addr_text a = if a.v6 then v6_text a.bits else dotted a.bits

-- the text of a prefix: its address, a slash and its length
abbrev pub prefix_text : Block → List ℕ
prefix_text b = addr_text b.addr ++ 47 ∷ decimal b.len

-- the address that a text is read as
abbrev pub addr_of : List ℕ → Option Address
addr_of t = at_place (dotted_of t) (option_map (address true) (v6_of t)) (λ n. Some (address false n))

-- an address with its whole length
abbrev pub whole : Address → Block
whole a = block a (max_len a.v6)

-- an address with a length, where it has so many bits
abbrev pub with_length : Option Address → Option ℕ → Option Block
with_length None len = None
with_length (Some a) None = None
with_length (Some a) (Some n) = if nat_le n (max_len a.v6) then Some (block a n) else None

-- the prefix that a text is read as
abbrev pub prefix_of : List ℕ → Option Block
prefix_of t = at_place (position (λ b. b == 47) t) (option_map whole (addr_of t)) (λ i. with_length (addr_of (take i t)) (octet_of (drop (i + 1) t)))

abbrev pub hardware : List ℕ → Mac
hardware bytes = record { bytes = bytes }

-- the MAC address that a text is read as
abbrev pub hardware_of : List ℕ → Option Mac
hardware_of t = option_map hardware (mac_of t)

-- a text of this address: of IPv4 four decimal numbers, of IPv6 as in RFC 4291 section 2.2
abbrev pub IsTextOf : Bool → List ℕ → ℕ → Type 0
IsTextOf false text bits = IsDotted text bits
IsTextOf true text bits = IsV6 text bits

abbrev pub IsAddrText : List ℕ → Address → Type 0
IsAddrText text a = IsTextOf a.v6 text a.bits

-- a text of an address, a slash and a length that the family allows, decimal without leading zeros
pub record HasLength (text : List ℕ) (b : Block) : Type 0 where
  pub front : List ℕ
  pub written : text ≡ front ++ 47 ∷ decimal b.len
  pub address : IsAddrText front b.addr
  pub within : b.len ≤ max_len b.addr.v6

-- a text of this prefix: an address with its length, or an address alone with its whole length
abbrev pub IsPrefixText : List ℕ → Block → Type 0
IsPrefixText text b = HasLength text b ⊎ (IsAddrText text b.addr × (b.len ≡ max_len b.addr.v6))
