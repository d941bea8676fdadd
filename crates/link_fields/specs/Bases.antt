-- What is known of the fields that links have from their bases.
use Rattle.std.specs.Prelude.{◌≡◌, ◌<◌, ℕ, Bool, true, List, length, Option, Some, None, is_none, zero, suc, slice_index_or}
use Rattle.std.specs.Option.{option_map_or}
use Rattle.merge_model.specs.Members.{Member}
use Rattle.merge_model.specs.Merged.{base_member, down_bases, by_bases, is_up, up_over, mtu_over, mac_over}
use Rattle.link_fields.specs.declared.bases.Fields.{Fields}

-- the chain of its bases comes within so many steps to a link without one
abbrev pub ends : List Member → ℕ → Member → Bool
ends ms zero m = is_none (base_member ms m)
ends ms (suc steps) m = option_map_or (ends ms steps) (base_member ms m) true

-- these are the fields of the merged link
pub record Suits (ms : List Member) (m : Member) (fields : Fields) : Type 0 where
  pub up : fields.up ≡ is_up ms m
  pub mtu : fields.mtu ≡ by_bases mtu_over ms m
  pub mac : fields.mac ≡ by_bases mac_over ms m

-- these are the fields of the link, looking so many bases down
pub record SuitsWithin (ms : List Member) (steps : ℕ) (m : Member) (fields : Fields) : Type 0 where
  pub up : fields.up ≡ down_bases up_over ms steps m
  pub mtu : fields.mtu ≡ down_bases mtu_over ms steps m
  pub mac : fields.mac ≡ down_bases mac_over ms steps m

-- these are those of the first so many links
pub record Gives (ms : List Member) (steps count : ℕ) (all : List Fields) : Type 0 where
  pub whole : length all ≡ count
  pub right : (i : ℕ) → i < count → (d : Member) (e : Fields) → SuitsWithin ms steps (slice_index_or ms i d) (slice_index_or all i e)

-- the fields of the merged link, whose chain of bases ends
pub record Holds (ms : List Member) (m : Member) (fields : Fields) : Type 0 where
  pub suits : Suits ms m fields
  pub ends : ends ms fields.bases m ≡ true

-- what is known at each place holds of the link there
pub record Knows (ms : List Member) (known : List (Option Fields)) : Type 0 where
  pub whole : length known ≡ length ms
  pub right : (i : ℕ) (fields : Fields) → i < length ms → slice_index_or known i None ≡ Some fields → (d : Member) → Holds ms (slice_index_or ms i d) fields

-- these are places of links
abbrev pub AreInside : List Member → List ℕ → Type 0
AreInside ms places = (k : ℕ) → k < length places → slice_index_or places k 0 < length ms

-- the place of a link's base, or none where it has none
abbrev pub IsBaseAt : Option ℕ → Member → List Member → Type 0
IsBaseAt (Some i) m ms = (i < length ms) × ((d : Member) → base_member ms m ≡ Some (slice_index_or ms i d))
IsBaseAt None m ms = base_member ms m ≡ None
