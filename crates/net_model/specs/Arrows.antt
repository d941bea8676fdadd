-- The arrows from links to those that they depend on, by their places.
use Rattle.std.specs.Prelude.{◌≡◌, ◌⊎◌, ◌<◌, ℕ, Bool, true, false, List, [], length, get_or, Option, Some, None, slice_index_or}
use Rattle.net_model.specs.Links.{is_port_of}
use Rattle.net_model.specs.Dependence.{has_base}
use Rattle.net_model.specs.declared.link.Link.{Link}

-- the link at this place passes the test, and no other does
pub record IsOnly (p : Link → Bool) (links : List Link) (i : ℕ) : Type 0 where
  pub inside : i < length links
  pub passes : (d : Link) → p (slice_index_or links i d) ≡ true
  pub only : (k : ℕ) (d : Link) → k < length links → p (slice_index_or links k d) ≡ true → k ≡ i

-- the place of the only link that passes, or none where none does
abbrev pub FindsOnly : (Link → Bool) → List Link → Option ℕ → Type 0
FindsOnly p links (Some i) = IsOnly p links i
FindsOnly p links None = (k : ℕ) (d : Link) → k < length links → p (slice_index_or links k d) ≡ false

-- the link at i, one of the first so many, is a VLAN over that at j
pub record IsOver (links : List Link) (bases i j : ℕ) : Type 0 where
  pub from : i < length links
  pub to : j < length links
  pub early : i < bases
  pub base : (d : Link) → has_base (slice_index_or links i d).kind (slice_index_or links j d).name ≡ true

-- the link at j, one of the first so many, is a port of that at i
pub record IsPort (links : List Link) (ports i j : ℕ) : Type 0 where
  pub from : i < length links
  pub to : j < length links
  pub early : j < ports
  pub port : (d : Link) → is_port_of (slice_index_or links i d).name (slice_index_or links j d) ≡ true

-- these are the arrows of the bases of the first so many links, and of so many that are ports
pub record Draws (links : List Link) (bases ports : ℕ) (arrows : List (List ℕ)) : Type 0 where
  pub whole : length arrows ≡ length links
  pub sound : (i k : ℕ) → i < length links → k < length (get_or arrows i []) → IsOver links bases i (get_or (get_or arrows i []) k 0) ⊎ IsPort links ports i (get_or (get_or arrows i []) k 0)
  pub all : (i j : ℕ) → IsOver links bases i j ⊎ IsPort links ports i j → (k : ℕ) × (k < length (get_or arrows i [])) × (get_or (get_or arrows i []) k 0 ≡ j)
