-- The names of what hangs on a link, and of what a call changes of that.
use Rattle.std.specs.Prelude.{◌≡◌, ℕ, Bool, ◌&&◌, ◌||◌, true, nat_lt, List, map, filter}
use Rattle.net_model.specs.Name.{same_bytes}
use Rattle.net_model.specs.Words.{apart, is_among}
use Rattle.net_model.specs.Links.{is_named, named_passes}
use Rattle.net_model.specs.OfName.{over}
use Rattle.net_model.specs.declared.Link.{Link}
use Rattle.kernel_model.specs.Words.{is_over}
use Rattle.link_step.specs.declared.hanging.Affected.{Affected}
use Rattle.link_step.specs.declared.hanging.Affected.TheVariants.{Each, Up, Above}

-- the link is the root, or a VLAN over it in any depth
abbrev pub hangs : List Link → List ℕ → Link → Bool
hangs links root l = is_named root l || is_over links root l

-- the names of those that do
abbrev pub hanging : List Link → List ℕ → List (List ℕ)
hanging links root = map (λ (l : Link). l.name) (filter (hangs links root) links)

-- the call changes each link; those that are up; those whose MTU is above this one
abbrev pub is_affected : Affected → Link → Bool
is_affected Each l = true
is_affected Up l = l.up
is_affected (Above mtu) l = nat_lt mtu l.mtu

-- those of the names whose links it changes
abbrev pub affected_among : Affected → List Link → List (List ℕ) → List (List ℕ)
affected_among which links names = filter (named_passes (is_affected which) links) names

-- the names of the VLANs directly over the base that it changes
abbrev pub affected_over : Affected → List Link → List ℕ → List (List ℕ)
affected_over which links base = affected_among which links (over links base)

-- the link hangs on the root and is changed
abbrev pub hangs_affected : Affected → List Link → List ℕ → Link → Bool
hangs_affected which links root l = hangs links root l && is_affected which l

-- the names of those that are
abbrev pub affected_on : Affected → List Link → List ℕ → List (List ℕ)
affected_on which links root = map (λ (l : Link). l.name) (filter (hangs_affected which links root) links)

-- these are the names of those that are, in any order, each once
pub record AreAffected (which : Affected) (links : List Link) (root : List ℕ) (names : List (List ℕ)) : Type 0 where
  pub once : apart same_bytes names ≡ true
  pub each : (n : List ℕ) → is_among names n ≡ named_passes (hangs_affected which links root) links n
