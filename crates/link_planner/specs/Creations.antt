-- Creations that are noted, while their links don't stand in the network yet.
use Rattle.std.specs.Prelude.{◌≡◌, ℕ, false, List, [], ◌∷◌, ◌++◌, map, Some, None}
use Rattle.std.specs.BTreeMap.{insert_entry}
use Rattle.net_model.specs.Order.{name_cmp}
use Rattle.net_model.specs.Hardware.{virtual_mac}
use Rattle.net_model.specs.Options.{default_bond, default_bridge, default_port}
use Rattle.net_model.specs.Links.{find_link}
use Rattle.net_model.specs.declared.limits.TheConstants.{DEFAULT_MTU}
use Rattle.net_model.specs.declared.Mac.{Mac}
use Rattle.net_model.specs.declared.Link.{Link}
use Rattle.net_model.specs.declared.Kind.{Kind}
use Rattle.net_model.specs.declared.Kind.TheVariants.{Veth}
use Rattle.net_model.specs.declared.Call.TheVariants.{AddLink}
use Rattle.kernel_model.specs.MadeLinks.{first_mtu, first_mac}
use Rattle.link_planner.specs.declared.creations.NewLink.{NewLink}
use Rattle.link_planner.specs.declared.creations.Creations.{Creations}
use Rattle.link_planner.specs.declared.phase.Phase.TheVariants.{CreateLinks}
use Rattle.link_planner.specs.Drafts.{DraftData, Holds, with_created}
use Rattle.link_planner.specs.Phases.{IsDue, IsServed}

-- a new link begins with these
abbrev pub begins : Kind → ℕ → Mac → NewLink
begins kind mtu mac = record { kind = kind; mtu = mtu; mac = mac }

-- what one of this name and kind begins with among these links
abbrev pub first_of : List Link → List ℕ → Kind → NewLink
first_of links name kind = begins kind (first_mtu links kind) (first_mac links name kind)

-- and what one begins with that takes nothing over from a base
abbrev pub own_first : List ℕ → Kind → NewLink
own_first name kind = begins kind DEFAULT_MTU (virtual_mac name)

-- the link itself: down, without controller and addresses, with all options at their defaults
abbrev pub made_link : List ℕ → NewLink → Link
made_link name first = record { name = name; kind = first.kind; up = false; mtu = first.mtu; mac = first.mac; controller = None; bond = default_bond; bridge = default_bridge; port = default_port; addrs = [] }

-- the links that are noted
abbrev pub made_links : List (List ℕ × NewLink) → List Link
made_links entries = map (λ e. made_link e.0 e.1) entries

-- the draft as it is with these creations
abbrev pub noted : Creations → DraftData → DraftData
noted creations d = with_created (made_links creations.links.entries) creations.calls.items d

-- there is none
pub record AreNone (creations : Creations) : Type 0 where
  pub links : creations.links.entries ≡ []
  pub calls : creations.calls.items ≡ []

-- a veth's peer is noted too, with this link as its peer
abbrev pub peer_put : List ℕ → Kind → List (List ℕ × NewLink) → List (List ℕ × NewLink)
peer_put name (Veth peer) entries = insert_entry name_cmp entries peer (own_first peer (Veth name))
peer_put name _ entries = entries

-- the link of this name is made so, a veth with its peer
pub record Notes (name : List ℕ) (first : NewLink) (old new : Creations) : Type 0 where
  pub links : new.links.entries ≡ peer_put name first.kind (insert_entry name_cmp old.links.entries name first)
  pub calls : new.calls.items ≡ old.calls.items ++ AddLink name first.kind ∷ []

-- what a VLAN takes over from its base
abbrev pub mtu_and_mac : Link → ℕ × Mac
mtu_and_mac l = (l.mtu, l.mac)

-- and from one that is noted
abbrev pub own_mtu_and_mac : NewLink → ℕ × Mac
own_mtu_and_mac first = (first.mtu, first.mac)

-- target's link of this name is of this kind, and isn't there yet
pub record ComesAs (d : DraftData) (n : List ℕ) (k : Kind) : Type 0 where
  pub there : Link
  pub at : find_link n d.target.links ≡ Some there
  pub kind : there.kind ≡ k
  pub missing : find_link n d.net.links ≡ None

-- the name may be served
pub record MayServe (d : DraftData) (n : List ℕ) : Type 0 where
  pub holds : Holds d
  pub due : IsDue CreateLinks d n

-- the name has been served, and the draft still holds
pub record HasServed (n : List ℕ) (old new : DraftData) : Type 0 where
  pub served : IsServed CreateLinks n old new
  pub holds : Holds new
