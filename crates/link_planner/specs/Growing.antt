-- The phases that build up: links are made, their settings set, ports attached, links raised.
use Rattle.std.specs.Prelude.{◌≡◌, ◌⊎◌, ◌≤◌, ℕ, true, List, Some, None}
use Rattle.net_model.specs.Address.{Block}
use Rattle.net_model.specs.Links.{find_link, is_bond}
use Rattle.net_model.specs.Lists.{NetData}
use Rattle.net_model.specs.declared.Link.{Link}
use Rattle.net_model.specs.declared.Kind.TheVariants.{Vlan}
use Rattle.net_model.specs.declared.Proto.{Proto}
use Rattle.net_model.specs.declared.BondOpts.{BondOpts}
use Rattle.net_model.specs.declared.Route.{Route}
use Rattle.kernel_model.specs.Addresses.{has_block}
use Rattle.plan_model.specs.Undisturbed.{has_route}

-- a link l has nothing that it would have to lose to become t
pub record IsOnWay (target : NetData) (l t : Link) : Type 0 where
  pub kind : t.kind ≡ l.kind
  pub up : l.up ≡ true → t.up ≡ true
  pub controller : (c : List ℕ) → l.controller ≡ Some c → t.controller ≡ Some c
  pub bond_port : l.up ≡ true → (c : List ℕ) (b : Link) → t.controller ≡ Some c → find_link c target.links ≡ Some b → is_bond b.kind ≡ true → l.controller ≡ Some c
  pub addrs : (b : Block) → has_block b l.addrs ≡ true → has_block b t.addrs ≡ true

-- nothing is there that target hasn't
pub record IsToward (target net : NetData) : Type 0 where
  pub links : (n : List ℕ) (l : Link) → find_link n net.links ≡ Some l → (t : Link) × (find_link n target.links ≡ Some t) × IsOnWay target l t
  pub routes : (r : Route) → has_route r net.routes ≡ true → has_route r target.routes ≡ true

-- the bond's options are those of target, or those without the primary
abbrev pub NearBond : BondOpts → BondOpts → Type 0
NearBond t o = (o ≡ t) ⊎ (o ≡ record t { primary = None })

-- what of a link k was as in t is so of l, too
pub record IsAsNear (t k l : Link) : Type 0 where
  pub mtu : k.mtu ≡ t.mtu → l.mtu ≡ t.mtu
  pub enough_mtu : t.mtu ≤ k.mtu → t.mtu ≤ l.mtu
  pub mac : k.mac ≡ t.mac → l.mac ≡ t.mac
  pub near_bond : NearBond t.bond k.bond → NearBond t.bond l.bond
  pub bond : k.bond ≡ t.bond → l.bond ≡ t.bond
  pub bridge : k.bridge ≡ t.bridge → l.bridge ≡ t.bridge
  pub controller : k.controller ≡ t.controller → l.controller ≡ t.controller
  pub port : k.port ≡ t.port → l.port ≡ t.port
  pub up : k.up ≡ t.up → l.up ≡ t.up

-- each link is still there, and what was as in target is so still; rules and DNS stay
pub record IsNearer (target old new : NetData) : Type 0 where
  pub links : (n : List ℕ) (k : Link) → find_link n old.links ≡ Some k → (l : Link) × (find_link n new.links ≡ Some l) × ((t : Link) → find_link n target.links ≡ Some t → IsAsNear t k l)
  pub routes : (r : Route) → has_route r old.routes ≡ true → has_route r new.routes ≡ true
  pub rules : new.rules ≡ old.rules
  pub dns : new.dns ≡ old.dns

-- target's link of this name is there
abbrev pub IsMade : NetData → NetData → List ℕ → Type 0
IsMade target net n = (t : Link) → find_link n target.links ≡ Some t → (l : Link) × (find_link n net.links ≡ Some l)

-- and so are all links of target
abbrev pub IsWhole : NetData → NetData → Type 0
IsWhole target net = (n : List ℕ) → IsMade target net n

-- this holds of the link of this name and of target's
abbrev pub Reaches : (Link → Link → Type 0) → NetData → NetData → List ℕ → Type 0
Reaches R target net n = (l t : Link) → find_link n net.links ≡ Some l → find_link n target.links ≡ Some t → R l t

abbrev pub EnoughMtu : Link → Link → Type 0
EnoughMtu l t = t.mtu ≤ l.mtu

abbrev pub SameMtu : Link → Link → Type 0
SameMtu l t = l.mtu ≡ t.mtu

abbrev pub SameMac : Link → Link → Type 0
SameMac l t = l.mac ≡ t.mac

abbrev pub AlmostSameBond : Link → Link → Type 0
AlmostSameBond l t = NearBond t.bond l.bond

abbrev pub SameBond : Link → Link → Type 0
SameBond l t = l.bond ≡ t.bond

abbrev pub SameBridge : Link → Link → Type 0
SameBridge l t = l.bridge ≡ t.bridge

abbrev pub SameController : Link → Link → Type 0
SameController l t = l.controller ≡ t.controller

abbrev pub SamePort : Link → Link → Type 0
SamePort l t = l.port ≡ t.port

abbrev pub SameUp : Link → Link → Type 0
SameUp l t = l.up ≡ t.up

-- this holds, name by name, of the base of target's link of this name
abbrev pub OfBase : NetData → (List ℕ → Type 0) → List ℕ → Type 0
OfBase target P n = (t : Link) (base : List ℕ) (id : ℕ) (proto : Proto) → find_link n target.links ≡ Some t → t.kind ≡ Vlan base id proto → P base

abbrev pub BaseIsThere : NetData → NetData → List ℕ → Type 0
BaseIsThere target net n = OfBase target (IsMade target net) n

abbrev pub BaseHasEnough : NetData → NetData → List ℕ → Type 0
BaseHasEnough target net n = OfBase target (Reaches EnoughMtu target net) n

abbrev pub BaseIsUp : NetData → NetData → List ℕ → Type 0
BaseIsUp target net n = OfBase target (Reaches SameUp target net) n

-- the second link is there, as a port of the first
abbrev pub HasPort : NetData → List ℕ → List ℕ → Type 0
HasPort net name port = (l : Link) × (find_link port net.links ≡ Some l) × (l.controller ≡ Some name)

-- the options without a primary that isn't a port of the named bond
pub record Fits (net : NetData) (name : List ℕ) (t o : BondOpts) : Type 0 where
  pub near : NearBond t o
  pub ready : (p : List ℕ) → o.primary ≡ Some p → HasPort net name p
  pub whole : (p : List ℕ) → t.primary ≡ Some p → HasPort net name p → o ≡ t
