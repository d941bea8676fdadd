-- The phases that take away: ports are detached, links taken down, links deleted.
use Rattle.std.specs.Prelude.{◌≡◌, ◌⊎◌, ℕ, true, false, List, Some}
use Rattle.net_model.specs.Address.{Block}
use Rattle.net_model.specs.Links.{find_link, is_bond, is_ethernet}
use Rattle.net_model.specs.Lists.{NetData}
use Rattle.net_model.specs.declared.Link.{Link}
use Rattle.net_model.specs.declared.Route.{Route}
use Rattle.kernel_model.specs.Addresses.{has_block}
use Rattle.plan_model.specs.Undisturbed.{has_route}
use Rattle.link_planner.specs.Kept.{is_kept}

-- what has become of a link k: it has lost some of what it had, and has its kind, MTU and MAC; of options nothing is said
pub record IsLess (k l : Link) : Type 0 where
  pub kind : l.kind ≡ k.kind
  pub mtu : l.mtu ≡ k.mtu
  pub mac : l.mac ≡ k.mac
  pub up : l.up ≡ true → k.up ≡ true
  pub controller : (c : List ℕ) → l.controller ≡ Some c → k.controller ≡ Some c
  pub addrs : (b : Block) → has_block b l.addrs ≡ true → has_block b k.addrs ≡ true

-- nothing is there that wasn't at the start
pub record IsShrunk (start net : NetData) : Type 0 where
  pub links : (n : List ℕ) (l : Link) → find_link n net.links ≡ Some l → (k : Link) × (find_link n start.links ≡ Some k) × IsLess k l
  pub routes : (r : Route) → has_route r net.routes ≡ true → has_route r start.routes ≡ true

-- rules and DNS stay
pub record KeepsRulesAndDns (old new : NetData) : Type 0 where
  pub rules : new.rules ≡ old.rules
  pub dns : new.dns ≡ old.dns

-- a port that has the same controller at the start and in target still has it
pub record KeepsPorts (start target net : NetData) : Type 0 where
  pub each : (n c : List ℕ) (k t l : Link) → find_link n start.links ≡ Some k → find_link n target.links ≡ Some t → find_link n net.links ≡ Some l
      → k.controller ≡ Some c → t.controller ≡ Some c → l.controller ≡ Some c

-- the link of this name, if it is kept and has a controller that is kept, has that one in target too
abbrev pub IsFree : NetData → NetData → NetData → List ℕ → Type 0
IsFree start target net n = (l t : Link) (c : List ℕ) → is_kept start target n ≡ true → find_link n net.links ≡ Some l → find_link n target.links ≡ Some t
    → l.controller ≡ Some c → is_kept start target c ≡ true → t.controller ≡ Some c

-- the link of this name is kept, and has a controller that is kept and isn't the one in target
pub record MustLeave (start target net : NetData) (n : List ℕ) : Type 0 where
  pub link : Link
  pub found : find_link n net.links ≡ Some link
  pub there : Link
  pub target_found : find_link n target.links ≡ Some there
  pub controller : List ℕ
  pub has : link.controller ≡ Some controller
  pub kept : is_kept start target n ≡ true
  pub kept_controller : is_kept start target controller ≡ true
  pub other : there.controller ≡ Some controller → ⊥

-- the link of this name, if it is kept and up, is up in target, and its controller there, if that is a bond, is kept and is its controller already
abbrev pub IsLow : NetData → NetData → NetData → List ℕ → Type 0
IsLow start target net n = (l t : Link) → is_kept start target n ≡ true → find_link n net.links ≡ Some l → find_link n target.links ≡ Some t → l.up ≡ true
    → (t.up ≡ true) × ((c : List ℕ) (b : Link) → t.controller ≡ Some c → find_link c target.links ≡ Some b → is_bond b.kind ≡ true → (l.controller ≡ Some c) × (is_kept start target c ≡ true))

-- the link k of the start has in target, as t, a bond that isn't its controller at the start or isn't kept
pub record Joins (start target : NetData) (k t : Link) : Type 0 where
  pub controller : List ℕ
  pub has : t.controller ≡ Some controller
  pub bond : Link
  pub found : find_link controller target.links ≡ Some bond
  pub is_one : is_bond bond.kind ≡ true
  pub why : (k.controller ≡ Some controller → ⊥) ⊎ (is_kept start target controller ≡ false)

-- a bond that the link has in target is kept, and is its controller at the start
abbrev pub HasBonds : NetData → NetData → Link → Link → Type 0
HasBonds start target k t = (c : List ℕ) (b : Link) → t.controller ≡ Some c → find_link c target.links ≡ Some b → is_bond b.kind ≡ true → (k.controller ≡ Some c) × (is_kept start target c ≡ true)

-- the link of this name is up, was there at the start, and is down in target or has such a bond there
pub record MustFall (start target net : NetData) (n : List ℕ) : Type 0 where
  pub link : Link
  pub found : find_link n net.links ≡ Some link
  pub old : Link
  pub old_found : find_link n start.links ≡ Some old
  pub there : Link
  pub target_found : find_link n target.links ≡ Some there
  pub up : link.up ≡ true
  pub why : (there.up ≡ false) ⊎ Joins start target old there

-- the link of this name is virtual and isn't kept
pub record MustGo (start target net : NetData) (n : List ℕ) : Type 0 where
  pub link : Link
  pub found : find_link n net.links ≡ Some link
  pub made : is_ethernet link.kind ≡ false
  pub unkept : is_kept start target n ≡ false

-- the link of this name, if it is there, is kept or is an Ethernet link
abbrev pub HasStayed : NetData → NetData → NetData → List ℕ → Type 0
HasStayed start target net n = (l : Link) → find_link n net.links ≡ Some l → (is_kept start target n ≡ true) ⊎ (is_ethernet l.kind ≡ true)
