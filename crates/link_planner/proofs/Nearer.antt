-- Networks that come nearer to target.
use Rattle.std.proofs.Common.{ℕ, List, refl, sym, subst, ◌∙◌}
use Rattle.net_model.specs.Lists.{NetData}
use Rattle.net_model.specs.declared.link.Link.{Link}
use Rattle.net_model.proofs.lemmas.ByName.{some_same}
use Rattle.link_planner.specs.Growing.{IsAsNear, IsNearer, IsMade, IsWhole, Reaches}

pub near_itself : (t l : Link) → IsAsNear t l l
near_itself t l = record { mtu = λ h. h; enough_mtu = λ h. h; mac = λ h. h; near_bond = λ h. h; bond = λ h. h; bridge = λ h. h; controller = λ h. h; port = λ h. h; up = λ h. h }

near_still : (t k l m : Link) → IsAsNear t k l → IsAsNear t l m → IsAsNear t k m
near_still t k l m a b = record {
  mtu = λ h. b.mtu (a.mtu h);
  enough_mtu = λ h. b.enough_mtu (a.enough_mtu h);
  mac = λ h. b.mac (a.mac h);
  near_bond = λ h. b.near_bond (a.near_bond h);
  bond = λ h. b.bond (a.bond h);
  bridge = λ h. b.bridge (a.bridge h);
  controller = λ h. b.controller (a.controller h);
  port = λ h. b.port (a.port h);
  up = λ h. b.up (a.up h);
}

pub nearer_itself : (target net : NetData) → IsNearer target net net
nearer_itself target net = record { links = λ n k found. (k, found, λ t at. near_itself t k); routes = λ r h. h; rules = refl; dns = refl }

pub nearer_more : (target a b c : NetData) → IsNearer target a b → IsNearer target b c → IsNearer target a c
nearer_more target a b c first second = record {
  links = λ n k found.
      let mid = first.links n k found in
      let last = second.links n mid.0 mid.1 in
      (last.0, last.1, λ t at. near_still t k mid.0 last.0 (mid.2 t at) (last.2 t at));
  routes = λ r h. second.routes r (first.routes r h);
  rules = second.rules ∙ first.rules;
  dns = second.dns ∙ first.dns;
}

-- a link that is there stays there
pub made_still : (target old new : NetData) → IsNearer target old new → (n : List ℕ) → IsMade target old n → IsMade target new n
made_still target old new nearer n made t at =
    let k = made t at in
    let l = nearer.links n k.0 k.1 in
    (l.0, l.1)

pub whole_still : (target old new : NetData) → IsNearer target old new → IsWhole target old → IsWhole target new
whole_still target old new nearer whole n = made_still target old new nearer n (whole n)

-- what was reached stays so
pub reached_still : (R : Link → Link → Type 0) → ((t k l : Link) → IsAsNear t k l → R k t → R l t) → (target old new : NetData) → IsWhole target old → IsNearer target old new → (n : List ℕ) → Reaches R target old n → Reaches R target new n
reached_still R keeps target old new whole nearer n reached l t found at =
    let k = whole n t at in
    let m = nearer.links n k.0 k.1 in
    subst (λ x. R x t) (some_same m.0 l (sym m.1 ∙ found)) (keeps t k.0 m.0 (m.2 t at) (reached k.0 t k.1 at))
