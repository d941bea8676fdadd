-- Networks of which some was taken away.
use Rattle.std.proofs.Common.{inl, inr, ℕ, List, refl, ap, ◌∙◌}
use Rattle.net_model.specs.Lists.{NetData}
use Rattle.net_model.specs.declared.link.Link.{Link}
use Rattle.net_model.specs.Links.{is_ethernet}
use Rattle.link_planner.specs.Shrinking.{IsLess, IsShrunk, KeepsRulesAndDns, IsFree, HasStayed}

pub less_itself : (l : Link) → IsLess l l
less_itself l = record { kind = refl; mtu = refl; mac = refl; up = λ h. h; controller = λ c h. h; addrs = λ b h. h }

pub less_still : (k l m : Link) → IsLess k l → IsLess l m → IsLess k m
less_still k l m a b = record {
  kind = b.kind ∙ a.kind;
  mtu = b.mtu ∙ a.mtu;
  mac = b.mac ∙ a.mac;
  up = λ h. a.up (b.up h);
  controller = λ c h. a.controller c (b.controller c h);
  addrs = λ block h. a.addrs block (b.addrs block h);
}

pub shrunk_itself : (net : NetData) → IsShrunk net net
shrunk_itself net = record { links = λ n l found. (l, found, less_itself l); routes = λ r h. h }

pub shrunk_more : (a b c : NetData) → IsShrunk a b → IsShrunk b c → IsShrunk a c
shrunk_more a b c first second = record {
  links = λ n l found.
      let mid = second.links n l found in
      let old = first.links n mid.0 mid.1 in
      (old.0, old.1, less_still old.0 mid.0 l old.2 mid.2);
  routes = λ r h. first.routes r (second.routes r h);
}

-- rules and DNS stay through both
pub rules_more : (a b c : NetData) → KeepsRulesAndDns a b → KeepsRulesAndDns b c → KeepsRulesAndDns a c
rules_more a b c first second = record { rules = second.rules ∙ first.rules; dns = second.dns ∙ first.dns }

-- a port that is free stays so
pub free_still : (start target old new : NetData) → IsShrunk old new → (n : List ℕ) → IsFree start target old n → IsFree start target new n
free_still start target old new shrunk n free l t c kept found there has kept' =
    let k = shrunk.links n l found in
    free k.0 t c kept k.1 there (k.2.controller c has) kept'

-- what has stayed, if it is still there, stays kept or an Ethernet link
pub stayed_still : (start target old new : NetData) → IsShrunk old new → (n : List ℕ) → HasStayed start target old n → HasStayed start target new n
stayed_still start target old new shrunk n stayed l found =
    let k = shrunk.links n l found in
    elim (stayed k.0 k.1) [ inl kept ↦ inl kept | inr device ↦ inr (ap is_ethernet k.2.kind ∙ device) ]
