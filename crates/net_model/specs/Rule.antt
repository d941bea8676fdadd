-- What a rule is made of.
use Rattle.std.specs.Prelude.{◌≡◌, ℕ, Bool, List, Option, IfSome}
use Rattle.net_model.specs.Address.{Block}
use Rattle.net_model.specs.declared.rule.Target.{Target}

pub record RuleParts : Type 0 where
  pub priority : ℕ
  pub v6 : Bool
  pub src : Option Block
  pub dst : Option Block
  pub iif : Option (List ℕ)
  pub mark : ℕ
  pub mask : ℕ
  pub target : Target

-- the subnets are of this family
pub record IsOfFamily (v6 : Bool) (src dst : Option Block) : Type 0 where
  pub source : IfSome src (λ b. b.addr.v6 ≡ v6)
  pub destination : IfSome dst (λ b. b.addr.v6 ≡ v6)
