-- Why a call acts on no untouched link.
use Rattle.std.proofs.Common.{◌≡◌, ℕ, List, Some, sym, subst, ◌∙◌}
use Rattle.net_model.specs.Links.{find_link}
use Rattle.net_model.specs.Lists.{NetData}
use Rattle.net_model.specs.declared.call.Call.{Call}
use Rattle.plan_model.specs.Touched.{IsCalm}
use Rattle.plan_model.specs.Undisturbed.{acts_on, Spares, IsUndisturbed}

-- an untouched link is as in target
pub calm_as_target : (start target net : NetData) → IsUndisturbed start target net → (n : List ℕ) → IsCalm start target n → find_link n net.links ≡ find_link n target.links
calm_as_target start target net quiet n calm = quiet.links n calm ∙ calm.same

same_some : (a b : List ℕ) → Some a ≡ Some b → a ≡ b
same_some a b e = cc

-- a call on a link that no untouched one is
pub spares_name : (start target : NetData) (call : Call) (n : List ℕ) → acts_on call ≡ Some n → (IsCalm start target n → ⊥) → Spares start target call
spares_name start target call n acts touched name acts' calm = touched (subst (IsCalm start target) (sym (same_some n name (sym acts ∙ acts'))) calm)

-- a link that isn't yet as in target is touched
pub touched_where_differs : (start target net : NetData) → IsUndisturbed start target net → (n : List ℕ) → (find_link n net.links ≡ find_link n target.links → ⊥) → IsCalm start target n → ⊥
touched_where_differs start target net quiet n differs calm = differs (calm_as_target start target net quiet n calm)
