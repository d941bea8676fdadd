-- Lists that are one, item by item.
use Rattle.std.proofs.Common.{◌≡◌, ℕ, ◌<◌, ◌+◌, Bool, List, length, get_or, take, sym, ◌∙◌, subst}
use Rattle.std.specs.Bool.{Decides}
use Rattle.std.proofs.lemmas.List.{take_more_same, get_or_read}
use Rattle.std.specs.Ordering.{eq_by_cmp}
use Rattle.net_model.specs.Rule.{RuleParts}
use Rattle.net_model.specs.Order.{rule_cmp}
use Rattle.net_model.proofs.lemmas.Ties.{rules_tie}
use Rattle.net_model.proofs.lemmas.Same.{same_rule_exact}

-- one more item that is the same
pub list_more : {X : Type 0} (a b : List X) (i : ℕ) (x y : X) → i < length a → i < length b → take i a ≡ take i b → x ≡ get_or a i x → y ≡ get_or b i y → x ≡ y → take (i + 1) a ≡ take (i + 1) b
list_more a b i x y lt also front here there same = take_more_same a b i x lt also front (sym here ∙ same ∙ get_or_read b i y also there x)

-- the test of two rules
pub rule_decides : (x y : RuleParts) → Decides (eq_by_cmp rule_cmp x y) (x ≡ y)
rule_decides x y = subst (λ (r : Bool). Decides r (x ≡ y)) (rules_tie x y) (same_rule_exact x y)
