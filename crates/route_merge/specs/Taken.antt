-- An index of rules.
use Rattle.std.specs.Prelude.{◌≡◌, ℕ, ◌<◌, ◌≤◌, true, List}
use Rattle.std.specs.List.{list_any}
use Rattle.std.specs.Ordering.{nat_cmp}
use Rattle.std.specs.BTreeSet.{BTreeSet, contains}
use Rattle.net_model.specs.Rule.{RuleParts}
use Rattle.net_model.specs.Order.{rule_cmp}
use Rattle.net_model.specs.Valid.{same_body, same_rule}
use Rattle.merge_model.specs.RuleNumbers.{is_taken}

abbrev pub without_number : RuleParts → RuleParts
without_number r = record r { priority = 0 }

-- the sets hold the rules, the rules without their numbers, and the numbers; and all numbers from 30000 up to the next are
-- taken
pub record IsIndexed (rules : List RuleParts) (equal bodies : BTreeSet RuleParts) (numbers : BTreeSet ℕ) (next : ℕ) : Type 0 where
  pub has_equal : (q : RuleParts) → contains rule_cmp equal q ≡ list_any (λ t. same_rule t q) rules
  pub has_body : (q : RuleParts) → contains rule_cmp bodies (without_number q) ≡ list_any (λ t. same_body t q) rules
  pub has_number : (n : ℕ) → contains nat_cmp numbers n ≡ is_taken rules n
  pub from : 30000 ≤ next
  pub before : (m : ℕ) → 30000 ≤ m → m < next → is_taken rules m ≡ true
