-- What absent entries of rules state, and an index of it.
use Rattle.std.specs.Prelude.{◌≡◌, Bool, ◌&&◌, List, Some, None, is_some, if◌then◌else◌}
use Rattle.std.specs.List.{list_any}
use Rattle.std.specs.Option.{option_eq, option_cmp}
use Rattle.std.specs.Ordering.{bool_cmp, nat_cmp, ordering_then}
use Rattle.std.specs.declared.cmp.Ordering.{Ordering}
use Rattle.std.specs.BTreeSet.{BTreeSet, contains}
use Rattle.net_model.specs.Name.{same_bytes}
use Rattle.net_model.specs.Words.{bool_eq}
use Rattle.net_model.specs.Order.{name_cmp, block_cmp}
use Rattle.net_model.specs.Rule.{RuleParts}
use Rattle.net_model.specs.Valid.{same_block, same_target}
use Rattle.net_model.specs.contracts.rule.TargetOrd.TheImpl as target_order
use Rattle.net_model.specs.declared.Target.{Target}
use Rattle.document_model.specs.declared.RuleEntry.{RuleEntry}
use Rattle.merge_model.specs.Routes.{same_number}
use Rattle.route_merge.specs.declared.absent_rules.StatedRule.{StatedRule}

abbrev pub stated_of : RuleEntry → StatedRule
stated_of e = record { priority = e.priority; v6 = e.v6; src = e.src; dst = e.dst; iif = e.iif; mark = e.mark; mask = e.mask; target = e.target }

-- the order of targets
abbrev pub target_cmp : Target → Target → Ordering
target_cmp = (target_order.ghosts).cmp

-- by all fields in their order
abbrev pub stated_cmp : StatedRule → StatedRule → Ordering
stated_cmp a b = ordering_then (option_cmp nat_cmp a.priority b.priority) (ordering_then (option_cmp bool_cmp a.v6 b.v6) (ordering_then (option_cmp block_cmp a.src b.src) (ordering_then (option_cmp block_cmp a.dst b.dst) (ordering_then (option_cmp name_cmp a.iif b.iif) (ordering_then (option_cmp nat_cmp a.mark b.mark) (ordering_then (option_cmp nat_cmp a.mask b.mask) (option_cmp target_cmp a.target b.target)))))))

abbrev pub same_stated : StatedRule → StatedRule → Bool
same_stated a b = option_eq same_number a.priority b.priority && option_eq bool_eq a.v6 b.v6 && option_eq same_block a.src b.src && option_eq same_block a.dst b.dst && option_eq same_bytes a.iif b.iif && option_eq same_number a.mark b.mark && option_eq same_number a.mask b.mask && option_eq same_target a.target b.target

-- both state the same of the first four fields, whatever their values
abbrev pub alike_to_dst : StatedRule → StatedRule → Bool
alike_to_dst a b = bool_eq (is_some a.priority) (is_some b.priority) && bool_eq (is_some a.v6) (is_some b.v6) && bool_eq (is_some a.src) (is_some b.src) && bool_eq (is_some a.dst) (is_some b.dst)

-- both state the same fields, whatever their values
abbrev pub alike : StatedRule → StatedRule → Bool
alike a b = alike_to_dst a b && bool_eq (is_some a.iif) (is_some b.iif) && bool_eq (is_some a.mark) (is_some b.mark) && bool_eq (is_some a.mask) (is_some b.mask) && bool_eq (is_some a.target) (is_some b.target)

-- what of the rule an entry that states these fields states, where it matches
abbrev pub narrowed : StatedRule → RuleParts → StatedRule
narrowed s r = record {
  priority = if is_some s.priority then Some r.priority else None;
  v6 = if is_some s.v6 then Some r.v6 else None;
  src = if is_some s.src then r.src else None;
  dst = if is_some s.dst then r.dst else None;
  iif = if is_some s.iif then r.iif else None;
  mark = if is_some s.mark then Some r.mark else None;
  mask = if is_some s.mask then Some r.mask else None;
  target = if is_some s.target then Some r.target else None;
}

-- the fields that one of these states are those that an absent entry states
abbrev pub HasShapes : List StatedRule → List RuleEntry → Type 0
HasShapes shapes es = (q : StatedRule) → list_any (λ s. alike s q) shapes ≡ list_any (λ e. e.absent && alike (stated_of e) q) es

-- the set has what the absent entries state
abbrev pub HasStated : BTreeSet StatedRule → List RuleEntry → Type 0
HasStated set es = (q : StatedRule) → contains stated_cmp set q ≡ list_any (λ e. e.absent && same_stated (stated_of e) q) es
