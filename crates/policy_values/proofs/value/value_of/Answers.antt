use Rattle.std.proofs.Common.{◌∙◌, ap}
use Rattle.doc_tree.specs.Shape.{shape}
use Rattle.policy_values.specs.Tables.{seen}
use Rattle.policy_values.proofs.Fair.{Fair}
use Rattle.policy_values.proofs.Given.{held_given, held_distinct, held_short}
use Rattle.policy_values.proofs.value.value_of.Goals as goal

pub returns-clause-value : goal.returns-clause-value
returns-clause-value c =
    held_given c.args.policy.now (shape c.args.running.now) c.captures-captures.result.now c.desired.result.now c.as_slice.result.now c.filled_or.result c.captures-captures.ensures c.desired.ensures
    (ap seen c.as_slice.ensures.value ∙ c.in_ok-table.ensures) c.filled_or.ensures

pub returns-clause-distinct : goal.returns-clause-distinct
returns-clause-distinct c =
    let fair : Fair (shape c.args.running.now) = record { distinct = c.requires.distinct; short = c.requires.short } in
    held_distinct c.args.policy.now (shape c.args.running.now) c.captures-captures.result.now c.desired.result.now c.as_slice.result.now c.filled_or.result c.captures-captures.ensures c.desired.ensures
    (ap seen c.as_slice.ensures.value ∙ c.in_ok-table.ensures) c.filled_or.ensures fair c.laws.ensures

pub returns-clause-short : goal.returns-clause-short
returns-clause-short c =
    let fair : Fair (shape c.args.running.now) = record { distinct = c.requires.distinct; short = c.requires.short } in
    held_short c.args.policy.now (shape c.args.running.now) c.captures-captures.result.now c.desired.result.now c.as_slice.result.now c.filled_or.result c.captures-captures.ensures c.desired.ensures
    (ap seen c.as_slice.ensures.value ∙ c.in_ok-table.ensures) c.filled_or.ensures fair c.laws.ensures
