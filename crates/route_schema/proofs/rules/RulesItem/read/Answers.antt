use Rattle.std.proofs.Common.{◌∙◌, Some}
use Rattle.doc_tree.specs.Shape.{shape}
use Rattle.tree_schema.specs.Reading.{and_then}
use Rattle.tree_schema.specs.Tables.{read_map}
use Rattle.tree_schema.proofs.lemmas.Reaching.{next_ok}
use Rattle.route_schema.specs.Rules.{rule_table, no_rule, checked_rule}
use Rattle.tree_schema.proofs.lemmas.Reaching.{with_value_ok}
use Rattle.route_schema.proofs.rules.RulesItem.read.Goals as goal

pub returns-clause-read : goal.returns-clause-read
returns-clause-read c =
    let read = read_map rule_table no_rule (shape c.args.tree.now) in
    with_value_ok c.args.reader.now c.checked_rule.new.reader Some (and_then read checked_rule) c.in_ok-entry.entry
    (next_ok c.args.reader.now c.read_map.new.reader read checked_rule c.read_map.new.entry c.in_ok-read_map.ensures.read ∙ c.in_ok-entry.ensures.read)
