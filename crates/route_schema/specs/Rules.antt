-- `route-rules`.
use Rattle.std.specs.Prelude.{ℕ, Bool, false, ◌&&◌, List, [], ◌∷◌, Option, Some, None, option_map}
use Rattle.std.specs.Option.{option_or}
use Rattle.net_model.specs.Words.{bool_eq}
use Rattle.net_model.specs.Address.{Block}
use Rattle.net_model.specs.declared.Target.{Target}
use Rattle.net_model.specs.declared.Target.TheVariants.{Table as ByTable}
use Rattle.net_text.specs.Words.{families, actions}
use Rattle.document_model.specs.Entries.{agree}
use Rattle.document_model.specs.declared.RuleEntry.{RuleEntry}
use Rattle.doc_tree.specs.Shape.{Shape}
use Rattle.tree_schema.specs.declared.Reason.TheVariants.{OutOfRange}
use Rattle.tree_schema.specs.Reading.{Reading, with_value, and_then, read_list}
use Rattle.tree_schema.specs.Values.{one_of, name, mark, unless_empty, unless_minus_one}
use Rattle.tree_schema.specs.Tables.{Table, value, part, read_map, holds_or, unknown}
use Rattle.route_schema.specs.Words.{subnet, table, absence}
use Rattle.route_schema.specs.declared.draft.RuleDraft.{RuleDraft}

-- ---- `config[]`

abbrev pub rule_table : Table RuleDraft
rule_table = record {
  keys =
      value "state" absence (λ (e : RuleDraft) absent. record e { absent = absent })
      ∷ value "ip-from" (unless_empty subnet) (λ (e : RuleDraft) src. record e { src = src })
      ∷ value "ip-to" (unless_empty subnet) (λ (e : RuleDraft) dst. record e { dst = dst })
      ∷ value "priority" unless_minus_one (λ (e : RuleDraft) priority. record e { priority = priority })
      ∷ value "route-table" table (λ (e : RuleDraft) table. record e { table = Some table })
      ∷ value "family" (one_of families) (λ (e : RuleDraft) v6. record e { v6 = Some v6 })
      ∷ value "iif" (unless_empty name) (λ (e : RuleDraft) iif. record e { iif = iif })
      ∷ value "fwmark" mark (λ (e : RuleDraft) n. record e { mark = Some n })
      ∷ value "fwmask" mark (λ (e : RuleDraft) n. record e { mask = Some n })
      ∷ value "action" (one_of actions) (λ (e : RuleDraft) action. record e { action = Some action })
      ∷ [];
  over = [];
  others = unknown;
}

abbrev pub no_rule : RuleDraft
no_rule = record { absent = false; priority = None; v6 = None; src = None; dst = None; iif = None; mark = None; mask = None; table = None; action = None }

-- the prefixes are of one family
abbrev pub is_one_family : Option Block → Option Block → Bool
is_one_family src dst = agree (λ (src dst : Block). bool_eq src.addr.v6 dst.addr.v6) src dst

abbrev pub with_one_family : RuleDraft → Reading RuleDraft
with_one_family e = holds_or "ip-to" OutOfRange (is_one_family e.src e.dst) e

-- and of the one that is stated
abbrev pub is_of_family : Option Bool → Option Block → Bool
is_of_family v6 subnet = agree (λ v6 (b : Block). bool_eq b.addr.v6 v6) v6 subnet

abbrev pub with_stated_family : RuleDraft → Reading RuleDraft
with_stated_family e = holds_or "family" OutOfRange (is_of_family e.v6 e.src && is_of_family e.v6 e.dst) e

-- where an action is stated, the table has no effect
abbrev pub target_of : Option Target → Option ℕ → Option Target
target_of action table = option_or action (option_map ByTable table)

abbrev pub rule_of : RuleDraft → RuleEntry
rule_of e = record { absent = e.absent; priority = e.priority; v6 = e.v6; src = e.src; dst = e.dst; iif = e.iif; mark = e.mark; mask = e.mask; target = target_of e.action e.table }

abbrev pub checked_rule : RuleDraft → Reading RuleEntry
checked_rule e = with_value rule_of (and_then (with_one_family e) with_stated_family)

abbrev pub rule : Shape → Reading (Option RuleEntry)
rule s = with_value Some (and_then (read_map rule_table no_rule s) checked_rule)

-- ---- the section

abbrev pub rules_table : Table (List RuleEntry)
rules_table = record { keys = part "config" (read_list rule) (λ old rules. rules) ∷ []; over = []; others = unknown }

abbrev pub rules : Shape → Reading (List RuleEntry)
rules s = read_map rules_table [] s
