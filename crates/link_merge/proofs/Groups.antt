-- The rules 1 to 17, group by group.
use Rattle.std.proofs.Common.{◌≡◌, ℕ, List, [], ◌∷◌, ◌++◌, Option, Some, None, refl, sym, ap, ◌∙◌}
use Rattle.std.specs.Option.{option_map, option_or}
use Rattle.net_model.specs.declared.Link.{Link}
use Rattle.document_model.specs.declared.LinkEntry.{LinkEntry}
use Rattle.document_model.specs.declared.Place.{Place}
use Rattle.document_model.specs.declared.Refused.{Refused}
use Rattle.merge_model.specs.Lifted.{members}
use Rattle.merge_model.specs.Places.{at_rule, first_of}
use Rattle.merge_model.specs.BrokenEntries.{duplicate_name}
use Rattle.merge_model.specs.Merge.{links_of, links_broken}
use Rattle.link_rules.specs.Rules.{entry_rules, port_rules, merged_rules}

-- where the entries break no rule their names differ
pub no_duplicate : (links : List Link) (es : List LinkEntry) → first_of at_rule (entry_rules links es) ≡ None → duplicate_name es ≡ None
no_duplicate links es h = unplaced (duplicate_name es) _ h
  where
    unplaced : (o : Option Place) (rest : Option Refused) → option_or (option_map (at_rule 1) o) rest ≡ None → o ≡ None
    unplaced None rest k = refl
    unplaced (Some p) rest k = absurd cc
