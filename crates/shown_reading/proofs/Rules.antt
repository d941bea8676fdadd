-- Entries of rules.
use Rattle.std.proofs.Common.{◌≡◌, ◌∙◌, ℕ, ◌==◌, not, ◌&&◌, Bool, true, false, List, ◌++◌, codes, Option, Some, None, IfSome, Ok, refl, ap, sym, subst}
use Rattle.std.specs.Prelude.{if◌then◌else◌}
use Rattle.net_model.specs.Address.{Block}
use Rattle.net_model.specs.Rule.{RuleParts, IsOfFamily}
use Rattle.net_model.specs.Words.{bool_eq}
use Rattle.net_model.specs.declared.rule.Target.{Target}
use Rattle.net_model.specs.declared.rule.Target.TheVariants.{Table, Blackhole, Unreachable, Prohibit}
use Rattle.net_search.specs.Ranges.{IsU32, NameRanges, SubnetRanges, TargetRanges, RuleRanges}
use Rattle.net_text.specs.AddrText.{prefix_text}
use Rattle.net_text.specs.Line.{family_word}
use Rattle.net_text.specs.Words.{families}
use Rattle.doc_tree.specs.Shape.{text, pairs_of}
use Rattle.show_core.specs.Fields.{field, field_of, fields_if}
use Rattle.show_core.specs.Fields as show
use Rattle.show_core.specs.Network.{target_fields, mark_fields, rule_tree}
use Rattle.tree_schema.specs.Reading.{given, with_value}
use Rattle.tree_schema.specs.Tables.{read_map, read_pairs}
use Rattle.tree_schema.specs.Values.{one_of, unless_empty}
use Rattle.route_schema.specs.Rules.{rule_table, no_rule, is_one_family, is_of_family, target_of, rule_of, checked_rule, rule}
use Rattle.route_schema.specs.Words.{subnet}
use Rattle.shown_model.specs.Shown.{shown_rule}
use Rattle.shown_reading.proofs.Prefixes.{source_reads, iif_reads, table_reads, mark_reads}
use Rattle.shown_reading.proofs.Steps.{EntryOf, then_reads, pairs_then}
use Rattle.shown_reading.proofs.Values.{counted_reads}

-- an entry whose keys are being read
abbrev RuleDraft : Type 0
RuleDraft = EntryOf rule_table

abbrev drafted : ℕ → Bool → Option Block → Option Block → Option (List ℕ) → Option ℕ → Option ℕ → Option ℕ → Option Target → RuleDraft
drafted priority v6 src dst iif mark mask table action = record { absent = false; priority = Some priority; v6 = Some v6; src = src; dst = dst; iif = iif; mark = mark; mask = mask; table = table; action = action }

-- ---- the keys one after another

family_reads : (v6 : Bool) → one_of families (text (family_word v6)) ≡ Ok v6
family_reads true = refl
family_reads false = refl

first_read : (p : ℕ) (f : Bool) → IsU32 p → read_pairs rule_table no_rule (pairs_of (field (codes "priority") (show.number p) ++ field (codes "family") (text (family_word f)))) ≡ given (drafted p f None None None None None None None)
first_read p f h = rw (counted_reads p h, family_reads f) refl

source_at : (p : ℕ) (f : Bool) (t : List ℕ) (b : Block) → unless_empty subnet (text t) ≡ Ok (Some b)
    → read_pairs rule_table (drafted p f None None None None None None None) (pairs_of (field (codes "ip-from") (text t))) ≡ given (drafted p f (Some b) None None None None None None)
source_at p f t b h = rw h refl

source_read : (p : ℕ) (f : Bool) (src : Option Block) → IfSome src SubnetRanges
    → read_pairs rule_table (drafted p f None None None None None None None) (pairs_of (field_of (codes "ip-from") show.prefix src)) ≡ given (drafted p f src None None None None None None)
source_read p f None r = refl
source_read p f (Some b) r = source_at p f (prefix_text b) b (source_reads b r)

destination_at : (p : ℕ) (f : Bool) (src : Option Block) (t : List ℕ) (b : Block) → unless_empty subnet (text t) ≡ Ok (Some b)
    → read_pairs rule_table (drafted p f src None None None None None None) (pairs_of (field (codes "ip-to") (text t))) ≡ given (drafted p f src (Some b) None None None None None)
destination_at p f src t b h = rw h refl

destination_read : (p : ℕ) (f : Bool) (src dst : Option Block) → IfSome dst SubnetRanges
    → read_pairs rule_table (drafted p f src None None None None None None) (pairs_of (field_of (codes "ip-to") show.prefix dst)) ≡ given (drafted p f src dst None None None None None)
destination_read p f src None r = refl
destination_read p f src (Some b) r = destination_at p f src (prefix_text b) b (source_reads b r)

iif_read : (p : ℕ) (f : Bool) (src dst : Option Block) (iif : Option (List ℕ)) → IfSome iif NameRanges
    → read_pairs rule_table (drafted p f src dst None None None None None) (pairs_of (field_of (codes "iif") text iif)) ≡ given (drafted p f src dst iif None None None None)
iif_read p f src dst None r = refl
iif_read p f src dst (Some n) r = rw (iif_reads n r.named) refl

-- what stands there unless both are 0
abbrev marked : Bool → ℕ → Option ℕ
marked none n = if none then None else Some n

marks_read : (p : ℕ) (f : Bool) (src dst : Option Block) (iif : Option (List ℕ)) (none : Bool) (mark mask : ℕ) → IsU32 mark → IsU32 mask
    → read_pairs rule_table (drafted p f src dst iif None None None None) (pairs_of (fields_if (not none) (field (codes "fwmark") (show.number mark) ++ field (codes "fwmask") (show.number mask)))) ≡ given (drafted p f src dst iif (marked none mark) (marked none mask) None None)
marks_read p f src dst iif true mark mask h k = refl
marks_read p f src dst iif false mark mask h k = rw (mark_reads mark h, mark_reads mask k) refl

abbrev table_of : Target → Option ℕ
table_of (Table t) = Some t
table_of _ = None

abbrev action_of : Target → Option Target
action_of (Table t) = None
action_of target = Some target

target_read : (p : ℕ) (f : Bool) (src dst : Option Block) (iif : Option (List ℕ)) (mark mask : Option ℕ) (target : Target) → TargetRanges target
    → read_pairs rule_table (drafted p f src dst iif mark mask None None) (pairs_of (target_fields target)) ≡ given (drafted p f src dst iif mark mask (table_of target) (action_of target))
target_read p f src dst iif mark mask (Table t) r = rw (table_reads t r) refl
target_read p f src dst iif mark mask Blackhole r = refl
target_read p f src dst iif mark mask Unreachable r = refl
target_read p f src dst iif mark mask Prohibit r = refl

-- ---- the checks between keys

bool_itself : (b : Bool) → bool_eq b b ≡ true
bool_itself true = refl
bool_itself false = refl

same_family : (a b : Bool) → a ≡ b → bool_eq a b ≡ true
same_family a b e = subst (λ x. bool_eq a x ≡ true) e (bool_itself a)

one_family : (v6 : Bool) (src dst : Option Block) → IfSome src (λ b. b.addr.v6 ≡ v6) → IfSome dst (λ b. b.addr.v6 ≡ v6) → is_one_family src dst ≡ true
one_family v6 None dst h k = refl
one_family v6 (Some a) None h k = refl
one_family v6 (Some a) (Some b) h k = same_family a.addr.v6 b.addr.v6 (h ∙ sym k)

of_family : (v6 : Bool) (subnet : Option Block) → IfSome subnet (λ b. b.addr.v6 ≡ v6) → is_of_family (Some v6) subnet ≡ true
of_family v6 None h = refl
of_family v6 (Some b) h = same_family b.addr.v6 v6 h

checks : (p : ℕ) (f : Bool) (src dst : Option Block) (iif : Option (List ℕ)) (mark mask table : Option ℕ) (action : Option Target) → IsOfFamily f src dst
    → checked_rule (drafted p f src dst iif mark mask table action) ≡ given (rule_of (drafted p f src dst iif mark mask table action))
checks p f src dst iif mark mask table action r = rw (one_family f src dst r.source r.destination, of_family f src r.source, of_family f dst r.destination) refl

target_kept : (target : Target) → target_of (action_of target) (table_of target) ≡ Some target
target_kept (Table t) = refl
target_kept Blackhole = refl
target_kept Unreachable = refl
target_kept Prohibit = refl

-- ---- a whole entry

abbrev whole_draft : RuleParts → RuleDraft
whole_draft r =
    let none = (r.mark == 0) && (r.mask == 0) in
    drafted r.priority r.v6 r.src r.dst r.iif (marked none r.mark) (marked none r.mask) (table_of r.target) (action_of r.target)

keys_read : (r : RuleParts) → RuleRanges r → read_map rule_table no_rule (rule_tree r) ≡ given (whole_draft r)
keys_read r ranges =
    let none = (r.mark == 0) && (r.mask == 0) in
    let a = field (codes "priority") (show.number r.priority) ++ field (codes "family") (text (family_word r.v6)) in
    let b = a ++ field_of (codes "ip-from") show.prefix r.src in
    let c = b ++ field_of (codes "ip-to") show.prefix r.dst in
    let d = c ++ field_of (codes "iif") text r.iif in
    let e = d ++ mark_fields r in
    let first = first_read r.priority r.v6 ranges.priority in
    let second = pairs_then rule_table a (field_of (codes "ip-from") show.prefix r.src) no_rule (drafted r.priority r.v6 None None None None None None None) (drafted r.priority r.v6 r.src None None None None None None) first (source_read r.priority r.v6 r.src ranges.src) in
    let third = pairs_then rule_table b (field_of (codes "ip-to") show.prefix r.dst) no_rule (drafted r.priority r.v6 r.src None None None None None None) (drafted r.priority r.v6 r.src r.dst None None None None None) second (destination_read r.priority r.v6 r.src r.dst ranges.dst) in
    let fourth = pairs_then rule_table c (field_of (codes "iif") text r.iif) no_rule (drafted r.priority r.v6 r.src r.dst None None None None None) (drafted r.priority r.v6 r.src r.dst r.iif None None None None) third (iif_read r.priority r.v6 r.src r.dst r.iif ranges.iif) in
    let fifth = pairs_then rule_table d (mark_fields r) no_rule (drafted r.priority r.v6 r.src r.dst r.iif None None None None) (drafted r.priority r.v6 r.src r.dst r.iif (marked none r.mark) (marked none r.mask) None None) fourth (marks_read r.priority r.v6 r.src r.dst r.iif none r.mark r.mask ranges.mark ranges.mask) in
    pairs_then rule_table e (target_fields r.target) no_rule (drafted r.priority r.v6 r.src r.dst r.iif (marked none r.mark) (marked none r.mask) None None) (whole_draft r) fifth (target_read r.priority r.v6 r.src r.dst r.iif (marked none r.mark) (marked none r.mask) r.target ranges.target)

-- the tree of a rule is read as it is shown
pub rule_reads : (r : RuleParts) → RuleRanges r → rule (rule_tree r) ≡ given (Some (shown_rule r))
rule_reads r ranges =
    let none = (r.mark == 0) && (r.mask == 0) in
    let checked = checks r.priority r.v6 r.src r.dst r.iif (marked none r.mark) (marked none r.mask) (table_of r.target) (action_of r.target) ranges.family in
    ap (with_value Some) (then_reads (read_map rule_table no_rule (rule_tree r)) checked_rule (whole_draft r) (given (rule_of (whole_draft r))) (keys_read r ranges) checked)
    ∙ ap (λ t. given (Some (record (rule_of (whole_draft r)) { target = t }))) (target_kept r.target)
