-- The merged rules differ.
use Rattle.std.proofs.Common.{◌≡◌, ◌++◌, ℕ, Bool, true, false, not, ◌||◌, ◌&&◌, ◌==◌, if◌then◌else◌, List, [], ◌∷◌, filter, length, refl}
use Rattle.std.specs.List.{list_any, list_all, filter_map, fold}
use Rattle.net_model.specs.Words.{apart}
use Rattle.net_model.specs.Rule.{RuleParts}
use Rattle.net_model.specs.Valid.{same_rule, same_body, rules_differ}
use Rattle.net_model.proofs.lemmas.Truth.{and_both, not_false, or_left_false, or_right_false}
use Rattle.document_model.specs.declared.RuleEntry.{RuleEntry}
use Rattle.merge_model.specs.RuleNumbers.{is_rule_kept, numbered_rule, unnumbered_rule, free_from, take_unnumbered, first_taken, merged_rules}
use Rattle.merge_laws.proofs.Searches.{or_false, apart_cons, apart_append}
use Rattle.merge_laws.proofs.RouteLaws.{once_apart}

itself_apart : {X : Type 0} (R : X → X → Bool) (xs : List X) → apart (λ x y. R x y && not (R x y)) xs ≡ true
itself_apart R [] = refl
itself_apart R (x ∷ xs) = apart_cons (λ a b. R a b && not (R a b)) x xs (never (R x) xs) (itself_apart R xs)
  where
    contradicts : (b : Bool) → (b && not b) ≡ false
    contradicts true = refl
    contradicts false = refl

    never : {Y : Type 0} (p : Y → Bool) (ys : List Y) → list_any (λ y. p y && not (p y)) ys ≡ false
    never p [] = refl
    never p (y ∷ ys) = or_false (p y && not (p y)) (list_any (λ z. p z && not (p z)) ys) (contradicts (p y)) (never p ys)

new_apart : (r : RuleParts) (n : ℕ) (taken : List RuleParts) → list_any (λ t. same_body t r) taken ≡ false → list_all (λ t. not (list_any (same_rule t) (record r { priority = n } ∷ []))) taken ≡ true
new_apart r n [] h = refl
new_apart r n (t ∷ taken) h = and_both (not (same_rule t (record r { priority = n }) || false)) (list_all (λ q. not (list_any (same_rule q) (record r { priority = n } ∷ []))) taken)
    (not_false (same_rule t (record r { priority = n }) || false) (or_false (same_rule t (record r { priority = n })) false (and_none (t.priority == n) (same_body t r) (or_left_false (same_body t r) (list_any (λ q. same_body q r) taken) h)) refl))
    (new_apart r n taken (or_right_false (same_body t r) (list_any (λ q. same_body q r) taken) h))
  where
    and_none : (b c : Bool) → c ≡ false → (b && c) ≡ false
    and_none true c e = e
    and_none false c e = refl

taken_differ : (taken : List RuleParts) (r : RuleParts) → rules_differ taken ≡ true → rules_differ (take_unnumbered taken r) ≡ true
taken_differ taken r h = elim (list_any (λ t. same_body t r) taken) as (λ v. list_any (λ t. same_body t r) taken ≡ v → rules_differ (if v then taken else taken ++ record r { priority = free_from taken (length taken) 30000 } ∷ []) ≡ true) [
  | true ↦ λ e. h
  | false ↦ λ e. apart_append same_rule taken (record r { priority = free_from taken (length taken) 30000 } ∷ []) h refl (new_apart r (free_from taken (length taken) 30000) taken e)
] refl

all_differ : (rs taken : List RuleParts) → rules_differ taken ≡ true → rules_differ (fold take_unnumbered taken rs) ≡ true
all_differ [] taken h = h
all_differ (r ∷ rs) taken h = all_differ rs (take_unnumbered taken r) (taken_differ taken r h)

pub first_differ : (es : List RuleEntry) (rules : List RuleParts) → rules_differ (first_taken es rules) ≡ true
first_differ es rules =
    let first : List RuleParts = filter (is_rule_kept es) rules ++ filter_map numbered_rule es in
    once_apart same_rule same_rule first (itself_apart same_rule first)

pub rules_differ-law : (es : List RuleEntry) (rules : List RuleParts) → rules_differ (merged_rules es rules) ≡ true
rules_differ-law es rules = all_differ (filter_map unnumbered_rule es) (first_taken es rules) (first_differ es rules)
