-- An index of rules, with one more rule.
use Rattle.std.proofs.Common.{◌≡◌, ℕ, ◌<◌, ◌≤◌, Bool, true, false, ◌||◌, ◌==◌, cond, List, [], ◌∷◌, ◌++◌, Ordering, length, refl, sym, ap, subst, ◌∙◌}
use Rattle.std.specs.List.{list_any}
use Rattle.std.specs.Ordering.{is_eq, nat_cmp}
use Rattle.std.specs.Cmp.{unsigned_ties}
use Rattle.std.specs.BTreeSet.{BTreeSet, contains, Updates}
use Rattle.net_model.specs.Rule.{RuleParts}
use Rattle.net_model.specs.Order.{rule_cmp}
use Rattle.net_model.specs.Valid.{same_body, same_rule}
use Rattle.net_model.proofs.lemmas.Ties.{rules_tie}
use Rattle.merge_model.specs.RuleNumbers.{is_taken, free_from}
use Rattle.merge_model.proofs.lemmas.FreeNumbers.{first_free, one_first_free}
use Rattle.route_merge.specs.Taken.{without_number, IsIndexed}

swap : (a b c : Bool) → (a || cond b true c) ≡ cond b true (a || c)
swap true true c = refl
swap true false c = refl
swap false b c = refl

-- whether one passes, with one more
pub any_more : {X : Type 0} (p : X → Bool) (xs : List X) (x : X) → list_any p (xs ++ x ∷ []) ≡ cond (p x) true (list_any p xs)
any_more p [] x = last (p x)
  where
    last : (b : Bool) → (b || false) ≡ cond b true false
    last true = refl
    last false = refl
any_more p (y ∷ ys) x = ap (λ b. p y || b) (any_more p ys x) ∙ swap (p y) (p x) (list_any p ys)

-- a set with one more key, where its order ties what the test finds
more : {K X : Type 0} (cmp : K → K → Ordering) (p : X → K → Bool) (s n : BTreeSet K) (xs : List X) (x : X) (k q : K)
    → p x q ≡ is_eq (cmp k q) → Updates cmp s n k true → contains cmp s q ≡ list_any (λ y. p y q) xs → contains cmp n q ≡ list_any (λ y. p y q) (xs ++ x ∷ [])
more cmp p s n xs x k q tie u h = u.0 q ∙ ap (λ b. cond (is_eq (cmp k q)) true b) h ∙ ap (λ b. cond b true (list_any (λ y. p y q) xs)) (sym tie) ∙ sym (any_more (λ y. p y q) xs x)

-- the index of one rule more
pub one_more : (rules : List RuleParts) (equal bodies : BTreeSet RuleParts) (numbers : BTreeSet ℕ) (next : ℕ) (r body : RuleParts) (number : ℕ) (equal' bodies' : BTreeSet RuleParts) (numbers' : BTreeSet ℕ)
    → body ≡ without_number r → number ≡ r.priority → IsIndexed rules equal bodies numbers next → Updates rule_cmp equal equal' r true → Updates rule_cmp bodies bodies' body true → Updates nat_cmp numbers numbers' number true
    → IsIndexed (rules ++ r ∷ []) equal' bodies' numbers' next
one_more rules equal bodies numbers next r body number equal' bodies' numbers' is called x ue ub un = record {
  has_equal = λ q. more rule_cmp same_rule equal equal' rules r r q (rules_tie r q) ue (x.has_equal q);
  has_body = λ q. more rule_cmp (λ t k. same_body t q) bodies bodies' rules r (without_number r) (without_number q) (rules_tie (without_number r) (without_number q)) (subst (λ k. Updates rule_cmp bodies bodies' k true) is ub) (x.has_body q);
  has_number = λ m. more nat_cmp (λ t k. t.priority == k) numbers numbers' rules r r.priority m (unsigned_ties r.priority m) (subst (λ k. Updates nat_cmp numbers numbers' k true) called un) (x.has_number m);
  from = x.from;
  before = λ m low high. any_more (λ t. t.priority == m) rules r ∙ stays (r.priority == m) (x.before m low high);
}
  where
    stays : {c : Bool} (b : Bool) → c ≡ true → cond b true c ≡ true
    stays true h = refl
    stays false h = h

-- where the numbers before it are taken, a number that isn't in the set is the first free one
pub first_number : (rules : List RuleParts) (numbers : BTreeSet ℕ) (number : ℕ) → ((n : ℕ) → contains nat_cmp numbers n ≡ is_taken rules n) → contains nat_cmp numbers number ≡ false
    → 30000 ≤ number → ((m : ℕ) → 30000 ≤ m → m < number → is_taken rules m ≡ true) → number ≡ free_from rules (length rules) 30000
first_number rules numbers number holds free from before =
    one_first_free rules 30000 number (free_from rules (length rules) 30000) (record { from = from; free = sym (holds number) ∙ free; taken = before }) (first_free rules 30000)
