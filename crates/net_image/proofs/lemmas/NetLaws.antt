-- The forms of rules and of whole networks are exact.
use Rattle.std.proofs.Common.{◌≡◌, ℕ, Bool, true, false, ◌&&◌, cond, eqb, List, [], ◌∷◌, Some, None, refl, ap}
use Rattle.std.proofs.lemmas.Bool.{and_parts, eqb-true}
use Rattle.net_model.specs.Name.{same_bytes}
use Rattle.net_model.specs.Order.{target_rank}
use Rattle.net_model.specs.declared.rule.Target.{Target}
use Rattle.net_model.specs.declared.rule.Target.TheVariants.{Table, Blackhole, Unreachable, Prohibit}
use Rattle.net_model.specs.NetData.{is_net}
use Rattle.net_image.specs.Form.{◌⨾◌, byte, run, nothing, never, such_that, counted, number}
use Rattle.net_image.specs.Fields.{maybe_name, domain, table, family, address_form, maybe_subnet}
use Rattle.net_image.specs.Links.{link}
use Rattle.net_image.specs.Image.{route, table_held, action, target_behind, target, is_of_family, rule, dns, is_few, settings, mark, lists, network, version_1, version_2, fits_first, first_network}
use Rattle.net_image.specs.Laws.{IsExact}
use Rattle.net_image.proofs.lemmas.Exact.{byte_exact, run_exact, nothing_exact, never_exact, such_that_exact, made_exact, variant_exact, seq_exact, tagged_exact, counted_exact}
use Rattle.net_image.proofs.lemmas.Numbers.{number_exact}
use Rattle.net_image.proofs.lemmas.FieldLaws.{if_exact, variant_told, family_exact, maybe_name_exact, domain_exact, table_exact, address_exact, maybe_subnet_exact}
use Rattle.net_image.proofs.lemmas.LinkLaws.{link_exact}
use Rattle.net_image.proofs.lemmas.RouteLaws.{route_exact}

table_there : (t : Target) (n : ℕ) → table_held t ≡ Some n → Table n ≡ t
table_there (Table m) n is = ap Table cc
table_there Blackhole n is = absurd cc
table_there Unreachable n is = absurd cc
table_there Prohibit n is = absurd cc

taken : (b : Bool) (u : Unit {0}) → cond b (Some tt) None ≡ Some u → b ≡ true
taken true u held = refl
taken false u held = absurd cc

action_there : (n : ℕ) (word : Target) → ((t : Target) → target_rank t ≡ n → word ≡ t) → (t : Target) (u : Unit {0}) → cond (eqb (target_rank t) n) (Some tt) None ≡ Some u → word ≡ t
action_there n word only t u held = only t (eqb-true _ _ (taken (eqb (target_rank t) n) u held))

action_exact : (n : ℕ) (word : Target) → eqb (target_rank word) n ≡ true → ((t : Target) → target_rank t ≡ n → word ≡ t) → IsExact (action n word)
action_exact n word is only = variant_exact (λ u. word) (λ t. cond (eqb (target_rank t) n) (Some tt) None) nothing nothing_exact (action_there n word only) (λ u fits. rw is refl)

blackhole_is : (t : Target) → target_rank t ≡ 1 → Blackhole ≡ t
blackhole_is (Table m) is = absurd cc
blackhole_is Blackhole is = refl
blackhole_is Unreachable is = absurd cc
blackhole_is Prohibit is = absurd cc

unreachable_is : (t : Target) → target_rank t ≡ 2 → Unreachable ≡ t
unreachable_is (Table m) is = absurd cc
unreachable_is Blackhole is = absurd cc
unreachable_is Unreachable is = refl
unreachable_is Prohibit is = absurd cc

prohibit_is : (t : Target) → target_rank t ≡ 3 → Prohibit ≡ t
prohibit_is (Table m) is = absurd cc
prohibit_is Blackhole is = absurd cc
prohibit_is Unreachable is = absurd cc
prohibit_is Prohibit is = refl

target_behind_exact : (n : ℕ) → IsExact (target_behind n)
target_behind_exact n =
    if_exact (eqb n 0) _ _ (variant_exact Table table_held table table_exact table_there (λ t fits. refl))
    (if_exact (eqb n 1) _ _ (action_exact 1 Blackhole refl blackhole_is)
    (if_exact (eqb n 2) _ _ (action_exact 2 Unreachable refl unreachable_is)
    (if_exact (eqb n 3) _ _ (action_exact 3 Prohibit refl prohibit_is) never_exact)))

target_told : (n : ℕ) (t : Target) → (target_behind n).fits t ≡ true → target_rank t ≡ n
target_told n t fits =
    variant_told n 0 target_rank Table table_held table _ t table_there (λ m. refl) fits
    (λ o. variant_told n 1 target_rank (λ u. Blackhole) _ nothing _ t (action_there 1 Blackhole blackhole_is) (λ u. refl) o
    (λ o. variant_told n 2 target_rank (λ u. Unreachable) _ nothing _ t (action_there 2 Unreachable unreachable_is) (λ u. refl) o
    (λ o. variant_told n 3 target_rank (λ u. Prohibit) _ nothing never t (action_there 3 Prohibit prohibit_is) (λ u. refl) o (λ h. absurd cc))))

pub target_exact : IsExact target
unfolding target
target_exact = tagged_exact target_rank byte target_behind byte_exact target_behind_exact target_told

-- the form of a rule is exact
pub rule_exact : IsExact rule
unfolding rule
rule_exact = such_that_exact is_of_family _ (made_exact _ _ (number 4 ⨾ family ⨾ maybe_subnet ⨾ maybe_subnet ⨾ maybe_name ⨾ number 4 ⨾ number 4 ⨾ target)
    (seq_exact (number 4) _ (number_exact 4) (seq_exact family _ family_exact (seq_exact maybe_subnet _ maybe_subnet_exact (seq_exact maybe_subnet _ maybe_subnet_exact
    (seq_exact maybe_name _ maybe_name_exact (seq_exact (number 4) _ (number_exact 4) (seq_exact (number 4) target (number_exact 4) target_exact)))))))
    (λ r fits. refl) (λ p fits. refl))

pub dns_exact : IsExact dns
unfolding dns
dns_exact = made_exact _ _ (counted byte address_form ⨾ counted byte domain) (seq_exact (counted byte address_form) (counted byte domain) (counted_exact byte address_form byte_exact address_exact) (counted_exact byte domain byte_exact domain_exact))
    (λ d fits. refl) (λ p fits. refl)

bytes_are : (a b : List ℕ) → same_bytes a b ≡ true → a ≡ b
bytes_are [] [] is = refl
bytes_are [] (y ∷ b) is = absurd cc
bytes_are (x ∷ a) [] is = absurd cc
bytes_are (x ∷ a) (y ∷ b) is = let p = and_parts (eqb x y) (same_bytes a b) is in let first = eqb-true x y p.0 in let rest = bytes_are a b p.1 in cc

pub mark_exact : (bytes : List ℕ) → IsExact (mark bytes)
mark_exact bytes = made_exact (λ found. tt) (λ u. bytes) (such_that (same_bytes bytes) (run 4)) (such_that_exact (same_bytes bytes) (run 4) (run_exact 4)) (λ u fits. refl) (λ found fits. bytes_are bytes found (and_parts _ _ fits).0)

pub lists_exact : (version : List ℕ) → IsExact (lists version)
unfolding lists
lists_exact version = made_exact _ _ (mark version ⨾ counted (number 2) link ⨾ counted (number 2) route ⨾ counted (number 2) rule ⨾ dns)
    (seq_exact (mark version) _ (mark_exact version) (seq_exact (counted (number 2) link) _ (counted_exact (number 2) link (number_exact 2) link_exact)
    (seq_exact (counted (number 2) route) _ (counted_exact (number 2) route (number_exact 2) route_exact) (seq_exact (counted (number 2) rule) dns (counted_exact (number 2) rule (number_exact 2) rule_exact) dns_exact))))
    (λ n fits. refl) (λ p fits. refl)

-- version 2 is exact
pub network_exact : IsExact network
unfolding network
network_exact = such_that_exact is_net (lists version_2) (lists_exact version_2)

-- version 1 is exact
pub first_exact : IsExact first_network
unfolding first_network
first_exact = such_that_exact (λ net. is_net net && fits_first net) (lists version_1) (lists_exact version_1)

-- the form of settings of DNS is exact
pub settings_exact : IsExact settings
unfolding settings
settings_exact = such_that_exact is_few dns dns_exact
