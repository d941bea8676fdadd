-- Options of a bond that are one by the test are one.
use Rattle.std.proofs.Common.{◌≡◌, ℕ, Bool, true, false, not, ◌&&◌, ◌==◌, List, Option, Some, None, refl, ap, ◌∙◌}
use Rattle.std.specs.Bool.{OnFalse}
use Rattle.std.specs.Option.{option_eq}
use Rattle.std.proofs.lemmas.Bool.{eqb-true}
use denote.Enum.Bare.{sameb, same_true}
use Rattle.net_model.specs.Name.{same_bytes}
use Rattle.net_model.specs.declared.options.BondOpts.{BondOpts}
use Rattle.net_model.specs.declared.options.LacpRate.{LacpRate}
use Rattle.net_model.specs.declared.options.HashPolicy.{HashPolicy}
use Rattle.net_model.specs.contracts.options.LacpRate.{the_type as the_rates}
use Rattle.net_model.specs.contracts.options.HashPolicy.{the_type as the_policies}
use Rattle.net_model.proofs.lemmas.Truth.{and_left, and_right}
use Rattle.net_model.proofs.lemmas.Found.{one_name}

abbrev bond : Option (List ℕ) → LacpRate → HashPolicy → ℕ → ℕ → ℕ → BondOpts
bond p r h m u d = record { primary = p; lacp_rate = r; hash_policy = h; miimon = m; updelay = u; downdelay = d }

abbrev same_delays : BondOpts → BondOpts → Bool
same_delays x y = (x.updelay == y.updelay) && (x.downdelay == y.downdelay)

abbrev same_times : BondOpts → BondOpts → Bool
same_times x y = (x.miimon == y.miimon) && same_delays x y

abbrev same_rest : BondOpts → BondOpts → Bool
same_rest x y = sameb the_policies x.hash_policy y.hash_policy && same_times x y

abbrev same_choices : BondOpts → BondOpts → Bool
same_choices x y = sameb the_rates x.lacp_rate y.lacp_rate && same_rest x y

-- the test, part by part
abbrev pub same_bond : BondOpts → BondOpts → Bool
same_bond x y = option_eq same_bytes x.primary y.primary && same_choices x y

one_primary : (p q : Option (List ℕ)) → option_eq same_bytes p q ≡ true → p ≡ q
one_primary None None h = refl
one_primary (Some a) (Some b) h = ap (λ n. let o : Option (List ℕ) = Some n in o) (one_name a b h)
one_primary None (Some b) h = absurd cc
one_primary (Some a) None h = absurd cc

one_bond : (x y : BondOpts) → same_bond x y ≡ true → x ≡ y
one_bond x y h =
    let choices : same_choices x y ≡ true = and_right (option_eq same_bytes x.primary y.primary) (same_choices x y) h in
    let rest : same_rest x y ≡ true = and_right (sameb the_rates x.lacp_rate y.lacp_rate) (same_rest x y) choices in
    let times : same_times x y ≡ true = and_right (sameb the_policies x.hash_policy y.hash_policy) (same_times x y) rest in
    let delays : same_delays x y ≡ true = and_right (x.miimon == y.miimon) (same_delays x y) times in
    ap (λ v. bond v x.lacp_rate x.hash_policy x.miimon x.updelay x.downdelay) (one_primary x.primary y.primary (and_left (option_eq same_bytes x.primary y.primary) (same_choices x y) h))
    ∙ ap (λ v. bond y.primary v x.hash_policy x.miimon x.updelay x.downdelay) (same_true the_rates tt x.lacp_rate y.lacp_rate (and_left (sameb the_rates x.lacp_rate y.lacp_rate) (same_rest x y) choices))
    ∙ ap (λ v. bond y.primary y.lacp_rate v x.miimon x.updelay x.downdelay) (same_true the_policies tt x.hash_policy y.hash_policy (and_left (sameb the_policies x.hash_policy y.hash_policy) (same_times x y) rest))
    ∙ ap (λ v. bond y.primary y.lacp_rate y.hash_policy v x.updelay x.downdelay) (eqb-true x.miimon y.miimon (and_left (x.miimon == y.miimon) (same_delays x y) times))
    ∙ ap (λ v. bond y.primary y.lacp_rate y.hash_policy y.miimon v x.downdelay) (eqb-true x.updelay y.updelay (and_left (x.updelay == y.updelay) (x.downdelay == y.downdelay) delays))
    ∙ ap (λ v. bond y.primary y.lacp_rate y.hash_policy y.miimon y.updelay v) (eqb-true x.downdelay y.downdelay (and_right (x.updelay == y.updelay) (x.downdelay == y.downdelay) delays))

-- options that don't differ by the test are one
pub same_bonds : (x y : BondOpts) (differ : Bool) → differ ≡ not (same_bond x y) → OnFalse differ (x ≡ y)
same_bonds x y true h = tt
same_bonds x y false h = one_bond x y (is_true (same_bond x y) h)
  where
    is_true : (b : Bool) → false ≡ not b → b ≡ true
    is_true true e = refl
    is_true false e = e
