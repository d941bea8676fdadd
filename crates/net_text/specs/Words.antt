-- What words of settings are read as: each value by the word that is printed for it, and nothing else.
use Rattle.std.specs.Prelude.{ℕ, List, [], ◌∷◌, Bool, true, false, Option, Some, None, if◌then◌else◌}
use Rattle.std.specs.Str.{bytes_eq}
use Rattle.net_model.specs.declared.options.BondMode.{BondMode}
use Rattle.net_model.specs.declared.options.BondMode.TheVariants.{BalanceRr, ActiveBackup, BalanceXor, Broadcast, Ieee8023ad, BalanceTlb, BalanceAlb}
use Rattle.net_model.specs.declared.options.HashPolicy.{HashPolicy}
use Rattle.net_model.specs.declared.options.HashPolicy.TheVariants.{Layer2, Layer23, Layer34, Encap23, Encap34, VlanSrcmac}
use Rattle.net_model.specs.declared.options.LacpRate.{LacpRate}
use Rattle.net_model.specs.declared.options.LacpRate.TheVariants.{Slow, Fast}
use Rattle.net_model.specs.declared.options.Proto.{Proto}
use Rattle.net_model.specs.declared.options.Proto.TheVariants.{Dot1q, Dot1ad}
use Rattle.net_model.specs.declared.rule.Target.{Target}
use Rattle.net_model.specs.declared.rule.Target.TheVariants.{Blackhole, Unreachable, Prohibit}
use Rattle.net_text.specs.Line.{mode_word, rate_word, policy_word, proto_word, bool_word, family_word, target_word}

-- values, each behind its word
abbrev pub with_words : {X : Type 0} → (X → List ℕ) → List X → List (List ℕ × X)
with_words word [] = []
with_words word (x ∷ xs) = (word x, x) ∷ with_words word xs

-- the value behind the first word that the text is
abbrev pub word_in : {X : Type 0} → List (List ℕ × X) → List ℕ → Option X
word_in [] t = None
word_in ((word, x) ∷ words) t = if bytes_eq t word then Some x else word_in words t

abbrev pub modes : List (List ℕ × BondMode)
modes = with_words mode_word (BalanceRr ∷ ActiveBackup ∷ BalanceXor ∷ Broadcast ∷ Ieee8023ad ∷ BalanceTlb ∷ BalanceAlb ∷ [])

abbrev pub rates : List (List ℕ × LacpRate)
rates = with_words rate_word (Slow ∷ Fast ∷ [])

abbrev pub policies : List (List ℕ × HashPolicy)
policies = with_words policy_word (Layer2 ∷ Layer23 ∷ Layer34 ∷ Encap23 ∷ Encap34 ∷ VlanSrcmac ∷ [])

abbrev pub protocols : List (List ℕ × Proto)
protocols = with_words proto_word (Dot1q ∷ Dot1ad ∷ [])

abbrev pub booleans : List (List ℕ × Bool)
booleans = with_words bool_word (true ∷ false ∷ [])

-- the families, as whether it is IPv6
abbrev pub families : List (List ℕ × Bool)
families = with_words family_word (false ∷ true ∷ [])

-- what a rule does where it looks into no table
abbrev pub actions : List (List ℕ × Target)
actions = with_words target_word (Blackhole ∷ Unreachable ∷ Prohibit ∷ [])
