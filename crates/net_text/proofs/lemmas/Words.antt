-- Words of settings: what is read is what is printed.
use Rattle.std.proofs.Common.{◌≡◌, ◌∙◌, ℕ, List, [], ◌∷◌, Bool, true, false, Option, Some, refl, sym, ap, subst}
use Rattle.std.specs.Prelude.{◌↔◌, if◌then◌else◌}
use Rattle.std.specs.Str.{bytes_eq}
use Rattle.std.proofs.lemmas.Slice.Eq.{bytes_eq-Decides}
use Rattle.net_model.specs.declared.options.BondMode.{BondMode}
use Rattle.net_model.specs.declared.options.BondMode.TheVariants.{BalanceRr, ActiveBackup, BalanceXor, Broadcast, Ieee8023ad, BalanceTlb, BalanceAlb}
use Rattle.net_model.specs.declared.options.HashPolicy.{HashPolicy}
use Rattle.net_model.specs.declared.options.HashPolicy.TheVariants.{Layer2, Layer23, Layer34, Encap23, Encap34, VlanSrcmac}
use Rattle.net_model.specs.declared.options.LacpRate.{LacpRate}
use Rattle.net_model.specs.declared.options.LacpRate.TheVariants.{Slow, Fast}
use Rattle.net_model.specs.declared.options.Proto.{Proto}
use Rattle.net_model.specs.declared.options.Proto.TheVariants.{Dot1q, Dot1ad}
use Rattle.net_text.specs.Line.{mode_word, rate_word, policy_word, proto_word, bool_word, family_word}
use Rattle.net_text.specs.Words.{with_words, word_in, modes, rates, policies, protocols, booleans, families}

same_value : {X : Type 0} (x y : X) → Some x ≡ Some y → x ≡ y
same_value x y e = cc

first_or_later : {X : Type 0} (word : X → List ℕ) (later : Option X) (t : List ℕ) (x y : X) → (later ≡ Some x → t ≡ word x)
    → (b : Bool) → bytes_eq t (word y) ≡ b → (if b then Some y else later) ≡ Some x → t ≡ word x
first_or_later word later t x y go true same e = (bytes_eq-Decides t (word y)).0 same ∙ ap word (same_value y x e)
first_or_later word later t x y go false other e = go e

-- a text that is read as a value is the value's word
pub word_in-word : {X : Type 0} (word : X → List ℕ) (xs : List X) (t : List ℕ) (x : X) → word_in (with_words word xs) t ≡ Some x → t ≡ word x
word_in-word word [] t x e = absurd cc
word_in-word word (y ∷ ys) t x e = first_or_later word (word_in (with_words word ys) t) t x y (word_in-word word ys t x) (bytes_eq t (word y)) refl e

-- where a value's word is read as the value, a text is read as it exactly where it is the word
pub word_in-exact : {X : Type 0} (word : X → List ℕ) (xs : List X) (t : List ℕ) (x : X) → word_in (with_words word xs) (word x) ≡ Some x
    → (word_in (with_words word xs) t ≡ Some x) ↔ (t ≡ word x)
word_in-exact word xs t x own = (word_in-word word xs t x, λ is. subst (λ s. word_in (with_words word xs) s ≡ Some x) (sym is) own)

read_mode : (x : BondMode) → word_in modes (mode_word x) ≡ Some x
read_mode BalanceRr = refl
read_mode ActiveBackup = refl
read_mode BalanceXor = refl
read_mode Broadcast = refl
read_mode Ieee8023ad = refl
read_mode BalanceTlb = refl
read_mode BalanceAlb = refl

-- a text is read as a bond's mode exactly where it is its word
pub modes_exact : (t : List ℕ) (x : BondMode) → (word_in modes t ≡ Some x) ↔ (t ≡ mode_word x)
modes_exact t x = word_in-exact mode_word (BalanceRr ∷ ActiveBackup ∷ BalanceXor ∷ Broadcast ∷ Ieee8023ad ∷ BalanceTlb ∷ BalanceAlb ∷ []) t x (read_mode x)

read_rate : (x : LacpRate) → word_in rates (rate_word x) ≡ Some x
read_rate Slow = refl
read_rate Fast = refl

-- a text is read as an LACP rate exactly where it is its word
pub rates_exact : (t : List ℕ) (x : LacpRate) → (word_in rates t ≡ Some x) ↔ (t ≡ rate_word x)
rates_exact t x = word_in-exact rate_word (Slow ∷ Fast ∷ []) t x (read_rate x)

read_policy : (x : HashPolicy) → word_in policies (policy_word x) ≡ Some x
read_policy Layer2 = refl
read_policy Layer23 = refl
read_policy Layer34 = refl
read_policy Encap23 = refl
read_policy Encap34 = refl
read_policy VlanSrcmac = refl

-- a text is read as a transmit hash policy exactly where it is its word
pub policies_exact : (t : List ℕ) (x : HashPolicy) → (word_in policies t ≡ Some x) ↔ (t ≡ policy_word x)
policies_exact t x = word_in-exact policy_word (Layer2 ∷ Layer23 ∷ Layer34 ∷ Encap23 ∷ Encap34 ∷ VlanSrcmac ∷ []) t x (read_policy x)

read_proto : (x : Proto) → word_in protocols (proto_word x) ≡ Some x
read_proto Dot1q = refl
read_proto Dot1ad = refl

-- a text is read as a VLAN protocol exactly where it is its word
pub protocols_exact : (t : List ℕ) (x : Proto) → (word_in protocols t ≡ Some x) ↔ (t ≡ proto_word x)
protocols_exact t x = word_in-exact proto_word (Dot1q ∷ Dot1ad ∷ []) t x (read_proto x)

read_bool : (x : Bool) → word_in booleans (bool_word x) ≡ Some x
read_bool true = refl
read_bool false = refl

-- a text is read as a boolean exactly where it is its word
pub booleans_exact : (t : List ℕ) (x : Bool) → (word_in booleans t ≡ Some x) ↔ (t ≡ bool_word x)
booleans_exact t x = word_in-exact bool_word (true ∷ false ∷ []) t x (read_bool x)

read_family : (x : Bool) → word_in families (family_word x) ≡ Some x
read_family true = refl
read_family false = refl

-- a text is read as a family exactly where it is its word
pub families_exact : (t : List ℕ) (x : Bool) → (word_in families t ≡ Some x) ↔ (t ≡ family_word x)
families_exact t x = word_in-exact family_word (false ∷ true ∷ []) t x (read_family x)
