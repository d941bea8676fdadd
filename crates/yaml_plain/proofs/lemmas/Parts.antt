-- Parts of a text that were passed, and the spaces at its end.
use Rattle.std.proofs.Common.{◌≡◌, ◌≢◌, ◌∙◌, ◌+◌, ◌<◌, cond, eqb, false, take, get_or, length, sym, inl, inr, List, [], ◌∷◌, ◌++◌, ℕ, refl, ap}
use Rattle.std.proofs.lemmas.Bool.Decides.{eqb_tells}
use Rattle.std.proofs.lemmas.List.{take_more}
use Rattle.yaml_plain.specs.Bytes.{trim_end, push_unless_blank}

-- a part that was passed, in front of the first of two parts
abbrev pub behind : List ℕ → List ℕ × List ℕ → List ℕ × List ℕ
behind front p = (front ++ p.0, p.1)

-- a space at the end is trimmed
pub trim_end-space : (front : List ℕ) → trim_end (front ++ 32 ∷ []) ≡ trim_end front
trim_end-space [] = refl
trim_end-space (b ∷ bs) = ap (push_unless_blank b) (trim_end-space bs)

eqb-neq : (a b : ℕ) → a ≢ b → eqb a b ≡ false
eqb-neq a b ne = elim (eqb_tells a b) [ inl h ↦ absurd (ne h.1) | inr h ↦ h.0 ]

push_some : (c : ℕ) (cs : List ℕ) (b : ℕ) → push_unless_blank c (cs ++ b ∷ []) ≡ c ∷ (cs ++ b ∷ [])
push_some c [] b = refl
push_some c (d ∷ cs) b = refl

-- what doesn't end with a space stays
pub trim_end-other : (front : List ℕ) (b : ℕ) → b ≢ 32 → trim_end (front ++ b ∷ []) ≡ front ++ b ∷ []
trim_end-other [] b other = ap (λ t. cond t [] (b ∷ [])) (eqb-neq b 32 other)
trim_end-other (c ∷ cs) b other = ap (push_unless_blank c) (trim_end-other cs b other) ∙ push_some c cs b

-- one step of trimming, and its end
pub trim_step : (text : List ℕ) (k : ℕ) → k < length text → get_or text k 0 ≡ 32 → trim_end (take (k + 1) text) ≡ trim_end (take k text)
trim_step text k lt is = ap trim_end (take_more text k 0 lt) ∙ ap (λ b. trim_end (take k text ++ b ∷ [])) is ∙ trim_end-space (take k text)

pub trim_done : (text : List ℕ) (k : ℕ) → k < length text → get_or text k 0 ≢ 32 → trim_end (take (k + 1) text) ≡ take (k + 1) text
trim_done text k lt other = ap trim_end (take_more text k 0 lt) ∙ trim_end-other (take k text) (get_or text k 0) other ∙ sym (take_more text k 0 lt)
