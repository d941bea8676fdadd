-- Spaces before and behind a text.
use Rattle.std.proofs.Common.{◌≡◌, ◌∙◌, ℕ, zero, suc, Bool, true, false, not, cond, eqb, ◌==◌, [], ◌∷◌, ◌++◌, replicate, refl, sym, ap, append_assoc}
use Rattle.std.proofs.lemmas.Bool.{eqb-true, not-true, true≢false}
use Rattle.yaml_plain.specs.Bytes.{space, is_empty, begins, skip_spaces, trim_end, push_unless_blank}
use Rattle.policy_model.specs.Keys.{Text}
use Rattle.policy_model.specs.Grammar.{IsSpaced}
use Rattle.policy_model.specs.Reading.{trimmed}

-- ---- what is skipped and trimmed are spaces

-- spaces and a rest
abbrev pub Skips : Text → Text → Type 0
Skips t rest = (n : ℕ) × (t ≡ replicate n space ++ rest)

skipped_at : (b : ℕ) (bs : Text) (v : Bool) → eqb b space ≡ v → Skips bs (skip_spaces bs) → Skips (b ∷ bs) (cond v (skip_spaces bs) (b ∷ bs))
skipped_at b bs true is s = (suc s.0, λ k. eqb-true b space is k ∷ s.1 k)
skipped_at b bs false is s = (zero, refl)

-- a text is spaces and what is left where they are skipped
pub skipped : (t : Text) → Skips t (skip_spaces t)
skipped [] = (zero, refl)
skipped (b ∷ bs) = skipped_at b bs (eqb b space) refl (skipped bs)

-- a front and spaces
abbrev Trims : Text → Text → Type 0
Trims t front = (n : ℕ) × (t ≡ front ++ replicate n space)

blank : (b : ℕ) (bs : Text) (v : Bool) → eqb b space ≡ v → Trims bs [] → Trims (b ∷ bs) (cond v [] (b ∷ []))
blank b bs true is s = (suc s.0, λ k. eqb-true b space is k ∷ s.1 k)
blank b bs false is s = (s.0, ap (λ (x : Text). b ∷ x) s.1)

pushed : (b : ℕ) (bs front : Text) → Trims bs front → Trims (b ∷ bs) (push_unless_blank b front)
pushed b bs [] s = blank b bs (eqb b space) refl s
pushed b bs (c ∷ cs) s = (s.0, ap (λ (x : Text). b ∷ x) s.1)

-- a text is what is left where its end is trimmed, and spaces
trimmed_end : (t : Text) → Trims t (trim_end t)
trimmed_end [] = (zero, refl)
trimmed_end (b ∷ bs) = pushed b bs (trim_end bs) (trimmed_end bs)

-- a text is the trimmed one with spaces before and behind it
pub trimmed_spaced : (t : Text) → IsSpaced t (trimmed t)
trimmed_spaced t =
    let front = skipped t in
    let back = trimmed_end (skip_spaces t) in
    (front.0, back.0, front.1 ∙ ap (λ (x : Text). replicate front.0 space ++ x) back.1 ∙ sym (append_assoc (replicate front.0 space) (trim_end (skip_spaces t)) (replicate back.0 space)))

-- ---- spaces are skipped and trimmed

pub skip_run : (n : ℕ) (t : Text) → skip_spaces (replicate n space ++ t) ≡ skip_spaces t
skip_run zero t = refl
skip_run (suc n) t = skip_run n t

-- what begins with no space stays
pub skip_stays : (t : Text) → begins space t ≡ false → skip_spaces t ≡ t
skip_stays [] is = refl
skip_stays (b ∷ bs) is = ap (λ (v : Bool). cond v (skip_spaces bs) (b ∷ bs)) is

trim_spaces : (n : ℕ) → trim_end (replicate n space) ≡ []
trim_spaces zero = refl
trim_spaces (suc n) = ap (push_unless_blank space) (trim_spaces n)

trim_run : (t : Text) (n : ℕ) → trim_end (t ++ replicate n space) ≡ trim_end t
trim_run [] n = trim_spaces n
trim_run (b ∷ bs) n = ap (push_unless_blank b) (trim_run bs n)

-- a text doesn't end with a space
abbrev pub ends_bare : Text → Bool
ends_bare [] = true
ends_bare (b ∷ []) = not (b == space)
ends_bare (b ∷ c ∷ cs) = ends_bare (c ∷ cs)

trim_stays : (t : Text) → ends_bare t ≡ true → trim_end t ≡ t
trim_stays [] is = refl
trim_stays (b ∷ []) is = ap (λ (v : Bool). cond v [] (b ∷ [])) (not-true (eqb b space) is)
trim_stays (b ∷ c ∷ cs) is = ap (push_unless_blank b) (trim_stays (c ∷ cs) is)

-- a text that has an end, which is no space
abbrev pub EndsBare : Text → Type 0
EndsBare t = (is_empty t ≡ false) × (ends_bare t ≡ true)

-- nor does it begin with one
abbrev pub IsBare : Text → Type 0
IsBare t = (begins space t ≡ false) × EndsBare t

-- the end of two texts is that of the second
pub ends_behind : (x : Text) (c : ℕ) (cs : Text) → ends_bare (x ++ c ∷ cs) ≡ ends_bare (c ∷ cs)
ends_behind [] c cs = refl
ends_behind (b ∷ []) c cs = refl
ends_behind (b ∷ d ∷ ds) c cs = ends_behind (d ∷ ds) c cs

pub ends_with : (x y : Text) → EndsBare y → EndsBare (x ++ y)
ends_with x [] h = absurd (true≢false h.0)
ends_with [] (c ∷ cs) h = h
ends_with (b ∷ bs) (c ∷ cs) h = (refl, ends_behind (b ∷ bs) c cs ∙ h.1)

-- their beginning is that of the first
pub begins_append : (x y : Text) → is_empty x ≡ false → begins space (x ++ y) ≡ begins space x
begins_append [] y filled = absurd (true≢false filled)
begins_append (b ∷ bs) y filled = refl

-- what stands between spaces is left where they are trimmed
pub trimmed_inner : (a z : ℕ) (inner : Text) → IsBare inner → trimmed (replicate a space ++ inner ++ replicate z space) ≡ inner
trimmed_inner a z inner h =
    ap (λ (x : Text). trim_end (skip_spaces x)) (append_assoc (replicate a space) inner (replicate z space))
    ∙ ap trim_end (skip_run a (inner ++ replicate z space) ∙ skip_stays (inner ++ replicate z space) (begins_append inner (replicate z space) h.1.0 ∙ h.0))
    ∙ trim_run inner z
    ∙ trim_stays inner h.1.1
