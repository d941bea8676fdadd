-- Texts that are passed as a whole where a longer text is cut into parts.
use Rattle.std.proofs.Common.{◌≡◌, ◌∙◌, ℕ, Bool, true, false, not, ◌&&◌, cond, eqb, ◌==◌, List, [], ◌∷◌, ◌++◌, refl, sym, ap, append_assoc, append-nil}
use Rattle.std.specs.List.{list_all, list_any}
use Rattle.std.proofs.lemmas.Bool.{eq-eqb, and_parts, and_left, and_right, or_parts}
use Rattle.yaml_plain.specs.Bytes.{quote}
use Rattle.policy_model.specs.Keys.{Text}
use Rattle.policy_model.specs.Reading.{flips, onto_first, between}
use Rattle.policy_grammar.proofs.Bytes.{apart}

-- a text at the front of the first part
abbrev pub onto : Text → List Text → List Text
onto [] ps = ps
onto (b ∷ bs) ps = onto_first b (onto bs ps)

onto_part : (t : Text) (ps : List Text) → onto t ([] ∷ ps) ≡ t ∷ ps
onto_part [] ps = refl
onto_part (b ∷ bs) ps = ap (onto_first b) (onto_part bs ps)

onto_append : (x y : Text) (ps : List Text) → onto (x ++ y) ps ≡ onto x (onto y ps)
onto_append [] y ps = refl
onto_append (b ∷ bs) y ps = ap (onto_first b) (onto_append bs y ps)

-- the text holds no sign that parts; it begins and ends inside quotes, or not
abbrev pub Runs : ℕ → Bool → Text → Bool → Type 0
Runs sign q t r = (rest : Text) → between sign q (t ++ rest) ≡ onto t (between sign r rest)

pub runs_byte : (sign b : ℕ) (q r s : Bool) (bs : Text) → (eqb b sign && not q) ≡ false → flips b q ≡ r → Runs sign r bs s → Runs sign q (b ∷ bs) s
runs_byte sign b q r s bs uncut flip h = λ rest.
    ap (λ (v : Bool). cond v ([] ∷ between sign false (bs ++ rest)) (onto_first b (between sign (flips b q) (bs ++ rest)))) uncut
    ∙ ap (λ (v : Bool). onto_first b (between sign v (bs ++ rest))) flip
    ∙ ap (onto_first b) (h rest)

-- one after another
pub runs_append : (sign : ℕ) (q r s : Bool) (x y : Text) → Runs sign q x r → Runs sign r y s → Runs sign q (x ++ y) s
runs_append sign q r s x y h g = λ rest.
    ap (between sign q) (append_assoc x y rest) ∙ h (y ++ rest) ∙ ap (onto x) (g rest) ∙ sym (onto_append x y (between sign s rest))

-- bytes of a kind that neither part nor quote
pub runs_plain : (test : ℕ → Bool) (sign : ℕ) → test sign ≡ false → test quote ≡ false → (t : Text) → list_all test t ≡ true → Runs sign false t false
runs_plain test sign no_sign no_quote [] all = λ rest. refl
runs_plain test sign no_sign no_quote (b ∷ bs) all =
    let both = and_parts (test b) (list_all test bs) all in
    runs_byte sign b false false false bs (and_left (eqb b sign) true (apart test b sign both.0 no_sign)) (ap (λ (v : Bool). cond v true false) (apart test b quote both.0 no_quote))
    (runs_plain test sign no_sign no_quote bs both.1)

runs_inside : (sign : ℕ) (s : Text) → list_any (λ b. b == quote) s ≡ false → Runs sign true s true
runs_inside sign [] none = λ rest. refl
runs_inside sign (b ∷ bs) none =
    let both = or_parts (eqb b quote) (list_any (λ c. c == quote) bs) none in
    runs_byte sign b true true true bs (and_right (eqb b sign) false refl) (ap (λ (v : Bool). cond v false true) both.0) (runs_inside sign bs both.1)

-- a string in quotes
pub runs_string : (sign : ℕ) (s : Text) → eqb quote sign ≡ false → list_any (λ b. b == quote) s ≡ false → Runs sign false (quote ∷ s ++ quote ∷ []) false
runs_string sign s other none =
    runs_byte sign quote false true false (s ++ quote ∷ []) (and_left (eqb quote sign) true other) refl
    (runs_append sign true true false s (quote ∷ []) (runs_inside sign s none) (runs_byte sign quote true false false [] (and_right (eqb quote sign) false refl) refl (λ rest. refl)))

-- the last part is passed as a whole ..
pub part_ends : (sign : ℕ) (t : Text) → Runs sign false t false → between sign false t ≡ t ∷ []
part_ends sign t h = ap (between sign false) (sym (append-nil t)) ∙ h [] ∙ onto_part t []

cut_here : (sign : ℕ) (rest : Text) → between sign false (sign ∷ rest) ≡ [] ∷ between sign false rest
cut_here sign rest = ap (λ (v : Bool). cond (v && true) ([] ∷ between sign false rest) (onto_first sign (between sign (flips sign false) rest))) (eq-eqb sign sign refl)

-- .. and so is one up to a sign
pub part_cut : (sign : ℕ) (t rest : Text) → Runs sign false t false → between sign false (t ++ sign ∷ rest) ≡ t ∷ between sign false rest
part_cut sign t rest h = h (sign ∷ rest) ∙ ap (onto t) (cut_here sign rest) ∙ onto_part t (between sign false rest)
