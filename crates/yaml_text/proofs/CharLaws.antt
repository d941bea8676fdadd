-- Printing byte by byte is printing character by character.
use Rattle.std.proofs.Common.{◌≡◌, ◌∙◌, ◌++◌, ◌∷◌, ◌+◌, ◌/◌, ◌<◌, ◌≤◌, ℕ, List, [], Bool, true, false, cond, ltb, refl, sym, ap, ap₂, arith, append_assoc, flat_map, Result, Ok, Err}
use Rattle.std.proofs.lemmas.Bool.{ltb-true}
use Rattle.std.proofs.lemmas.Grind.{flat_map-append}
use Rattle.std.proofs.lemmas.List.{append-nil}
use Rattle.std.proofs.lemmas.Str.{encode_ascii, encodes-chars}
use Rattle.std.proofs.lemmas.Bool.{ne_eqb}
use Rattle.std.proofs.lemmas.Bool.Decides.{nat_tests}
use Rattle.std.specs.Result.{OnOk, is_ok}
use Rattle.std.specs.Str.{IsUtf8, chars}
use lib.Utf8.{encode, encodes, next}
use Rattle.yaml_text.specs.Scalars.{is_control, escaped, doubled}
use Rattle.yaml_text.specs.Spelled.{spelled}

module _ (f : ℕ → List ℕ) (keeps : (b : ℕ) → 128 ≤ b → f b ≡ b ∷ []) where
  kept : (b : ℕ) (bs : List ℕ) → 128 ≤ b → flat_map f bs ≡ bs → flat_map f (b ∷ bs) ≡ b ∷ bs
  kept b bs high rest = ap₂ (λ (xs ys : List ℕ). xs ++ ys) (keeps b high) rest

  by_size : (x y : Bool) (c : ℕ)
      → flat_map f (cond x ((192 + c / 64) ∷ next c ∷ []) (cond y ((224 + c / 4096) ∷ next (c / 64) ∷ next c ∷ []) ((240 + c / 262144) ∷ next (c / 4096) ∷ next (c / 64) ∷ next c ∷ [])))
      ≡ cond x ((192 + c / 64) ∷ next c ∷ []) (cond y ((224 + c / 4096) ∷ next (c / 64) ∷ next c ∷ []) ((240 + c / 262144) ∷ next (c / 4096) ∷ next (c / 64) ∷ next c ∷ []))
  by_size true y c = kept _ _ (omega arith) (kept _ _ (omega arith) refl)
  by_size false true c = kept _ _ (omega arith) (kept _ _ (omega arith) (kept _ _ (omega arith) refl))
  by_size false false c = kept _ _ (omega arith) (kept _ _ (omega arith) (kept _ _ (omega arith) (kept _ _ (omega arith) refl)))

  by_char : (t : Bool) (c : ℕ) → ltb c 128 ≡ t → flat_map f (encode c) ≡ cond t (f c) (encode c)
  unfolding encode
  by_char true c is = ap (flat_map f) (encode_ascii c (ltb-true c 128 is)) ∙ append-nil (f c)
  by_char false c is = rw is (by_size (ltb c 2048) (ltb c 65536) c)

  all : (cs : List ℕ) → flat_map f (encodes cs) ≡ flat_map (spelled f) cs
  all [] = refl
  all (c ∷ cs) = flat_map-append f (encode c) (encodes cs) ∙ ap₂ (λ (xs ys : List ℕ). xs ++ ys) (by_char (ltb c 128) c refl) (all cs)

  pub spelled_text : (bs : List ℕ) → IsUtf8 bs → flat_map (spelled f) (chars bs) ≡ flat_map f bs
  spelled_text bs utf8 = sym (all (chars bs)) ∙ ap (flat_map f) (encodes-chars bs utf8)

-- what a quoted text is, from its pieces
pub puts_quoted : (f : ℕ → List ℕ) (keeps : (b : ℕ) → 128 ≤ b → f b ≡ b ∷ []) (b : ℕ) (text out one two : List ℕ) → b < 128 → IsUtf8 text
    → one ≡ out ++ encode b → two ≡ one ++ flat_map (spelled f) (chars text) → two ++ encode b ≡ out ++ (b ∷ (flat_map f text ++ (b ∷ [])))
puts_quoted f keeps b text out one two low utf8 first second = rw (second, first, encode_ascii b low, spelled_text f keeps text utf8) (simp append_assoc)

no_control : (b : ℕ) → 128 ≤ b → is_control b ≡ false
no_control b high = rw (lt-ltb_not b 32 (omega arith), ne_eqb b 127 (λ e. absurd (omega arith))) refl where
  lt-ltb_not : (m n : ℕ) → n ≤ m → ltb m n ≡ false
  lt-ltb_not m n le = grind (arith, nat_tests)

pub escaped_keeps : (b : ℕ) → 128 ≤ b → escaped b ≡ b ∷ []
escaped_keeps b high = rw (no_control b high, ne_eqb b 34 (λ e. absurd (omega arith)), ne_eqb b 92 (λ e. absurd (omega arith))) refl

pub doubled_keeps : (b : ℕ) → 128 ≤ b → doubled b ≡ b ∷ []
doubled_keeps b high = rw (ne_eqb b 39 (λ e. absurd (omega arith))) refl

-- a last byte that is pushed
pub pushed : {T E : Type 0} (r : Result T E) (new old more whole : List ℕ) → new ≡ cond (is_ok r) (old ++ more) old → old ++ more ≡ whole → OnOk r (new ≡ whole)
pushed (Ok x) new old more whole is same = is ∙ same
pushed (Err e) new old more whole is same = tt
