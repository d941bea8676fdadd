-- A set of keys that grows with the keys.
use Rattle.std.proofs.Common.{◌≡◌, ◌∙◌, ℕ, Bool, true, false, cond, List, [], ◌∷◌, ◌++◌, refl, sym, ap}
use Rattle.std.specs.Prelude.{◌||◌}
use Rattle.std.specs.Str.{bytes_eq}
use Rattle.yaml_plain.specs.Bytes.{is_same}
use Rattle.yaml_read.specs.Keys.{is_among}
use Rattle.yaml_read.proofs.Kept.{same_bytes}

or_move : (a b c : Bool) → (a || (b || c)) ≡ ((a || b) || c)
or_move true b c = refl
or_move false b c = refl

pub among_push : (q k : List ℕ) (keys : List (List ℕ)) → is_among q (keys ++ k ∷ []) ≡ (is_among q keys || is_same q k)
among_push q k [] = lone (is_same q k) where
  lone : (b : Bool) → (b || false) ≡ (false || b)
  lone true = refl
  lone false = refl
among_push q k (l ∷ keys) = ap (λ b. is_same q l || b) (among_push q k keys) ∙ or_move (is_same q l) (is_among q keys) (is_same q k)

either : (a b : Bool) → cond a true b ≡ (b || a)
either true true = refl
either true false = refl
either false true = refl
either false false = refl

-- whether the set has a key, once another was put into it
pub put_key : (q k : List ℕ) (keys : List (List ℕ)) (at had : Bool) → at ≡ bytes_eq k q → had ≡ is_among q keys → cond at true had ≡ is_among q (keys ++ k ∷ [])
put_key q k keys at had is was =
    either at had ∙ (ap (λ b. b || at) was ∙ (ap (λ b. is_among q keys || b) (is ∙ same_bytes k q) ∙ sym (among_push q k keys)))
