-- Bytes that begin with what stood before.
use Rattle.std.proofs.Common.{◌≡◌, ◌++◌, ◌∷◌, [], ℕ, List, length, take, refl, ap₂}
use Rattle.std.specs.Prelude.{Result, Ok, Err, OnErr}

-- what begins with a text and more begins with the text
pub begun : (old more new : List ℕ) → take (length (old ++ more)) new ≡ old ++ more → take (length old) new ≡ old
begun [] more new h = refl
begun (x ∷ old) more [] h = absurd (cc)
begun (x ∷ old) more (y ∷ new) h =
    let tail : take (length (old ++ more)) new ≡ old ++ more = cc in
    let head : y ≡ x = cc in
    ap₂ (λ (b : ℕ) (bs : List ℕ). b ∷ bs) head (begun old more new tail)

pub on_err : {A E : Type 0} (r : Result A E) (P : Type 0) → P → OnErr r P
on_err (Ok a) P p = tt
on_err (Err e) P p = p
