-- A list written one item after another with a sign between each two.
use Rattle.std.proofs.Common.{◌≡◌, ℕ, ◌-◌, ◌≤◌, List, [], ◌∷◌, ◌++◌, length, get_or, take, drop, map, arith, append_assoc}
use Rattle.std.proofs.lemmas.List.{take_rest}
use Rattle.addr_text.specs.Parts.{joined}

-- the first item, the sign, and then what is left of at least two
pub joined_first : {X : Type 0} (f : X → List ℕ) (sign : ℕ) (s : List X) (x : X) (line : List ℕ) → 2 ≤ length s → x ≡ get_or s 0 x → ((line ++ f x) ++ sign ∷ []) ++ joined sign (map f (take (length s - 1) (drop 1 s))) ≡ line ++ joined sign (map f s)
joined_first f sign [] x line h e = absurd (omega arith)
joined_first f sign (a ∷ []) x line h e = absurd (omega arith)
joined_first f sign (a ∷ b ∷ r) x line h e = rw (take_rest (a ∷ b ∷ r) 1, e) (simp append_assoc)
