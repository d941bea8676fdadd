-- Texts in parts with a sign between them.
use Rattle.std.specs.Prelude.{ℕ, List, [], ◌∷◌, ◌++◌}

-- the parts one after another, the sign between each two
abbrev pub joined : ℕ → List (List ℕ) → List ℕ
joined sign [] = []
joined sign (p ∷ []) = p
joined sign (p ∷ q ∷ ps) = p ++ sign ∷ joined sign (q ∷ ps)
