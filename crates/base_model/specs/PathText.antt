-- The text of a path, as in `interfaces[0].ipv4.address[1].ip`.
use Rattle.std.specs.Prelude.{ℕ, List, [], ◌∷◌, ◌++◌, flat_map, decimal, codes}
use Rattle.base_model.specs.declared.path.PathStep.{PathStep}
use Rattle.base_model.specs.declared.path.PathStep.TheVariants.{Key, At}

-- a key behind a dot, a position in brackets
abbrev pub step_text : PathStep → List ℕ
step_text (Key k) = codes "." ++ k
step_text (At i) = codes "[" ++ decimal i ++ codes "]"

abbrev pub steps_text : List PathStep → List ℕ
steps_text = flat_map step_text

-- a key that comes first has no dot before it
abbrev pub path_text : List PathStep → List ℕ
path_text [] = []
path_text (Key k ∷ steps) = k ++ steps_text steps
path_text (At i ∷ steps) = step_text (At i) ++ steps_text steps
