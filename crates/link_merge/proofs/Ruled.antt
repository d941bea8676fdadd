-- The first broken rule of a list whose front has none.
use Rattle.std.proofs.Common.{◌≡◌, ℕ, List, [], ◌∷◌, ◌++◌, Some, None, refl}
use Rattle.document_model.specs.declared.Place.{Place}
use Rattle.document_model.specs.declared.Refused.{Refused}
use Rattle.std.specs.Prelude.{Option}
use Rattle.merge_model.specs.Places.{first_of}

pub first_behind : (at : ℕ → Place → Refused) (front rest : List (ℕ × Option Place)) → first_of at front ≡ None → first_of at (front ++ rest) ≡ first_of at rest
first_behind at [] rest none = refl
first_behind at ((n, None) ∷ front) rest none = first_behind at front rest none
first_behind at ((n, Some place) ∷ front) rest none = cc
