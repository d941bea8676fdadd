-- A capture that is marked is one that reaches itself.
use Rattle.std.proofs.Common.{◌≡◌, ◌∙◌, ◌<◌, ℕ, Bool, false, List, map, length, get_or, sym, ap, subst}
use Rattle.std.specs.Str.{bytes_eq}
use Rattle.reach.specs.Reach.{is_reached, IsGraph, IsLeast}
use Rattle.reach.specs.Positions.{positions}
use Rattle.reach.proofs.lemmas.Positions.{marked_at, rows_graph}
use Rattle.policy_model.specs.Policies.{names_capture, reaches_itself}
use Rattle.policy_model.specs.declared.Capture.{Capture}

-- the places that captures name are a graph
pub captures_graph : (captures : List Capture) (arrows : List (List ℕ)) → arrows ≡ map (λ c. positions (names_capture c) 0 captures) captures → IsGraph arrows
captures_graph captures arrows rows = subst IsGraph (sym rows) (rows_graph names_capture captures)

-- the mark of a capture, from itself along what captures name, says whether it reaches itself
pub capture_marked : (captures : List Capture) (arrows : List (List ℕ)) (starts marks : List Bool) (at : ℕ) (c : Capture)
    → arrows ≡ map (λ d. positions (names_capture d) 0 captures) captures → starts ≡ map (λ (d : Capture). bytes_eq d.name c.name) captures → IsLeast arrows starts marks → at < length captures → c ≡ get_or captures at c
    → (get_or marks at false ≡ reaches_itself captures c) × (length marks ≡ length captures)
capture_marked captures arrows starts marks at c rows starting least lt here =
    let marked = marked_at names_capture (λ (d : Capture). bytes_eq d.name c.name) captures c arrows starts marks rows starting least at lt in
    (marked.0 ∙ ap (λ (d : Capture). is_reached names_capture (λ (e : Capture). bytes_eq e.name c.name) captures (length captures) d) (sym here), marked.1)
