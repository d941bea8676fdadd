-- The steps of a rollout so far.
use Rattle.std.specs.Prelude.{ℕ, ◌==◌, Bool, false, List, [], ◌∷◌, flat_map, map, Option, Some, None, if◌then◌else◌}
use Rattle.std.specs.List.{list_any}
use Rattle.rollout_model.specs.declared.node.Event.{Event}
use Rattle.rollout_model.specs.declared.node.Event.TheVariants.{Start, Good}

-- what was told at this moment, in seconds
pub record Stepped : Type 0 where
  pub at : ℕ
  pub events : List Event

-- the events of each step, and all of them
abbrev pub told_each : List Stepped → List (List Event)
told_each steps = map (λ (step : Stepped). step.events) steps

abbrev pub told_all : List Stepped → List Event
told_all steps = flat_map (λ (step : Stepped). step.events) steps

abbrev pub is_start_of : ℕ → Event → Bool
is_start_of i (Start n) = n == i
is_start_of i event = false

abbrev pub is_good_of : ℕ → Event → Bool
is_good_of i (Good n) = n == i
is_good_of i event = false

-- when a node was started
abbrev pub started : ℕ → List Stepped → Option ℕ
started i [] = None
started i (step ∷ steps) = if list_any (is_start_of i) step.events then Some step.at else started i steps

-- a node was found good
abbrev pub was_good : ℕ → List Stepped → Bool
was_good i steps = list_any (is_good_of i) (told_all steps)
