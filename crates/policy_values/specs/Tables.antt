-- The values of captures in passes: each pass evaluates all captures, where what they name has the values of the pass before.
-- It comes to the same to evaluate only those that weren't ready at the pass before.
use Rattle.std.specs.Prelude.{◌≡◌, ℕ, zero, suc, Bool, false, if◌then◌else◌, List, [], ◌∷◌, ◌++◌, map, flat_map, take, drop, Option, None, is_some, option_map, option_and_then, option_to_list, unwrap_or}
use Rattle.std.specs.List.{list_all}
use Rattle.std.specs.Str.{bytes_eq}
use Rattle.doc_tree.specs.Shape.{Shape, nothing, shape}
use Rattle.doc_tree.specs.declared.Tree.{Tree}
use Rattle.policy_model.specs.Keys.{Text}
use Rattle.policy_model.specs.Reading.{expression_of}
use Rattle.policy_model.specs.Values.{names_in, expression_value, place_value}
use Rattle.policy_model.specs.declared.Capture.{Capture}

-- one for each capture
abbrev pub Table : Type 0
Table = List (Option Shape)

-- what the table has for the first capture of the name
abbrev pub found_in : List Capture → Table → Text → Option Shape
found_in [] table name = None
found_in (c ∷ cs) [] name = None
found_in (c ∷ cs) (value ∷ table) name = if bytes_eq c.name name then value else found_in cs table name

-- the value of a capture whose references have these
abbrev pub valued : (Text → Option Shape) → Shape → Capture → Option Shape
valued value running c = option_and_then (expression_value value running) (expression_of c.text)

abbrev pub round : List Capture → Shape → Table → Table
round captures running table = map (valued (found_in captures table) running) captures

-- nothing is known
abbrev pub unknown : List Capture → Table
unknown captures = map (λ (c : Capture). None) captures

-- after so many passes
abbrev pub tables : List Capture → Shape → ℕ → Table
tables captures running zero = unknown captures
tables captures running (suc n) = round captures running (tables captures running n)

-- the captures that the expression of a capture names
abbrev pub names : Capture → List Text
names c = flat_map names_in (option_to_list (expression_of c.text))

abbrev pub have_values : (Text → Option Shape) → List Text → Bool
have_values value ns = list_all (λ n. is_some (value n)) ns

-- all that a capture names had values before the last of so many passes
abbrev pub was_ready : List Capture → Shape → ℕ → Capture → Bool
was_ready captures running zero c = false
was_ready captures running (suc n) c = have_values (found_in captures (tables captures running n)) (names c)

-- the table within a pass: so many captures have the values of this pass, and the others those of the pass before
abbrev pub halfway : List Capture → Shape → ℕ → ℕ → Table
halfway captures running n i = take i (tables captures running (suc n)) ++ drop i (tables captures running n)

-- the flags of the captures that were ready before the last pass, and before this one
abbrev pub AreReady : List Capture → Shape → ℕ → List Bool → List Bool → Type 0
AreReady captures running n done ready = (done ≡ map (was_ready captures running n) captures) × (ready ≡ map (was_ready captures running (suc n)) captures)

-- what stands for a place, where each place has a value
abbrev pub filler : (Text → Option Shape) → Text → Shape
filler value inner = unwrap_or (place_value value inner) nothing

-- the table as it is held
abbrev pub seen : List (Option Tree) → Table
seen values = map (option_map shape) values

-- whichever pass this is, the one capture is brought on in it ..
abbrev pub IsStep : List Capture → Shape → List Bool → List Bool → ℕ → List (Option Tree) → List (Option Tree) → Type 0
IsStep captures running done ready i old new =
    (n : ℕ) → AreReady captures running n done ready → seen old ≡ halfway captures running n i → seen new ≡ halfway captures running n (suc i)

-- .. and all captures are
abbrev pub IsPass : List Capture → Shape → List Bool → List Bool → List (Option Tree) → List (Option Tree) → Type 0
IsPass captures running done ready old new =
    (n : ℕ) → AreReady captures running n done ready → seen old ≡ tables captures running n → seen new ≡ tables captures running (suc n)
