-- What a pass knows of a capture is its value as far as its references lead in so many levels.
use Rattle.std.proofs.Common.{◌≡◌, ◌∙◌, ℕ, zero, suc, true, false, cond, List, [], ◌∷◌, map, length, Option, Some, None, refl, ap}
use Rattle.std.specs.Prelude.{find, option_and_then}
use Rattle.std.specs.Str.{bytes_eq}
use Rattle.doc_tree.specs.Shape.{Shape}
use Rattle.policy_model.specs.Keys.{Text}
use Rattle.policy_model.specs.Reading.{expression_of}
use Rattle.policy_model.specs.Values.{capture_named, expression_value, expression_named, value_within, capture_value}
use Rattle.policy_model.specs.declared.Capture.{Capture}
use Rattle.policy_values.specs.Tables.{found_in, valued, tables}

-- what a table made capture by capture has for a name is what is made of the first capture of that name
pub found_in-map : (f : Capture → Option Shape) (cs : List Capture) (name : Text) → found_in cs (map f cs) name ≡ option_and_then f (capture_named name cs)
found_in-map f [] name = refl
found_in-map f (c ∷ cs) name =
    elim (bytes_eq c.name name) as (λ v. cond v (f c) (found_in cs (map f cs) name) ≡ option_and_then f (cond v (Some c) (find (λ (d : Capture). bytes_eq d.name name) cs))) [
      | true ↦ refl
      | false ↦ found_in-map f cs name
    ]

abbrev nothing : Capture → Option Shape
nothing c = None

nothing_known : (found : Option Capture) → option_and_then nothing found ≡ None
nothing_known None = refl
nothing_known (Some c) = refl

-- an expression is looked for and valued, or valued where it is found
valued_named : (value : Text → Option Shape) (running : Shape) (found : Option Capture)
    → option_and_then (valued value running) found ≡ option_and_then (expression_value value running) (option_and_then (λ (c : Capture). expression_of c.text) found)
valued_named value running None = refl
valued_named value running (Some c) = refl

-- values that agree at each name are one
same_values : (v w : Text → Option Shape) → ((name : Text) → v name ≡ w name) → v ≡ w
same_values v w h = λ i name. h name i

module _ (captures : List Capture) (running : Shape) where
  pub tables_are : (n : ℕ) (name : Text) → found_in captures (tables captures running n) name ≡ value_within captures running n name
  tables_are zero name = found_in-map nothing captures name ∙ nothing_known (capture_named name captures)
  tables_are (suc n) name =
      found_in-map (valued (found_in captures (tables captures running n)) running) captures name
      ∙ valued_named (found_in captures (tables captures running n)) running (capture_named name captures)
      ∙ ap (λ v. option_and_then (expression_value v running) (expression_named captures name)) (same_values (found_in captures (tables captures running n)) (value_within captures running n) (tables_are n))

  -- after as many passes as there are captures each name has its value
  pub last_table : found_in captures (tables captures running (length captures)) ≡ capture_value captures running
  unfolding capture_value
  last_table = same_values (found_in captures (tables captures running (length captures))) (capture_value captures running) (tables_are (length captures))
