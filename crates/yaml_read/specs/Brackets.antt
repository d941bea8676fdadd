-- Flow read with the brackets that are open in hand, the innermost first.
use Rattle.std.specs.Prelude.{◌≡◌, ℕ, Bool, true, false, Option, Some, None, List, [], ◌∷◌, map, if◌then◌else◌, Result, Ok, Err}
use Rattle.doc_tree.specs.Shape.{Shape}
use Rattle.yaml_read.specs.declared.stop.Why.{Why}
use Rattle.yaml_read.specs.declared.stop.Why.TheVariants.{Outside, Repeated, Deep, Unfit}
use Rattle.yaml_read.specs.declared.stop.Stop.{Stop}
use Rattle.yaml_read.specs.declared.stop.Repeats.{Repeats}
use Rattle.yaml_read.specs.declared.brackets.Bracket.{Bracket}
use Rattle.yaml_read.specs.declared.brackets.Bracket.TheVariants.{InList, InMap}
use Rattle.yaml_plain.specs.Bytes.{right_bracket, right_brace}
use Rattle.yaml_read.specs.Keys.{Read, ◌>>=◌}
use Rattle.yaml_read.specs.Flow.{behind_entry, begins_node, flow_items, flow_value, flow_pairs, flow}
use Rattle.yaml_read.specs.OnLine.{is_over, alone}
use Rattle.yaml_read.specs.Seen.{Fails}

-- the text behind what was read
abbrev pub end_of : {A : Type 0} → Read A → Result (List ℕ) Why
end_of read = read >>= (λ x. Ok x.1)

abbrev pub closing : Bracket → ℕ
closing (InList levels turns) = right_bracket
closing (InMap levels turns entries) = right_brace

-- why nothing is read where no level is left
abbrev pub without_levels : List ℕ → Why
without_levels bs = if begins_node bs then Deep else Unfit

module _ (repeats : Repeats) where
  -- the text behind a bracket's closing sign, from where its next entry may begin
  abbrev pub close : Bracket → List ℕ → Result (List ℕ) Why
  close (InList levels turns) text = end_of (flow_items repeats levels (flow repeats levels) turns text)
  close (InMap levels turns entries) text = end_of (flow_pairs repeats levels (flow repeats levels) turns (map (λ p. p.0) entries) text)

  -- the text behind the outermost of the brackets, from behind a node in the innermost
  abbrev pub behind : List Bracket → List ℕ → Result (List ℕ) Why
  behind [] text = Ok text
  behind (b ∷ bs) text = behind_entry (closing b) text >>= (λ rest. close b rest >>= behind bs)

  -- the same from where the next entry of the innermost may begin
  abbrev pub inside : List Bracket → List ℕ → Result (List ℕ) Why
  inside [] text = Ok text
  inside (b ∷ bs) text = close b text >>= behind bs

  -- the same from where a node in the innermost begins, and from behind the colon of a pair
  abbrev pub from_node : ℕ → List Bracket → List ℕ → Result (List ℕ) Why
  from_node levels bs text = flow repeats levels text >>= (λ v. behind bs v.1)

  abbrev pub from_value : ℕ → List Bracket → List ℕ → Result (List ℕ) Why
  from_value levels bs text = flow_value repeats levels (flow repeats levels) text >>= (λ v. behind bs v.1)

-- a node of flow behind which the line is over
abbrev pub flow_alone : Repeats → ℕ → List ℕ → Result (Option Shape) Why
flow_alone repeats levels text = flow repeats levels text >>= (λ p. alone (is_over p.1) p.0)

-- why a reading stops, if it does
abbrev pub stop_of : {A : Type 0} → Result A Why → Option Why
stop_of (Ok x) = None
stop_of (Err why) = Some why

abbrev pub is_other_stop : Option Why → Bool
is_other_stop None = false
is_other_stop (Some Outside) = true
is_other_stop (Some Repeated) = false
is_other_stop (Some Deep) = false
is_other_stop (Some Unfit) = false

abbrev pub is_repeat_stop : Option Why → Bool
is_repeat_stop None = false
is_repeat_stop (Some Outside) = false
is_repeat_stop (Some Repeated) = true
is_repeat_stop (Some Deep) = false
is_repeat_stop (Some Unfit) = false

-- what is read goes on as what a function returned, seen by view, unless memory ran out
abbrev pub GoesOn : {X : Type 0} → (X → Result (List ℕ) Why) → Result X Stop → Result (List ℕ) Why → Type 0
GoesOn view (Ok x) read = read ≡ view x
GoesOn view (Err e) read = Fails e read
