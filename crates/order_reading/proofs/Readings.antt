-- How the reading of an input, and what is made of its bytes, come together.
use Rattle.std.proofs.Common.{◌≡◌, ◌≢◌, ◌∙◌, ℕ, List, true, false, refl, ap, subst, Result, Ok, Err}
use Rattle.std.specs.Prelude.{Vec, IsErrOf, if◌then◌else◌}
use Rattle.std.specs.declared.alloc.Global.{Global}
use Rattle.host_core.specs.Streams.{SourceView}
use Rattle.top_model.specs.Orders.{Text, Inputs, and_then, begins_json, with_fault, tree_of, document, hardware_list, document_of_tree, hardware_of_tree}
use Rattle.top_model.specs.Lines.{Timed, steps_of}
use Rattle.top_model.specs.Scripts.{as_steps}
use Rattle.top_model.specs.declared.DocFault.{DocFault}
use Rattle.top_model.specs.declared.DocFault.TheVariants.{Json, Yaml}
use Rattle.doc_tree.specs.JsonTree.{json_tree}
use Rattle.yaml_read.specs.Reading.{reading}
use Rattle.top_model.specs.declared.Cause.{Cause}
use Rattle.top_model.specs.declared.Cause.TheVariants.{Done, DocRefused, Usage, BadLine, BatchLine, BatchLarge, NoSuchName, ReadFault, OutOfMemory}
use Rattle.order_reading.specs.Reading.{Gives, Reads, Answers}
use Rattle.order_reading.specs.Pieces.{bytes_seen}

-- ---- what no bytes are: words that are refused

pub no_usage_fault : {A E : Type 0} (fault : E → DocFault) (r : Result A E) → with_fault fault r ≢ Err Usage
no_usage_fault fault (Ok x) e = cc
no_usage_fault fault (Err x) e = cc

cause_of : {A : Type 0} → Result A Cause → Cause
cause_of (Ok x) = Done
cause_of (Err c) = c

pub no_usage_then : {A B : Type 0} (r : Result A Cause) (next : A → Result B Cause) → r ≢ Err Usage → ((x : A) → next x ≢ Err Usage) → and_then r next ≢ Err Usage
unfolding cause_of
no_usage_then (Ok x) next first later e = later x e
no_usage_then (Err c) next first later e = first (ap (λ (d : Cause). Err d) (ap cause_of e))

pub no_usage_tree : (bytes : Text) → tree_of bytes ≢ Err Usage
unfolding tree_of
no_usage_tree bytes = elim (begins_json bytes) as (λ b. (if b then with_fault Json (json_tree bytes) else with_fault Yaml (reading bytes)) ≢ Err Usage) [
  | true ↦ no_usage_fault Json (json_tree bytes)
  | false ↦ no_usage_fault Yaml (reading bytes)
]

pub no_usage_document : (bytes : Text) → document bytes ≢ Err Usage
unfolding document
no_usage_document bytes = no_usage_then (tree_of bytes) _ (no_usage_tree bytes) (λ tree. no_usage_fault _ (document_of_tree tree))

pub no_usage_hardware : (bytes : Text) → hardware_list bytes ≢ Err Usage
unfolding hardware_list
no_usage_hardware bytes = no_usage_then (tree_of bytes) _ (no_usage_tree bytes) (λ tree. no_usage_fault _ (hardware_of_tree tree))

no_usage_lines : (r : Result (List Timed) ℕ) → as_steps r ≢ Err Usage
no_usage_lines (Ok steps) e = cc
no_usage_lines (Err n) e = cc

pub no_usage_steps : (bytes : Text) → as_steps (steps_of bytes) ≢ Err Usage
no_usage_steps bytes = no_usage_lines (steps_of bytes)

-- ---- one after the other

module _ {A : Type 0} (tells : Type 0) (first : Inputs → Result Text Cause) (next : Text → Result A Cause) where
  -- what is defined of the bytes
  next_given : (source : SourceView) (bytes : Text) (answer : Result A Cause) → Gives tells source first (Ok bytes) → next bytes ≡ answer → Gives tells source (λ inputs. and_then (first inputs) next) answer
  next_given source bytes answer (inputs, may, is) e = (inputs, may, rw is e)

  -- what is refused before
  refusal_given : (source : SourceView) (refusal : Cause) → Gives tells source first (Err refusal) → Gives tells source (λ inputs. and_then (first inputs) next) (Err refusal)
  refusal_given source refusal (inputs, may, is) = (inputs, may, rw is refl)

  -- the input wasn't read
  pub unread : {B : Type 0} (view : B → A) (old new : SourceView) (cause : Cause) → ((bytes : Text) → next bytes ≢ Err Usage)
      → Reads bytes_seen first tells old new (Err cause) → Reads view (λ inputs. and_then (first inputs) next) tells old new (Err cause)
  unread view old new Usage never h = refusal_given old Usage h
  unread view old new NoSuchName never h = refusal_given old NoSuchName h
  unread view old new (DocRefused fault) never h = refusal_given old (DocRefused fault) h
  unread view old new (BadLine n) never h = refusal_given old (BadLine n) h
  unread view old new (BatchLine n) never h = refusal_given old (BatchLine n) h
  unread view old new BatchLarge never h = refusal_given old BatchLarge h
  unread view old new ReadFault never h = (h.0, (λ inputs. no_usage_then (first inputs) next (h.1 inputs) never))
  unread view old new OutOfMemory never h = tt
  unread view old new _ never h = absurd h

  -- it was, and its bytes were looked at
  pub looked_at : {B : Type 0} (view : B → A) (old new : SourceView) (bytes : Vec ℕ Global) (result : Result B Cause) → Reads bytes_seen first tells old new (Ok bytes)
      → Answers view (next bytes.items) result → Reads view (λ inputs. and_then (first inputs) next) tells old new result
  looked_at view old new bytes (Ok x) read h = next_given old bytes.items (Ok (view x)) read h
  looked_at view old new bytes (Err (DocRefused fault)) read h = next_given old bytes.items (Err (DocRefused fault)) read h
  looked_at view old new bytes (Err (BadLine n)) read h = next_given old bytes.items (Err (BadLine n)) read h
  looked_at view old new bytes (Err (BatchLine n)) read h = next_given old bytes.items (Err (BatchLine n)) read h
  looked_at view old new bytes (Err BatchLarge) read h = next_given old bytes.items (Err BatchLarge) read h
  looked_at view old new bytes (Err OutOfMemory) read h = tt
  looked_at view old new bytes (Err _) read h = absurd h

-- ---- what is the same for all inputs

pub always : {A : Type 0} (tells : Type 0) (source : SourceView) (defined : Inputs → A) (x : A) → ((inputs : Inputs) → defined inputs ≡ x) → Gives tells source defined x
always tells source defined x is = (source.inputs, (λ told. refl), is source.inputs)

-- what is the same for all inputs is answered as it is
pub known : {A B : Type 0} (tells : Type 0) (view : B → A) (defined : Inputs → Result A Cause) (value : Result A Cause) (old new : SourceView) (result : Result B Cause)
    → ((inputs : Inputs) → defined inputs ≡ value) → Answers view value result → Reads view defined tells old new result
known tells view defined value old new (Ok x) is h = always tells old defined (Ok (view x)) (λ inputs. is inputs ∙ h)
known tells view defined value old new (Err (DocRefused fault)) is h = always tells old defined (Err (DocRefused fault)) (λ inputs. is inputs ∙ h)
known tells view defined value old new (Err (BadLine n)) is h = always tells old defined (Err (BadLine n)) (λ inputs. is inputs ∙ h)
known tells view defined value old new (Err (BatchLine n)) is h = always tells old defined (Err (BatchLine n)) (λ inputs. is inputs ∙ h)
known tells view defined value old new (Err BatchLarge) is h = always tells old defined (Err BatchLarge) (λ inputs. is inputs ∙ h)
known tells view defined value old new (Err OutOfMemory) is h = tt
known tells view defined value old new (Err _) is h = absurd h

-- no source fails where none is read
pub no_fault : {A B : Type 0} (view : B → A) (value : Result A Cause) (result : Result B Cause) → Answers view value result → IsErrOf result ReadFault → ⊥
no_fault view value result h is = subst (λ r. Answers view value r) is h

-- a refusal is the same whatever is wanted
pub refusal_as : {A B C : Type 0} (view : B → A) (other : C → A) (value : Result A Cause) (cause : Cause) → Answers view value (Err cause) → Answers other value (Err cause)
refusal_as view other value (DocRefused fault) h = h
refusal_as view other value (BadLine n) h = h
refusal_as view other value (BatchLine n) h = h
refusal_as view other value BatchLarge h = h
refusal_as view other value OutOfMemory h = tt
refusal_as view other value _ h = absurd h
