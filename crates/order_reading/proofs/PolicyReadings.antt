-- What is made of the bytes of a FILE that holds a policy, or a policy or a document.
use Rattle.std.proofs.Common.{◌≡◌, ◌≢◌, true, false, refl, sym, subst, Result, Ok, Err}
use Rattle.std.specs.Prelude.{if◌then◌else◌}
use Rattle.doc_tree.specs.Shape.{Shape, shape}
use Rattle.document_model.specs.declared.Doc.{Doc}
use Rattle.host_core.specs.Streams.{SourceView}
use Rattle.policy_model.specs.Values.{PolicyData}
use Rattle.policy_model.specs.Policies.{is_policy, policy_of_tree}
use Rattle.policy_model.specs.declared.PolicyFault.{PolicyFault}
use Rattle.policy_model.specs.declared.PolicyFault.TheVariants as fault
use Rattle.policy_lang.specs.Held.{Held, data_of}
use Rattle.policy_lang.specs.Answers.{GivesPolicy}
use Rattle.top_model.specs.Orders.{Text, Inputs, Order, and_then, with_fault, tree_of, document_of_tree, policy, policy_or_document}
use Rattle.top_model.specs.declared.DocFault.TheVariants.{Schema, Policy}
use Rattle.top_model.specs.declared.Cause.{Cause}
use Rattle.top_model.specs.declared.Cause.TheVariants.{DocRefused, Usage, NoSuchName, ReadFault, BadLine, BatchLine, BatchLarge, OutOfMemory}
use Rattle.order_reading.specs.Faults.{policy_cause}
use Rattle.order_reading.specs.Reading.{Answers, Reads, itself}
use Rattle.order_reading.proofs.Readings.{no_usage_fault, no_usage_then, no_usage_tree}

-- ---- one after the other

module _ {A B C D : Type 0} (view : B → A) (other : D → C) (first : Result A Cause) (next : A → Result C Cause) where
  -- what is refused before
  pub refused_before : (cause : Cause) → Answers view first (Err cause) → Answers other (and_then first next) (Err cause)
  refused_before (DocRefused fault) is = rw is refl
  refused_before (BadLine n) is = rw is refl
  refused_before (BatchLine n) is = rw is refl
  refused_before BatchLarge is = rw is refl
  refused_before OutOfMemory is = tt
  refused_before _ is = absurd is

  -- what comes of it
  pub answered_next : (x : B) (result : Result D Cause) → first ≡ Ok (view x) → Answers other (next (view x)) result → Answers other (and_then first next) result
  answered_next x result is h = rw is h

module _ {A B C D : Type 0} (tells : Type 0) (view : B → A) (other : D → C) (first : Inputs → Result A Cause) (next : A → Result C Cause) (old new : SourceView) where
  -- the same of what is read
  pub unread_before : (cause : Cause) → ((x : A) → next x ≢ Err Usage) → Reads view first tells old new (Err cause) → Reads other (λ inputs. and_then (first inputs) next) tells old new (Err cause)
  unread_before Usage never (inputs, may, is) = (inputs, may, rw is refl)
  unread_before NoSuchName never (inputs, may, is) = (inputs, may, rw is refl)
  unread_before (DocRefused fault) never (inputs, may, is) = (inputs, may, rw is refl)
  unread_before (BadLine n) never (inputs, may, is) = (inputs, may, rw is refl)
  unread_before (BatchLine n) never (inputs, may, is) = (inputs, may, rw is refl)
  unread_before BatchLarge never (inputs, may, is) = (inputs, may, rw is refl)
  unread_before ReadFault never h = (h.0, (λ inputs. no_usage_then (first inputs) next (h.1 inputs) never))
  unread_before OutOfMemory never h = tt
  unread_before _ never h = absurd h

  pub read_next : (x : B) (result : Result D Cause) → Reads view first tells old new (Ok x) → Answers other (next (view x)) result → Reads other (λ inputs. and_then (first inputs) next) tells old new result
  read_next x (Ok y) (inputs, may, is) h = (inputs, may, rw is h)
  read_next x (Err (DocRefused fault)) (inputs, may, is) h = (inputs, may, rw is h)
  read_next x (Err (BadLine n)) (inputs, may, is) h = (inputs, may, rw is h)
  read_next x (Err (BatchLine n)) (inputs, may, is) h = (inputs, may, rw is h)
  read_next x (Err BatchLarge) (inputs, may, is) h = (inputs, may, rw is h)
  read_next x (Err OutOfMemory) read h = tt
  read_next x (Err _) read h = absurd h

-- ---- a policy

refused : (r : Result PolicyData PolicyFault) (e : PolicyFault) → r ≡ Err e → with_fault Policy r ≡ Err (DocRefused (Policy e))
refused r e is = rw is refl

pub policy_read : (r : Result PolicyData PolicyFault) (p : Held) → GivesPolicy r (Ok p) → with_fault Policy r ≡ Ok (data_of p)
policy_read r p is = rw is refl

pub policy_refused : (r : Result PolicyData PolicyFault) (e : PolicyFault) → GivesPolicy r (Err e) → Answers data_of (with_fault Policy r) (Err (policy_cause e))
policy_refused r fault.OutOfMemory is = tt
policy_refused r (fault.WrongShape path) is = refused r (fault.WrongShape path) is
policy_refused r (fault.BadExpression path) is = refused r (fault.BadExpression path) is
policy_refused r (fault.UnknownCapture path) is = refused r (fault.UnknownCapture path) is
policy_refused r (fault.CaptureCycle path) is = refused r (fault.CaptureCycle path) is
policy_refused r (fault.NoValue path) is = refused r (fault.NoValue path) is
policy_refused r fault.TooDeep is = refused r fault.TooDeep is
policy_refused r fault.TooLarge is = refused r fault.TooLarge is

abbrev policy_of : Shape → Result PolicyData Cause
policy_of tree = with_fault Policy (policy_of_tree tree)

-- the policy of bytes, once their tree is read
pub policy_bytes : (bytes : Text) (tree : Shape) (result : Result Held Cause) → tree_of bytes ≡ Ok tree → Answers data_of (policy_of tree) result → Answers data_of (policy bytes) result
unfolding policy
policy_bytes bytes tree result is h = rw is h

pub no_policy_bytes : (bytes : Text) (cause : Cause) → Answers shape (tree_of bytes) (Err cause) → Answers data_of (policy bytes) (Err cause)
unfolding policy
no_policy_bytes bytes cause h = refused_before shape data_of (tree_of bytes) policy_of cause h

-- words aren't refused here
pub no_usage_policy : (bytes : Text) → policy bytes ≢ Err Usage
unfolding policy
no_usage_policy bytes = no_usage_then (tree_of bytes) policy_of (no_usage_tree bytes) (λ tree. no_usage_fault Policy (policy_of_tree tree))

-- ---- a policy or a document

module _ {D : Type 0} (as_defined : D → Order) (of_policy : PolicyData → Order) (of_document : Doc → Order) (tree : Shape) where
  abbrev by_policy : Result Order Cause
  by_policy = and_then (policy_of tree) (λ p. Ok (of_policy p))

  abbrev by_document : Result Order Cause
  by_document = and_then (with_fault Schema (document_of_tree tree)) (λ doc. Ok (of_document doc))

  is_by_policy : is_policy tree ≡ true → policy_or_document of_policy of_document tree ≡ by_policy
  is_by_policy is = rw is refl

  is_by_document : is_policy tree ≡ false → policy_or_document of_policy of_document tree ≡ by_document
  is_by_document is = rw is refl

  pub a_policy : (p : Held) (order : D) → is_policy tree ≡ true → policy_of tree ≡ Ok (data_of p) → as_defined order ≡ of_policy (data_of p) → policy_or_document of_policy of_document tree ≡ Ok (as_defined order)
  a_policy p order is read same = rw (is, read, same) refl

  pub no_policy : (cause : Cause) → is_policy tree ≡ true → Answers data_of (policy_of tree) (Err cause) → Answers as_defined (policy_or_document of_policy of_document tree) (Err cause)
  no_policy cause is h =
      subst (λ (r : Result Order Cause). Answers as_defined r (Err cause)) (sym (is_by_policy is)) (refused_before data_of as_defined (policy_of tree) (λ p. Ok (of_policy p)) cause h)

  pub a_document : (doc : Doc) (order : D) → is_policy tree ≡ false → with_fault Schema (document_of_tree tree) ≡ Ok doc → as_defined order ≡ of_document doc
      → policy_or_document of_policy of_document tree ≡ Ok (as_defined order)
  a_document doc order is read same = rw (is, read, same) refl

  pub no_document : (cause : Cause) → is_policy tree ≡ false → Answers itself (with_fault Schema (document_of_tree tree)) (Err cause)
      → Answers as_defined (policy_or_document of_policy of_document tree) (Err cause)
  no_document cause is h =
      subst (λ (r : Result Order Cause). Answers as_defined r (Err cause)) (sym (is_by_document is))
      (refused_before itself as_defined (with_fault Schema (document_of_tree tree)) (λ doc. Ok (of_document doc)) cause h)

  pub no_usage_either : policy_or_document of_policy of_document tree ≢ Err Usage
  no_usage_either = elim (is_policy tree) as (λ b. (if b then by_policy else by_document) ≢ Err Usage) [
    | true ↦ no_usage_then (policy_of tree) _ (no_usage_fault Policy (policy_of_tree tree)) (λ p e. cc)
    | false ↦ no_usage_then (with_fault Schema (document_of_tree tree)) _ (no_usage_fault Schema (document_of_tree tree)) (λ doc e. cc)
  ]
