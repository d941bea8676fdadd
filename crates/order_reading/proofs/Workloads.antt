-- Trees that are printed and read again, and the workload that they make up.
use Rattle.std.proofs.Common.{◌≡◌, ◌≤◌, ℕ, true, false, refl, sym, ap, subst, length, Result, Ok, Err, inl, inr}
use Rattle.std.specs.Prelude.{List, nat_lt}
use Rattle.std.proofs.lemmas.Bool.{cases_Bool, ltb-false}
use Rattle.doc_tree.specs.Shape.{Shape, shape}
use Rattle.doc_tree.specs.declared.limits.TheConstants.{MAX_BYTES}
use Rattle.document_model.specs.declared.Doc.{Doc}
use Rattle.net_model.specs.declared.Link.{Link}
use Rattle.yaml_read.specs.Reading.{reading}
use Rattle.yaml_read.specs.declared.YamlFault.TheVariants.{TooLarge}
use Rattle.yaml_text.specs.Layout.{is_filled_map, yaml_text_of}
use Rattle.tree_schema.specs.declared.SchemaFault.{SchemaFault}
use Rattle.scenario_model.specs.Draws.{devices}
use Rattle.scenario_model.specs.Trees.{hardware_tree, first_tree, second_tree, IsPlain}
use Rattle.top_model.specs.Orders.{Text, Order, with_fault, reprinted, reread, hardware_of_tree, document_of_tree, generating, generated_devices, generated_first, generated_second, generated}
use Rattle.top_model.specs.declared.DocFault.TheVariants.{Yaml, Schema}
use Rattle.top_model.specs.declared.Cause.{Cause}
use Rattle.top_model.specs.declared.Cause.TheVariants.{DocRefused, BadLine, BatchLine, BatchLarge, OutOfMemory}
use Rattle.order_reading.specs.Reading.{Answers, itself}
use Rattle.order_reading.specs.Workload.{IsPrinted}

-- ---- one tree

-- a text that passes the limit
too_large : (text : Text) → nat_lt MAX_BYTES (length text) ≡ true → reading text ≡ Err TooLarge
unfolding reading
too_large text large = rw large refl

large_again : (tree : Shape) → nat_lt MAX_BYTES (length (yaml_text_of tree)) ≡ true → reprinted tree ≡ Err (DocRefused (Yaml TooLarge))
unfolding reprinted
large_again tree large = rw large refl

same_again : (tree : Shape) → nat_lt MAX_BYTES (length (yaml_text_of tree)) ≡ false → reprinted tree ≡ Ok tree
unfolding reprinted
same_again tree fits = rw fits refl

-- what is printed is read as the tree, or passes the limit
pub reprints : (text : Text) (tree : Shape) → text ≡ yaml_text_of tree → (length text ≤ MAX_BYTES → reading text ≡ Ok tree) → with_fault Yaml (reading text) ≡ reprinted tree
reprints text tree same reads = elim (cases_Bool (nat_lt MAX_BYTES (length text))) [
  | inl large ↦ rw (too_large text large) (sym (large_again tree (subst (λ (t : Text). nat_lt MAX_BYTES (length t) ≡ true) same large)))
  | inr fits ↦ rw (reads (ltb-false _ _ fits)) (sym (same_again tree (subst (λ (t : Text). nat_lt MAX_BYTES (length t) ≡ false) same fits)))
]

module _ {A : Type 0} (schema : Shape → Result A SchemaFault) where
  -- what is read of the tree again
  pub again : (tree shown : Shape) → reprinted tree ≡ Ok shown → reread schema tree ≡ with_fault Schema (schema shown)
  again tree shown is = rw is refl

  refused : (tree : Shape) (cause : Cause) → reprinted tree ≡ Err cause → reread schema tree ≡ Err cause
  refused tree cause is = rw is refl

  -- a tree that isn't there
  pub unread : (tree : Shape) (cause : Cause) → Answers shape (reprinted tree) (Err cause) → Answers itself (reread schema tree) (Err cause)
  unread tree (DocRefused fault) is = refused tree (DocRefused fault) is
  unread tree (BadLine n) is = refused tree (BadLine n) is
  unread tree (BatchLine n) is = refused tree (BatchLine n) is
  unread tree BatchLarge is = refused tree BatchLarge is
  unread tree OutOfMemory is = tt
  unread tree _ is = absurd is

-- ---- what the writer asks of the trees

pub printed : (tree : Shape) → IsPlain tree → is_filled_map tree ≡ true → IsPrinted tree
printed tree plain filled = record { distinct = plain.distinct; depth = plain.depth; filled = filled }

-- ---- the three of them

module _ (count seed : ℕ) where
  -- what is read of each of the trees
  pub devices_of : (tree : Shape) → tree ≡ hardware_tree (devices seed count) → reread hardware_of_tree tree ≡ generated_devices count seed
  unfolding generated_devices
  devices_of tree is = ap (λ (t : Shape). reread hardware_of_tree t) is

  pub first_of : (tree : Shape) → tree ≡ first_tree (devices seed count) → reread document_of_tree tree ≡ generated_first count seed
  unfolding generated_first
  first_of tree is = ap (λ (t : Shape). reread document_of_tree t) is

  pub second_of : (tree : Shape) → tree ≡ second_tree (devices seed count) → reread document_of_tree tree ≡ generated_second count seed
  unfolding generated_second
  second_of tree is = ap (λ (t : Shape). reread document_of_tree t) is

  -- all three are read
  pub all_read : (links : List Link) (a b : Doc) → generated_devices count seed ≡ Ok links → generated_first count seed ≡ Ok a → generated_second count seed ≡ Ok b
      → generated count seed ≡ Ok (generating links a b)
  all_read links a b one two three = rw (one, two, three) refl

  no_devices : (cause : Cause) → generated_devices count seed ≡ Err cause → generated count seed ≡ Err cause
  no_devices cause one = rw one refl

  no_first : (links : List Link) (cause : Cause) → generated_devices count seed ≡ Ok links → generated_first count seed ≡ Err cause → generated count seed ≡ Err cause
  no_first links cause one two = rw (one, two) refl

  no_second : (links : List Link) (a : Doc) (cause : Cause) → generated_devices count seed ≡ Ok links → generated_first count seed ≡ Ok a → generated_second count seed ≡ Err cause
      → generated count seed ≡ Err cause
  no_second links a cause one two three = rw (one, two, three) refl

  -- one of them isn't
  module _ {W : Type 0} (view : W → Order) where
    pub devices_refused : (cause : Cause) → Answers itself (generated_devices count seed) (Err cause) → Answers view (generated count seed) (Err cause)
    devices_refused (DocRefused fault) is = no_devices (DocRefused fault) is
    devices_refused (BadLine n) is = no_devices (BadLine n) is
    devices_refused (BatchLine n) is = no_devices (BatchLine n) is
    devices_refused BatchLarge is = no_devices BatchLarge is
    devices_refused OutOfMemory is = tt
    devices_refused _ is = absurd is

    pub first_refused : (links : List Link) (cause : Cause) → generated_devices count seed ≡ Ok links → Answers itself (generated_first count seed) (Err cause)
        → Answers view (generated count seed) (Err cause)
    first_refused links (DocRefused fault) one is = no_first links (DocRefused fault) one is
    first_refused links (BadLine n) one is = no_first links (BadLine n) one is
    first_refused links (BatchLine n) one is = no_first links (BatchLine n) one is
    first_refused links BatchLarge one is = no_first links BatchLarge one is
    first_refused links OutOfMemory one is = tt
    first_refused links _ one is = absurd is

    pub second_refused : (links : List Link) (a : Doc) (cause : Cause) → generated_devices count seed ≡ Ok links → generated_first count seed ≡ Ok a
        → Answers itself (generated_second count seed) (Err cause) → Answers view (generated count seed) (Err cause)
    second_refused links a (DocRefused fault) one two is = no_second links a (DocRefused fault) one two is
    second_refused links a (BadLine n) one two is = no_second links a (BadLine n) one two is
    second_refused links a (BatchLine n) one two is = no_second links a (BatchLine n) one two is
    second_refused links a BatchLarge one two is = no_second links a BatchLarge one two is
    second_refused links a OutOfMemory one two is = tt
    second_refused links a _ one two is = absurd is

-- the same of what is defined in other words
pub refused_as : {A B : Type 0} (view : B → A) (defined other : Result A Cause) (cause : Cause) → defined ≡ other → Answers view defined (Err cause) → Answers view other (Err cause)
refused_as {A = A} view defined other cause same is = subst (λ (d : Result A Cause). Answers view d (Err cause)) same is
