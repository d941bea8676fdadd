-- What of the source was taken for an order that was read, and for one that was refused.
use Rattle.std.proofs.Common.{◌≡◌, ◌∙◌, ◌⊎◌, inl, inr, refl, sym, ap, subst, Bool, true, false, List, Option, Some, None, Ok, Err}
use Rattle.std.specs.Prelude.{if◌then◌else◌, take, unwrap_or, Result}
use Rattle.net_model.specs.declared.Link.{Link}
use Rattle.net_model.specs.declared.Call.{Call}
use Rattle.ip_batch.specs.Reader.{batch_of}
use Rattle.ip_batch.specs.declared.BatchFault.{BatchFault}
use Rattle.ip_batch.specs.declared.BatchFault.TheVariants as batch
use Rattle.document_model.specs.declared.Doc.{Doc}
use Rattle.policy_model.specs.Values.{PolicyData}
use Rattle.policy_model.specs.Policies.{is_policy, policy_of_tree}
use Rattle.doc_tree.specs.Shape.{Shape}
use Rattle.doc_tree.specs.JsonTree.{json_tree}
use Rattle.yaml_read.specs.Reading.{reading}
use Rattle.host_core.specs.Streams.{SourceView, SinkView}
use Rattle.command_words.specs.Words.{command_of}
use Rattle.command_words.specs.declared.Command.{Command}
use Rattle.command_words.specs.declared.Command.TheVariants.{Show, Plan, Policy as PrintValue, Simulate, Apply, Commit, Rollback, Recover, Check, Init, Script, Generate, Service, Rollout}
use Rattle.order_reading.specs.AsDefined.{TakesFile, as_defined}
use Rattle.order_reading.specs.Reading.{Reads}
use Rattle.order_reading.specs.declared.order.Order.{Order as Asked}
use Rattle.answer_text.specs.Speaking.{Spoken}
use Rattle.top_model.specs.Orders.{Text, Inputs, Order, planning, evaluating, planning_policy, applying_policy, simulating, applying, making, read_limit, stdin, found, input, and_then, with_fault, begins_json, tree_of, document_of_tree, policy, policy_or_document, with_batch, calls_of, hardware_list, hardware_of_tree, opts, order_named, order_of}
use Rattle.top_model.specs.Runs.{Run}
use Rattle.top_model.specs.Taking.{read_there, file_read, TakesAsked, TakesOnly}
use Rattle.top_model.specs.Texts.{status_of}
use Rattle.top_model.specs.declared.report.DocFault.{DocFault}
use Rattle.top_model.specs.declared.report.DocFault.TheVariants.{Json, Yaml, Schema, Policy}
use Rattle.top_model.specs.declared.report.Report.{Report}
use Rattle.top_model.specs.declared.report.Cause.{Cause}
use Rattle.top_model.specs.declared.report.Cause.TheVariants.{DocRefused, Usage, BadLine, BatchLine, BatchLarge, NoSuchName, ReadFault, WriteFault, OutOfMemory}

-- what was asked for was taken
pub takes_asked : (tells untouched : Type 0) (old new : SourceView) → (untouched → new ≡ old) → (file : Option (Option Text)) (order : Asked) → TakesFile untouched tells old new file (Ok order) → TakesAsked tells old new file
takes_asked tells untouched old new same None order taken = same taken
takes_asked tells untouched old new same (Some file) order taken = taken

-- ---- how what an input holds may be refused

abbrev errs : (A : Type 0) → Cause → Result A Cause
errs A c = Err c

abbrev goes : (A : Type 0) → A → Result A Cause
goes A x = Ok x

same_cause : (A : Type 0) (a b : Cause) → errs A a ≡ errs A b → a ≡ b
same_cause A a b e = cc

ok_err : (A : Type 0) (x : A) (c : Cause) → goes A x ≡ errs A c → ⊥
ok_err A x c e = cc

none_some : (file : Option Text) → None ≡ Some file → ⊥
none_some file e = cc

same_file : (a b : Option Text) → Some a ≡ Some b → a ≡ b
same_file a b e = cc

usage_no_name : Usage ≡ NoSuchName → ⊥
usage_no_name e = cc

abbrev IsOfBytes : Cause → Type 0
IsOfBytes (DocRefused fault) = Unit {0}
IsOfBytes (BatchLine n) = Unit {0}
IsOfBytes BatchLarge = Unit {0}
IsOfBytes OutOfMemory = Unit {0}
IsOfBytes c = ⊥

of_fault : (A E : Type 0) (fault : E → DocFault) (x : Result A E) (c : Cause) → with_fault fault x ≡ errs A c → IsOfBytes c
of_fault A E fault (Ok x) c is = absurd (ok_err A x c is)
of_fault A E fault (Err e) c is = subst IsOfBytes (same_cause A (DocRefused (fault e)) c is) tt

of_both : (A B : Type 0) (x : Result A Cause) (next : A → Result B Cause) → ((c : Cause) → x ≡ errs A c → IsOfBytes c) → ((a : A) (c : Cause) → next a ≡ errs B c → IsOfBytes c)
    → (c : Cause) → and_then x next ≡ errs B c → IsOfBytes c
of_both A B (Ok a) next first second c is = second a c is
of_both A B (Err e) next first second c is = subst IsOfBytes (same_cause B e c is) (first e refl)

of_either : (bytes : Text) (json : Bool) (c : Cause) → (if json then with_fault Json (json_tree bytes) else with_fault Yaml (reading bytes)) ≡ errs Shape c → IsOfBytes c
of_either bytes true c is = of_fault Shape _ Json (json_tree bytes) c is
of_either bytes false c is = of_fault Shape _ Yaml (reading bytes) c is

of_tree : (bytes : Text) (c : Cause) → tree_of bytes ≡ errs Shape c → IsOfBytes c
unfolding tree_of
of_tree bytes c is = of_either bytes (begins_json bytes) c is

of_policy : (bytes : Text) (c : Cause) → policy bytes ≡ errs PolicyData c → IsOfBytes c
unfolding policy
of_policy bytes c is = of_both Shape PolicyData (tree_of bytes) (λ tree. with_fault Policy (policy_of_tree tree)) (of_tree bytes) (λ tree. of_fault PolicyData _ Policy (policy_of_tree tree)) c is

of_hardware : (bytes : Text) (c : Cause) → hardware_list bytes ≡ errs (List Link) c → IsOfBytes c
unfolding hardware_list
of_hardware bytes c is = of_both Shape (List Link) (tree_of bytes) (λ tree. with_fault Schema (hardware_of_tree tree)) (of_tree bytes) (λ tree. of_fault (List Link) _ Schema (hardware_of_tree tree)) c is

of_batch : (x : Result (List Call) BatchFault) (c : Cause) → with_batch x ≡ errs (List Call) c → IsOfBytes c
of_batch (Ok calls) c is = absurd (ok_err (List Call) calls c is)
of_batch (Err (batch.Line n)) c is = subst IsOfBytes (same_cause (List Call) (BatchLine n) c is) tt
of_batch (Err batch.TooLarge) c is = subst IsOfBytes (same_cause (List Call) BatchLarge c is) tt
of_batch (Err batch.OutOfMemory) c is = subst IsOfBytes (same_cause (List Call) OutOfMemory c is) tt

of_calls : (bytes : Text) (c : Cause) → calls_of bytes ≡ errs (List Call) c → IsOfBytes c
of_calls bytes c is = of_batch (batch_of bytes) c is

-- the order of a policy or of a document, once its tree was read
module _ (from_policy : PolicyData → Order) (from_document : Doc → Order) where
  abbrev IsOfTree : Result Order Cause → Type 0
  IsOfTree order = (c : Cause) → order ≡ errs Order c → IsOfBytes c

  of_ordered : (A E : Type 0) (fault : E → DocFault) (order : A → Order) (x : Result A E) → IsOfTree (and_then (with_fault fault x) (λ y. goes Order (order y)))
  of_ordered A E fault order (Ok x) c is = absurd (ok_err Order (order x) c is)
  of_ordered A E fault order (Err e) c is = subst IsOfBytes (same_cause Order (DocRefused (fault e)) c is) tt

  of_word : (tree : Shape) (word : Bool) → IsOfTree (if word then and_then (with_fault Policy (policy_of_tree tree)) (λ p. goes Order (from_policy p)) else and_then (with_fault Schema (document_of_tree tree)) (λ doc. goes Order (from_document doc)))
  of_word tree true c is = of_ordered PolicyData _ Policy from_policy (policy_of_tree tree) c is
  of_word tree false c is = of_ordered Doc _ Schema from_document (document_of_tree tree) c is

  of_shape : (tree : Shape) → IsOfTree (policy_or_document from_policy from_document tree)
  of_shape tree c is = of_word tree (is_policy tree) c is

-- what an input holds is refused, or there is no such name
abbrev IsUnmade : Inputs → Option Text → Cause → Type 0
IsUnmade inputs file c = IsOfBytes c ⊎ ((c ≡ NoSuchName) × (inputs (unwrap_or file stdin) ≡ None))

module _ (A : Type 0) (make : Text → Result A Cause) (makes : (bytes : Text) (c : Cause) → make bytes ≡ errs A c → IsOfBytes c) where
  of_found : (bytes : Option Text) (c : Cause) → and_then (found bytes) make ≡ errs A c → IsOfBytes c ⊎ ((c ≡ NoSuchName) × (bytes ≡ None))
  of_found None c is = inr (sym (same_cause A NoSuchName c is), refl)
  of_found (Some bytes) c is = inl (makes (take read_limit bytes) c is)

  of_input : (in_script : Bool) (inputs : Inputs) (name file : Option Text) → read_there in_script name ≡ Some file → (c : Cause) → and_then (input in_script inputs name) make ≡ errs A c → IsUnmade inputs file c
  of_input true inputs None file there c is = absurd (none_some file there)
  of_input true inputs (Some name) file there c is = subst (λ (f : Option Text). IsUnmade inputs f c) (same_file (Some name) file there) (of_found (inputs name) c is)
  of_input false inputs None file there c is = subst (λ (f : Option Text). IsUnmade inputs f c) (same_file None file there) (of_found (inputs stdin) c is)
  of_input false inputs (Some name) file there c is = subst (λ (f : Option Text). IsUnmade inputs f c) (same_file (Some name) file there) (of_found (inputs name) c is)

  of_order : (x : Result A Cause) (order : A → Order) (c : Cause) → and_then x (λ made. goes Order (order made)) ≡ errs Order c → x ≡ errs A c
  of_order (Ok made) order c is = absurd (ok_err Order (order made) c is)
  of_order (Err e) order c is = ap (errs A) (same_cause Order e c is)

-- the tree isn't read, or it is refused
of_next : (first : Result Text Cause) (file : Option Text) (next : Shape → Result Order Cause) (inputs : Inputs) → ((c : Cause) → and_then first tree_of ≡ errs Shape c → IsUnmade inputs file c)
    → ((tree : Shape) (c : Cause) → next tree ≡ errs Order c → IsOfBytes c) → (c : Cause) → and_then (and_then first tree_of) next ≡ errs Order c → IsUnmade inputs file c
of_next first file next inputs unread refused = of_it (and_then first tree_of) unread
  where
    of_it : (tree : Result Shape Cause) → ((c : Cause) → tree ≡ errs Shape c → IsUnmade inputs file c) → (c : Cause) → and_then tree next ≡ errs Order c → IsUnmade inputs file c
    of_it (Ok tree) unread c is = inl (refused tree c is)
    of_it (Err e) unread c is = subst (IsUnmade inputs file) (same_cause Order e c is) (unread e refl)

-- a command whose FILE may be read is refused for what that input holds, or there is no such name
named_refused : (in_script : Bool) (inputs : Inputs) (command : Option Command) (file : Option Text) → file_read in_script command ≡ Some file
    → (c : Cause) → order_named in_script inputs command ≡ errs Order c → IsUnmade inputs file c
named_refused in_script inputs None file there c is = absurd (none_some file there)
named_refused in_script inputs (Some (Show only json)) file there c is = absurd (none_some file there)
named_refused in_script inputs (Some (Plan name in_batch)) file there c is =
    of_next (input in_script inputs name) file (policy_or_document (λ p. planning_policy p in_batch) (λ doc. planning doc in_batch)) inputs
    (of_input Shape tree_of of_tree in_script inputs name file there) (of_shape (λ p. planning_policy p in_batch) (λ doc. planning doc in_batch)) c is
named_refused in_script inputs (Some (PrintValue name)) file there c is =
    of_input PolicyData policy of_policy in_script inputs name file there c (of_order PolicyData policy of_policy (and_then (input in_script inputs name) policy) evaluating c is)
named_refused in_script inputs (Some (Simulate name)) file there c is =
    of_input (List Call) calls_of of_calls in_script inputs name file there c (of_order (List Call) calls_of of_calls (and_then (input in_script inputs name) calls_of) simulating c is)
named_refused in_script inputs (Some (Apply name no_commit no_verify timeout)) file there c is =
    let how = opts no_commit no_verify timeout in
    of_next (input in_script inputs name) file (policy_or_document (λ p. applying_policy p how) (λ doc. applying doc how)) inputs
    (of_input Shape tree_of of_tree in_script inputs name file there) (of_shape (λ p. applying_policy p how) (λ doc. applying doc how)) c is
named_refused in_script inputs (Some Commit) file there c is = absurd (none_some file there)
named_refused in_script inputs (Some Rollback) file there c is = absurd (none_some file there)
named_refused in_script inputs (Some Recover) file there c is = absurd (none_some file there)
named_refused in_script inputs (Some Check) file there c is = absurd (none_some file there)
named_refused in_script inputs (Some (Init name)) file there c is =
    of_input (List Link) hardware_list of_hardware in_script inputs name file there c (of_order (List Link) hardware_list of_hardware (and_then (input in_script inputs name) hardware_list) making c is)
named_refused in_script inputs (Some (Script name)) file there c is = absurd (none_some file there)
named_refused in_script inputs (Some (Generate count seed)) file there c is = absurd (none_some file there)
named_refused in_script inputs (Some (Service dir)) file there c is = absurd (none_some file there)
named_refused in_script inputs (Some (Rollout limit name dirs)) file there c is = absurd (none_some file there)

-- ---- of a run that was refused

-- the report is of this cause, or of a sink's fault with its status
abbrev pub IsToldOf : Cause → Report → Type 0
IsToldOf c report = (report.cause ≡ c) ⊎ (report.cause ≡ WriteFault (status_of c))

pub told_of : (tells : Type 0) (c : Cause) (out_text err_text : Text) (out out_after err err_after : SinkView) (report : Report) → Spoken tells c out_text err_text out out_after err err_after report → IsToldOf c report
told_of tells c out_text err_text out out_after err err_after report (inl (all, is)) = inl (ap (λ (x : Report). x.cause) is)
told_of tells c out_text err_text out out_after err err_after report (inr (some, is)) = inr (ap (λ (x : Report). x.cause) is)

abbrev failed : Cause → Result Asked Cause
failed c = Err c

not_usage : (inputs : Inputs) (file : Option Text) → IsUnmade inputs file Usage → ⊥
not_usage inputs file (inl never) = never
not_usage inputs file (inr (is, none)) = usage_no_name is

no_name : (inputs : Inputs) (file : Option Text) → IsUnmade inputs file NoSuchName → inputs (unwrap_or file stdin) ≡ None
no_name inputs file (inl never) = absurd never
no_name inputs file (inr (is, none)) = none

module _ (r : Run) (untouched : Type 0) where
  abbrev ReadsSo : Cause → Type 0
  ReadsSo c = Reads as_defined (λ inputs. order_of r.in_script inputs r.words) r.source_tells r.source r.source_after (failed c)

  of_file : (file : Option Text) → file_read r.in_script (command_of r.words) ≡ Some file → (c : Cause) → TakesFile untouched r.source_tells r.source r.source_after (Some file) (failed c)
      → ReadsSo c → IsToldOf c r.report → TakesOnly r (Some file)
  of_file file there Usage taken reads told = absurd (not_usage reads.0 file (named_refused r.in_script reads.0 (command_of r.words) file there Usage reads.2))
  of_file file there NoSuchName taken reads told =
      inr (inl (λ t. ap (λ (inputs : Inputs). inputs (unwrap_or file stdin)) (sym (reads.1 t)) ∙ no_name reads.0 file (named_refused r.in_script reads.0 (command_of r.words) file there NoSuchName reads.2)))
  of_file file there (DocRefused fault) taken reads told = inl taken
  of_file file there (BadLine n) taken reads told = inl taken
  of_file file there (BatchLine n) taken reads told = inl taken
  of_file file there BatchLarge taken reads told = inl taken
  of_file file there ReadFault taken reads told = inr (inr (inl reads.0))
  of_file file there OutOfMemory taken reads told = inr (inr (inr told))
  of_file file there c taken reads told = absurd reads

  -- nothing was taken but what the words ask for
  pub takes_refused : (untouched → r.source_after ≡ r.source) → (file : Option (Option Text)) → file_read r.in_script (command_of r.words) ≡ file → (c : Cause)
      → TakesFile untouched r.source_tells r.source r.source_after file (failed c) → ReadsSo c → IsToldOf c r.report → TakesOnly r file
  takes_refused same None there c taken reads told = same taken
  takes_refused same (Some file) there c taken reads told = of_file file there c taken reads told

-- where memory ran out before anything was read, nothing was taken
pub nothing_taken : (r : Run) → r.source_after ≡ r.source → IsToldOf OutOfMemory r.report → (file : Option (Option Text)) → TakesOnly r file
nothing_taken r same told None = same
nothing_taken r same told (Some file) = inr (inr (inr told))
