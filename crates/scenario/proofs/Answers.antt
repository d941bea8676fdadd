-- What the stages answer on an honest host.
use Rattle.std.proofs.Common.{◌≡◌, ◌∙◌, ◌≤◌, inl, ℕ, Bool, true, false, List, [], ◌∷◌, refl, sym, ap, subst, arith, Result, Ok, Err, Option, Some, None}
use Rattle.std.specs.Prelude.{if◌then◌else◌, ◌≢◌, get_or}
use Rattle.std.specs.Prelude.{map, is_none, is_some, IsSome, ⊤}
use Rattle.std.specs.List.{list_all}
use Rattle.net_model.specs.Words.{sorted}
use Rattle.net_model.specs.Hardware.{device_of}
use Rattle.net_model.specs.NetData.{NetData, net_of, no_dns, arranged}
use Rattle.net_model.specs.Order.{link_cmp}
use Rattle.net_model.specs.Valid.{least_broken}
use Rattle.net_model.specs.declared.Link.{Link}
use Rattle.net_model.proofs.lemmas.ByName.{all_map}
use Rattle.net_model.proofs.lemmas.Orders.{link_cmp_total}
use Rattle.net_model.proofs.lemmas.Permute.{list_all-IsPermutation}
use Rattle.net_model.proofs.lemmas.Sorting.{sorted_moves}
use Rattle.net_model.proofs.lemmas.Truth.{and_right}
use Rattle.document_model.specs.declared.Doc.{Doc}
use Rattle.document_model.specs.declared.Refused.{Refused}
use Rattle.merge_model.specs.declared.MergeFault.TheVariants as me
use Rattle.host_core.specs.Faults.{Rose}
use Rattle.host_core.specs.HostView.{State, HostView, IsFirst, IsMade}
use Rattle.host_core.specs.Stops.{Steps, Stays}
use Rattle.host_core.specs.declared.MakeFault.{MakeFault}
use Rattle.host_core.specs.declared.MakeFault.TheVariants as ma
use Rattle.host_core.specs.declared.DumpFault.{DumpFault}
use Rattle.host_core.specs.declared.DumpFault.TheVariants as du
use Rattle.host_core.proofs.lemmas.Counts.{rose_after}
use Rattle.checkpoint_cell.specs.Cell.{Checkpoint, cell_of}
use Rattle.checkpoint_cell.specs.Settled.{Standing, standing, restored_to}
use Rattle.checkpoint_cell.proofs.lemmas.Cells.{gate_shut}
use Rattle.merge_model.specs.MergedNet.{merge}
use Rattle.engine_model.specs.Differing.{differing}
use Rattle.engine_model.specs.Machine.{Outcome, Asked, asked, waiting, apply, merged_as, changed, rollback, restored_as, unless_differing, saved_on}
use Rattle.engine_model.specs.Undone.{stand}
use Rattle.engine_model.specs.Sound.{Sound}
use Rattle.engine_model.specs.Stations.{entry_of, left_by}
use Rattle.engine_model.specs.Exit.{BackExit}
use Rattle.engine_model.specs.Faults.{IsOutcome, ApplyAnswers, BackAnswers, HasSet}
use Rattle.engine_model.specs.declared.Applied.{Applied}
use Rattle.engine_model.specs.declared.ApplyOpts.{ApplyOpts}
use Rattle.engine_model.proofs.lemmas.Leading.{sound_stays}
use Rattle.engine_model.specs.declared.ApplyFault.{ApplyFault}
use Rattle.engine_model.specs.declared.ApplyFault.TheVariants as ap_
use Rattle.engine_model.specs.declared.BackFault.{BackFault}
use Rattle.engine_model.specs.declared.BackFault.TheVariants as ba
use Rattle.engine_model.specs.declared.Left.TheVariants.{NotBegun, RolledBack, Pending}
use Rattle.scenario_model.specs.Asking.{is_hardware, first_net, then_merge, both_merged, options}
use Rattle.scenario_model.specs.Counts.{IsPlanned}
use Rattle.scenario_model.specs.Answering.{MakeAnswers, StepAnswers, RunAnswers, WorkAnswers, IsCalm}
use Rattle.scenario_model.specs.Saying.{MakeSays}
use Rattle.scenario_model.specs.declared.Summary.{Summary}
use Rattle.scenario_model.specs.declared.WorkFault.{WorkFault}
use Rattle.scenario_model.specs.declared.WorkFault.TheVariants.{Make, Dump, Apply, Merge, Back, OutOfMemory}
use Rattle.scenario.specs.Stages.{IsAt, NoPlan, NotMade}

abbrev gives : {A E : Type 0} → A → Result A E
gives a = Ok a

abbrev fails : {A E : Type 0} → E → Result A E
fails e = Err e

one_value : {A E : Type 0} (a b : A) → gives {A = A} {E = E} a ≡ gives b → a ≡ b
one_value a b e = cc

one_fault : {A E : Type 0} (a b : E) → fails {A = A} {E = E} a ≡ fails b → a ≡ b
one_fault a b e = cc

not_both : {A E : Type 0} (a : A) (e : E) → gives {A = A} {E = E} a ≡ fails e → ⊥
not_both a e same = cc

not_either : {A E : Type 0} (a : A) (e : E) → fails {A = A} {E = E} e ≡ gives a → ⊥
not_either a e same = cc

-- the network that stands is the one that is read
pub same_net : (a b : NetData) (host : HostView) → host.state.net ≡ Some a → standing host.state ≡ restored_to b → a ≡ b
same_net a b host is reads = let e : Some a ≡ Some b = sym is ∙ ap (λ (s : Standing). s.net) reads in cc

pub same_found : (a b : NetData) (net : Option NetData) → net ≡ Some a → net ≡ Some b → a ≡ b
same_found a b net one two = let e : Some a ≡ Some b = sym one ∙ two in cc

pub reads_net : (from : NetData) (host : HostView) → standing host.state ≡ restored_to from → host.state.net ≡ Some from
reads_net from host reads = ap (λ (s : Standing). s.net) reads

module _ (made : Result NetData Refused) (a b : ℕ) (le : a ≤ b) (new : HostView) where
  -- a fault that was met since later was met since before
  pub step_answers_from : (fault : WorkFault) → StepAnswers made b new fault → StepAnswers made a new fault
  step_answers_from (Make f) s = absurd s
  step_answers_from (Dump du.Failed) s = rose_after a b new.faults le s
  step_answers_from (Dump du.Damaged) s = absurd s
  step_answers_from (Dump du.OutOfMemory) s = tt
  step_answers_from (Apply (ap_.Pending deadline)) s = absurd s
  step_answers_from (Apply (ap_.MergeRefused refused)) s = s
  step_answers_from (Apply (ap_.HostFault left)) s = rose_after a b new.faults le s
  step_answers_from (Apply (ap_.KernelRefused k n left)) s = absurd s
  step_answers_from (Apply (ap_.NotVerified found left)) s = absurd s
  step_answers_from (Apply ap_.InDoubt) s = rose_after a b new.faults le s
  step_answers_from (Apply (ap_.Damaged area)) s = absurd s
  step_answers_from (Apply (ap_.HardwareDiffers names)) s = absurd s
  step_answers_from (Apply ap_.OutOfMemory) s = tt
  step_answers_from (Merge (me.Refused refused)) s = s
  step_answers_from (Merge me.OutOfMemory) s = tt
  step_answers_from (Back ba.NoCheckpoint) s = absurd s
  step_answers_from (Back (ba.HostFault left)) s = rose_after a b new.faults le s
  step_answers_from (Back (ba.KernelRefused k n left)) s = absurd s
  step_answers_from (Back (ba.Damaged area)) s = absurd s
  step_answers_from (Back (ba.HardwareDiffers names)) s = absurd s
  step_answers_from (Back ba.OutOfMemory) s = tt
  step_answers_from OutOfMemory s = tt

-- the same of the answer of a run
pub run_answers_from : (from : NetData) (first second : Doc) (a b : ℕ) → a ≤ b → (new : HostView) (result : Result Summary WorkFault)
    → RunAnswers from first second b new result → RunAnswers from first second a new result
run_answers_from from first second a b le new (Ok summary) s = record { middle = s.middle; last = s.last; first_plan = s.first_plan; second_plan = s.second_plan; counts = s.counts; stands = s.stands }
run_answers_from from first second a b le new (Err fault) s = step_answers_from (both_merged from first second) a b le new fault s

-- ---- which merge refuses

-- what the first merge refuses both refuse
pub first_refuses : (from : NetData) (first second : Doc) (faults : ℕ) (new : HostView) (fault : WorkFault)
    → StepAnswers (merge from first) faults new fault → StepAnswers (both_merged from first second) faults new fault
first_refuses from first second faults new fault = refuses fault
  where
    broken : (r : Refused) → merge from first ≡ Err r → both_merged from first second ≡ Err r
    broken r is = ap (then_merge second) is

    refuses : (fault : WorkFault) → StepAnswers (merge from first) faults new fault → StepAnswers (both_merged from first second) faults new fault
    refuses (Make f) s = absurd s
    refuses (Dump du.Failed) s = s
    refuses (Dump du.Damaged) s = absurd s
    refuses (Dump du.OutOfMemory) s = tt
    refuses (Apply (ap_.Pending deadline)) s = absurd s
    refuses (Apply (ap_.MergeRefused refused)) s = broken refused s
    refuses (Apply (ap_.HostFault left)) s = s
    refuses (Apply (ap_.KernelRefused k n left)) s = absurd s
    refuses (Apply (ap_.NotVerified found left)) s = absurd s
    refuses (Apply ap_.InDoubt) s = s
    refuses (Apply (ap_.Damaged area)) s = absurd s
    refuses (Apply (ap_.HardwareDiffers names)) s = absurd s
    refuses (Apply ap_.OutOfMemory) s = tt
    refuses (Merge (me.Refused refused)) s = broken refused s
    refuses (Merge me.OutOfMemory) s = tt
    refuses (Back ba.NoCheckpoint) s = absurd s
    refuses (Back (ba.HostFault left)) s = s
    refuses (Back (ba.KernelRefused k n left)) s = absurd s
    refuses (Back (ba.Damaged area)) s = absurd s
    refuses (Back (ba.HardwareDiffers names)) s = absurd s
    refuses (Back ba.OutOfMemory) s = tt
    refuses OutOfMemory s = tt

-- behind the first merge both refuse what the second one does
pub second_refuses : (from middle : NetData) (first second : Doc) (faults : ℕ) (new : HostView) (fault : WorkFault) → merge from first ≡ Ok middle
    → StepAnswers (merge middle second) faults new fault → StepAnswers (both_merged from first second) faults new fault
second_refuses from middle first second faults new fault merges s =
    let same : merge middle second ≡ both_merged from first second = ap (then_merge second) (sym merges) in
    subst (λ (made : Result NetData Refused). StepAnswers made faults new fault) same s

-- where no plan was made
pub no_plan_answers : (doc : Doc) (from : NetData) (faults : ℕ) (new : HostView) (fault : WorkFault) → NoPlan doc from fault → StepAnswers (merge from doc) faults new fault
no_plan_answers doc from faults new (Merge (me.Refused r)) s = s
no_plan_answers doc from faults new (Merge me.OutOfMemory) s = tt
no_plan_answers doc from faults new OutOfMemory s = tt
no_plan_answers doc from faults new (Make f) s = absurd s
no_plan_answers doc from faults new (Dump f) s = absurd s
no_plan_answers doc from faults new (Apply f) s = absurd s
no_plan_answers doc from faults new (Back f) s = absurd s

-- ---- a change

abbrev IsDone : Outcome Applied ApplyFault → Type 0
IsDone o = (done : Applied) × (o.answer ≡ Ok done)

either_done : (b : Bool) (x y : Outcome Applied ApplyFault) → IsDone x → IsDone y → IsDone (if b then x else y)
either_done true x y one two = one
either_done false x y one two = two

changed_done : (a : Asked) (from to : NetData) → IsDone (changed a from to)
changed_done a from to = either_done a.opts.no_commit _ _ (_, refl) (_, refl)

module _ (a : Asked) (from : NetData) (new : HostView) where
  -- of what the merge may give
  never : (m : Result NetData Refused) (fault : ApplyFault) → ((r : Refused) → ap_.MergeRefused r ≡ fault → ⊥) → IsOutcome (merged_as a from m) new (Err fault) → ⊥
  never (Ok to) fault other o = let d = changed_done a from to in not_both d.0 fault (sym d.1 ∙ o.answer)
  never (Err r) fault other o = other r (one_fault (ap_.MergeRefused r) fault o.answer)

  refused_as : (m : Result NetData Refused) (r : Refused) → IsOutcome (merged_as a from m) new (Err (ap_.MergeRefused r)) → m ≡ Err r
  refused_as (Ok to) r o = let d = changed_done a from to in absurd (not_both d.0 (ap_.MergeRefused r) (sym d.1 ∙ o.answer))
  refused_as (Err s) r o = let e : ap_.MergeRefused s ≡ ap_.MergeRefused r = one_fault (ap_.MergeRefused s) (ap_.MergeRefused r) o.answer in cc

  done_as : (m : Result NetData Refused) (done : Applied) → IsOutcome (merged_as a from m) new (Ok done) → (to : NetData) × (m ≡ Ok to) × (standing new.state ≡ (changed a from to).after)
  done_as (Ok to) done o = (to, refl, o.after)
  done_as (Err r) done o = absurd (not_either done (ap_.MergeRefused r) o.answer)

  module _ (old : HostView) (reads : standing old.state ≡ restored_to from) where
    from_net : (result : Result Applied ApplyFault) → IsOutcome (apply a (standing old.state)) new result → IsOutcome (merged_as a from (merge from a.doc)) new result
    from_net result o = subst (λ (e : Standing). IsOutcome (apply a e) new result) reads o

    -- why a change failed
    pub change_answers : (fault : ApplyFault) → ApplyAnswers a old new (Err fault) → StepAnswers (merge from a.doc) old.faults new (Apply fault)
    change_answers (ap_.Pending deadline) s = never (merge from a.doc) (ap_.Pending deadline) (λ r e. cc) (from_net (Err (ap_.Pending deadline)) s)
    change_answers (ap_.MergeRefused r) s = refused_as (merge from a.doc) r (from_net (Err (ap_.MergeRefused r)) s)
    change_answers (ap_.HostFault left) s = s
    change_answers (ap_.KernelRefused k n left) s = absurd s
    change_answers (ap_.NotVerified found left) s = absurd s
    change_answers ap_.InDoubt s = s
    change_answers (ap_.Damaged area) s = never (merge from a.doc) (ap_.Damaged area) (λ r e. cc) (from_net (Err (ap_.Damaged area)) s)
    change_answers (ap_.HardwareDiffers names) s = never (merge from a.doc) (ap_.HardwareDiffers names) (λ r e. cc) (from_net (Err (ap_.HardwareDiffers names)) s)
    change_answers ap_.OutOfMemory s = tt

    -- what a change leads to
    pub change_done : (done : Applied) → ApplyAnswers a old new (Ok done) → (to : NetData) × (merge from a.doc ≡ Ok to) × (standing new.state ≡ (changed a from to).after)
    change_done done s = done_as (merge from a.doc) done (from_net (Ok done) s)

-- ---- its taking back

module _ (from to : NetData) (c : Checkpoint) (saved : c.net ≡ Some from) (old new : HostView) (reads : standing old.state ≡ stand to (Some c)) where
  abbrev taken_to : List (List ℕ) → Outcome ⊤ BackFault
  taken_to names = restored_as tt (stand to (Some c)) (unless_differing from names)

  from_saved : (result : Result ⊤ BackFault) → IsOutcome (rollback (standing old.state)) new result → IsOutcome (taken_to (differing from to)) new result
  from_saved result o =
      subst (λ (net : Option NetData). IsOutcome (restored_as tt (stand to (Some c)) (saved_on net (Some to))) new result) saved
      (subst (λ (e : Standing). IsOutcome (rollback e) new result) reads o)

  back_to : (names : List (List ℕ)) → IsOutcome (taken_to names) new (Ok tt) → standing new.state ≡ restored_to from
  back_to [] o = sym (sym o.after)
  back_to (name ∷ names) o = absurd (not_either tt (ba.HardwareDiffers (name ∷ names)) o.answer)

  not_empty : (names : List (List ℕ)) → IsOutcome (taken_to names) new (Err ba.NoCheckpoint) → ⊥
  not_empty [] o = not_both tt ba.NoCheckpoint o.answer
  not_empty (name ∷ names) o = let e : ba.HardwareDiffers (name ∷ names) ≡ ba.NoCheckpoint = one_fault (ba.HardwareDiffers (name ∷ names)) ba.NoCheckpoint o.answer in cc

  -- why it failed
  pub back_answers : (made : Result NetData Refused) (begins : Type 0) (after : Standing) (fault : BackFault) → BackAnswers begins (rollback (standing old.state)) old new (Err fault)
      → BackExit {A = ⊤} after (entry_of old) (left_by new) (Err fault) → StepAnswers made old.faults new (Back fault)
  back_answers made begins after ba.NoCheckpoint s exit = not_empty (differing from to) (from_saved (Err ba.NoCheckpoint) s)
  back_answers made begins after (ba.HostFault left) s exit = s.0
  back_answers made begins after (ba.KernelRefused k n left) s exit = absurd s
  back_answers made begins after (ba.Damaged area) s exit = exit
  back_answers made begins after (ba.HardwareDiffers names) s exit = exit
  back_answers made begins after ba.OutOfMemory s exit = tt

  -- what it leads to
  pub back_done : (begins : Type 0) → BackAnswers begins (rollback (standing old.state)) old new (Ok tt) → standing new.state ≡ restored_to from
  back_done begins s = back_to (differing from to) (from_saved (Ok tt) s)

-- ---- the first network

closed_none : (bytes : List ℕ) → (get_or bytes 0 1 ≡ 1 → ⊥) → cell_of bytes ≡ None
closed_none bytes closed = gate_shut bytes (λ opens. closed (opened bytes opens))
  where
    opened : (bytes : List ℕ) → get_or bytes 0 0 ≡ 1 → get_or bytes 0 1 ≡ 1
    opened [] is = absurd (omega (arith, is))
    opened (b ∷ bytes) is = is

closed_filled : (bytes : List ℕ) → (get_or bytes 0 1 ≡ 1 → ⊥) → bytes ≡ [] → ⊥
closed_filled bytes closed none = closed (ap (λ (b : List ℕ). get_or b 0 1) none)

-- where a network was made, it stands alone, and each stop can be recovered from
pub made_at : (first : NetData) (old : State) (host : HostView) → IsMade first old host → IsAt (restored_to first) host
made_at first old host is = record {
  sound = record {
    fit = λ s left. record {
      whole = λ checkpoint set.
          let none : cell_of s.cell ≡ None = ap cell_of (is.cell s left) ∙ closed_none host.state.cell is.closed in
          let e : None ≡ Some checkpoint = sym none ∙ set in absurd (cc);
      filled = λ net is_net empty. closed_filled host.state.cell is.closed (sym (is.cell s left) ∙ empty);
    };
    one = inl (Some first, is.nets);
  };
  reads = λ i. record { net = is.net i; cell = closed_none host.state.cell is.closed i };
}

abbrev has_device : Link → Bool
has_device l = is_some (device_of l.name l.kind)

-- the network of a hardware list is of devices alone
pub first_is : (links : List Link) → is_hardware links ≡ true → IsFirst (first_net links)
first_is links is = record {
  devices = sym (list_all-IsPermutation has_device (map arranged links) (sorted link_cmp (map arranged links)) (sorted_moves link_cmp link_cmp_total (map arranged links)))
      ∙ all_map arranged has_device has_device (λ l. refl) links ∙ and_right (is_none (least_broken (net_of links [] [] no_dns))) (list_all has_device links) is;
  routes = refl;
  rules = refl;
  dns = refl;
}

-- it stays so where nothing changes
pub at_stays : (stands : Standing) (old new : HostView) → Steps Stays old.stops new.stops → new.state ≡ old.state → IsAt stands old → IsAt stands new
at_stays stands old new steps same at = record { sound = sound_stays old new at.sound steps; reads = ap standing same ∙ at.reads }

-- ---- why the host gave no network

pub dump_answers : (made : Result NetData Refused) (net : NetData) (old new : HostView) (fault : DumpFault) → old.state.net ≡ Some net → (fault ≡ du.Failed → Rose old.faults new.faults) → (fault ≡ du.Damaged → old.state.net ≡ None)
    → StepAnswers made old.faults new (Dump fault)
dump_answers made net old new du.Failed there rose damaged = rose refl
dump_answers made net old new du.Damaged there rose damaged = let e : Some net ≡ None = sym there ∙ damaged refl in cc
dump_answers made net old new du.OutOfMemory there rose damaged = tt

-- ---- where a change leads

-- one merge gives one network
pub one_target : (from : NetData) (doc : Doc) (a b : NetData) → merge from doc ≡ Ok a → merge from doc ≡ Ok b → a ≡ b
one_target from doc a b one two = let e : gives {A = NetData} {E = Refused} a ≡ gives b = sym one ∙ two in one_value a b e

-- a change that stays
pub at_change : (doc : Doc) (o : ApplyOpts) (now : ℕ) (from to last : NetData) (host : HostView) → o ≡ options false → to ≡ last → IsAt (changed (asked doc o now) from to).after host → IsAt (restored_to last) host
at_change doc o now from to last host lasting same at =
    subst (λ (n : NetData). IsAt (restored_to n) host) same (subst (λ (p : ApplyOpts). IsAt (changed (asked doc p now) from to).after host) lasting at)

-- a change that waits
abbrev pub waits : Doc → ApplyOpts → ℕ → NetData → Checkpoint
waits doc o now from = waiting (asked doc o now) from

pub at_trial : (doc : Doc) (o : ApplyOpts) (now : ℕ) (from to : NetData) (host : HostView) → o ≡ options true → IsAt (changed (asked doc o now) from to).after host → IsAt (stand to (Some (waits doc (options true) now from))) host
at_trial doc o now from to host trying at = subst (λ (p : ApplyOpts). IsAt (changed (asked doc p now) from to).after host) trying at

-- ---- the whole run

pub work_answers : (devices : List Link) (first second : Doc) (old new : HostView) (result : Result Summary WorkFault) → RunAnswers (first_net devices) first second old.faults new result → WorkAnswers devices first second old new result
work_answers devices first second old new (Ok summary) s = s
work_answers devices first second old new (Err (Make f)) s = absurd s
work_answers devices first second old new (Err (Dump f)) s = s
work_answers devices first second old new (Err (Apply f)) s = s
work_answers devices first second old new (Err (Merge f)) s = s
work_answers devices first second old new (Err (Back f)) s = s
work_answers devices first second old new (Err OutOfMemory) s = s

unmade : (old new : HostView) (tells : Type 0) → tells → (fault : MakeFault) → MakeSays tells old new fault → MakeAnswers old new fault
unmade old new tells t ma.Exists s = (s t).0
unmade old new tells t ma.Failed s = s
unmade old new tells t ma.OutOfMemory s = tt

pub unmade_answers : (devices : List Link) (first second : Doc) (old new : HostView) (tells : Type 0) → tells → (fault : WorkFault) → NotMade tells old new fault → WorkAnswers devices first second old new (Err fault)
unmade_answers devices first second old new tells t (Make f) s = unmade old new tells t f s
unmade_answers devices first second old new tells t OutOfMemory s = tt
unmade_answers devices first second old new tells t (Dump f) s = absurd s
unmade_answers devices first second old new tells t (Apply f) s = absurd s
unmade_answers devices first second old new tells t (Merge f) s = absurd s
unmade_answers devices first second old new tells t (Back f) s = absurd s

-- where there was no network and no fault came
module _ (devices : List Link) (first second : Doc) (old new : HostView) (none : old.state.net ≡ None) (quiet : Rose old.faults new.faults → ⊥) where
  some_none : (net : Option NetData) → net ≡ None → IsSome net → ⊥
  some_none (Some net) is some = cc
  some_none None is some = cc

  pub calm : (result : Result Summary WorkFault) → WorkAnswers devices first second old new result → IsCalm result
  calm (Ok summary) s = tt
  calm (Err (Make ma.Exists)) s = some_none old.state.net none s
  calm (Err (Make ma.Failed)) s = quiet s
  calm (Err (Make ma.OutOfMemory)) s = tt
  calm (Err (Dump du.Failed)) s = quiet s
  calm (Err (Dump du.Damaged)) s = s
  calm (Err (Dump du.OutOfMemory)) s = tt
  calm (Err (Apply (ap_.Pending deadline))) s = s
  calm (Err (Apply (ap_.MergeRefused refused))) s = tt
  calm (Err (Apply (ap_.HostFault left))) s = quiet s
  calm (Err (Apply (ap_.KernelRefused k n left))) s = s
  calm (Err (Apply (ap_.NotVerified found left))) s = s
  calm (Err (Apply ap_.InDoubt)) s = quiet s
  calm (Err (Apply (ap_.Damaged area))) s = s
  calm (Err (Apply (ap_.HardwareDiffers names))) s = s
  calm (Err (Apply ap_.OutOfMemory)) s = tt
  calm (Err (Merge f)) s = tt
  calm (Err (Back ba.NoCheckpoint)) s = s
  calm (Err (Back (ba.HostFault left))) s = quiet s
  calm (Err (Back (ba.KernelRefused k n left))) s = s
  calm (Err (Back (ba.Damaged area))) s = s
  calm (Err (Back (ba.HardwareDiffers names))) s = s
  calm (Err (Back ba.OutOfMemory)) s = tt
  calm (Err OutOfMemory) s = tt
