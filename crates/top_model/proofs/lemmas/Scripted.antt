-- The command `script`, from the reading of its lines and the run of its steps.
use Rattle.std.proofs.Common.{◌≡◌, ◌∙◌, ◌⊎◌, inl, inr, refl, sym, ap, subst, ℕ, ◌≤◌, Bool, false, List, Option, Some, None}
use Rattle.std.specs.Prelude.{option_map, Result, Ok, Err}
use Rattle.host_core.specs.Streams.{SourceView}
use Rattle.host_core.proofs.lemmas.Counts.{rose_after}
use Rattle.engine_model.specs.Stations.{Only, at}
use Rattle.command_words.specs.Words.{command_of}
use Rattle.top_model.specs.Orders.{Text, Inputs, and_then, input}
use Rattle.top_model.specs.Lines.{Timed, steps_of}
use Rattle.top_model.specs.Runs.{Run, reads, HostRose, HostRoseTwice, reads_after}
use Rattle.top_model.specs.Told.{Told}
use Rattle.top_model.specs.Causes.{MayWant}
use Rattle.top_model.specs.Exits.{AtExit}
use Rattle.top_model.specs.Scripts.{order_in, StepGrounds, StepTexts, Folds, IsFold, IsCutShort, Folded, file_of, as_steps, KeepsFrom, IsUnrun, IsRun, ScriptAnswered, IsScript}
use Rattle.top_model.specs.declared.report.Cause.{Cause}
use Rattle.top_model.specs.declared.report.Cause.TheVariants.{OutOfMemory}
use Rattle.top_model.proofs.lemmas.Settles.{same_some}

-- all lines are read before a step is run, whatever else is said of the run
pub is_script : (r : Run) (runs : List Timed → Type 0) → ScriptAnswered r runs → IsScript r runs
is_script r runs a script asks =
    let same : a.script ≡ script = same_some a.script script (sym a.gives.2 ∙ asks a.gives.0 a.gives.1) in
    subst (λ s. IsUnrun r s ⊎ IsRun r runs s) same a.comes

some_none : {X : Type 0} (x : X) → Some x ≡ None → ⊥
some_none x e = cc

-- another command has no script
pub no_script : (r : Run) (runs : List Timed → Type 0) → file_of (command_of r.words) ≡ None → IsScript r runs
no_script r runs none script asks = absurd (some_none script (sym (asks r.source.inputs (λ t. refl))
    ∙ ap (λ (file : Option (Option Text)). option_map (λ f. and_then (input false r.source.inputs f) (λ bytes. as_steps (steps_of bytes))) file) none))

keeps_memory : (r : Run) (script : Result (List Timed) Cause) → MayWant r → KeepsFrom r script OutOfMemory
keeps_memory r (Ok steps) may = tt
keeps_memory r (Err refusal) may = may

-- memory ran out before the words were known
pub ran_out : (r : Run) (runs : List Timed → Type 0) → MayWant r → r.untouched → Told r (Err OutOfMemory) (Err OutOfMemory) → IsScript r runs
ran_out r runs may untouched told script asks = inl (record { cause = OutOfMemory; keeps = keeps_memory r script may; untouched = untouched; takes = λ file is. tt; told = told })

-- ---- the steps are run after the lines were read

module _ (r : Run) (words : List Text) (in_script : Bool) (now : ℕ) (untouched : Type 0) (source : SourceView)
    (inputs : r.source_tells → source.inputs ≡ r.source.inputs) (later : r.source.faults ≤ source.faults) (steps : List Timed) where
  abbrev inner : Run
  inner = record r { words = words; in_script = in_script; now = now; untouched = untouched; source = source }

  fold_read : r.source_tells → IsFold inner steps → IsFold r steps
  fold_read tells f = record {
    out = f.out;
    err = f.err;
    last = f.last;
    folds = subst (λ (i : Inputs). Folds i steps (reads r) f.out f.err f.last) (inputs tells) f.folds;
    wrote = record { to_out = f.wrote.to_out; to_err = f.wrote.to_err; report = f.wrote.report };
    stands = f.stands;
  }

  cut_read : r.source_tells → IsCutShort inner steps → IsCutShort r steps
  cut_read tells f = record {
    done = f.done;
    step = f.step;
    more = f.more;
    all = f.all;
    out = f.out;
    err = f.err;
    last = f.last;
    folds = subst (λ (i : Inputs). Folds i f.done (reads r) f.out f.err f.last) (inputs tells) f.folds;
    step_out = f.step_out;
    step_err = f.step_err;
    texts = subst (λ (i : Inputs). StepTexts (StepGrounds i f.step f.last) (order_in i f.step) (Err OutOfMemory) f.step_out f.step_err) (inputs tells) f.texts;
    wrote = record { to_out = f.wrote.to_out; to_err = f.wrote.to_err; report = f.wrote.report };
    stands = let P : Inputs → Type 0 = λ i. AtExit f.step.at (at f.last) (Only (reads_after r)) (HostRose r) (HostRoseTwice r) (order_in i f.step) (Err OutOfMemory) in subst P (inputs tells) f.stands;
  }

  -- a fold of the steps is one of the whole run
  pub folded_read : Folded steps inner → Folded steps r
  folded_read f alone tells quiet steady =
      let ran = f (record { honest = alone.honest; sound = alone.sound }) tells
      (record { host = quiet.host; source = λ rose. quiet.source (rose_after r.source.faults source.faults r.source_after.faults later rose) }) steady in
      elim ran as (λ v. IsFold r steps ⊎ IsCutShort r steps) [ inl fold ↦ inl (fold_read tells fold) | inr cut ↦ inr (cut_read tells cut) ]
