-- The command `script`, from the reading of its lines.
use Rattle.std.proofs.Common.{◌≡◌, ◌≢◌, ◌∙◌, ◌⊎◌, inl, inr, refl, sym, ap, subst, List, Option, Some, None}
use Rattle.std.specs.Prelude.{[], false, option_map, Result, Ok, Err, Vec}
use Rattle.std.specs.declared.alloc.Global.{Global}
use Rattle.command_words.specs.Words.{command_of}
use Rattle.command_words.specs.declared.Command.TheVariants.{Commit, Rollback, Recover}
use Rattle.order_reading.specs.Reading.{Reads, Takes}
use Rattle.order_reading.specs.Steps.{seen}
use Rattle.top_model.specs.Orders.{Text, Inputs, and_then, input}
use Rattle.top_model.specs.Lines.{Timed, steps_of}
use Rattle.top_model.specs.Texts.{status_of, error_line}
use Rattle.top_model.specs.Runs.{Run, SourceRose}
use Rattle.top_model.specs.Taking.{Took}
use Rattle.top_model.specs.Told.{Told}
use Rattle.top_model.specs.Causes.{MayWant}
use Rattle.top_model.specs.Scripts.{Folded, EndsSteps, file_of, as_steps, GivesScript, KeepsFrom, TakesLines, ScriptAnswered}
use Rattle.top_model.specs.declared.Step.{Step}
use Rattle.top_model.specs.declared.report.Cause.{Cause}
use Rattle.top_model.specs.declared.report.Cause.TheVariants.{DocRefused, Usage, BadLine, BatchLine, BatchLarge, NoSuchName, ReadFault, OutOfMemory}
use Rattle.top_model.proofs.lemmas.Stepping.{seven_ends, eight_ends}
use Rattle.top_model.proofs.lemmas.Wanting.{lone_is}
use Rattle.answer_text.specs.Speaking.{Spoken}
use Rattle.answer_text.proofs.lemmas.Told.{told_refused}

-- a step that ends the steps is out of memory, or a sink failed in it
pub ends_steps : (c : Cause) → (status_of c ≡ 7) ⊎ (status_of c ≡ 8) → EndsSteps c
ends_steps c is = elim is as (λ v. EndsSteps c) [ inl e ↦ seven_ends c e | inr e ↦ eight_ends c e ]

none_some : (file : Option Text) → None ≡ Some file → ⊥
none_some file e = cc

same_file : (a b : Option Text) → Some a ≡ Some b → a ≡ b
same_file a b e = cc

abbrev failed : Cause → Result (Vec Step Global) Cause
failed c = Err c

abbrev Steps : Type 0
Steps = Result (List Timed) Cause

module _ (r : Run) (runs : List Timed → Type 0) (file : Option Text) (is : file_of (command_of r.words) ≡ Some file) where
  -- no single word is a script
  may_want : MayWant r
  may_want = record {
    commit = λ alone. none_some file (ap file_of (sym (lone_is r.words Commit alone)) ∙ is);
    rollback = λ t alone. absurd (none_some file (ap file_of (sym (lone_is r.words Rollback alone)) ∙ is));
    recover = λ t alone. absurd (none_some file (ap file_of (sym (lone_is r.words Recover alone)) ∙ is));
  }

  abbrev read : Inputs → Steps
  read inputs = and_then (input false inputs file) (λ bytes. as_steps (steps_of bytes))

  -- these inputs give this script
  gives : (inputs : Inputs) → (r.source_tells → inputs ≡ r.source.inputs) → (script : Steps) → read inputs ≡ script → GivesScript r script
  gives inputs may_read script same =
      (inputs, may_read, ap (λ (f : Option (Option Text)). option_map (λ f. and_then (input false inputs f) (λ bytes. as_steps (steps_of bytes))) f) is ∙ ap Some same)

  -- its steps are run
  pub run : (steps : Vec Step Global) → Reads seen read r.source_tells r.source r.source_after (Ok steps) → Folded (seen steps) r → EndsSteps r.report.cause → runs (seen steps) → ScriptAnswered r runs
  run steps reads folded ends ran = record { script = Ok (seen steps); gives = gives reads.0 reads.1 (Ok (seen steps)) reads.2; comes = inr (folded, ends, ran) }

  module _ (untouched : r.untouched) where
    -- of what was taken nothing is said but of a bad line
    abbrev Limits : Cause → Type 0
    Limits c = (f : Option Text) → file_of (command_of r.words) ≡ Some f → TakesLines r f c

    unrun : (inputs : Inputs) → (r.source_tells → inputs ≡ r.source.inputs) → (script : Steps) → read inputs ≡ script → (c : Cause) → KeepsFrom r script c → Limits c → Told r (Err c) (Err c)
        → ScriptAnswered r runs
    unrun inputs may_read script same c keeps takes told = record {
      script = script;
      gives = gives inputs may_read script same;
      comes = inl (record { cause = c; keeps = keeps; untouched = untouched; takes = takes; told = told });
    }

    keeps_memory : (script : Steps) → KeepsFrom r script OutOfMemory
    keeps_memory (Ok steps) = tt
    keeps_memory (Err refusal) = may_want

    keeps_unread : (script : Steps) → SourceRose r → script ≢ Err Usage → KeepsFrom r script ReadFault
    keeps_unread (Ok steps) rose other = rose
    keeps_unread (Err refusal) rose other = (rose, λ usage. other (ap (λ (c : Cause). refuse c) usage))
      where
        refuse : Cause → Steps
        refuse c = Err c

    abbrev Speaks : Cause → Type 0
    Speaks c = Spoken r.sinks_tell c [] (error_line c) r.out r.out_after r.err r.err_after r.report

    -- no step of it is run
    pub refused : (c : Cause) → Reads seen read r.source_tells r.source r.source_after (failed c) → Takes r.source_tells r.source r.source_after file (failed c) → Speaks c → ScriptAnswered r runs
    refused Usage reads taken told = unrun reads.0 reads.1 (Err Usage) reads.2 Usage refl (λ f there. tt) (told_refused r (Err Usage) Usage [] refl told)
    refused NoSuchName reads taken told = unrun reads.0 reads.1 (Err NoSuchName) reads.2 NoSuchName refl (λ f there. tt) (told_refused r (Err NoSuchName) NoSuchName [] refl told)
    refused (DocRefused fault) reads taken told =
        unrun reads.0 reads.1 (Err (DocRefused fault)) reads.2 (DocRefused fault) refl (λ f there. tt) (told_refused r (Err (DocRefused fault)) (DocRefused fault) [] refl told)
    refused (BadLine n) reads taken told =
        unrun reads.0 reads.1 (Err (BadLine n)) reads.2 (BadLine n) refl (λ f there t. subst (Took r.source r.source_after) (same_file file f (sym is ∙ there)) (taken t))
        (told_refused r (Err (BadLine n)) (BadLine n) [] refl told)
    refused (BatchLine n) reads taken told = unrun reads.0 reads.1 (Err (BatchLine n)) reads.2 (BatchLine n) refl (λ f there. tt) (told_refused r (Err (BatchLine n)) (BatchLine n) [] refl told)
    refused BatchLarge reads taken told = unrun reads.0 reads.1 (Err BatchLarge) reads.2 BatchLarge refl (λ f there. tt) (told_refused r (Err BatchLarge) BatchLarge [] refl told)
    refused ReadFault reads taken told =
        unrun r.source.inputs (λ t. refl) (read r.source.inputs) refl ReadFault (keeps_unread (read r.source.inputs) reads.0 (reads.1 r.source.inputs)) (λ f there. tt)
        (told_refused r (Err ReadFault) ReadFault [] refl told)
    refused OutOfMemory reads taken told =
        unrun r.source.inputs (λ t. refl) (read r.source.inputs) refl OutOfMemory (keeps_memory (read r.source.inputs)) (λ f there. tt) (told_refused r (Err OutOfMemory) OutOfMemory [] (inl refl) told)
    refused c reads taken told = absurd reads
