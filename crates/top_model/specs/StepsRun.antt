-- The steps of a script as they went: each is a command of its own, on what the step before it left, with a line of its
-- status behind it.
use Rattle.std.specs.Prelude.{◌≡◌, true, false, List, [], ◌∷◌, ◌++◌}
use Rattle.host_core.specs.declared.Source.{Ghosts as SourceGhosts}
use Rattle.host_core.specs.declared.Sink.{Ghosts as SinkGhosts}
use Rattle.host_core.specs.declared.Host.{Ghosts as HostGhosts}
use Rattle.top_model.specs.Lines.{Timed}
use Rattle.top_model.specs.Runs.{Run}
use Rattle.top_model.specs.Told.{report_of}
use Rattle.top_model.specs.Answered.{Answered}
use Rattle.top_model.specs.StepsDone.{StatusWritten}
use Rattle.top_model.specs.declared.report.Report.{Report}
use Rattle.top_model.specs.declared.report.Cause.TheVariants.{Done, WriteFault}

-- a host, a source and two sinks, as they are between two steps
pub record World (H S W : Type 0) : Type 0 where
  pub host : H
  pub source : S
  pub out : W
  pub err : W

abbrev pub world : {H S W : Type 0} → H → S → W → W → World H S W
world host source out err = record { host = host; source = source; out = out; err = err }

-- more was written to the output
abbrev pub with_out : {H S W : Type 0} → World H S W → W → World H S W
with_out w out = record w { out = out }

-- a step as a run of a command
abbrev pub step_run : {H S W : Type 0} → HostGhosts H → SourceGhosts S → SinkGhosts W → Timed → World H S W → World H S W → Report → Run
step_run H S W step old new report = record {
  words = step.words;
  in_script = true;
  now = step.at;
  honest = H.honest;
  host_tells = H.tells;
  source_tells = S.tells;
  sinks_tell = W.tells;
  host = H.told old.host;
  host_after = H.told new.host;
  source = S.told old.source;
  source_after = S.told new.source;
  out = W.told old.out;
  out_after = W.told new.out;
  err = W.told old.err;
  err_after = W.told new.err;
  untouched = new.host ≡ old.host;
  report = report;
}

-- a step behind which the script goes on: it was answered, and then the line of its status was written
pub record WentOn {X Y Z : Type 0} (H : HostGhosts X) (S : SourceGhosts Y) (W : SinkGhosts Z) (step : Timed) (old told : World X Y Z) (out : Z) : Type 0 where
  pub report : Report
  pub answered : Answered (step_run H S W step old told report)
  pub line : StatusWritten W.tells report.status (W.told told.out) (W.told out) true
  pub not_cut : report.status ≡ 7 → ⊥
  pub not_out : report.status ≡ 8 → ⊥

-- steps one after another, behind each of which the script went on
abbrev pub Went : {X Y Z : Type 0} → HostGhosts X → SourceGhosts Y → SinkGhosts Z → List Timed → World X Y Z → World X Y Z → Type 0
Went H S W [] old new = new ≡ old
Went {X = X} {Y = Y} {Z = Z} H S W (step ∷ steps) old new = (told : World X Y Z) × (out : Z) × WentOn H S W step old told out × Went H S W steps (with_out told out) new

-- the step that ended a script: a sink failed in it, or at the line of its status, or memory ran out
pub data Ending {X Y Z : Type 0} (H : HostGhosts X) (S : SourceGhosts Y) (W : SinkGhosts Z) (told new : World X Y Z) (ended report : Report) : Type 0 where
  cut : ended.status ≡ 7 → new ≡ told → report ≡ ended → Ending H S W told new ended report
  unlined : (out : Z) → new ≡ with_out told out → StatusWritten W.tells ended.status (W.told told.out) (W.told out) false → report ≡ report_of (WriteFault ended.status)
      → Ending H S W told new ended report
  ran_out : (out : Z) → new ≡ with_out told out → StatusWritten W.tells ended.status (W.told told.out) (W.told out) true → ended.status ≡ 8 → report ≡ ended
      → Ending H S W told new ended report

pub record EndedBy {X Y Z : Type 0} (H : HostGhosts X) (S : SourceGhosts Y) (W : SinkGhosts Z) (step : Timed) (old new : World X Y Z) (report : Report) : Type 0 where
  pub told : World X Y Z
  pub ended : Report
  pub answered : Answered (step_run H S W step old told ended)
  pub ending : Ending H S W told new ended report

-- no step is left, or the first of those that are left ended the script
abbrev pub EndsWith : {X Y Z : Type 0} → HostGhosts X → SourceGhosts Y → SinkGhosts Z → List Timed → World X Y Z → World X Y Z → Report → Type 0
EndsWith H S W [] old new report = (new ≡ old) × (report ≡ report_of Done)
EndsWith H S W (step ∷ steps) old new report = EndedBy H S W step old new report

-- a script ran: these steps went on, and then it ended
pub record StepsRun {X Y Z : Type 0} (H : HostGhosts X) (S : SourceGhosts Y) (W : SinkGhosts Z) (steps : List Timed) (old new : World X Y Z) (report : Report) : Type 0 where
  pub done : List Timed
  pub more : List Timed
  pub all : steps ≡ done ++ more
  pub mid : World X Y Z
  pub went : Went H S W done old mid
  pub end : EndsWith H S W more mid new report
