-- All that the program does: what its words ask for, and what is promised of each.
use Rattle.std.specs.Prelude.{◌≡◌, ◌≢◌, ◌⊎◌, ℕ, List, [], ◌∷◌, Bool, true, false, length, map, codes, Option, Some, String, string_bytes}
use Rattle.std.specs.Str.{bytes_eq}
use Rattle.std.specs.declared.alloc.Global.{Global}
use Rattle.host_core.specs.declared.Clock.{Ghosts as ClockGhosts}
use Rattle.host_core.specs.declared.Folder.{Ghosts as FolderGhosts}
use Rattle.host_core.specs.declared.Host.{Ghosts as HostGhosts}
use Rattle.host_core.specs.declared.Sink.{Ghosts as SinkGhosts}
use Rattle.host_core.specs.declared.Source.{Ghosts as SourceGhosts}
use Rattle.command_words.specs.Words.{command_of}
use Rattle.command_words.specs.declared.command.Command.{Command}
use Rattle.command_words.specs.declared.command.Command.TheVariants.{Service, Rollout}
use Rattle.top_model.specs.Commands.{Commanded}
use Rattle.top_model.specs.Orders.{Text}
use Rattle.top_model.specs.Texts.{error_line}
use Rattle.top_model.specs.declared.report.Report.{Report}
use Rattle.top_model.specs.declared.report.Cause.{Cause}
use Rattle.top_model.specs.declared.report.Cause.TheVariants.{Usage, OutOfMemory}
use Rattle.answer_text.specs.Speaking.{Spoken}
use Rattle.service_run.specs.Course.{World as ServiceWorld, world as service_world}
use Rattle.service_run.specs.Services.{IsService}
use Rattle.rollout_top.specs.Rollouts.{World as RolloutWorld, world as rollout_world, RolloutAnswers}

-- a host, the nodes of a rollout, a source, a folder of documents, two sinks and a clock
pub record World (X Y F Z T : Type 0) : Type 0 where
  pub host : X
  pub nodes : List X
  pub source : Y
  pub folder : F
  pub out : Z
  pub err : Z
  pub clock : T

abbrev pub world : {X Y F Z T : Type 0} → X → List X → Y → F → Z → Z → T → World X Y F Z T
world host nodes source folder out err clock = record { host = host; nodes = nodes; source = source; folder = folder; out = out; err = err; clock = clock }

-- what of it a service works with, where all was written so far or wasn't
abbrev pub for_service : {X Y F Z T : Type 0} → Bool → World X Y F Z T → ServiceWorld X F Z T
for_service whole w = service_world w.host w.folder w.out w.err w.clock whole

-- and a rollout
abbrev pub for_rollout : {X Y F Z T : Type 0} → World X Y F Z T → RolloutWorld X Y Z T
for_rollout w = rollout_world w.nodes w.source w.out w.err w.clock

-- the first word is this one
abbrev pub begins_with : Text → List Text → Bool
begins_with first [] = false
begins_with first (word ∷ words) = bytes_eq word first

module _ {X Y F Z T : Type 0} (H : HostGhosts X) (S : SourceGhosts Y) (D : FolderGhosts F) (W : SinkGhosts Z) (C : ClockGhosts T)
    (words : List (String Global)) (old new : World X Y F Z T) (report : Report) where
  -- `run_command` of these words, which works with one host
  pub record Commands : Type 0 where
    pub commanded : Commanded H S W C words old.clock new.clock old.host new.host old.source new.source old.out new.out old.err new.err report
    pub nodes : new.nodes ≡ old.nodes
    pub folder : new.folder ≡ old.folder

  -- the documents of the folder are served
  pub record Serves : Type 0 where
    -- whether all was written
    pub whole : Bool
    pub served : IsService H D W C (for_service true old) (for_service whole new) report
    pub nodes : new.nodes ≡ old.nodes
    pub source : new.source ≡ old.source

  -- the document of the FILE is rolled out over the nodes
  pub record RollsOut (limit : ℕ) (file : Text) : Type 0 where
    pub rolled : RolloutAnswers H S C W limit file (for_rollout old) (for_rollout new) report
    pub host : new.host ≡ old.host
    pub folder : new.folder ≡ old.folder

  -- the cause is told, and nothing else is done
  pub record OnlyTells (cause : Cause) : Type 0 where
    pub told : Spoken W.tells cause [] (error_line cause) (W.told old.out) (W.told new.out) (W.told old.err) (W.told new.err) report
    pub host : new.host ≡ old.host
    pub nodes : new.nodes ≡ old.nodes
    pub source : new.source ≡ old.source
    pub folder : new.folder ≡ old.folder
    pub clock : new.clock ≡ old.clock

  -- as many nodes as folders, or no rollout
  abbrev pub RollsOver : ℕ → Text → List Text → Type 0
  RollsOver limit file dirs = ((length old.nodes ≡ length dirs) × RollsOut limit file) ⊎ ((length old.nodes ≢ length dirs) × OnlyTells Usage)

  abbrev pub AnswerOf : Option Command → Type 0
  AnswerOf (Some (Service dir)) = Serves
  AnswerOf (Some (Rollout limit file dirs)) = RollsOver limit file dirs
  AnswerOf other = Commands

  -- the answer of the command that they are, or there was no memory to read them
  abbrev pub Answers : Type 0
  Answers = AnswerOf (command_of (map string_bytes words)) ⊎ OnlyTells OutOfMemory

  -- All that is promised of the program's words.
  pub record Programmed : Type 0 where
    -- words that begin neither with `service` nor with `rollout` are `run_command`'s
    pub command : begins_with (codes "service") (map string_bytes words) ≡ false → begins_with (codes "rollout") (map string_bytes words) ≡ false → Commands
    -- `service DIR` is a service and `rollout LIMIT FILE DIR..` a rollout; all other words that begin so are `run_command`'s
    pub folders : (begins_with (codes "service") (map string_bytes words) ≡ true) ⊎ (begins_with (codes "rollout") (map string_bytes words) ≡ true)
        → Answers
