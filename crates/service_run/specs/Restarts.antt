-- Services one after another: each was stopped or ended, and behind it a `recover` was done.
use Rattle.std.specs.Prelude.{◌≡◌, ◌⊎◌, List, Some, map, String, string_bytes}
use Rattle.std.specs.declared.alloc.Global.{Global}
use Rattle.net_model.specs.NetData.{NetData, IsNet}
use Rattle.host_core.specs.Folders.{File, Files, HasFiles}
use Rattle.host_core.specs.HostView.{State, HostView}
use Rattle.host_core.specs.declared.Host.{Ghosts as HostGhosts}
use Rattle.host_core.specs.declared.Folder.{Ghosts as FolderGhosts}
use Rattle.host_core.specs.declared.Source.{Ghosts as SourceGhosts}
use Rattle.host_core.specs.declared.Sink.{Ghosts as SinkGhosts}
use Rattle.host_core.specs.declared.Clock.{Ghosts as ClockGhosts}
use Rattle.command_words.specs.Words.{command_of}
use Rattle.command_words.specs.declared.command.Command.TheVariants.{Recover}
use Rattle.boot_service.specs.Stops.{pending, IsAt}
use Rattle.top_model.specs.Commands.{Commanded}
use Rattle.top_model.specs.declared.report.Report.{Report}
use Rattle.top_model.specs.declared.report.Cause.TheVariants.{Done, WriteFault}
use Rattle.service_run.specs.Course.{World}
use Rattle.service_run.specs.Services.{Service, Enters, IsFolded, IsService, service_of}

-- ---- between a service and the next

-- a stop now leaves this pair alone
abbrev pub LeavesOnly : State → HostView → Type 0
LeavesOnly s host = (x : State) → host.stops.may_leave x → x ≡ s

-- a stop now leaves no pair that one there doesn't leave too
abbrev pub LeavesNoMore : HostView → HostView → Type 0
LeavesNoMore there host = (x : State) → host.stops.may_leave x → there.stops.may_leave x

-- a stop inside the serving of some document, or at the exit of the service, leaves this pair with these files that aren't marked
abbrev pub LeftBy : Service → State → Files → Type 0
LeftBy r s files = r.leaves_inside s files ⊎ (r.host_after.stops.may_leave s × r.folder_after.stops.may_leave files)

-- a service is over: this host is there, and these files aren't marked
pub data IsOver (r : Service) (host : HostView) (files : Files) : Type 0 where
  -- it was stopped: the host starts with a pair that the stop left with these files, and nothing of it is in doubt
  stopped : (s : State) → LeftBy r s files → LeavesOnly s host → IsOver r host files
  -- it ended, with whatever answer: the host is as it left it, and so are the files
  ended : LeavesNoMore r.host_after host → r.folder_after.stops.may_leave files → IsOver r host files

-- a command that made the one host of the other is over: it was stopped, or it ended
abbrev pub IsBehind : HostView → HostView → HostView → Type 0
IsBehind old new host = ((s : State) × new.stops.left_since old.stops.moment s × LeavesOnly s host) ⊎ LeavesNoMore new host

module _ {X Y T Z V : Type 0} (H : HostGhosts X) (F : FolderGhosts Y) (S : SourceGhosts T) (W : SinkGhosts Z) (C : ClockGhosts V) where
  -- `run_command` answered the words `recover`, and made the one host of the other
  pub record Recovers (old new : X) : Type 0 where
    pub words : List (String Global)
    pub is_recover : command_of (map string_bytes words) ≡ Some Recover
    pub source : T
    pub source_after : T
    pub out : Z
    pub out_after : Z
    pub err : Z
    pub err_after : Z
    pub clock : V
    pub clock_after : V
    pub report : Report
    pub answered : Commanded H S W C words clock clock_after old new source source_after out out_after err err_after report

  -- the service is over, and recoveries came to this host, each of which was stopped or ended with whatever answer
  pub data MayRecover (r : Service) (files : Files) : X → Type 0 where
    untried : (host : X) → IsOver r (H.told host) files → MayRecover r files host
    tried : (old new host : X) → MayRecover r files old → Recovers old new → IsBehind (H.told old) (H.told new) (H.told host) → MayRecover r files host

  -- From a first network, with all documents, any number of services came to this host and this folder. At the first of them no
  -- checkpoint stands; at none is a mark in doubt.
  pub data CameTo (first : NetData) (all : List File) : X → Y → Type 0 where
    -- none yet
    begins : (host : X) (folder : Y) → IsNet first → IsAt first (H.told host) → HasFiles (F.told folder).files (F.told folder) → pending (F.told folder).files ≡ all → CameTo first all host folder
    -- one more, which began where those before it came to; it is over, and a recovery was done. A sink may have failed behind that
    again : (old new : World X Y Z V) (report : Report) (service : IsService H F W C old new report) → CameTo first all old.host old.folder
        → (files : Files) (host next : X) → MayRecover (service_of H F W C old new report service.course) files host
        → (by : Recovers host next) → (by.report.cause ≡ Done) ⊎ (by.report.cause ≡ WriteFault 0)
        → (folder : Y) → (F.told folder).files ≡ files → HasFiles files (F.told folder) → CameTo first all next folder

  -- a service that begins where services came to enters there: all that is said of one from its entry on holds
  abbrev pub EntersAgain : Type 0
  EntersAgain = (first : NetData) (all : List File) (old new : World X Y Z V) (report : Report) (service : IsService H F W C old new report) → H.honest → F.tells
      → CameTo first all old.host old.folder → Enters (service_of H F W C old new report service.course) first all

  -- and where it is done it came to exactly the fold of all documents, each of which was taken once
  abbrev pub FoldsAll : Type 0
  FoldsAll = (first : NetData) (all : List File) (old new : World X Y Z V) (report : Report) (service : IsService H F W C old new report) → H.honest → F.tells
      → CameTo first all old.host old.folder → (report.cause ≡ Done) ⊎ (report.cause ≡ WriteFault 0) → IsFolded (service_of H F W C old new report service.course) first all
