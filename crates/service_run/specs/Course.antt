-- The documents of a service as they went: each is read and served on what the one before it left, and told behind it.
use Rattle.std.specs.Prelude.{◌≡◌, ◌⊎◌, true, ℕ, ⊤, Bool, List, [], ◌∷◌, ◌++◌, Result, Ok, Err}
use Rattle.document_model.specs.declared.Doc.{Doc}
use Rattle.document_model.specs.Entries.{is_document}
use Rattle.host_core.specs.Clocks.{Ticks}
use Rattle.host_core.specs.Faults.{Rose}
use Rattle.host_core.specs.Folders.{pending_names}
use Rattle.host_core.specs.declared.Host.{Ghosts as HostGhosts}
use Rattle.host_core.specs.declared.Folder.{Ghosts as FolderGhosts}
use Rattle.host_core.specs.declared.Sink.{Ghosts as SinkGhosts}
use Rattle.host_core.specs.declared.Clock.{Ghosts as ClockGhosts}
use Rattle.boot_service.specs.Serving.{Serves}
use Rattle.boot_service.specs.declared.fault.ServeFault.{ServeFault}
use Rattle.top_model.specs.Orders.{Text}
use Rattle.top_model.specs.Texts.{error_line, note_lines}
use Rattle.top_model.specs.declared.report.Report.{Report}
use Rattle.top_model.specs.declared.report.Cause.{Cause}
use Rattle.top_model.specs.declared.report.Cause.TheVariants.{Done, FolderFault, OutOfMemory}
use Rattle.service_run.specs.Documents.{applied_line, at_line, serve_cause}
use Rattle.service_run.specs.Reading.{GoesOn, ReadsDocument}
use Rattle.service_run.specs.Telling.{Sinks, Speaks, told_as}

-- a host, a folder, two sinks and a clock, as they are between two documents, and whether all was written so far
pub record World (X Y Z V : Type 0) : Type 0 where
  pub host : X
  pub folder : Y
  pub out : Z
  pub err : Z
  pub clock : V
  pub is_open : Bool

abbrev pub world : {X Y Z V : Type 0} → X → Y → Z → Z → V → Bool → World X Y Z V
world host folder out err clock is_open = record { host = host; folder = folder; out = out; err = err; clock = clock; is_open = is_open }

module _ {X Y Z V : Type 0} (H : HostGhosts X) (F : FolderGhosts Y) (W : SinkGhosts Z) (C : ClockGhosts V) where
  abbrev pub sinks_of : World X Y Z V → Sinks
  sinks_of w = record { out = W.told w.out; err = W.told w.err }

  -- these texts were written, or the beginnings of them where a sink failed
  abbrev pub Said : Text → Text → World X Y Z V → World X Y Z V → Type 0
  Said out_text err_text old new = Speaks W.tells out_text err_text (sinks_of old) (sinks_of new) old.is_open new.is_open

  -- the document of this name was read, and served with this answer; that is its serving, of which a stop may fall inside
  pub record Served (name : Text) (now : ℕ) (old new : World X Y Z V) (result : Result ⊤ ServeFault) : Type 0 where
    pub doc : Doc
    pub right : is_document doc ≡ true
    -- the folder once the document was read
    pub read : Y
    pub reads : ReadsDocument F.tells name (F.told old.folder) (F.told read) (Ok doc)
    pub serves : Serves H.honest H.tells F.tells doc name now (H.told old.host) (H.told new.host) (F.told read) (F.told new.folder) (new.folder ≡ read) result

  -- the clock was asked once, and gave this moment
  abbrev pub Asked : ℕ → World X Y Z V → World X Y Z V → Type 0
  Asked now old new = C.tells → Ticks (C.coming old.clock) now (C.coming new.clock)

  -- a document behind which the service goes on: it was applied and marked, which was told
  pub record WentOn (name : Text) (old new : World X Y Z V) : Type 0 where
    pub now : ℕ
    pub asked : Asked now old new
    pub served : Served name now old new (Ok tt)
    pub said : Said (applied_line name) (note_lines served.doc.notes) old new

  -- documents one after another, behind each of which the service went on
  abbrev pub Went : List Text → World X Y Z V → World X Y Z V → Type 0
  Went [] old new = new ≡ old
  Went (name ∷ names) old new = (mid : World X Y Z V) × WentOn name old mid × Went names mid new

  -- Why a service stops at a document: it isn't read, or there is no memory for its notes, and no call was made on the host; or it
  -- is served with a fault.
  pub data StopsFor (name : Text) (now : ℕ) (old new : World X Y Z V) : Text → Cause → Type 0 where
    unread : (cause : Cause) → new.host ≡ old.host → ReadsDocument F.tells name (F.told old.folder) (F.told new.folder) (Err cause) → StopsFor name now old new [] cause
    unnoted : new.host ≡ old.host → GoesOn F.tells (F.told old.folder) (F.told new.folder) → StopsFor name now old new [] OutOfMemory
    unserved : (fault : ServeFault) (served : Served name now old new (Err fault)) → StopsFor name now old new (note_lines served.doc.notes) (serve_cause fault)

  -- the document at which it stops, and how that is told: its notes, its name, and the line of the cause
  pub record Stopped (name : Text) (old new : World X Y Z V) (report : Report) : Type 0 where
    pub now : ℕ
    pub asked : Asked now old new
    pub notes : Text
    pub cause : Cause
    pub stops : StopsFor name now old new notes cause
    pub said : Said [] (notes ++ at_line name ++ error_line cause) old new
    pub told : report ≡ told_as cause new.is_open

  -- no document is left, or the first of those that are left stopped it
  abbrev pub EndsWith : List Text → World X Y Z V → World X Y Z V → Report → Type 0
  EndsWith [] old new report = (new ≡ old) × (report ≡ told_as Done new.is_open)
  EndsWith (name ∷ names) old new report = Stopped name old new report

  -- the documents of these names: some went on, and then it ended
  pub record Ran (names : List Text) (old new : World X Y Z V) (report : Report) : Type 0 where
    pub done : List Text
    pub more : List Text
    pub all : names ≡ done ++ more
    pub mid : World X Y Z V
    pub went : Went done old mid
    pub ends : EndsWith more mid new report

  -- the folder gave no names, and nothing else was done but to tell it
  pub record Unlisted (old new : World X Y Z V) (report : Report) : Type 0 where
    pub cause : Cause
    pub host : new.host ≡ old.host
    pub folder : GoesOn F.tells (F.told old.folder) (F.told new.folder)
    pub fails : (cause ≡ OutOfMemory) ⊎ ((cause ≡ FolderFault) × Rose (F.told old.folder).faults (F.told new.folder).faults)
    pub said : Said [] (error_line cause) old new
    pub told : report ≡ told_as cause new.is_open

  -- the folder gave the names of the pending files, and the documents were served
  pub record Listed (old new : World X Y Z V) (report : Report) : Type 0 where
    pub names : List Text
    pub listed : Y
    pub folder : GoesOn F.tells (F.told old.folder) (F.told listed)
    pub are : F.tells → names ≡ pending_names (F.told old.folder).files
    pub ran : Ran names (record old { folder = listed }) new report
