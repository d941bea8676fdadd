-- What came of one document, as the functions that read and serve it say.
use Rattle.std.specs.Prelude.{◌≡◌, ℕ, ⊤, true, [], Option, Some, None, Result, Ok, Err}
use Rattle.document_model.specs.declared.Doc.{Doc}
use Rattle.document_model.specs.Entries.{is_document}
use Rattle.host_core.specs.declared.Host.{Ghosts as HostGhosts}
use Rattle.host_core.specs.declared.Folder.{Ghosts as FolderGhosts}
use Rattle.boot_service.specs.Serving.{Serves}
use Rattle.boot_service.specs.declared.fault.ServeFault.{ServeFault}
use Rattle.top_model.specs.Orders.{Text}
use Rattle.top_model.specs.Texts.{note_lines}
use Rattle.top_model.specs.declared.report.Cause.{Cause}
use Rattle.top_model.specs.declared.report.Cause.TheVariants.{OutOfMemory}
use Rattle.service_run.specs.Documents.{serve_cause}
use Rattle.service_run.specs.Reading.{ReadsDocument}

module _ {X Y : Type 0} (H : HostGhosts X) (F : FolderGhosts Y) where
  abbrev pub ServesOne : Doc → Text → ℕ → X → X → Y → Y → Result ⊤ ServeFault → Type 0
  ServesOne doc name now host host_after folder folder_after result = Serves H.honest H.tells F.tells doc name now (H.told host) (H.told host_after) (F.told folder) (F.told folder_after) (folder_after ≡ folder) result

  -- of a document that was read: it was served, with its notes; or there is no memory for them
  pub data ServedAs (doc : Doc) (name : Text) (now : ℕ) (host host_after : X) (folder folder_after : Y) : Text → Option Cause → Type 0 where
    went : ServesOne doc name now host host_after folder folder_after (Ok tt) → ServedAs doc name now host host_after folder folder_after (note_lines doc.notes) None
    starved : host_after ≡ host → folder_after ≡ folder → ServedAs doc name now host host_after folder folder_after [] (Some OutOfMemory)
    stopped : (fault : ServeFault) → ServesOne doc name now host host_after folder folder_after (Err fault) → ServedAs doc name now host host_after folder folder_after (note_lines doc.notes) (Some (serve_cause fault))

  -- of a file: its document was read and served, or isn't read
  pub data NamedAs (name : Text) (now : ℕ) (host host_after : X) (folder folder_after : Y) : Text → Option Cause → Type 0 where
    readable : (doc : Doc) (mid : Y) (notes : Text) (cause : Option Cause) → is_document doc ≡ true → ReadsDocument F.tells name (F.told folder) (F.told mid) (Ok doc)
        → ServedAs doc name now host host_after mid folder_after notes cause → NamedAs name now host host_after folder folder_after notes cause
    unreadable : (cause : Cause) → host_after ≡ host → ReadsDocument F.tells name (F.told folder) (F.told folder_after) (Err cause) → NamedAs name now host host_after folder folder_after [] (Some cause)
