-- What the files of a folder are to a service: documents, which are taken or refused.
use Rattle.std.specs.Prelude.{List, ◌++◌, take, codes, flat_map, Option, None, Result, Ok, Err}
use Rattle.net_model.specs.NetData.{NetData}
use Rattle.document_model.specs.declared.Doc.{Doc}
use Rattle.document_model.specs.declared.Refused.{Refused}
use Rattle.host_core.specs.Folders.{File}
use Rattle.merge_model.specs.MergedNet.{merge}
use Rattle.boot_service.specs.Fold.{Taking}
use Rattle.boot_service.specs.Stops.{merged_or}
use Rattle.boot_service.specs.declared.fault.ServeFault.{ServeFault}
use Rattle.boot_service.specs.declared.fault.ServeFault.TheVariants.{Apply, NotMarked}
use Rattle.top_model.specs.Machine.{apply_cause}
use Rattle.top_model.specs.Orders.{Text, document, read_limit}
use Rattle.top_model.specs.Said.{line}
use Rattle.top_model.specs.declared.report.Cause.{Cause}
use Rattle.top_model.specs.declared.report.Cause.TheVariants.{Done, MergeRefused, FolderFault}

-- what is read of a file: the limit of a document and one byte
abbrev pub document_of : File → Result Doc Cause
document_of file = document (take read_limit file.bytes)

-- a document that can be read and merged is taken, and every other is refused
abbrev pub taken_as : NetData → Result Doc Cause → Option NetData
taken_as net (Ok doc) = merged_or (merge net doc)
taken_as net (Err cause) = None

abbrev pub taking : Taking File
taking net file = taken_as net (document_of file)

-- why it is refused
abbrev pub refusal_of : Result NetData Refused → Cause
refusal_of (Ok to) = Done
refusal_of (Err refused) = MergeRefused refused

abbrev pub why_of : NetData → Result Doc Cause → Cause
why_of net (Ok doc) = refusal_of (merge net doc)
why_of net (Err cause) = cause

abbrev pub why : NetData → File → Cause
why net file = why_of net (document_of file)

-- the cause of a fault of a document's serving
abbrev pub serve_cause : ServeFault → Cause
serve_cause (Apply fault) = apply_cause fault
serve_cause NotMarked = FolderFault

-- the line of a document that was applied and marked, and the one before the error of a document at which a service stops
abbrev pub applied_line : Text → Text
applied_line name = line (codes "applied " ++ name)

abbrev pub at_line : Text → Text
at_line name = line (codes "at " ++ name)

abbrev pub applied_lines : List Text → Text
applied_lines names = flat_map applied_line names
