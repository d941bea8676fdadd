use Rattle.std.proofs.Common.{List, ℕ, subst}
use Rattle.top_model.specs.Orders.{document}
use Rattle.order_reading.specs.Reading.{Answers, itself}
use Rattle.service_run.proofs.Readings.{read_as}
use Rattle.service_run.proofs.reading.read_document.Goals as goal

pub returns-clause-reads : goal.returns-clause-reads
returns-clause-reads g c =
    read_as g.F.Folder.tells c.args.name.now (g.F.Folder.told c.args.folder.now) (g.F.Folder.told c.read_file.new.folder) c.in_ok-bytes.bytes c.document_in.result c.in_ok-bytes.ensures
    (subst (λ (bytes : List ℕ). Answers itself (document bytes) c.document_in.result) c.as_slice.ensures.value c.document_in.ensures.read)
