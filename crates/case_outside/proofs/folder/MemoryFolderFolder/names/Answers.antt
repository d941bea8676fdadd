use Rattle.std.proofs.Common.{rules, ◌≡◌, ◌∙◌, ap}
use Rattle.std.specs.List.{flat_map}
use Rattle.net_model.specs.Order.{name_cmp}
use Rattle.net_model.specs.Words.{sorted}
use Rattle.case_outside.specs.FolderRecord.{listed_of}
use Rattle.case_outside.proofs.FolderMarks.{listed_pending}
use Rattle.case_outside.proofs.folder.MemoryFolderFolder.names.Goals as goal

pub returns-in-Ok-clause-names : goal.returns-in-Ok-clause-names
returns-in-Ok-clause-names c =
    let files = c.args.self.now.files.items in
    let are : c.in-Ok.names.items ≡ sorted name_cmp (flat_map listed_of files) = search rules in
    are ∙ ap (sorted name_cmp) (listed_pending files)
