use Rattle.std.proofs.Common.{◌≡◌, take}
use Rattle.std.specs.List.{flat_map}
use Rattle.case_outside.specs.FolderRecord.{listed_of}
use Rattle.case_outside.proofs.folder.listed.Given as goal

-- the names of the files so far
abbrev pub invariant-loop-file : goal.invariant-loop-file
invariant-loop-file l = l.names.items ≡ flat_map listed_of (take l.file-index l.files)
