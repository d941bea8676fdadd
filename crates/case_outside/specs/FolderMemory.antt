-- What a folder in memory tells.
use Rattle.std.specs.Prelude.{drop, reverse, refl}
use Rattle.host_core.specs.Folders.{FolderView, IsLawfulFolder}
use Rattle.case_outside.specs.FolderRecord.{unmarked, stops_of}
use Rattle.case_outside.specs.FolderLawful.{stops_lawful, unmarked_differ}
use Rattle.case_outside.specs.declared.folder.MemoryFolder.{MemoryFolder}

abbrev pub folder_told : MemoryFolder → FolderView
folder_told m = record {
  files = unmarked m.files.items;
  stops = stops_of m.files.items (reverse m.log.items);
  left = drop m.from m.begun.items;
  faults = m.faults;
}

pub lawful_folder : (m : MemoryFolder) → IsLawfulFolder (Unit {0}) (folder_told m)
lawful_folder m = record {
  stops = stops_lawful m.files.items (reverse m.log.items);
  reads = λ tells. refl;
  differ = λ tells. unmarked_differ m.files.items m.apart;
}
