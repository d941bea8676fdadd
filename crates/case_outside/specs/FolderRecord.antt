-- The files of a folder in memory, and their marks.
use Rattle.std.specs.Prelude.{◌≡◌, ◌⊎◌, ◌≤◌, ℕ, List, [], ◌∷◌, ◌++◌, length, map, Bool, true, false, not, ◌&&◌, if◌then◌else◌, filter}
use Rattle.net_model.specs.Name.{same_bytes}
use Rattle.net_model.specs.Words.{apart}
use Rattle.host_core.specs.Folders.{File, Files, ends_in_yml, without}
use Rattle.host_core.specs.Stops.{Stops}
use Rattle.case_outside.specs.declared.folder.FolderFile.{FolderFile}

-- no two files have one name
abbrev pub differ : List FolderFile → Bool
differ files = apart (λ (a b : FolderFile). same_bytes a.name b.name) files

abbrev pub file_of : FolderFile → File
file_of f = record { name = f.name; bytes = f.bytes.items }

abbrev pub is_unmarked : FolderFile → Bool
is_unmarked f = not f.marked

-- the files that aren't marked
abbrev pub unmarked : List FolderFile → Files
unmarked files = map file_of (filter is_unmarked files)

-- the file of this name, where it isn't marked
abbrev pub is_unmarked_named : List ℕ → FolderFile → Bool
is_unmarked_named name f = is_unmarked f && same_bytes f.name name

-- the files, of which that of this name is marked or isn't
abbrev pub flagged : Bool → List ℕ → List FolderFile → List FolderFile
flagged mark name [] = []
flagged mark name (f ∷ files) = (if same_bytes f.name name then record f { marked = mark } else f) ∷ flagged mark name files

-- what was left at some moment from this one on, by the names that were marked so far, the last of them first
abbrev pub LeftSince : ℕ → List (List ℕ) → List FolderFile → Files → Type 0
LeftSince t [] files s = s ≡ unmarked files
LeftSince t (name ∷ earlier) files s = (s ≡ unmarked files) ⊎ ((t ≤ length earlier) × LeftSince t earlier (flagged false name files) s)

-- no mark is ever in doubt, and a moment is the number of marks before it
abbrev pub stops_of : List FolderFile → List (List ℕ) → Stops Files
stops_of files names = record {
  moment = length names;
  may_leave = λ s. s ≡ unmarked files;
  left_since = λ t s. LeftSince t names files s;
}

-- the name of a file that is pending
abbrev pub listed_of : FolderFile → List (List ℕ)
listed_of f = if is_unmarked f && ends_in_yml f.name then f.name ∷ [] else []

-- The file of a name, which wasn't marked, is marked, and its name is noted behind the others.
pub record IsMarking (name : List ℕ) (old new : List FolderFile) (log log_after : List (List ℕ)) : Type 0 where
  pub left : unmarked new ≡ without name (unmarked old)
  -- the files are those of before, but for the mark
  pub back : flagged false name new ≡ old
  pub apart : differ new ≡ true
  pub noted : log_after ≡ log ++ name ∷ []

-- nothing is marked
pub record IsAsBefore (old new : List FolderFile) (log log_after : List (List ℕ)) : Type 0 where
  pub files : new ≡ old
  pub noted : log_after ≡ log

abbrev pub MarksNamed : List ℕ → List FolderFile → List FolderFile → List (List ℕ) → List (List ℕ) → Bool → Type 0
MarksNamed name old new log log_after true = IsMarking name old new log log_after
MarksNamed name old new log log_after false = IsAsBefore old new log log_after

abbrev pub MarksFused : List ℕ → List FolderFile → List FolderFile → List (List ℕ) → List (List ℕ) → Bool → Type 0
MarksFused name old new log log_after true = IsMarking name old new log log_after
MarksFused name old new log log_after false = IsAsBefore old new log log_after ⊎ IsMarking name old new log log_after
