-- What the stops of a folder in memory, and the names of its files, keep to.
use Rattle.std.specs.Prelude.{◌≡◌, ◌≤◌, ℕ, List, [], ◌∷◌, length, map, true, false, not, cond, filter, refl}
use Rattle.std.specs.List.{list_any}
use Rattle.std.proofs.Common.{inl, inr, arith}
use Rattle.net_model.specs.Name.{same_bytes}
use Rattle.net_model.specs.Words.{apart}
use Rattle.net_model.proofs.lemmas.Truth.{and_left, and_right, and_both, not_true, not_false, or_left_false, or_right_false}
use Rattle.host_core.specs.Folders.{File, Files, is_named}
use Rattle.host_core.specs.Stops.{IsLawful}
use Rattle.case_outside.specs.FolderRecord.{differ, file_of, is_unmarked, unmarked, LeftSince, stops_of}
use Rattle.case_outside.specs.declared.folder.FolderFile.{FolderFile}

counts : (names : List (List ℕ)) (files : List FolderFile) (t : ℕ) (s : Files) → t ≤ length names → s ≡ unmarked files → LeftSince t names files s
counts [] files t s le left = left
counts (name ∷ names) files t s le left = inl left

only : (names : List (List ℕ)) (files : List FolderFile) (s : Files) → LeftSince (length names) names files s → s ≡ unmarked files
only [] files s left = left
only (name ∷ names) files s (inl left) = left
only (name ∷ names) files s (inr (le, left)) = absurd (omega arith)

pub stops_lawful : (files : List FolderFile) (names : List (List ℕ)) → IsLawful (stops_of files names)
stops_lawful files names = record { counts_now = counts names files; only_now = only names files }

none_there : (f : FolderFile) (files : List FolderFile) → list_any (λ (b : FolderFile). same_bytes f.name b.name) files ≡ false → list_any (λ (b : File). is_named b.name (file_of f)) (unmarked files) ≡ false
none_there f [] none = refl
none_there f (b ∷ bs) none =
    let rest = none_there f bs (or_right_false (same_bytes f.name b.name) (list_any (λ (c : FolderFile). same_bytes f.name c.name) bs) none) in
    let one = or_left_false (same_bytes f.name b.name) (list_any (λ (c : FolderFile). same_bytes f.name c.name) bs) none in
    elim (b.marked) as (λ v. list_any (λ (c : File). is_named c.name (file_of f)) (map file_of (cond (not v) (b ∷ filter is_unmarked bs) (filter is_unmarked bs))) ≡ false) [
      | true ↦ rest
      | false ↦ rw one rest
    ]

-- the names of those that aren't marked differ too
pub unmarked_differ : (files : List FolderFile) → differ files ≡ true → apart (λ (a b : File). is_named b.name a) (unmarked files) ≡ true
unmarked_differ [] h = refl
unmarked_differ (f ∷ files) h =
    let rest = unmarked_differ files (and_right (not (list_any (λ (b : FolderFile). same_bytes f.name b.name) files)) (differ files) h) in
    let alone = none_there f files (not_true (list_any (λ (b : FolderFile). same_bytes f.name b.name) files) (and_left (not (list_any (λ (b : FolderFile). same_bytes f.name b.name) files)) (differ files) h)) in
    elim (f.marked) as (λ v. apart (λ (a b : File). is_named b.name a) (map file_of (cond (not v) (f ∷ filter is_unmarked files) (filter is_unmarked files))) ≡ true) [
      | true ↦ rest
      | false ↦ and_both (not (list_any (λ (b : File). is_named b.name (file_of f)) (unmarked files))) (apart (λ (a b : File). is_named b.name a) (unmarked files))
          (not_false (list_any (λ (b : File). is_named b.name (file_of f)) (unmarked files)) alone) rest
    ]
