use Rattle.std.proofs.Common.{rules, ◌≡◌, ◌∙◌, get_or, Some, None, sym, ap, subst, true}
use Rattle.std.specs.List.{position}
use Rattle.std.specs.Option.{option_map}
use Rattle.std.proofs.lemmas.List.Quantifiers.{position-Some}
use Rattle.host_core.specs.Folders.{File}
use Rattle.case_outside.specs.FolderRecord.{is_unmarked_named}
use Rattle.case_outside.specs.declared.folder.FolderFile.{FolderFile}
use Rattle.case_outside.proofs.FolderMarks.{found_at, found_nowhere, nowhere}
use Rattle.case_outside.proofs.folder.MemoryFolderFolder.start.Goals as goal

pub returns-in_default-clause-no_such : goal.returns-in_default-clause-no_such
returns-in_default-clause-no_such c = λ is.
    let files = c.args.self.now.files.items in
    let none : position (is_unmarked_named c.args.name.now) files ≡ None = search rules in
    ap (option_map (λ (f : File). f.bytes)) (found_nowhere c.args.name.now files (nowhere (is_unmarked_named c.args.name.now) files none))

pub returns-clause-begins : goal.returns-clause-begins
returns-clause-begins c =
    let files = c.args.self.now.files.items in
    let place = c.in-Some.place in
    let file = c.index.result.now in
    let there : position (is_unmarked_named c.args.name.now) files ≡ Some place = search rules in
    let at = position-Some (is_unmarked_named c.args.name.now) files place file there in
    let is : file ≡ get_or files place file = search rules in
    let named : is_unmarked_named c.args.name.now file ≡ true = subst (λ (g : FolderFile). is_unmarked_named c.args.name.now g ≡ true) (sym is) at.1 in
    let same : c.in-Ok.begun.items ≡ file.bytes.items = search rules in
    ap (option_map (λ (f : File). f.bytes)) (found_at c.args.name.now files place file at.0 is named at.2) ∙ ap (λ xs. Some xs) (sym same)
