use Rattle.std.proofs.Common.{rules, ◌≡◌, ◌∷◌, ◌++◌, [], get_or, Some, sym, subst, true}
use Rattle.std.specs.List.{position}
use Rattle.std.proofs.lemmas.List.Quantifiers.{position-Some}
use Rattle.case_outside.specs.FolderRecord.{is_unmarked_named}
use Rattle.case_outside.specs.declared.folder.FolderFile.{FolderFile}
use Rattle.case_outside.proofs.FolderMarks.{made}
use Rattle.case_outside.proofs.folder.mark_named.Goals as goal

pub returns : goal.returns
returns c =
    let files = c.args.files.now.items in
    let place = c.in-Some.place in
    let file = c.index_mut.result.now in
    let there : position (is_unmarked_named c.args.name.now) files ≡ Some place = search rules in
    let at = position-Some (is_unmarked_named c.args.name.now) files place file there in
    let is : file ≡ get_or files place file = search rules in
    let named : is_unmarked_named c.args.name.now file ≡ true = subst (λ (g : FolderFile). is_unmarked_named c.args.name.now g ≡ true) (sym is) at.1 in
    let noted : c.note.new.log.items ≡ c.args.log.now.items ++ c.args.name.now ∷ [] = search rules in
    made c.args.name.now files place file c.args.log.now.items c.note.new.log.items c.requires at.0 is named noted
