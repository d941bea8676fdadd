use Rattle.std.proofs.Common.{◌∙◌, ap, sym, arith}
use Rattle.serde_json.proofs.Views.{view-Array, view-Object}
use Rattle.serde_json.specs.View.{items_view, members_view}
use Rattle.doc_tree.specs.Reading.{within}
use Rattle.doc_tree.proofs.Levels.{within-array, within-object}
use Rattle.doc_tree.proofs.read.+levels.Goals as goal

pub fits-returns-in-Array : goal.fits-returns-in-Array
fits-returns-in-Array t c =
    rw c.in-Array.is (c.items_fit.ensures ∙ (within-array c.args.room (items_view c.in-Array.items.items) (omega arith) ∙ ap (within c.args.room) (sym (view-Array c.in-Array.items))))

pub fits-returns-in-Object : goal.fits-returns-in-Object
fits-returns-in-Object t c =
    rw c.in-Object.is (c.members_fit.ensures ∙ (within-object c.args.room (members_view c.in-Object.members.entries) (omega arith) ∙ ap (within c.args.room) (sym (view-Object c.in-Object.members))))
