use Rattle.std.proofs.Common.{◌∙◌, Bor, option_map, ap, sym}
use Rattle.doc_tree.specs.Shape.{shape}
use Rattle.doc_tree.specs.declared.Tree.{Tree}
use Rattle.policy_values.specs.Tables.{seen}
use Rattle.policy_values.proofs.Low.{known_low}
use Rattle.policy_values.proofs.filling.text_fits.Goals as goal

pub low_fits-requires : goal.low_fits-requires
low_fits-requires c =
    known_low c.args.low c.args.captures.now (seen c.args.table.now) c.in-Some.inner.now (shape c.in-Some-2.tree.now) c.requires.low
    (sym (ap (option_map (λ (t : Bor Tree). shape t.now)) c.in-Some-2.is) ∙ c.in_ok-tree-in-Some.ensures)
