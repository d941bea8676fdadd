use Rattle.std.proofs.Common.{◌∙◌, Global, Vec, ap, map, sym}
use Rattle.doc_tree.specs.Shape.{shape}
use Rattle.doc_tree.specs.declared.tree.Tree.{Tree}
use Rattle.net_model.specs.Links.{is_named}
use Rattle.show_core.specs.Links.{link_tree}
use Rattle.show_core.proofs.lemmas.Turns.{turn_where, turn_past}
use Rattle.show_core.proofs.network.named_links.Goals.{then-has_name+in_ok-tree+in_ok-push, else-has_name}
use Rattle.show_core.proofs.network.named_links.Goals as goal

pub loop-link-preserved : goal.loop-link-preserved
loop-link-preserved c =
    let links = c.args.links.now in
    let before = c.loop-link.trees.items in
    elim c.if-has_name.branch [
      | then-has_name+in_ok-tree+in_ok-push w ↦
          turn_where (link_tree links) links c.loop-link.link-index c.link-item.result c.loop-link-test.true c.link-item.is
          before (is_named c.args.name.now) (sym c.has_name.ensures ∙ w.if-has_name.true) c.if-has_name.trees.items w.in_ok-tree.tree
          w.in_ok-tree.ensures c.loop-link.invariant (ap (λ (v : Vec Tree Global). v.items) w.trees-is ∙ w.in_ok-push.ensures.items)
      | else-has_name w ↦
          ap (λ (v : Vec Tree Global). map shape v.items) w.trees-is
          ∙ turn_past (link_tree links) links c.loop-link.link-index c.link-item.result c.loop-link-test.true c.link-item.is
          before (is_named c.args.name.now) (sym c.has_name.ensures ∙ w.if-has_name.false) c.loop-link.invariant
    ]
