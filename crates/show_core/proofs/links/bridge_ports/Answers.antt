use Rattle.std.proofs.Common.{◌∙◌, Global, Vec, ap, map, sym}
use Rattle.doc_tree.specs.Shape.{shape}
use Rattle.doc_tree.specs.declared.tree.Tree.{Tree}
use Rattle.net_model.specs.Links.{is_port_of}
use Rattle.show_core.specs.Links.{bridge_port}
use Rattle.show_core.proofs.lemmas.Turns.{turn_where, turn_past}
use Rattle.show_core.proofs.links.bridge_ports.Goals.{then-is_port_of+in_ok-tree+in_ok-push, else-is_port_of}
use Rattle.show_core.proofs.links.bridge_ports.Goals as goal

pub loop-link-preserved : goal.loop-link-preserved
loop-link-preserved c =
    let links = c.args.links.now in
    let before = c.loop-link.trees.items in
    elim c.if-is_port_of.branch [
      | then-is_port_of+in_ok-tree+in_ok-push w ↦
          turn_where bridge_port links c.loop-link.link-index c.link-item.result c.loop-link-test.true c.link-item.is
          before (is_port_of c.args.bridge.now) (sym c.is_port_of.ensures ∙ w.if-is_port_of.true) c.if-is_port_of.trees.items w.in_ok-tree.tree
          w.in_ok-tree.ensures c.loop-link.invariant (ap (λ (v : Vec Tree Global). v.items) w.trees-is ∙ w.in_ok-push.ensures.items)
      | else-is_port_of w ↦
          ap (λ (v : Vec Tree Global). map shape v.items) w.trees-is
          ∙ turn_past bridge_port links c.loop-link.link-index c.link-item.result c.loop-link-test.true c.link-item.is
          before (is_port_of c.args.bridge.now) (sym c.is_port_of.ensures ∙ w.if-is_port_of.false) c.loop-link.invariant
    ]
