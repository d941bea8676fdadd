use Rattle.std.proofs.Common.{◌≡◌, ◌∙◌, false, eqb, length, arith, ap, string_bytes}
use Rattle.doc_tree.specs.Shape.{shape, mapping, list}
use Rattle.yaml_text.proofs.Walk.{pairs_seen, items_seen, shape-List, shape-Map, still, puts_whole_list, puts_whole_map}
use Rattle.yaml_text.proofs.write.push_tree.Goals as goal

pub returns-in-List : goal.returns-in-List
returns-in-List c =
    let is : shape c.args.tree.now ≡ list (items_seen c.in-List.trees.items) = ap shape c.in-List.is ∙ shape-List c.in-List.trees in
    let some : eqb (length c.in-List.trees.items) 0 ≡ false = grind (arith, c.is_empty.ensures, c.if-not-is_empty.true, c.in-List.trees.ok.0) in
    still c.append_items.result _ _ (λ h. puts_whole_list (shape c.args.tree.now) c.in-List.trees.items (string_bytes c.args.out.now) (string_bytes c.append_items.new.out) is some h) c.append_items.ensures

pub returns-in-Map : goal.returns-in-Map
returns-in-Map c =
    let is : shape c.args.tree.now ≡ mapping (pairs_seen c.in-Map.pairs.items) = ap shape c.in-Map.is ∙ shape-Map c.in-Map.pairs in
    let some : eqb (length c.in-Map.pairs.items) 0 ≡ false = cc (c.if-not-is_empty-2.ensures, c.in-Map.pairs.ok.0) in
    still c.append_pairs.result _ _ (λ h. puts_whole_map (shape c.args.tree.now) c.in-Map.pairs.items (string_bytes c.args.out.now) (string_bytes c.append_pairs.new.out) is some h) c.append_pairs.ensures
