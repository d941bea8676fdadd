use Rattle.std.proofs.Common.{◌≡◌, ◌∙◌, ◌≤◌, ◌+◌, ◌*◌, true, false, eqb, length, arith, ap, string_bytes}
use Rattle.doc_tree.specs.Shape.{shape, mapping, list, levels, pairs_levels}
use Rattle.yaml_text.proofs.Walk.{pairs_seen, items_seen, shape-List, shape-Map, still, puts_map_below, puts_none_below, puts_map_item, puts_list_item, pairs_levels_step}
use Rattle.yaml_text.proofs.layout.+layout.Goals as goal

pub append_below_key-returns-in_ok-append_spaces-in-Map : goal.append_below_key-returns-in_ok-append_spaces-in-Map
append_below_key-returns-in_ok-append_spaces-in-Map t c =
    let is : shape c.args.tree.now ≡ mapping (pairs_seen c.in-Map.pairs.items) = ap shape c.in-Map.is ∙ shape-Map c.in-Map.pairs in
    let some : eqb (length c.in-Map.pairs.items) 0 ≡ false = grind (arith, c.is_empty.ensures, c.if-not-is_empty.true, c.in-Map.pairs.ok.0) in
    still c.append_pairs.result _ _ (λ h. puts_map_below c.args.column (shape c.args.tree.now) c.in-Map.pairs.items (string_bytes c.args.out.now) (string_bytes c.append_spaces.new.out) (string_bytes c.append_pairs.new.out) is some c.in_ok-append_spaces-in-Map.ensures h) c.append_pairs.ensures

pub append_below_key-returns-in_default : goal.append_below_key-returns-in_default
append_below_key-returns-in_default t c =
    let is : shape c.args.tree.now ≡ mapping (pairs_seen c.in-Map.pairs.items) = ap shape c.in-Map.is ∙ shape-Map c.in-Map.pairs in
    let none : eqb (length c.in-Map.pairs.items) 0 ≡ true = grind (arith, c.is_empty.ensures, c.if-not-is_empty.false, c.in-Map.pairs.ok.0) in
    puts_none_below c.args.column (shape c.args.tree.now) c.in-Map.pairs.items (string_bytes c.args.out.now) is none

pub push_item-returns-in_ok-push_str-in-Map : goal.push_item-returns-in_ok-push_str-in-Map
push_item-returns-in_ok-push_str-in-Map t c =
    let is : shape c.args.tree.now ≡ mapping (pairs_seen c.in-Map.pairs.items) = ap shape c.in-Map.is ∙ shape-Map c.in-Map.pairs in
    let some : eqb (length c.in-Map.pairs.items) 0 ≡ false = grind (arith, c.is_empty.ensures, c.if-not-is_empty.true, c.in-Map.pairs.ok.0) in
    still c.append_pairs.result _ _ (λ h. puts_map_item c.args.column (shape c.args.tree.now) c.in-Map.pairs.items (string_bytes c.args.out.now) (string_bytes c.push_str.new.self) (string_bytes c.append_pairs.new.out) is some c.in_ok-push_str-in-Map.ensures.bytes h) c.append_pairs.ensures

pub push_item-returns-in_ok-push_behind-in-List : goal.push_item-returns-in_ok-push_behind-in-List
push_item-returns-in_ok-push_behind-in-List t c =
    let is : shape c.args.tree.now ≡ list (items_seen c.in-List.trees.items) = ap shape c.in-List.is ∙ shape-List c.in-List.trees in
    still c.append_items.result _ _ (λ h. puts_list_item c.args.column (shape c.args.tree.now) c.in-List.trees.items (string_bytes c.args.out.now) (string_bytes c.push.new.self) (string_bytes c.push_behind.new.out) (string_bytes c.append_items.new.out) is (cc (c.in_ok-push-in-List.ensures.bytes, c.push.ensures.ascii (omega arith))) c.in_ok-push_behind-in-List.ensures h) c.append_items.ensures

pub append_pairs-push_pair-requires : goal.append_pairs-push_pair-requires
append_pairs-push_pair-requires t c =
    let e = pairs_levels_step c.deref-key-items.result.now c.loop-key.key-index c.loop-key-item.result c.loop-key-test.true c.loop-key-item.is in
    let same : pairs_levels (pairs_seen c.deref-key-items.result.now) ≡ pairs_levels (pairs_seen c.args.pairs.now.items) = ap (λ ps. pairs_levels (pairs_seen ps)) c.deref-key-items.ensures.value in
    let small : c.args.column + 2 * levels (shape c.loop-key-item.result.1) ≤ 64 = omega (arith, same, c.loop-key.invariant.deep, c.requires) in
    (omega (arith, e, same, c.loop-key.invariant.deep), small)
