use Rattle.std.proofs.Common.{◌≡◌, ◌<◌, ◌≤◌, ◌++◌, List, length, get_or, true, Bool, Option, Some, None, refl, sym, ap, ◌∙◌, arith}
use Rattle.std.specs.List.{list_all}
use Rattle.std.specs.Option.{option_map_or, option_to_list}
use Rattle.std.proofs.lemmas.List.Folds.{list_all-append}
use Rattle.doc_tree.specs.declared.tree.Tree.{Tree}
use Rattle.tree_schema.specs.Reached.{from}
use Rattle.tree_schema.specs.Reading.{read_items}
use Rattle.tree_schema.proofs.lemmas.Reaching.{items_left, after_values, none_so_far, items_on, items_end}
use Rattle.tree_schema.proofs.list.read_items.Goals as goal

-- what holds of the values so far and of the next, where one is given, holds of all of them
one_more : {X : Type 0} (holds : X → Bool) (values : List X) (x : Option X) → list_all holds values ≡ true → option_map_or holds x true ≡ true → list_all holds (values ++ option_to_list x) ≡ true
one_more holds values None all one = rw (list_all-append holds values (option_to_list None), all) refl
one_more holds values (Some x) all one = rw (list_all-append holds values (option_to_list (Some x)), all, one) refl

pub loop-i-init : goal.loop-i-init
loop-i-init g c =
    let read = g.I.Item.reading c.args.item.now in
    let all = read_items read 0 (items_left 0 c.args.trees.now.items) in
    record {
      read = ap (λ values. from c.args.reader.now (after_values values all)) c.new-values.ensures.items ∙ ap (from c.args.reader.now) (none_so_far all);
      few = omega (arith, ap length c.new-values.ensures.items);
      short = omega arith;
      right = ap (list_all (g.I.Item.holds c.args.item.now)) c.new-values.ensures.items;
    }

pub loop-i-preserved : goal.loop-i-preserved
loop-i-preserved g c =
    let trees = c.args.trees.now.items in
    let i = c.loop-i.i in
    let here : i < length trees = omega (arith, c.loop-i-test.true, ap length c.deref-tree-items.ensures.value) in
    let is_tree : c.tree-item.result ≡ get_or trees i c.tree-item.result = c.tree-item.is ∙ ap (λ (ts : List Tree). get_or ts i c.tree-item.result) c.deref-tree-items.ensures.value in
    record {
      read =
          items_on (g.I.Item.reading c.args.item.now) c.loop-i.reader i trees c.tree-item.result c.loop-i.values.items here is_tree
          c.read_item.new.reader c.in_ok-value.value c.push_given.new.values.items c.in_ok-value.ensures.read c.in_ok-push_given.ensures.ok
          ∙ c.loop-i.invariant.read;
      few = omega (arith, c.loop-i.invariant.few, c.in_ok-push_given.ensures.more);
      short = omega (arith, c.in_ok-value.ensures.short);
      right =
          ap (list_all (g.I.Item.holds c.args.item.now)) c.in_ok-push_given.ensures.ok
          ∙ one_more (g.I.Item.holds c.args.item.now) c.loop-i.values.items c.in_ok-value.value c.loop-i.invariant.right c.in_ok-value.ensures.right;
    }

pub returns : goal.returns
returns g c =
    let past : length c.args.trees.now.items ≤ c.loop-i.i = omega (arith, c.loop-i-test.false, ap length c.deref-tree-items.ensures.value) in
    record {
      read =
          sym c.loop-i.invariant.read
          ∙ items_end (g.I.Item.reading c.args.item.now) c.loop-i.reader c.loop-i.i c.args.trees.now.items c.loop-i.values.items past;
      right = c.loop-i.invariant.right;
      short = omega (arith, c.loop-i.invariant.few, c.loop-i.invariant.short);
    }
