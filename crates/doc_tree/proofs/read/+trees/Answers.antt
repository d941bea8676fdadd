use Rattle.std.proofs.Common.{arith}
use Rattle.serde_json.specs.View.{items_view, members_view}
use Rattle.doc_tree.proofs.TreeLemmas.{members_begin, members_on, members_end, members_stop, items_begin, items_on, items_end, items_stop, array_made, array_stop, object_made, object_stop, of_array, of_object}
use Rattle.doc_tree.proofs.read.+trees.Goals as goal

pub map_of-loop-key-init : goal.map_of-loop-key-init
map_of-loop-key-init t c = members_begin c.args.room c.args.members.entries c.into_iter-key-iterator.result c.in_ok-pairs.pairs.items c.into_iter-key-iterator.ensures.into_iter_gives.0 c.in_ok-pairs.ensures.items

pub map_of-loop-key-preserved : goal.map_of-loop-key-preserved
map_of-loop-key-preserved t c =
    let l = c.loop-key in
    members_on c.args.room c.args.members.entries l.key-iterator c.next.new.self l.pairs.items c.push.new.self.items (c.in-Some.key, c.in-Some.member) c.of-name.result c.in-Ok.tree
    l.invariant c.in-Some.ensures.steps c.in-Ok.ensures.0 c.in-Ok.ensures.1 c.in-Ok.ensures.2 c.of-name.ensures c.in_ok-push-in-Ok.ensures.items

pub map_of-returns : goal.map_of-returns
map_of-returns t c =
    object_made c.args.room (members_view c.args.members.entries) c.loop-key.pairs (members_end c.args.room c.args.members.entries c.loop-key.pairs.items (rw c.in-None.ensures.steps.0 at c.loop-key.invariant))

pub list_of-loop-item-init : goal.list_of-loop-item-init
list_of-loop-item-init t c = items_begin c.args.room c.args.items.items c.into_iter-item-iterator.result.rest.items c.in_ok-trees.trees.items c.into_iter-item-iterator.ensures.into_iter_gives.0 c.in_ok-trees.ensures.items

pub list_of-loop-item-preserved : goal.list_of-loop-item-preserved
list_of-loop-item-preserved t c =
    let l = c.loop-item in
    items_on c.args.room c.args.items.items l.item-iterator.rest.items c.next.new.self.rest.items l.trees.items c.push.new.self.items c.in-Some.item c.in-Ok.tree
    l.invariant c.in-Some.ensures.steps.0 c.in-Ok.ensures.0 c.in-Ok.ensures.1 c.in-Ok.ensures.2 c.in_ok-push-in-Ok.ensures.items

pub list_of-returns : goal.list_of-returns
list_of-returns t c =
    let l = c.loop-item in
    array_made c.args.room (items_view c.args.items.items) l.trees
    (items_end c.args.room c.args.items.items l.item-iterator.rest.items l.trees.items l.invariant (omega (arith, c.in-None.ensures.steps.0, l.item-iterator.rest.ok)))

pub map_of-returns-in-Err : goal.map_of-returns-in-Err
map_of-returns-in-Err t c =
    let l = c.loop-key in
    object_stop c.args.room (members_view c.args.members.entries) c.below.result
    (members_stop c.args.room c.args.members.entries l.key-iterator c.next.new.self l.pairs.items (c.in-Some.key, c.in-Some.member) l.invariant c.in-Some.ensures.steps
    c.in-Err.stop c.below.result c.of-name.result c.of-name.ensures c.in-Err.ensures c.below.ensures)

pub list_of-returns-in-Err : goal.list_of-returns-in-Err
list_of-returns-in-Err t c =
    let l = c.loop-item in
    array_stop c.args.room (items_view c.args.items.items) c.below_item.result
    (items_stop c.args.room c.args.items.items l.item-iterator.rest.items c.next.new.self.rest.items l.trees.items c.in-Some.item l.invariant c.in-Some.ensures.steps.0
    c.len-in-Err.result (omega (arith, c.len-in-Err.ensures, l.trees.ok)) c.in-Err.stop c.below_item.result c.in-Err.ensures c.below_item.ensures)

pub tree_of-returns-in-Array : goal.tree_of-returns-in-Array
tree_of-returns-in-Array t c = of_array c.args.room c.args.value c.in-Array.items c.list_of.result (omega (arith, c.if-room-eq0.false)) c.in-Array.is c.list_of.ensures

pub tree_of-returns-in-Object : goal.tree_of-returns-in-Object
tree_of-returns-in-Object t c = of_object c.args.room c.args.value c.in-Object.members c.map_of.result (omega (arith, c.if-room-eq0.false)) c.in-Object.is c.map_of.ensures
