use Rattle.std.proofs.Common.{◌≡◌, ◌≤◌, ◌<◌, ◌^◌, true, length}
use Rattle.std.specs.List.{list_all}
use Rattle.tree_schema.specs.Reached.{from}
use Rattle.tree_schema.specs.Reading.{read_items}
use Rattle.tree_schema.proofs.lemmas.Reaching.{items_left, after_values}
use Rattle.tree_schema.proofs.list.read_items.Given as goal

-- the values so far and those of what is left are those of all items; they are as few, and what holds of each
abbrev pub invariant-loop-i : goal.invariant-loop-i
invariant-loop-i g l =
    let read = g.I.Item.reading l.item in
    record {
      read : from l.reader (after_values l.values.items (read_items read l.i (items_left l.i l.trees.items))) ≡ from l.fn.reader (read_items read 0 (items_left 0 l.trees.items));
      few : length l.values.items ≤ l.i;
      short : l.i < 2 ^ 31;
      right : list_all (g.I.Item.holds l.item) l.values.items ≡ true;
    }
