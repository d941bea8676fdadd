-- Trees that can be printed and read: the keys of each map differ, and each list is short. What steps and places make of
-- such trees is such a tree.
use Rattle.std.proofs.Common.{◌≡◌, ◌<◌, ◌≤◌, ◌&&◌, ℕ, true, refl, arith, List, Some}
use Rattle.std.specs.Prelude.{nat_lt, ◌^◌}
use Rattle.std.proofs.lemmas.Bool.{and_from, ltb-true, lt-ltb}
use Rattle.doc_tree.specs.Shape.{Shape, list, mapping, Shapes, no_shapes, more, Pairs, no_pairs, pair, lacks, is_distinct, shapes_are_distinct, pairs_are_distinct, item_count, has_short_lists, shapes_have_short_lists, pairs_have_short_lists}
use Rattle.doc_tree.specs.Lookup.{find}
use Rattle.doc_tree.proofs.lemmas.Trees.{distinct-more, distinct-pair, short-list, short-more, short-pair, distinct-find, short-find}

pub record Fair (s : Shape) : Type 0 where
  pub distinct : is_distinct s ≡ true
  pub short : has_short_lists s ≡ true

-- each item is
pub record FairItems (ss : Shapes) : Type 0 where
  pub distinct : shapes_are_distinct ss ≡ true
  pub short : shapes_have_short_lists ss ≡ true

-- the keys differ, and each value is
pub record FairPairs (ps : Pairs) : Type 0 where
  pub distinct : pairs_are_distinct ps ≡ true
  pub short : pairs_have_short_lists ps ≡ true

-- ---- taken apart, and put together

pub list_count : (ss : Shapes) → Fair (list ss) → nat_lt (item_count ss) (2 ^ 31) ≡ true
list_count ss f = (short-list ss f.short).0

pub list_items : (ss : Shapes) → Fair (list ss) → FairItems ss
list_items ss f = record { distinct = f.distinct; short = (short-list ss f.short).1 }

pub fair_list : (ss : Shapes) → nat_lt (item_count ss) (2 ^ 31) ≡ true → FairItems ss → Fair (list ss)
fair_list ss few f = record { distinct = f.distinct; short = and_from (nat_lt (item_count ss) (2 ^ 31)) (shapes_have_short_lists ss) few f.short }

pub fair_first : (s : Shape) (ss : Shapes) → FairItems (more s ss) → Fair s
fair_first s ss f = record { distinct = (distinct-more s ss f.distinct).0; short = (short-more s ss f.short).0 }

pub fair_others : (s : Shape) (ss : Shapes) → FairItems (more s ss) → FairItems ss
fair_others s ss f = record { distinct = (distinct-more s ss f.distinct).1; short = (short-more s ss f.short).1 }

pub fair_more : (s : Shape) (ss : Shapes) → Fair s → FairItems ss → FairItems (more s ss)
fair_more s ss f g = record { distinct = and_from (is_distinct s) (shapes_are_distinct ss) f.distinct g.distinct; short = and_from (has_short_lists s) (shapes_have_short_lists ss) f.short g.short }

pub map_pairs : (ps : Pairs) → Fair (mapping ps) → FairPairs ps
map_pairs ps f = record { distinct = f.distinct; short = f.short }

pub fair_map : (ps : Pairs) → FairPairs ps → Fair (mapping ps)
fair_map ps f = record { distinct = f.distinct; short = f.short }

pub key_alone : (k : List ℕ) (s : Shape) (ps : Pairs) → FairPairs (pair k s ps) → lacks k ps ≡ true
key_alone k s ps f = (distinct-pair k s ps f.distinct).0

pub fair_value : (k : List ℕ) (s : Shape) (ps : Pairs) → FairPairs (pair k s ps) → Fair s
fair_value k s ps f = record { distinct = (distinct-pair k s ps f.distinct).1; short = (short-pair k s ps f.short).0 }

pub fair_rest : (k : List ℕ) (s : Shape) (ps : Pairs) → FairPairs (pair k s ps) → FairPairs ps
fair_rest k s ps f = record { distinct = (distinct-pair k s ps f.distinct).2; short = (short-pair k s ps f.short).1 }

pub fair_pair : (k : List ℕ) (s : Shape) (ps : Pairs) → lacks k ps ≡ true → Fair s → FairPairs ps → FairPairs (pair k s ps)
fair_pair k s ps alone f g = record {
  distinct = and_from (lacks k ps && is_distinct s) (pairs_are_distinct ps) (and_from (lacks k ps) (is_distinct s) alone f.distinct) g.distinct;
  short = and_from (has_short_lists s) (pairs_have_short_lists ps) f.short g.short;
}

pub no_items : FairItems no_shapes
no_items = record { distinct = refl; short = refl }

pub none_under : FairPairs no_pairs
none_under = record { distinct = refl; short = refl }

-- a shorter list is short too
pub fewer : (a b : ℕ) → b ≤ a → nat_lt a (2 ^ 31) ≡ true → nat_lt b (2 ^ 31) ≡ true
fewer a b le few = let lt : a < 2 ^ 31 = ltb-true a (2 ^ 31) few in lt-ltb b (2 ^ 31) (omega arith)

-- what stands under a key
pub fair_found : (k : List ℕ) (ps : Pairs) (t : Shape) → FairPairs ps → find k ps ≡ Some t → Fair t
fair_found k ps t f e = record { distinct = distinct-find k ps t f.distinct e; short = short-find k ps t f.short e }
