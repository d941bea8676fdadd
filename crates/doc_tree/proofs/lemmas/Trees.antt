-- Trees: what holds of a node holds of those below it.
use Rattle.std.proofs.Common.{◌≡◌, ◌<◌, ◌≤◌, ◌&&◌, ℕ, suc, max, List, [], ◌∷◌, length, map, Bool, true, false, Option, Some, refl, ap, subst, arith, rules, Vec, Global}
use Rattle.std.specs.Prelude.{bytes_eq, nat_lt, ◌^◌, if◌then◌else◌}
use Rattle.std.proofs.lemmas.Bool.{and_parts}
use Rattle.doc_tree.specs.Shape.{Shape, shape, pair_shape, pairs_of, nothing, truth, whole, text, list, mapping, Shapes, more, Pairs, no_pairs, pair, shapes_of, lacks, is_distinct, shapes_are_distinct, pairs_are_distinct, levels, pairs_levels, item_count, has_short_lists, shapes_have_short_lists, pairs_have_short_lists}
use Rattle.doc_tree.specs.Lookup.{find, get}
use Rattle.doc_tree.specs.declared.tree.Tree as tree
use Rattle.doc_tree.specs.declared.tree.Tree.{Tree}
use Rattle.doc_tree.proofs.tree.Tree.TheLaws as laws

-- what falls where a call goes down a tree
abbrev pub the_size : Tree → ℕ
the_size = laws.the_size

-- the shape of a tree, by what it is

pub shape-Null : shape tree.Null ≡ nothing
shape-Null = search (rules, tree.the_lemmas)

pub shape-List : (v : Vec Tree Global) → shape (tree.List v) ≡ list (shapes_of (map shape v.items))
shape-List v = search (rules, tree.the_lemmas)

pub shape-Map : (v : Vec (List ℕ × Tree) Global) → shape (tree.Map v) ≡ mapping (pairs_of (map pair_shape v.items))
shape-Map v = search (rules, tree.the_lemmas)

-- a list's items are counted by the list's length
pub item_count-shapes_of : (ss : List Shape) → item_count (shapes_of ss) ≡ length ss
item_count-shapes_of [] = refl
item_count-shapes_of (s ∷ ss) = ap suc (item_count-shapes_of ss)

-- a mapped list has as many items as the list
pub item_count-map : {A : Type 0} (f : A → Shape) (xs : List A) → item_count (shapes_of (map f xs)) ≡ length xs
item_count-map f [] = refl
item_count-map f (x ∷ xs) = ap suc (item_count-map f xs)

-- in a list whose items are distinct, the first one is, and those behind it are
pub distinct-more : (s : Shape) (ss : Shapes) → shapes_are_distinct (more s ss) ≡ true → (is_distinct s ≡ true) × (shapes_are_distinct ss ≡ true)
distinct-more s ss h = and_parts (is_distinct s) (shapes_are_distinct ss) h

-- in a distinct map, no later pair has the first one's key, its value is distinct, and so are the pairs behind it
pub distinct-pair : (k : List ℕ) (s : Shape) (ps : Pairs) → pairs_are_distinct (pair k s ps) ≡ true → (lacks k ps ≡ true) × (is_distinct s ≡ true) × (pairs_are_distinct ps ≡ true)
distinct-pair k s ps h =
    let front = and_parts (lacks k ps && is_distinct s) (pairs_are_distinct ps) h in
    let both = and_parts (lacks k ps) (is_distinct s) front.0 in
    (both.0, both.1, front.1)

-- a list of short lists has fewer than 2^31 items
pub short-list : (ss : Shapes) → has_short_lists (list ss) ≡ true → (nat_lt (item_count ss) (2 ^ 31) ≡ true) × (shapes_have_short_lists ss ≡ true)
short-list ss h = and_parts (nat_lt (item_count ss) (2 ^ 31)) (shapes_have_short_lists ss) h

-- where a list's items have short lists, the first one has, and those behind it have
pub short-more : (s : Shape) (ss : Shapes) → shapes_have_short_lists (more s ss) ≡ true → (has_short_lists s ≡ true) × (shapes_have_short_lists ss ≡ true)
short-more s ss h = and_parts (has_short_lists s) (shapes_have_short_lists ss) h

-- where a map's values have short lists, the first one has, and those behind it have
pub short-pair : (k : List ℕ) (s : Shape) (ps : Pairs) → pairs_have_short_lists (pair k s ps) ≡ true → (has_short_lists s ≡ true) × (pairs_have_short_lists ps ≡ true)
short-pair k s ps h = and_parts (has_short_lists s) (pairs_have_short_lists ps) h

-- ---- what stands under a key

same_value : (s t : Shape) → Some s ≡ Some t → s ≡ t
same_value s t e = cc

-- what holds of the first pair's value and of what is found behind it holds of what is found
first_or_later : (P : Shape → Type 0) (s t : Shape) (later : Option Shape) (b : Bool) → P s → (later ≡ Some t → P t) → (if b then Some s else later) ≡ Some t → P t
first_or_later P s t later true own go e = subst P (same_value s t e) own
first_or_later P s t later false own go e = go e

-- what a distinct map has under a key is distinct
pub distinct-find : (k : List ℕ) (ps : Pairs) (t : Shape) → pairs_are_distinct ps ≡ true → find k ps ≡ Some t → is_distinct t ≡ true
distinct-find k no_pairs t h e = absurd cc
distinct-find k (pair l s ps) t h e =
    let parts = distinct-pair l s ps h in
    first_or_later (λ (u : Shape). is_distinct u ≡ true) s t (find k ps) (bytes_eq l k) parts.1 (distinct-find k ps t parts.2) e

-- what a map of short lists has under a key has short lists
pub short-find : (k : List ℕ) (ps : Pairs) (t : Shape) → pairs_have_short_lists ps ≡ true → find k ps ≡ Some t → has_short_lists t ≡ true
short-find k no_pairs t h e = absurd cc
short-find k (pair l s ps) t h e =
    let parts = short-pair l s ps h in
    first_or_later (λ (u : Shape). has_short_lists u ≡ true) s t (find k ps) (bytes_eq l k) parts.0 (short-find k ps t parts.1) e

-- what a map has under a key has no more levels than its pairs
pub levels-find : (k : List ℕ) (ps : Pairs) (t : Shape) → find k ps ≡ Some t → levels t ≤ pairs_levels ps
levels-find k no_pairs t e = absurd cc
levels-find k (pair l s ps) t e =
    first_or_later (λ (u : Shape). levels u ≤ max (levels s) (pairs_levels ps)) s t (find k ps) (bytes_eq l k) (omega arith) (λ later. omega (arith, levels-find k ps t later)) e

-- what a distinct tree has under a key is distinct
pub distinct-get : (k : List ℕ) (s t : Shape) → is_distinct s ≡ true → get k s ≡ Some t → is_distinct t ≡ true
distinct-get k nothing t h e = absurd cc
distinct-get k (truth b) t h e = absurd cc
distinct-get k (whole z) t h e = absurd cc
distinct-get k (text s) t h e = absurd cc
distinct-get k (list ss) t h e = absurd cc
distinct-get k (mapping ps) t h e = distinct-find k ps t h e

-- what a tree of short lists has under a key has short lists
pub short-get : (k : List ℕ) (s t : Shape) → has_short_lists s ≡ true → get k s ≡ Some t → has_short_lists t ≡ true
short-get k nothing t h e = absurd cc
short-get k (truth b) t h e = absurd cc
short-get k (whole z) t h e = absurd cc
short-get k (text s) t h e = absurd cc
short-get k (list ss) t h e = absurd cc
short-get k (mapping ps) t h e = short-find k ps t h e

-- what a tree has under a key has fewer levels
pub levels-get : (k : List ℕ) (s t : Shape) → get k s ≡ Some t → levels t < levels s
levels-get k nothing t e = absurd cc
levels-get k (truth b) t e = absurd cc
levels-get k (whole z) t e = absurd cc
levels-get k (text s) t e = absurd cc
levels-get k (list ss) t e = absurd cc
levels-get k (mapping ps) t e = omega (arith, levels-find k ps t e)
