-- The lines of pairs and items, one after the other.
use Rattle.std.proofs.Common.{◌≡◌, ◌∙◌, ◌++◌, ◌∷◌, ◌+◌, ◌<◌, max, ℕ, suc, List, [], Bool, true, false, eqb, length, get_or, drop, map, refl, sym, ap, arith, append_assoc, not, rules, Vec, Global, Result, Ok, Err}
use Rattle.std.proofs.lemmas.List.{at_drop_more, append-nil}
use Rattle.std.proofs.lemmas.Grind.{flat_map-append}
use Rattle.std.proofs.lemmas.Bool.{eqb-true, ne_eqb}
use Rattle.std.specs.Result.{OnOk}
use Rattle.std.proofs.lemmas.Str.{encode_ascii}
use lib.Utf8.{encode}
use Rattle.doc_tree.specs.declared.tree.Tree.{Tree, List as ListCase, Map, the_lemmas}
use Rattle.doc_tree.specs.Shape.{Shape, nothing, truth, whole, text, list, mapping, Shapes, more, Pairs, no_pairs, pair, shape, pair_shape, shapes_of, pairs_of, levels, shapes_levels, pairs_levels}
use Rattle.yaml_text.specs.Scalars.{on_line}
use Rattle.yaml_text.specs.Layout.{spaces, has_items, has_pairs, below_key, pairs_lines, items_lines, item_lines, joined, ended, yaml_lines}
use Rattle.yaml_text.specs.Pieces.{behind_text, pair_text, pairs_text, item_text, lead_of}

-- the pairs of code and its items, as the definition sees them
abbrev pub pairs_seen : List (List ℕ × Tree) → Pairs
pairs_seen ps = pairs_of (map pair_shape ps)

abbrev pub items_seen : List Tree → Shapes
items_seen ts = shapes_of (map shape ts)

pair_lines_text : (lead : List ℕ) (column : ℕ) (k : List ℕ) (t : Shape) (ps : Pairs) → joined (pairs_lines lead column (pair k t ps)) ≡ (lead ++ pair_text column k t) ++ joined (pairs_lines (spaces column) column ps)
pair_lines_text lead column k t ps = rw (flat_map-append ended (below_key column t) (pairs_lines (spaces column) column ps)) (simp append_assoc)

pub pair_step : (first : Bool) (column : ℕ) (ps : List (List ℕ × Tree)) (i : ℕ) (x : List ℕ × Tree) → i < length ps → x ≡ get_or ps i x
    → joined (pairs_lines (lead_of first column) column (pairs_seen (drop i ps)))
    ≡ (lead_of first column ++ pair_text column x.0 (shape x.1)) ++ joined (pairs_lines (spaces column) column (pairs_seen (drop (i + 1) ps)))
pair_step first column ps i x lt is =
    at_drop_more (λ (qs : List (List ℕ × Tree)). joined (pairs_lines (lead_of first column) column (pairs_seen qs))) ps i x lt
    ∙ (ap (λ (y : List ℕ × Tree). joined (pairs_lines (lead_of first column) column (pair y.0 (shape y.1) (pairs_seen (drop (i + 1) ps))))) (sym is)
    ∙ pair_lines_text (lead_of first column) column x.0 (shape x.1) (pairs_seen (drop (i + 1) ps)))

pub pairs_levels_step : (ps : List (List ℕ × Tree)) (i : ℕ) (x : List ℕ × Tree) → i < length ps → x ≡ get_or ps i x
    → pairs_levels (pairs_seen (drop i ps)) ≡ max (levels (shape x.1)) (pairs_levels (pairs_seen (drop (i + 1) ps)))
pairs_levels_step ps i x lt is =
    at_drop_more (λ (qs : List (List ℕ × Tree)). pairs_levels (pairs_seen qs)) ps i x lt
    ∙ ap (λ (y : List ℕ × Tree). max (levels (shape y.1)) (pairs_levels (pairs_seen (drop (i + 1) ps)))) (sym is)

-- an item's lines begin with the spaces
item_lines_text : (column : ℕ) (t : Shape) → joined (item_lines column t) ≡ spaces column ++ item_text column t
item_lines_text column nothing = simp append_assoc
item_lines_text column (truth b) = simp append_assoc
item_lines_text column (whole z) = simp append_assoc
item_lines_text column (text s) = simp append_assoc
item_lines_text column (list ts) = simp append_assoc
item_lines_text column (mapping no_pairs) = simp append_assoc
item_lines_text column (mapping (pair k t ps)) = simp append_assoc

pub item_step : (column : ℕ) (ts : List Tree) (i : ℕ) (x : Tree) → i < length ts → x ≡ get_or ts i x
    → joined (items_lines column (items_seen (drop i ts))) ≡ (spaces column ++ item_text column (shape x)) ++ joined (items_lines column (items_seen (drop (i + 1) ts)))
item_step column ts i x lt is =
    at_drop_more (λ (us : List Tree). joined (items_lines column (items_seen us))) ts i x lt
    ∙ (ap (λ (y : Tree). joined (items_lines column (more (shape y) (items_seen (drop (i + 1) ts))))) (sym is)
    ∙ (flat_map-append ended (item_lines column (shape x)) (items_lines column (items_seen (drop (i + 1) ts)))
    ∙ ap (λ (l : List ℕ). l ++ joined (items_lines column (items_seen (drop (i + 1) ts)))) (item_lines_text column (shape x))))

pub items_levels_step : (ts : List Tree) (i : ℕ) (x : Tree) → i < length ts → x ≡ get_or ts i x
    → shapes_levels (items_seen (drop i ts)) ≡ max (levels (shape x)) (shapes_levels (items_seen (drop (i + 1) ts)))
items_levels_step ts i x lt is =
    at_drop_more (λ (us : List Tree). shapes_levels (items_seen us)) ts i x lt
    ∙ ap (λ (y : Tree). max (levels (shape y)) (shapes_levels (items_seen (drop (i + 1) ts)))) (sym is)

not_empty : (n : ℕ) → eqb (suc n) 0 ≡ true → ⊥
not_empty n is = let e = eqb-true (suc n) 0 is in omega arith

-- a map that has pairs stands below its key, behind the first one's lead
pub below_key_map : (column : ℕ) (ps : List (List ℕ × Tree)) → eqb (length ps) 0 ≡ false
    → joined (below_key column (mapping (pairs_seen ps))) ≡ spaces (column + 2) ++ pairs_text (column + 2) (pairs_seen ps)
below_key_map column [] some = absurd cc
below_key_map column (p ∷ ps) some = simp append_assoc

pub below_key_empty : (column : ℕ) (ps : List (List ℕ × Tree)) → eqb (length ps) 0 ≡ true → joined (below_key column (mapping (pairs_seen ps))) ≡ []
below_key_empty column [] none = refl
below_key_empty column (p ∷ ps) none = absurd (not_empty (length ps) none)

pub some_pairs : (ps : List (List ℕ × Tree)) → eqb (length ps) 0 ≡ false → has_pairs (pairs_seen ps) ≡ true
some_pairs [] some = absurd cc
some_pairs (p ∷ ps) some = refl

pub none_pairs : (ps : List (List ℕ × Tree)) → eqb (length ps) 0 ≡ true → has_pairs (pairs_seen ps) ≡ false
none_pairs [] none = refl
none_pairs (p ∷ ps) none = absurd (not_empty (length ps) none)

pub some_items : (ts : List Tree) → eqb (length ts) 0 ≡ false → has_items (items_seen ts) ≡ true
some_items [] some = absurd cc
some_items (t ∷ ts) some = refl

pub none_items : (ts : List Tree) → eqb (length ts) 0 ≡ true → has_items (items_seen ts) ≡ false
none_items [] none = refl
none_items (t ∷ ts) none = absurd (not_empty (length ts) none)

pub items_test : (ts : List Tree) → not (eqb (length ts) 0) ≡ has_items (items_seen ts)
items_test [] = refl
items_test (t ∷ ts) = ap not (ne_eqb (suc (length ts)) 0 (λ e. absurd (omega arith)))

pub pairs_test : (ps : List (List ℕ × Tree)) → not (eqb (length ps) 0) ≡ has_pairs (pairs_seen ps)
pairs_test [] = refl
pairs_test (p ∷ ps) = ap not (ne_eqb (suc (length ps)) 0 (λ e. absurd (omega arith)))

pub shape-List : (v : Vec Tree Global) → shape (ListCase v) ≡ list (items_seen v.items)
shape-List v = search (rules, the_lemmas)

pub shape-Map : (v : Vec (List ℕ × Tree) Global) → shape (Map v) ≡ mapping (pairs_seen v.items)
shape-Map v = search (rules, the_lemmas)

-- what a last call ensures where it succeeds, put otherwise
pub still : {T E : Type 0} (r : Result T E) (P Q : Type 0) → (P → Q) → OnOk r P → OnOk r Q
still (Ok x) P Q f h = f h
still (Err e) P Q f h = tt

-- the pieces that each function appends
pub puts_map_below : (column : ℕ) (t : Shape) (ps : List (List ℕ × Tree)) (out mid new : List ℕ) → t ≡ mapping (pairs_seen ps) → eqb (length ps) 0 ≡ false
    → mid ≡ out ++ spaces (column + 2) → new ≡ mid ++ pairs_text (column + 2) (pairs_seen ps) → new ≡ out ++ joined (below_key column t)
puts_map_below column t ps out mid new is some one two = rw (is, two, one, below_key_map column ps some) (append_assoc out (spaces (column + 2)) (pairs_text (column + 2) (pairs_seen ps)))

pub puts_none_below : (column : ℕ) (t : Shape) (ps : List (List ℕ × Tree)) (out : List ℕ) → t ≡ mapping (pairs_seen ps) → eqb (length ps) 0 ≡ true → out ≡ out ++ joined (below_key column t)
puts_none_below column t ps out is none = rw (is, below_key_empty column ps none) (sym (append-nil out))

pub puts_map_item : (column : ℕ) (t : Shape) (ps : List (List ℕ × Tree)) (out mid new : List ℕ) → t ≡ mapping (pairs_seen ps) → eqb (length ps) 0 ≡ false
    → mid ≡ out ++ (45 ∷ 32 ∷ []) → new ≡ mid ++ pairs_text (column + 2) (pairs_seen ps) → new ≡ out ++ item_text column t
puts_map_item column t ps out mid new is some one two = rw (is, two, one, some_pairs ps some) (append_assoc out (45 ∷ 32 ∷ []) (pairs_text (column + 2) (pairs_seen ps)))

pub puts_list_item : (column : ℕ) (t : Shape) (ts : List Tree) (out one two new : List ℕ) → t ≡ list (items_seen ts)
    → one ≡ out ++ (45 ∷ []) → two ≡ one ++ behind_text t → new ≡ two ++ joined (items_lines (column + 2) (items_seen ts)) → new ≡ out ++ item_text column t
puts_list_item column t ts out one two new is first second third =
    third ∙ (ap (λ (x : List ℕ). x ++ joined (items_lines (column + 2) (items_seen ts))) (second ∙ ap (λ (x : List ℕ). x ++ behind_text t) first)
    ∙ rw is (simp append_assoc))

pub puts_plain_item : (column : ℕ) (t : Shape) (out one new : List ℕ) → item_text column t ≡ 45 ∷ behind_text t → one ≡ out ++ (45 ∷ []) → new ≡ one ++ behind_text t → new ≡ out ++ item_text column t
puts_plain_item column t out one new is first second = rw (second, first, is) (append_assoc out (45 ∷ []) (behind_text t))

pub empty_map_item : (column : ℕ) (t : Shape) (ps : List (List ℕ × Tree)) → t ≡ mapping (pairs_seen ps) → eqb (length ps) 0 ≡ true → item_text column t ≡ 45 ∷ behind_text t
empty_map_item column t ps is none = rw (is, none_pairs ps none) refl

pub puts_whole_list : (t : Shape) (ts : List Tree) (out new : List ℕ) → t ≡ list (items_seen ts) → eqb (length ts) 0 ≡ false
    → new ≡ out ++ joined (items_lines 0 (items_seen ts)) → new ≡ out ++ joined (yaml_lines t)
puts_whole_list t ts out new is some put = rw (is, some_items ts some, put) refl

pub puts_whole_map : (t : Shape) (ps : List (List ℕ × Tree)) (out new : List ℕ) → t ≡ mapping (pairs_seen ps) → eqb (length ps) 0 ≡ false
    → new ≡ out ++ pairs_text 0 (pairs_seen ps) → new ≡ out ++ joined (yaml_lines t)
puts_whole_map t ps out new is some put = rw (is, some_pairs ps some, put) refl

pub empty_list_line : (t : Shape) (ts : List Tree) → t ≡ list (items_seen ts) → eqb (length ts) 0 ≡ true → yaml_lines t ≡ on_line t ∷ []
empty_list_line t ts is none = rw (is, none_items ts none) refl

pub empty_map_line : (t : Shape) (ps : List (List ℕ × Tree)) → t ≡ mapping (pairs_seen ps) → eqb (length ps) 0 ≡ true → yaml_lines t ≡ on_line t ∷ []
empty_map_line t ps is none = rw (is, none_pairs ps none) refl

-- one line and its end
pub puts_line : (t : Shape) (out mid : List ℕ) → yaml_lines t ≡ on_line t ∷ [] → mid ≡ out ++ on_line t → mid ++ encode 10 ≡ out ++ joined (yaml_lines t)
puts_line t out mid is put = rw (is, put, encode_ascii 10 (omega arith)) (simp (append_assoc, append-nil))
