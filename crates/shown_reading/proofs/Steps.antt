-- Readings that give a value without notes, one after another.
use Rattle.std.proofs.Common.{◌≡◌, ◌∙◌, ℕ, suc, List, [], ◌∷◌, ◌++◌, map, Option, Some, Ok, Err, refl, sym, ap, append_assoc}
use Rattle.std.specs.List.{All, cons_option}
use Rattle.std.proofs.lemmas.List.Elements.{All-head, All-tail}
use Rattle.base_model.specs.declared.PathStep.TheVariants.{At}
use Rattle.doc_tree.specs.Shape.{Shape, shapes_of, pairs_of}
use Rattle.show_core.specs.Fields.{Fields, each}
use Rattle.tree_schema.specs.Reading.{Steps, Reading, given, at_once, below, with_value, after, and_then, read_items, read_list, item}
use Rattle.tree_schema.specs.Tables.{Table, read_pair, read_pairs}
use Rattle.tree_schema.specs.Values.{Looked}

-- the entry that a table is of
abbrev pub EntryOf : {E : Type 0} → Table E → Type 0
EntryOf {E = E} t = E

after_none : {X : Type 0} (r : Reading X) → after [] r ≡ r
after_none (Ok (x, notes)) = refl
after_none (Err refusal) = refl

-- what is read after a value is read of that value
pub then_reads : {X Y : Type 0} (r : Reading X) (next : X → Reading Y) (x : X) (y : Reading Y) → r ≡ given x → next x ≡ y → and_then r next ≡ y
then_reads r next x y h k = ap (λ q. and_then q next) h ∙ after_none (next x) ∙ k

-- ---- pairs of a map, in two runs

after_twice : {X : Type 0} (l m : List Steps) (r : Reading X) → after (l ++ m) r ≡ after l (after m r)
after_twice l m (Ok (x, n)) = ap (λ k. Ok (x, k)) (append_assoc l m n)
after_twice l m (Err refusal) = refl

after_then : {X Y : Type 0} (notes : List Steps) (r : Reading X) (next : X → Reading Y) → and_then (after notes r) next ≡ after notes (and_then r next)
after_then notes (Ok (x, more)) next = after_twice notes more (next x)
after_then notes (Err refusal) next = refl

grouped : {X Y Z : Type 0} (r : Reading X) (next : X → Reading Y) (further : Y → Reading Z) → and_then (and_then r next) further ≡ and_then r (λ x. and_then (next x) further)
grouped (Ok (x, notes)) next further = after_then notes (next x) further
grouped (Err refusal) next further = refl

same_then : {X Y : Type 0} (r : Reading X) (next other : X → Reading Y) → ((x : X) → next x ≡ other x) → and_then r next ≡ and_then r other
same_then (Ok (x, notes)) next other same = ap (after notes) (same x)
same_then (Err refusal) next other same = refl

in_two : {E : Type 0} (t : Table E) (fs gs : Fields) (e : E) → read_pairs t e (pairs_of (fs ++ gs)) ≡ and_then (read_pairs t e (pairs_of fs)) (λ f. read_pairs t f (pairs_of gs))
in_two t [] gs e = sym (after_none (read_pairs t e (pairs_of gs)))
in_two {E} t (p ∷ fs) gs e =
    let rest : E → Reading E = λ f. read_pairs t f (pairs_of gs) in
    same_then (read_pair t p.0 p.1 e) (λ f. read_pairs t f (pairs_of (fs ++ gs))) (λ f. and_then (read_pairs t f (pairs_of fs)) rest) (in_two t fs gs)
    ∙ sym (grouped (read_pair t p.0 p.1 e) (λ f. read_pairs t f (pairs_of fs)) rest)

-- pairs, and then more of them
pub pairs_then : {E : Type 0} (t : Table E) (fs gs : Fields) (e f g : E) → read_pairs t e (pairs_of fs) ≡ given f → read_pairs t f (pairs_of gs) ≡ given g → read_pairs t e (pairs_of (fs ++ gs)) ≡ given g
pairs_then t fs gs e f g first next = in_two t fs gs e ∙ then_reads (read_pairs t e (pairs_of fs)) (λ d. read_pairs t d (pairs_of gs)) f (given g) first next

-- ---- lists

items_read : {X Y : Type 0} (tree : X → Shape) (read : Shape → Reading (Option Y)) (f : X → Y) (xs : List X) (i : ℕ) → All (λ x. read (tree x) ≡ given (Some (f x))) xs → read_items read i (shapes_of (map tree xs)) ≡ given (map f xs)
items_read tree read f [] i all = refl
items_read tree read f (x ∷ xs) i all =
    let rest = items_read tree read f xs (suc i) (All-tail (λ y. read (tree y) ≡ given (Some (f y))) x xs all) in
    then_reads (below (At i) (read (tree x))) (λ o. with_value (cons_option o) (read_items read (suc i) (shapes_of (map tree xs)))) (Some (f x)) (given (map f (x ∷ xs)))
    (ap (below (At i)) (All-head (λ y. read (tree y) ≡ given (Some (f y))) x xs all))
    (ap (with_value (cons_option (Some (f x)))) rest)

-- a list whose items are read as these
pub list_reads : {X Y : Type 0} (tree : X → Shape) (read : Shape → Reading (Option Y)) (f : X → Y) (xs : List X) → All (λ x. read (tree x) ≡ given (Some (f x))) xs → read_list read (each tree xs) ≡ given (map f xs)
list_reads tree read f xs all = items_read tree read f xs 0 all

map_same : {X : Type 0} (xs : List X) → map (λ x. x) xs ≡ xs
map_same [] = refl
map_same (x ∷ xs) = ap (λ ys. x ∷ ys) (map_same xs)

-- a list whose items are read as themselves
pub list_itself : {X : Type 0} (tree : X → Shape) (read : Shape → Reading (Option X)) (xs : List X) → All (λ x. read (tree x) ≡ given (Some x)) xs → read_list read (each tree xs) ≡ given xs
list_itself tree read xs all = list_reads tree read (λ x. x) xs all ∙ ap given (map_same xs)

-- an item that is looked at as a whole
pub item_reads : {X : Type 0} (look : Shape → Looked X) (s : Shape) (x : X) → look s ≡ Ok x → item look s ≡ given (Some x)
item_reads look s x h = ap (λ v. with_value Some (at_once v)) h
