-- Readings from a place: how the parts of a reading follow one another.
use Rattle.std.proofs.Common.{◌≡◌, ◌∙◌, ℕ, List, [], ◌∷◌, ◌++◌, map, refl, sym, ap, ap₂, append_assoc, append-nil, false, subst, length, get_or, drop, suc, ◌<◌, ◌+◌, arith, drop-cons}
use Rattle.std.proofs.lemmas.List.{map-append, drop_all}
use Rattle.std.specs.Prelude.{Result, Ok, Err, Option, Some, None, option_to_list, ◌≤◌}
use Rattle.std.specs.List.{cons_option}
use Rattle.base_model.specs.declared.Path.{Path}
use Rattle.base_model.specs.declared.PathStep.{PathStep}
use Rattle.tree_schema.specs.Reading.{Steps, Reading, given, below, with_value, after, and_then, read_items}
use Rattle.base_model.specs.declared.PathStep.TheVariants.{Key, At}
use Rattle.doc_tree.specs.Shape.{Shape, shape, pair_shape, Pairs, pairs_of, Shapes, shapes_of}
use Rattle.doc_tree.specs.declared.tree.Tree.{Tree}
use Rattle.tree_schema.specs.Values.{is_null}
use Rattle.tree_schema.specs.Tables.{Table, read_key, read_pair, read_pairs}
use Rattle.tree_schema.specs.Faults.{path_of, fault_of, told}
use Rattle.tree_schema.specs.declared.fault.SchemaFault.{SchemaFault}
use Rattle.tree_schema.specs.Reached.{Reached, reached, entered, path_below, from, Answers}
use Rattle.tree_schema.specs.declared.stop.Stop.{Stop}
use Rattle.tree_schema.specs.declared.stop.Stop.TheVariants.{Refused, OutOfMemory}
use Rattle.tree_schema.specs.declared.fault.Reason.{Reason}

-- a value alone changes nothing
pub from-given : {X : Type 0} (r : Reached) (x : X) → from r (given x) ≡ Ok (x, r)
from-given r x = ap (λ notes. Ok (x, reached r.here notes)) (append-nil r.notes)

-- back up from a node
abbrev pub left_to : {X : Type 0} → Steps → Result (X × Reached) (Reason × Steps) → Result (X × Reached) (Reason × Steps)
left_to here (Ok (x, r)) = Ok (x, reached here r.notes)
left_to here (Err refusal) = Err refusal

notes_below : (here : Steps) (step : PathStep) (notes : List Steps) → map (path_below here) (map (λ (place : Steps). step ∷ place) notes) ≡ map (path_below (here ++ step ∷ [])) notes
notes_below here step [] = refl
notes_below here step (place ∷ notes) = ap₂ (λ (steps : Steps) (paths : List Path). path_of steps ∷ paths) (sym (append_assoc here (step ∷ []) place)) (notes_below here step notes)

-- a reading one step down, seen from above
pub from-below : {X : Type 0} (r : Reached) (step : PathStep) (reading : Reading X) → from r (below step reading) ≡ left_to r.here (from (entered step r) reading)
from-below r step (Ok (x, notes)) = ap (λ paths. Ok (x, reached r.here (r.notes ++ paths))) (notes_below r.here step notes)
from-below r step (Err (reason, place)) = ap (λ (steps : Steps). Err (reason, steps)) (sym (append_assoc r.here (step ∷ []) place))

-- what follows a reading goes on from what was reached
abbrev pub goes_on : {X Y : Type 0} → (X → Reading Y) → Result (X × Reached) (Reason × Steps) → Result (Y × Reached) (Reason × Steps)
goes_on next (Ok (x, r)) = from r (next x)
goes_on next (Err refusal) = Err refusal

from-after : {X : Type 0} (r : Reached) (notes : List Steps) (reading : Reading X) → from r (after notes reading) ≡ from (reached r.here (r.notes ++ map (path_below r.here) notes)) reading
from-after r notes (Ok (x, further)) = ap (λ paths. Ok (x, reached r.here paths)) (ap (λ paths. r.notes ++ paths) (map-append (path_below r.here) notes further) ∙ sym (append_assoc r.notes (map (path_below r.here) notes) (map (path_below r.here) further)))
from-after r notes (Err (reason, place)) = refl

-- two readings, the second from what the first reached
pub from-and_then : {X Y : Type 0} (r : Reached) (reading : Reading X) (next : X → Reading Y) → from r (and_then reading next) ≡ goes_on next (from r reading)
from-and_then r (Ok (x, notes)) next = from-after r notes (next x)
from-and_then r (Err (reason, place)) next = refl

-- ---- by what was reached

-- a value that was read one step down
pub below_ok : {X : Type 0} (r new : Reached) (step : PathStep) (reading : Reading X) (x : X) → from (entered step r) reading ≡ Ok (x, new) → from r (below step reading) ≡ Ok (x, reached r.here new.notes)
below_ok r new step reading x h = from-below r step reading ∙ ap (left_to r.here) h

-- a refusal one step down
pub below_err : {X : Type 0} (r : Reached) (step : PathStep) (reading : Reading X) (refusal : Reason × Steps) → from (entered step r) reading ≡ Err refusal → from r (below step reading) ≡ Err refusal
below_err r step reading refusal h = from-below r step reading ∙ ap (left_to r.here) h

-- the second of two readings, once the first gave its value
pub next_ok : {X Y : Type 0} (r mid : Reached) (reading : Reading X) (next : X → Reading Y) (x : X) → from r reading ≡ Ok (x, mid) → from r (and_then reading next) ≡ from mid (next x)
next_ok r mid reading next x h = from-and_then r reading next ∙ ap (goes_on next) h

-- a refusal of the first of two readings is that of both
pub next_err : {X Y : Type 0} (r : Reached) (reading : Reading X) (next : X → Reading Y) (refusal : Reason × Steps) → from r reading ≡ Err refusal → from r (and_then reading next) ≡ Err refusal
next_err r reading next refusal h = from-and_then r reading next ∙ ap (goes_on next) h

-- the same of another value, from what was reached
abbrev pub on_value : {X Y : Type 0} → (X → Y) → Result (X × Reached) (Reason × Steps) → Result (Y × Reached) (Reason × Steps)
on_value f (Ok (x, r)) = Ok (f x, r)
on_value f (Err refusal) = Err refusal

-- another value reaches the same
pub from-with_value : {X Y : Type 0} (r : Reached) (f : X → Y) (reading : Reading X) → from r (with_value f reading) ≡ on_value f (from r reading)
from-with_value r f (Ok (x, notes)) = refl
from-with_value r f (Err (reason, place)) = refl

-- where the one gives a value so does the other
pub with_value_ok : {X Y : Type 0} (r new : Reached) (f : X → Y) (reading : Reading X) (x : X) → from r reading ≡ Ok (x, new) → from r (with_value f reading) ≡ Ok (f x, new)
with_value_ok r new f reading x read = from-with_value r f reading ∙ ap (on_value f) read

-- a reading ends where it begins
abbrev pub ends_at : {X : Type 0} → Steps → Result (X × Reached) (Reason × Steps) → Type 0
ends_at here (Ok (x, r)) = r.here ≡ here
ends_at here (Err refusal) = Unit {0}

pub ends_where_it_begins : {X : Type 0} (r : Reached) (reading : Reading X) → ends_at r.here (from r reading)
ends_where_it_begins r (Ok (x, notes)) = refl
ends_where_it_begins r (Err (reason, place)) = tt

-- ---- a map's pairs

-- leaving the node that was entered last
abbrev pub LeavesTo : Reached → Reached → Type 0
LeavesTo mid left = (here : Steps) (step : PathStep) → mid.here ≡ here ++ step ∷ [] → left ≡ reached here mid.notes

-- a value that was read between entering a node and leaving it
pub inside_ok : {X : Type 0} (r inside mid left : Reached) (step : PathStep) (reading : Reading X) (x : X) → inside ≡ entered step r → from inside reading ≡ Ok (x, mid) → LeavesTo mid left
    → from r (below step reading) ≡ Ok (x, left)
inside_ok r inside mid left step reading x into read leaves =
    let inside_read : from (entered step r) reading ≡ Ok (x, mid) = subst (λ at. from at reading ≡ Ok (x, mid)) into read in
    let stays : mid.here ≡ r.here ++ step ∷ [] = subst (ends_at (r.here ++ step ∷ [])) inside_read (ends_where_it_begins (entered step r) reading) in
    below_ok r mid step reading x inside_read ∙ ap (λ at. Ok (x, at)) (sym (leaves r.here step stays))

pub pair_ok : {E : Type 0} (t : Table E) (r inside mid left : Reached) (k : List ℕ) (s : Shape) (e f : E) → is_null s ≡ false → inside ≡ entered (Key k) r
    → from inside (read_key t k s e) ≡ Ok (f, mid) → LeavesTo mid left → from r (read_pair t k s e) ≡ Ok (f, left)
pair_ok t r inside mid left k s e f some into read leaves = rw some (inside_ok r inside mid left (Key k) (read_key t k s e) f into read leaves)

abbrev pub pairs_left : ℕ → List (List ℕ × Tree) → Pairs
pairs_left i pairs = pairs_of (map pair_shape (drop i pairs))

next_left : {A : Type 0} (i : ℕ) (xs : List A) (x : A) → i < length xs → x ≡ get_or xs i x → drop i xs ≡ x ∷ drop (i + 1) xs
next_left {A = A} i xs x h e = drop-cons xs i x h ∙ ap₂ (λ (y : A) (ys : List A). y ∷ ys) (sym e) (ap (λ (k : ℕ). drop k xs) (let s : suc i ≡ i + 1 = omega arith in s))

pub pairs_on : {E : Type 0} (t : Table E) (r mid : Reached) (i : ℕ) (pairs : List (List ℕ × Tree)) (p : List ℕ × Tree) (e f : E) → i < length pairs → p ≡ get_or pairs i p
    → from r (read_pair t p.0 (shape p.1) e) ≡ Ok (f, mid) → from mid (read_pairs t f (pairs_left (i + 1) pairs)) ≡ from r (read_pairs t e (pairs_left i pairs))
pairs_on t r mid i pairs p e f h is_p read =
    sym (ap (λ ps. from r (read_pairs t e (pairs_of (map pair_shape ps)))) (next_left i pairs p h is_p) ∙ next_ok r mid (read_pair t p.0 (shape p.1) e) (λ g. read_pairs t g (pairs_left (i + 1) pairs)) f read)

pub pairs_err : {E : Type 0} (t : Table E) (r : Reached) (i : ℕ) (pairs : List (List ℕ × Tree)) (p : List ℕ × Tree) (e : E) (refusal : Reason × Steps) → i < length pairs → p ≡ get_or pairs i p
    → from r (read_pair t p.0 (shape p.1) e) ≡ Err refusal → from r (read_pairs t e (pairs_left i pairs)) ≡ Err refusal
pairs_err t r i pairs p e refusal h is_p read =
    ap (λ ps. from r (read_pairs t e (pairs_of (map pair_shape ps)))) (next_left i pairs p h is_p) ∙ next_err r (read_pair t p.0 (shape p.1) e) (λ g. read_pairs t g (pairs_left (i + 1) pairs)) refusal read

-- ---- a list's items

-- the items from position i on
abbrev pub items_left : ℕ → List Tree → Shapes
items_left i trees = shapes_of (map shape (drop i trees))

-- the values so far, and after them those of a reading
abbrev pub after_values : {X : Type 0} → List X → Reading (List X) → Reading (List X)
after_values values reading = with_value (λ xs. values ++ xs) reading

pub none_so_far : {X : Type 0} (reading : Reading (List X)) → after_values [] reading ≡ reading
none_so_far (Ok (xs, notes)) = refl
none_so_far (Err refusal) = refl

with_value-after : {X Y : Type 0} (f : X → Y) (notes : List Steps) (reading : Reading X) → with_value f (after notes reading) ≡ after notes (with_value f reading)
with_value-after f notes (Ok (x, further)) = refl
with_value-after f notes (Err refusal) = refl

with_value-and_then : {X Y Z : Type 0} (f : Y → Z) (reading : Reading X) (next : X → Reading Y) → with_value f (and_then reading next) ≡ and_then reading (λ x. with_value f (next x))
with_value-and_then f (Ok (x, notes)) next = with_value-after f notes (next x)
with_value-and_then f (Err refusal) next = refl

given_one : {X : Type 0} (values xs : List X) (x : Option X) → values ++ cons_option x xs ≡ (values ++ option_to_list x) ++ xs
given_one values xs None = ap (λ vs. vs ++ xs) (sym (append-nil values))
given_one values xs (Some x) = sym (append_assoc values (x ∷ []) xs)

one_more : {X : Type 0} (values : List X) (x : Option X) (reading : Reading (List X)) → after_values values (with_value (cons_option x) reading) ≡ after_values (values ++ option_to_list x) reading
one_more values x (Ok (xs, notes)) = ap (λ vs. Ok (vs, notes)) (given_one values xs x)
one_more values x (Err refusal) = refl

module _ {X : Type 0} (read : Shape → Reading (Option X)) (r : Reached) (i : ℕ) (trees : List Tree) (tree : Tree) (values : List X) (h : i < length trees) (is_tree : tree ≡ get_or trees i tree) where
  first_item : from r (after_values values (read_items read i (items_left i trees))) ≡ goes_on (λ x. after_values values (with_value (cons_option x) (read_items read (suc i) (items_left (i + 1) trees)))) (from r (below (At i) (read (shape tree))))
  first_item =
      ap (λ ts. from r (after_values values (read_items read i (shapes_of (map shape ts))))) (next_left i trees tree h is_tree)
      ∙ (ap (from r) (with_value-and_then (λ xs. values ++ xs) (below (At i) (read (shape tree))) (λ x. with_value (cons_option x) (read_items read (suc i) (items_left (i + 1) trees))))
      ∙ from-and_then r (below (At i) (read (shape tree))) (λ x. after_values values (with_value (cons_option x) (read_items read (suc i) (items_left (i + 1) trees)))))

  pub items_on : (mid : Reached) (x : Option X) (further : List X) → from r (below (At i) (read (shape tree))) ≡ Ok (x, mid) → further ≡ values ++ option_to_list x
      → from mid (after_values further (read_items read (i + 1) (items_left (i + 1) trees))) ≡ from r (after_values values (read_items read i (items_left i trees)))
  items_on mid x further read_it pushed =
      let rest = items_left (i + 1) trees in
      let same : suc i ≡ i + 1 = omega arith in
      sym (first_item ∙ (ap (goes_on (λ x. after_values values (with_value (cons_option x) (read_items read (suc i) rest)))) read_it
      ∙ (ap (from mid) (one_more values x (read_items read (suc i) rest)) ∙ ap₂ (λ (vs : List X) (n : ℕ). from mid (after_values vs (read_items read n rest))) (sym pushed) same)))

  pub items_err : (refusal : Reason × Steps) → from r (below (At i) (read (shape tree))) ≡ Err refusal → from r (after_values values (read_items read i (items_left i trees))) ≡ Err refusal
  items_err refusal read_it = first_item ∙ ap (goes_on (λ x. after_values values (with_value (cons_option x) (read_items read (suc i) (items_left (i + 1) trees))))) read_it

pub items_end : {X : Type 0} (read : Shape → Reading (Option X)) (r : Reached) (i : ℕ) (trees : List Tree) (values : List X) → length trees ≤ i
    → from r (after_values values (read_items read i (items_left i trees))) ≡ Ok (values, r)
items_end read r i trees values past =
    ap (λ ts. from r (after_values values (read_items read i (shapes_of (map shape ts))))) (drop_all i trees past)
    ∙ (from-given r (values ++ []) ∙ ap (λ vs. Ok (vs, r)) (append-nil values))

-- ---- at the top

-- what is told of a reading from the top, from what was reached
abbrev pub told_from : {X Y : Type 0} → (X → List Path → Y) → Result (X × Reached) (Reason × Steps) → Result Y SchemaFault
told_from make (Ok (x, r)) = Ok (make x r.notes)
told_from make (Err refusal) = Err (fault_of refusal)

-- a reading from the top tells its value with the notes that were reached
pub told-from : {X Y : Type 0} (make : X → List Path → Y) (reading : Reading X) → told make reading ≡ told_from make (from (reached [] []) reading)
told-from make (Ok (x, notes)) = refl
told-from make (Err (reason, place)) = refl

-- the answer to what follows a reading is the answer to both
pub answers_next : {X Y : Type 0} (reading : Reading X) (next : X → Reading Y) (r mid new : Reached) (x : X) (result : Result Y Stop) → from r reading ≡ Ok (x, mid) → Answers (next x) mid new result
    → Answers (and_then reading next) r new result
answers_next reading next r mid new x (Ok y) h then_it = next_ok r mid reading next x h ∙ then_it
answers_next reading next r mid new x (Err (Refused reason)) h then_it = next_ok r mid reading next x h ∙ then_it
answers_next reading next r mid new x (Err OutOfMemory) h then_it = tt
