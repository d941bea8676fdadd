-- Maps that are read by tables whose rows don't look at the order of keys.
use Rattle.std.proofs.Common.{◌≡◌, ◌∙◌, ℕ, List, [], ◌∷◌, false, refl, sym, ap}
use Rattle.std.specs.Prelude.{bytes_eq}
use Rattle.base_model.specs.declared.PathStep.TheVariants.{Key}
use Rattle.doc_tree.specs.Shape.{Shape, nothing, truth, whole, text, list, mapping, Shapes, Pairs, no_pairs, pair}
use Rattle.tree_schema.specs.declared.Reason.{Reason}
use Rattle.tree_schema.specs.Reading.{Reading, given, given_over, refuse, at_once, below, with_value, and_then}
use Rattle.tree_schema.specs.Values.{Looked, is_null}
use Rattle.tree_schema.specs.Tables.{Row, Table, read_row, is_listed, read_other, read_key, read_pair, read_pairs, read_map, read_at, value_at}
use Rattle.tree_schema.specs.Order.{value_of, IsReadInAnyOrder}
use Rattle.order_laws.specs.Alike.{AreAlike}
use Rattle.order_laws.specs.Reordered.{IsReordered, same, lists, maps, ArePermuted, no_keys, keys, swapped, chained}
use Rattle.order_laws.proofs.Readings.{NoteSame, alike_same, alike_equal, alike_chained, alike_below, alike_value, alike_then, alike_if, notes_below, notes_value, notes_then, notes_if, either_order, grouped, given_on, same_then}
use Rattle.order_laws.proofs.Keys.{turned, two_differ, swapped_values, under_key}

-- what is read of a tree is alike for each order of its keys
abbrev pub ReadsAlike : {X : Type 0} → (Shape → Reading X) → Type 0
ReadsAlike read = (s t : Shape) → IsReordered s t → AreAlike (read s) (read t)

-- the same of what adds to an entry; what it notes doesn't hang on the entry
abbrev pub IsFair : {E : Type 0} → (Shape → E → Reading E) → Type 0
IsFair {E = E} read = ((e : E) → ReadsAlike (λ s. read s e)) × ((s : Shape) (e f : E) → NoteSame (read s e) (read s f))

abbrev pub AreFair : {E : Type 0} → List (Row E) → Type 0
AreFair [] = Unit {0}
AreFair (row ∷ rows) = IsFair row.read × AreFair rows

-- ---- rows

-- a map or a list isn't looked into
abbrev pub IsPlain : {X : Type 0} → (Shape → Looked X) → Type 0
IsPlain look = ((ss ts : Shapes) → look (list ss) ≡ look (list ts)) × ((ps qs : Pairs) → look (mapping ps) ≡ look (mapping qs))

pub looked_alike : {X : Type 0} (look : Shape → Looked X) → IsPlain look → (s t : Shape) → IsReordered s t → look s ≡ look t
looked_alike look plain s t (same u) = refl
looked_alike look plain s t (lists ss ts r) = plain.0 ss ts
looked_alike look plain s t (maps ps qs r) = plain.1 ps qs

-- a value that is looked at and put into the entry
pub value_fair : {E X : Type 0} (look : Shape → Looked X) (put : E → X → E) → IsPlain look → IsFair (λ s e. with_value (put e) (at_once (look s)))
value_fair look put plain = (
  (λ e s t r. alike_equal (with_value (put e) (at_once (look s))) (with_value (put e) (at_once (look t))) (ap (λ v. with_value (put e) (at_once v)) (looked_alike look plain s t r))),
  (λ s e f. notes_value (put e) (put f) (at_once (look s))),
)

-- a part that is read and put into the entry
pub part_fair : {E X : Type 0} (read : Shape → Reading X) (put : E → X → E) → ReadsAlike read → IsFair (λ s e. with_value (put e) (read s))
part_fair read put alike = (
  (λ e s t r. alike_value (put e) (read s) (read t) (alike s t r)),
  (λ s e f. notes_value (put e) (put f) (read s)),
)

-- a value that isn't looked at
pub passed_fair : {E : Type 0} → IsFair {E = E} (λ s e. given e)
passed_fair = ((λ e s t r. alike_same (given e)), (λ s e f. refl))

-- a value that is refused
pub refused_fair : {E : Type 0} (reason : Reason) → IsFair {E = E} (λ s e. refuse reason)
refused_fair reason = ((λ e s t r. tt), (λ s e f. tt))

-- ---- a table

pub record IsFairTable {E : Type 0} (t : Table E) : Type 0 where
  pub order : IsReadInAnyOrder t
  pub rows : AreFair t.keys
  pub others : (e f : E) → NoteSame (t.others e) (t.others f)

module _ {E : Type 0} (table : Table E) (fair : IsFairTable table) where
  row_alike : (rows : List (Row E)) → AreFair rows → (other : Reading E) (k : List ℕ) (s t : Shape) (e : E) → IsReordered s t → AreAlike (read_row rows other k s e) (read_row rows other k t e)
  row_alike [] all other k s t e r = alike_same other
  row_alike (row ∷ rows) all other k s t e r =
      alike_if (bytes_eq k row.key) (row.read s e) (row.read t e) (read_row rows other k s e) (read_row rows other k t e) (all.0.0 e s t r) (row_alike rows all.1 other k s t e r)

  row_notes : (rows : List (Row E)) → AreFair rows → (other further : Reading E) (k : List ℕ) (s : Shape) (e f : E) → NoteSame other further → NoteSame (read_row rows other k s e) (read_row rows further k s f)
  row_notes [] all other further k s e f h = h
  row_notes (row ∷ rows) all other further k s e f h =
      notes_if (bytes_eq k row.key) (row.read s e) (read_row rows other k s e) (row.read s f) (read_row rows further k s f) (all.0.1 s e f) (row_notes rows all.1 other further k s e f h)

  other_notes : (k : List ℕ) (e f : E) → NoteSame (read_other table k e) (read_other table k f)
  other_notes k e f = notes_if (is_listed table.over k) (given_over e) (table.others e) (given_over f) (table.others f) refl (fair.others e f)

  key_alike : (k : List ℕ) (s t : Shape) (e : E) → IsReordered s t → AreAlike (read_key table k s e) (read_key table k t e)
  key_alike k s t e r = row_alike table.keys fair.rows (read_other table k e) k s t e r

  pair_alike : (k : List ℕ) (s t : Shape) (e : E) → IsReordered s t → AreAlike (read_pair table k s e) (read_pair table k t e)
  pair_alike k s t e (same u) = alike_same (read_pair table k u e)
  pair_alike k s t e (lists ss ts r) = alike_below (Key k) (read_key table k (list ss) e) (read_key table k (list ts) e) (key_alike k (list ss) (list ts) e (lists ss ts r))
  pair_alike k s t e (maps ps qs r) = alike_below (Key k) (read_key table k (mapping ps) e) (read_key table k (mapping qs) e) (key_alike k (mapping ps) (mapping qs) e (maps ps qs r))

  pair_notes : (k : List ℕ) (s : Shape) (e f : E) → NoteSame (read_pair table k s e) (read_pair table k s f)
  pair_notes k s e f =
      notes_if (is_null s) (given e) (below (Key k) (read_key table k s e)) (given f) (below (Key k) (read_key table k s f)) refl
      (notes_below (Key k) (read_key table k s e) (read_key table k s f) (row_notes table.keys fair.rows (read_other table k e) (read_other table k f) k s e f (other_notes k e f)))

  two_pairs : (k l : List ℕ) (s t : Shape) (e : E) → read_pairs table e (pair k s (pair l t no_pairs)) ≡ and_then (read_pair table k s e) (λ f. read_pair table l t f)
  two_pairs k l s t e = same_then (read_pair table k s e) (λ f. and_then (read_pair table l t f) (λ g. given g)) (λ f. read_pair table l t f) (λ f. given_on (read_pair table l t f))

  two_alike : (k l : List ℕ) (s t : Shape) (e : E) → bytes_eq k l ≡ false → AreAlike (and_then (read_pair table k s e) (λ f. read_pair table l t f)) (and_then (read_pair table l t e) (λ f. read_pair table k s f))
  two_alike k l s t e differ =
      either_order (read_pair table k s e) (read_pair table l t e) (λ f. read_pair table k s f) (λ f. read_pair table l t f) (λ f. pair_notes k s e f) (λ f. pair_notes l t e f)
      (ap value_of (sym (two_pairs k l s t e))
      ∙ fair.order e (pair k s (pair l t no_pairs)) (pair l t (pair k s no_pairs)) (two_differ k l s t differ) (two_differ l k t s (turned k l differ)) (swapped_values k l s t no_pairs differ)
      ∙ ap value_of (two_pairs l k t s e))

  swap_alike : (k l : List ℕ) (s t : Shape) (ps : Pairs) (e : E) → bytes_eq k l ≡ false → AreAlike (read_pairs table e (pair k s (pair l t ps))) (read_pairs table e (pair l t (pair k s ps)))
  swap_alike k l s t ps e differ =
      let rest : E → Reading E = λ g. read_pairs table g ps in
      let first : Reading E = and_then (read_pair table k s e) (λ f. read_pair table l t f) in
      let second : Reading E = and_then (read_pair table l t e) (λ f. read_pair table k s f) in
      alike_chained (read_pairs table e (pair k s (pair l t ps))) (and_then first rest) (read_pairs table e (pair l t (pair k s ps)))
      (alike_equal (read_pairs table e (pair k s (pair l t ps))) (and_then first rest) (grouped (read_pair table k s e) (λ f. read_pair table l t f) rest))
      (alike_chained (and_then first rest) (and_then second rest) (read_pairs table e (pair l t (pair k s ps)))
      (alike_then first second rest rest (two_alike k l s t e differ) (λ g. alike_same (rest g)))
      (alike_equal (and_then second rest) (read_pairs table e (pair l t (pair k s ps))) (sym (grouped (read_pair table l t e) (λ f. read_pair table k s f) rest))))

  pairs_alike : (ps qs : Pairs) → ArePermuted ps qs → (e : E) → AreAlike (read_pairs table e ps) (read_pairs table e qs)
  pairs_alike ps qs no_keys e = alike_same (given e)
  pairs_alike ps qs (keys k s t rest others here there) e =
      alike_then (read_pair table k s e) (read_pair table k t e) (λ f. read_pairs table f rest) (λ f. read_pairs table f others) (pair_alike k s t e here) (λ f. pairs_alike rest others there f)
  pairs_alike ps qs (swapped k l s t rest differ) e = swap_alike k l s t rest e differ
  pairs_alike ps qs (chained first second third one two) e =
      alike_chained (read_pairs table e first) (read_pairs table e second) (read_pairs table e third) (pairs_alike first second one e) (pairs_alike second third two e)

  pub map_alike : (e : E) → ReadsAlike (λ s. read_map table e s)
  map_alike e s t (same u) = alike_same (read_map table e u)
  map_alike e s t (lists ss ts r) = tt
  map_alike e s t (maps ps qs r) = pairs_alike ps qs r e

  pairs_notes : (ps : Pairs) (e f : E) → NoteSame (read_pairs table e ps) (read_pairs table f ps)
  pairs_notes no_pairs e f = refl
  pairs_notes (pair k s ps) e f = notes_then (read_pair table k s e) (read_pair table k s f) (λ g. read_pairs table g ps) (pair_notes k s e f) (λ g h. pairs_notes ps g h)

  map_notes : (s : Shape) (e f : E) → NoteSame (read_map table e s) (read_map table f s)
  map_notes nothing e f = tt
  map_notes (truth b) e f = tt
  map_notes (whole z) e f = tt
  map_notes (text x) e f = tt
  map_notes (list ss) e f = tt
  map_notes (mapping ps) e f = pairs_notes ps e f

  -- a map that adds to an entry
  pub map_fair : IsFair (λ s e. read_map table e s)
  map_fair = ((λ e. map_alike e), map_notes)

-- ---- what stands under a key

present_alike : {X : Type 0} (m : List ℕ) (read : Shape → Reading X) (none : X) → ReadsAlike read → ReadsAlike (λ s. read_at m read none s)
present_alike m read none alike s t (same u) = alike_same (read_at m read none u)
present_alike m read none alike s t (lists ss ts r) = alike_below (Key m) (read (list ss)) (read (list ts)) (alike (list ss) (list ts) (lists ss ts r))
present_alike m read none alike s t (maps ps qs r) = alike_below (Key m) (read (mapping ps)) (read (mapping qs)) (alike (mapping ps) (mapping qs) (maps ps qs r))

-- where a reading of trees is alike, so is that of what stands under a key
pub value_alike : {X : Type 0} (m : List ℕ) (read : Shape → Reading X) → ReadsAlike read → ReadsAlike (λ s. read (value_at m s))
value_alike m read alike s t r =
    under_key (λ u v. AreAlike (read u) (read v)) (λ u. alike_same (read u)) (λ u v w one two. alike_chained (read u) (read v) (read w) one two) alike m s t r

pub under_alike : {X : Type 0} (m : List ℕ) (read : Shape → Reading X) (none : X) → ReadsAlike read → ReadsAlike (λ s. read_at m read none (value_at m s))
under_alike m read none alike s t r = value_alike m (λ u. read_at m read none u) (present_alike m read none alike) s t r
