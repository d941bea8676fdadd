-- The order of a map's pairs has no effect on the entry, where the rows of its table commute.
use Rattle.std.proofs.Common.{◌≡◌, ◌∙◌, ℕ, List, [], ◌∷◌, Bool, true, false, not, Option, Some, None, ◌⊎◌, inl, inr, refl, sym, ap, ap₂, subst}
use Rattle.std.specs.Prelude.{Ok, Err, bytes_eq, option_and_then, if◌then◌else◌}
use Rattle.std.proofs.lemmas.Bool.{and_parts, false≢true, false_from_ne_true}
use Rattle.std.proofs.lemmas.Slice.Eq.{bytes_eq-Decides}
use Rattle.base_model.specs.declared.PathStep.{PathStep}
use Rattle.base_model.specs.declared.PathStep.TheVariants.{Key}
use Rattle.doc_tree.specs.Shape.{Shape, nothing, truth, whole, text, list, mapping, Pairs, no_pairs, pair, lacks}
use Rattle.tree_schema.specs.Reading.{Steps, Reading, below, with_value, after, and_then}
use Rattle.tree_schema.specs.Values.{is_null}
use Rattle.tree_schema.specs.Tables.{Row, Table, read_row, is_listed, read_other, read_key, read_pair, read_pairs, read_map, value_in}
use Rattle.tree_schema.specs.Order.{value_of, keys_differ, SameValues, IsReadInAnyOrder}

-- ---- keys

same_key : (k l : List ℕ) → bytes_eq k l ≡ true → k ≡ l
same_key k l h = (bytes_eq-Decides k l).0 h

itself : (k : List ℕ) → bytes_eq k k ≡ true
itself k = (bytes_eq-Decides k k).1 refl

turned : (k l : List ℕ) → bytes_eq k l ≡ true → bytes_eq l k ≡ true
turned k l h = (bytes_eq-Decides l k).1 (sym (same_key k l h))

other_way : (k l : List ℕ) → bytes_eq k l ≡ false → bytes_eq l k ≡ false
other_way k l h = false_from_ne_true (bytes_eq l k) (λ e. false≢true (sym h ∙ turned l k e))

not_true : (b : Bool) → not b ≡ true → b ≡ false
not_true true h = absurd (false≢true h)
not_true false h = refl

-- ---- what stands under a key

found_first : (k : List ℕ) (s : Shape) (ps : Pairs) → value_in k (pair k s ps) ≡ s
found_first k s ps = rw (itself k) refl

found_later : (l k : List ℕ) (s : Shape) (ps : Pairs) → bytes_eq l k ≡ false → value_in k (pair l s ps) ≡ value_in k ps
found_later l k s ps h = rw h refl

lacks-value_in : (k : List ℕ) (ps : Pairs) → lacks k ps ≡ true → value_in k ps ≡ nothing
lacks-value_in k no_pairs h = refl
lacks-value_in k (pair l s ps) h =
    let parts = and_parts (not (bytes_eq k l)) (lacks k ps) h in
    found_later l k s ps (other_way k l (not_true (bytes_eq k l) parts.0)) ∙ lacks-value_in k ps parts.1

-- the pairs but for the first one of this key
abbrev without : List ℕ → Pairs → Pairs
without k no_pairs = no_pairs
without k (pair l s ps) = if bytes_eq k l then ps else pair l s (without k ps)

without-first : (k l : List ℕ) (s : Shape) (ps : Pairs) → bytes_eq k l ≡ true → without k (pair l s ps) ≡ ps
without-first k l s ps h = rw h refl

without-later : (k l : List ℕ) (s : Shape) (ps : Pairs) → bytes_eq k l ≡ false → without k (pair l s ps) ≡ pair l s (without k ps)
without-later k l s ps h = rw h refl

lacks-without-at : (m k l : List ℕ) (s : Shape) (ps : Pairs) (b : Bool) → bytes_eq k l ≡ b → not (bytes_eq m l) ≡ true → lacks m ps ≡ true → lacks m (without k ps) ≡ true → lacks m (without k (pair l s ps)) ≡ true
lacks-without-at m k l s ps true e here rest later = subst (λ qs. lacks m qs ≡ true) (sym (without-first k l s ps e)) rest
lacks-without-at m k l s ps false e here rest later = subst (λ qs. lacks m qs ≡ true) (sym (without-later k l s ps e)) (rw (here, later) refl)

lacks-without : (m k : List ℕ) (ps : Pairs) → lacks m ps ≡ true → lacks m (without k ps) ≡ true
lacks-without m k no_pairs h = refl
lacks-without m k (pair l s ps) h =
    let parts = and_parts (not (bytes_eq m l)) (lacks m ps) h in
    lacks-without-at m k l s ps (bytes_eq k l) refl parts.0 parts.1 (lacks-without m k ps parts.1)

differ-without-at : (k l : List ℕ) (s : Shape) (ps : Pairs) (b : Bool) → bytes_eq k l ≡ b → lacks l ps ≡ true → keys_differ ps ≡ true → keys_differ (without k ps) ≡ true → keys_differ (without k (pair l s ps)) ≡ true
differ-without-at k l s ps true e here rest later = subst (λ qs. keys_differ qs ≡ true) (sym (without-first k l s ps e)) rest
differ-without-at k l s ps false e here rest later = subst (λ qs. keys_differ qs ≡ true) (sym (without-later k l s ps e)) (rw (lacks-without l k ps here, later) refl)

differ-without : (k : List ℕ) (ps : Pairs) → keys_differ ps ≡ true → keys_differ (without k ps) ≡ true
differ-without k no_pairs h = refl
differ-without k (pair l s ps) h =
    let parts = and_parts (lacks l ps) (keys_differ ps) h in
    differ-without-at k l s ps (bytes_eq k l) refl parts.0 parts.1 (differ-without k ps parts.1)

-- under another key stands what stood there
other-without-at : (m k l : List ℕ) (s : Shape) (ps : Pairs) (b c : Bool) → bytes_eq k l ≡ b → bytes_eq l m ≡ c → bytes_eq k m ≡ false → value_in m (without k ps) ≡ value_in m ps → value_in m (without k (pair l s ps)) ≡ value_in m (pair l s ps)
other-without-at m k l s ps true c e d h later =
    ap (value_in m) (without-first k l s ps e) ∙ sym (found_later l m s ps (subst (λ n. bytes_eq n m ≡ false) (same_key k l e) h))
other-without-at m k l s ps false true e d h later = ap (value_in m) (without-later k l s ps e) ∙ (rw d refl)
other-without-at m k l s ps false false e d h later =
    ap (value_in m) (without-later k l s ps e) ∙ found_later l m s (without k ps) d ∙ later ∙ sym (found_later l m s ps d)

other-without : (m k : List ℕ) (ps : Pairs) → bytes_eq k m ≡ false → value_in m (without k ps) ≡ value_in m ps
other-without m k no_pairs h = refl
other-without m k (pair l s ps) h = other-without-at m k l s ps (bytes_eq k l) (bytes_eq l m) refl refl h (other-without m k ps h)

-- and under its own key nothing
own-without-at : (k l : List ℕ) (s : Shape) (ps : Pairs) (b : Bool) → bytes_eq k l ≡ b → lacks l ps ≡ true → value_in k (without k ps) ≡ nothing → value_in k (without k (pair l s ps)) ≡ nothing
own-without-at k l s ps true e here later =
    ap (value_in k) (without-first k l s ps e) ∙ lacks-value_in k ps (subst (λ n. lacks n ps ≡ true) (sym (same_key k l e)) here)
own-without-at k l s ps false e here later = ap (value_in k) (without-later k l s ps e) ∙ found_later l k s (without k ps) (other_way k l e) ∙ later

own-without : (k : List ℕ) (ps : Pairs) → keys_differ ps ≡ true → value_in k (without k ps) ≡ nothing
own-without k no_pairs h = refl
own-without k (pair l s ps) h =
    let parts = and_parts (lacks l ps) (keys_differ ps) h in
    own-without-at k l s ps (bytes_eq k l) refl parts.0 (own-without k ps parts.1)

-- ---- steps that commute

same_steps : {X Y : Type 0} (f g : X → Option Y) → ((x : X) → f x ≡ g x) → (o : Option X) → option_and_then f o ≡ option_and_then g o
same_steps f g same None = refl
same_steps f g same (Some x) = same x

grouped : {X Y Z : Type 0} (f : X → Option Y) (g : Y → Option Z) (o : Option X) → option_and_then g (option_and_then f o) ≡ option_and_then (λ x. option_and_then g (f x)) o
grouped f g None = refl
grouped f g (Some x) = refl

-- one step and then the other, in either order
abbrev pub Commute : {E : Type 0} → (E → Option E) → (E → Option E) → Type 0
Commute {E = E} f g = (e : E) → option_and_then g (f e) ≡ option_and_then f (g e)

-- a step that changes nothing, or that is always refused
abbrev pub IsInert : {E : Type 0} → (E → Option E) → Type 0
IsInert {E = E} f = ((e : E) → f e ≡ Some e) ⊎ ((e : E) → f e ≡ None)

unchanged : {E : Type 0} (f : E → Option E) → ((e : E) → f e ≡ Some e) → (o : Option E) → option_and_then f o ≡ o
unchanged f keeps None = refl
unchanged f keeps (Some e) = keeps e

refused : {E : Type 0} (f : E → Option E) → ((e : E) → f e ≡ None) → (o : Option E) → option_and_then f o ≡ None
refused f refuses None = refl
refused f refuses (Some e) = refuses e

-- an inert step commutes with each
pub inert_commutes : {E : Type 0} (f g : E → Option E) → IsInert f → Commute f g
inert_commutes f g (inl keeps) e = ap (option_and_then g) (keeps e) ∙ sym (unchanged f keeps (g e))
inert_commutes f g (inr refuses) e = ap (option_and_then g) (refuses e) ∙ sym (refused f refuses (g e))

-- steps that are equal to others that commute
like : {E : Type 0} (f g f' g' : E → Option E) → ((e : E) → f' e ≡ f e) → ((e : E) → g' e ≡ g e) → Commute f g → Commute f' g'
like f g f' g' same_f same_g comm e =
    same_steps g' g same_g (f' e) ∙ ap (option_and_then g) (same_f e) ∙ comm e ∙ sym (same_steps f' f same_f (g' e) ∙ ap (option_and_then f) (same_g e))

-- steps that commute do so in either order
pub turned_round : {E : Type 0} (f g : E → Option E) → Commute f g → Commute g f
turned_round f g comm e = sym (comm e)

-- two steps in a row commute with what each commutes with
both_commute : {E : Type 0} (f h g : E → Option E) → Commute f g → Commute h g → Commute (λ e. option_and_then h (f e)) g
both_commute f h g first second e =
    grouped h g (f e)
    ∙ same_steps (λ x. option_and_then g (h x)) (λ x. option_and_then h (g x)) second (f e)
    ∙ sym (grouped g h (f e))
    ∙ ap (option_and_then h) (first e)
    ∙ grouped f h (g e)

-- ---- the values of readings

value_of-after : {X : Type 0} (notes : List Steps) (r : Reading X) → value_of (after notes r) ≡ value_of r
value_of-after notes (Ok (x, further)) = refl
value_of-after notes (Err refusal) = refl

value_of-and_then : {X Y : Type 0} (r : Reading X) (next : X → Reading Y) → value_of (and_then r next) ≡ option_and_then (λ x. value_of (next x)) (value_of r)
value_of-and_then (Ok (x, notes)) next = value_of-after notes (next x)
value_of-and_then (Err refusal) next = refl

value_of-below : {X : Type 0} (step : PathStep) (r : Reading X) → value_of (below step r) ≡ value_of r
value_of-below step (Ok (x, notes)) = refl
value_of-below step (Err (reason, place)) = refl

-- ---- rows

abbrev pub read_by : {E : Type 0} → Row E → Shape → E → Option E
read_by row s e = value_of (row.read s e)

abbrev pub RowsCommute : {E : Type 0} → Row E → Row E → Type 0
RowsCommute a b = (s u : Shape) → Commute (read_by a s) (read_by b u)

-- a row with each of these
abbrev pub CommutesWith : {E : Type 0} → Row E → List (Row E) → Type 0
CommutesWith row [] = Unit {0}
CommutesWith row (r ∷ rs) = RowsCommute row r × CommutesWith row rs

-- each row with each later one
abbrev pub AllCommute : {E : Type 0} → List (Row E) → Type 0
AllCommute [] = Unit {0}
AllCommute (r ∷ rs) = CommutesWith r rs × AllCommute rs

-- each of these rows with a step
abbrev pub EachCommutes : {E : Type 0} → (E → Option E) → List (Row E) → Type 0
EachCommutes g [] = Unit {0}
EachCommutes g (r ∷ rs) = ((s : Shape) → Commute (read_by r s) g) × EachCommutes g rs

module _ {E : Type 0} (t : Table E) (inert : IsInert (λ e. value_of (t.others e))) where
  abbrev other : List ℕ → E → Option E
  other k e = value_of (read_other t k e)

  other_inert-at : (k : List ℕ) (b : Bool) → is_listed t.over k ≡ b → IsInert (λ e. value_of (t.others e)) → IsInert (other k)
  other_inert-at k true h i = inl (λ e. rw h refl)
  other_inert-at k false h (inl keeps) = inl (λ e. rw h (keeps e))
  other_inert-at k false h (inr refuses) = inr (λ e. rw h (refuses e))

  other_inert : (k : List ℕ) → IsInert (other k)
  other_inert k = other_inert-at k (is_listed t.over k) refl inert

  abbrev by_rows : List (Row E) → List ℕ → Shape → E → Option E
  by_rows rows k s e = value_of (read_row rows (read_other t k e) k s e)

  by_rows-here : (row : Row E) (rows : List (Row E)) (k : List ℕ) (s : Shape) (e : E) → bytes_eq k row.key ≡ true → by_rows (row ∷ rows) k s e ≡ read_by row s e
  by_rows-here row rows k s e h = rw h refl

  by_rows-later : (row : Row E) (rows : List (Row E)) (k : List ℕ) (s : Shape) (e : E) → bytes_eq k row.key ≡ false → by_rows (row ∷ rows) k s e ≡ by_rows rows k s e
  by_rows-later row rows k s e h = rw h refl

  one_with_rows-at : (a : Row E) (s : Shape) (r : Row E) (rs : List (Row E)) (l : List ℕ) (u : Shape) (b : Bool) → bytes_eq l r.key ≡ b → RowsCommute a r → Commute (read_by a s) (by_rows rs l u) → Commute (read_by a s) (by_rows (r ∷ rs) l u)
  one_with_rows-at a s r rs l u true h here later = like (read_by a s) (read_by r u) (read_by a s) (by_rows (r ∷ rs) l u) (λ e. refl) (λ e. by_rows-here r rs l u e h) (here s u)
  one_with_rows-at a s r rs l u false h here later = like (read_by a s) (by_rows rs l u) (read_by a s) (by_rows (r ∷ rs) l u) (λ e. refl) (λ e. by_rows-later r rs l u e h) later

  one_with_rows : (a : Row E) (s : Shape) (rs : List (Row E)) (l : List ℕ) (u : Shape) → CommutesWith a rs → Commute (read_by a s) (by_rows rs l u)
  one_with_rows a s [] l u all = turned_round (other l) (read_by a s) (inert_commutes (other l) (read_by a s) (other_inert l))
  one_with_rows a s (r ∷ rs) l u all = one_with_rows-at a s r rs l u (bytes_eq l r.key) refl all.0 (one_with_rows a s rs l u all.1)

  rows_commute-at : (r : Row E) (rs : List (Row E)) (k l : List ℕ) (s u : Shape) (b c : Bool) → bytes_eq k r.key ≡ b → bytes_eq l r.key ≡ c → bytes_eq k l ≡ false → CommutesWith r rs → Commute (by_rows rs k s) (by_rows rs l u) → Commute (by_rows (r ∷ rs) k s) (by_rows (r ∷ rs) l u)
  rows_commute-at r rs k l s u true true h g differ with_r later =
      absurd (false≢true (sym differ ∙ (bytes_eq-Decides k l).1 (same_key k r.key h ∙ sym (same_key l r.key g))))
  rows_commute-at r rs k l s u true false h g differ with_r later =
      like (read_by r s) (by_rows rs l u) (by_rows (r ∷ rs) k s) (by_rows (r ∷ rs) l u) (λ e. by_rows-here r rs k s e h) (λ e. by_rows-later r rs l u e g) (one_with_rows r s rs l u with_r)
  rows_commute-at r rs k l s u false true h g differ with_r later =
      like (by_rows rs k s) (read_by r u) (by_rows (r ∷ rs) k s) (by_rows (r ∷ rs) l u) (λ e. by_rows-later r rs k s e h) (λ e. by_rows-here r rs l u e g) (turned_round (read_by r u) (by_rows rs k s) (one_with_rows r u rs k s with_r))
  rows_commute-at r rs k l s u false false h g differ with_r later =
      like (by_rows rs k s) (by_rows rs l u) (by_rows (r ∷ rs) k s) (by_rows (r ∷ rs) l u) (λ e. by_rows-later r rs k s e h) (λ e. by_rows-later r rs l u e g) later

  rows_commute : (rs : List (Row E)) (k l : List ℕ) (s u : Shape) → bytes_eq k l ≡ false → AllCommute rs → Commute (by_rows rs k s) (by_rows rs l u)
  rows_commute [] k l s u differ all = inert_commutes (other k) (other l) (other_inert k)
  rows_commute (r ∷ rs) k l s u differ all = rows_commute-at r rs k l s u (bytes_eq k r.key) (bytes_eq l r.key) refl refl differ all.0 (rows_commute rs k l s u differ all.1)

  abbrev step : List ℕ → Shape → E → Option E
  step k s e = value_of (read_pair t k s e)

  step_null : (k : List ℕ) (s : Shape) (e : E) → is_null s ≡ true → step k s e ≡ Some e
  step_null k s e h = rw h refl

  step_some : (k : List ℕ) (s : Shape) (e : E) → is_null s ≡ false → step k s e ≡ by_rows t.keys k s e
  step_some k s e h = rw h (value_of-below (Key k) (read_key t k s e))

  steps_commute-at : (k l : List ℕ) (s u : Shape) (b c : Bool) → is_null s ≡ b → is_null u ≡ c → bytes_eq k l ≡ false → AllCommute t.keys → Commute (step k s) (step l u)
  steps_commute-at k l s u true c h g differ all = inert_commutes (step k s) (step l u) (inl (λ e. step_null k s e h))
  steps_commute-at k l s u false true h g differ all = turned_round (step l u) (step k s) (inert_commutes (step l u) (step k s) (inl (λ e. step_null l u e g)))
  steps_commute-at k l s u false false h g differ all =
      like (by_rows t.keys k s) (by_rows t.keys l u) (step k s) (step l u) (λ e. step_some k s e h) (λ e. step_some l u e g) (rows_commute t.keys k l s u differ all)

  steps_commute : (k l : List ℕ) (s u : Shape) → bytes_eq k l ≡ false → AllCommute t.keys → Commute (step k s) (step l u)
  steps_commute k l s u differ all = steps_commute-at k l s u (is_null s) (is_null u) refl refl differ all

  -- ---- maps

  abbrev run : Pairs → E → Option E
  run ps e = value_of (read_pairs t e ps)

  run-pair : (k : List ℕ) (s : Shape) (ps : Pairs) (e : E) → run (pair k s ps) e ≡ option_and_then (run ps) (step k s e)
  run-pair k s ps e = value_of-and_then (read_pair t k s e) (λ f. read_pairs t f ps)

  run-null : (k : List ℕ) (s : Shape) (ps : Pairs) (e : E) → is_null s ≡ true → run (pair k s ps) e ≡ run ps e
  run-null k s ps e h = run-pair k s ps e ∙ ap (option_and_then (run ps)) (step_null k s e h)

  is_nothing : (s : Shape) → s ≡ nothing → is_null s ≡ true
  is_nothing s h = ap is_null h

  later_null-at : (l k : List ℕ) (u : Shape) (qs : Pairs) (b : Bool) → bytes_eq l k ≡ b → lacks l qs ≡ true → value_in k (pair l u qs) ≡ nothing → value_in k qs ≡ nothing
  later_null-at l k u qs true e here h = lacks-value_in k qs (subst (λ m. lacks m qs ≡ true) (same_key l k e) here)
  later_null-at l k u qs false e here h = sym (found_later l k u qs e) ∙ h

  all_null : (qs : Pairs) (e : E) → keys_differ qs ≡ true → ((k : List ℕ) → value_in k qs ≡ nothing) → run qs e ≡ Some e
  all_null no_pairs e differ null = refl
  all_null (pair l u qs) e differ null =
      let parts = and_parts (lacks l qs) (keys_differ qs) differ in
      run-null l u qs e (is_nothing u (sym (found_first l u qs) ∙ null l)) ∙ all_null qs e parts.1 (λ k. later_null-at l k u qs (bytes_eq l k) refl parts.0 (null k))

  -- ---- a map that is read into an entry, with a step that each of its rows commutes with

  by_rows_commute-at : (r : Row E) (rs : List (Row E)) (k : List ℕ) (s : Shape) (g : E → Option E) (b : Bool) → bytes_eq k r.key ≡ b → Commute (read_by r s) g → Commute (by_rows rs k s) g → Commute (by_rows (r ∷ rs) k s) g
  by_rows_commute-at r rs k s g true h here later = like (read_by r s) g (by_rows (r ∷ rs) k s) g (λ e. by_rows-here r rs k s e h) (λ e. refl) here
  by_rows_commute-at r rs k s g false h here later = like (by_rows rs k s) g (by_rows (r ∷ rs) k s) g (λ e. by_rows-later r rs k s e h) (λ e. refl) later

  by_rows_commute : (rs : List (Row E)) (k : List ℕ) (s : Shape) (g : E → Option E) → EachCommutes g rs → Commute (by_rows rs k s) g
  by_rows_commute [] k s g each = inert_commutes (other k) g (other_inert k)
  by_rows_commute (r ∷ rs) k s g each = by_rows_commute-at r rs k s g (bytes_eq k r.key) refl (each.0 s) (by_rows_commute rs k s g each.1)

  step_commutes-at : (k : List ℕ) (s : Shape) (g : E → Option E) (b : Bool) → is_null s ≡ b → EachCommutes g t.keys → Commute (step k s) g
  step_commutes-at k s g true h each = inert_commutes (step k s) g (inl (λ e. step_null k s e h))
  step_commutes-at k s g false h each = like (by_rows t.keys k s) g (step k s) g (λ e. step_some k s e h) (λ e. refl) (by_rows_commute t.keys k s g each)

  run_commutes : (ps : Pairs) (g : E → Option E) → EachCommutes g t.keys → Commute (run ps) g
  run_commutes no_pairs g each = inert_commutes (run no_pairs) g (inl (λ e. refl))
  run_commutes (pair k s ps) g each =
      like (λ e. option_and_then (run ps) (step k s e)) g (run (pair k s ps)) g (λ e. run-pair k s ps e) (λ e. refl)
      (both_commute (step k s) (run ps) g (step_commutes-at k s g (is_null s) refl each) (run_commutes ps g each))

  -- a map that is read into an entry commutes with a step with which each row of its table commutes
  pub map_commutes : (g : E → Option E) → EachCommutes g t.keys → (s : Shape) → Commute (λ e. value_of (read_map t e s)) g
  map_commutes g each nothing = inert_commutes (λ e. value_of (read_map t e nothing)) g (inr (λ e. refl))
  map_commutes g each (truth b) = inert_commutes (λ e. value_of (read_map t e (truth b))) g (inr (λ e. refl))
  map_commutes g each (whole z) = inert_commutes (λ e. value_of (read_map t e (whole z))) g (inr (λ e. refl))
  map_commutes g each (text x) = inert_commutes (λ e. value_of (read_map t e (text x))) g (inr (λ e. refl))
  map_commutes g each (list ss) = inert_commutes (λ e. value_of (read_map t e (list ss))) g (inr (λ e. refl))
  map_commutes g each (mapping ps) = run_commutes ps g each

  module _ (all : AllCommute t.keys) where
    past : (k l : List ℕ) (s u : Shape) (qs ws : Pairs) (e : E) → bytes_eq l k ≡ false → ((f : E) → run qs f ≡ run (pair k s ws) f) → run (pair l u qs) e ≡ run (pair k s (pair l u ws)) e
    past k l s u qs ws e differ front =
        run-pair l u qs e
        ∙ same_steps (run qs) (λ f. option_and_then (run ws) (step k s f)) (λ f. front f ∙ run-pair k s ws f) (step l u e)
        ∙ sym (grouped (step k s) (run ws) (step l u e))
        ∙ ap (option_and_then (run ws)) (steps_commute l k u s differ all e)
        ∙ grouped (step l u) (run ws) (step k s e)
        ∙ sym (same_steps (run (pair l u ws)) (λ f. option_and_then (run ws) (step l u f)) (λ f. run-pair l u ws f) (step k s e))
        ∙ sym (run-pair k s (pair l u ws) e)

    to_front-at : (k l : List ℕ) (s u : Shape) (qs : Pairs) (e : E) (b : Bool) → bytes_eq l k ≡ b → value_in k (pair l u qs) ≡ s → (value_in k qs ≡ s → (f : E) → run qs f ≡ run (pair k s (without k qs)) f) → run (pair l u qs) e ≡ run (pair k s (without k (pair l u qs))) e
    to_front-at k l s u qs e true same here later =
        let value : u ≡ s = sym (rw same refl) ∙ here in
        ap₂ (λ (m : List ℕ) (v : Shape). run (pair m v qs) e) (same_key l k same) value ∙ ap (λ ws. run (pair k s ws) e) (sym (without-first k l u qs (turned l k same)))
    to_front-at k l s u qs e false same here later =
        past k l s u qs (without k qs) e same (later (sym (found_later l k u qs same) ∙ here)) ∙ ap (λ ws. run (pair k s ws) e) (sym (without-later k l u qs (other_way l k same)))

    to_front : (k : List ℕ) (s : Shape) (qs : Pairs) (e : E) → is_null s ≡ false → value_in k qs ≡ s → run qs e ≡ run (pair k s (without k qs)) e
    to_front k s no_pairs e some here = absurd (false≢true (sym some ∙ ap is_null (sym here)))
    to_front k s (pair l u qs) e some here = to_front-at k l s u qs e (bytes_eq l k) refl here (λ there f. to_front k s qs f some there)

    rest_null-at : (k l : List ℕ) (s : Shape) (ps qs : Pairs) (b : Bool) → bytes_eq k l ≡ b → is_null s ≡ true → s ≡ nothing → lacks k ps ≡ true → SameValues (pair k s ps) qs → value_in l ps ≡ value_in l qs
    rest_null-at k l s ps qs true e null is here same =
        lacks-value_in l ps (subst (λ m. lacks m ps ≡ true) (same_key k l e) here) ∙ (sym is ∙ sym (found_first k s ps)) ∙ subst (λ m. value_in k (pair k s ps) ≡ value_in m qs) (same_key k l e) (same k)
    rest_null-at k l s ps qs false e null is here same = sym (found_later k l s ps e) ∙ same l

    rest_some-at : (k l : List ℕ) (s : Shape) (ps qs : Pairs) (b : Bool) → bytes_eq k l ≡ b → lacks k ps ≡ true → keys_differ qs ≡ true → SameValues (pair k s ps) qs → value_in l ps ≡ value_in l (without k qs)
    rest_some-at k l s ps qs true e here differ same =
        lacks-value_in l ps (subst (λ m. lacks m ps ≡ true) (same_key k l e) here) ∙ sym (subst (λ m. value_in m (without k qs) ≡ nothing) (same_key k l e) (own-without k qs differ))
    rest_some-at k l s ps qs false e here differ same = sym (found_later k l s ps e) ∙ same l ∙ sym (other-without l k qs e)

    null_is : (s : Shape) → is_null s ≡ true → s ≡ nothing
    null_is nothing h = refl
    null_is (truth b) h = absurd (false≢true h)
    null_is (whole z) h = absurd (false≢true h)
    null_is (text x) h = absurd (false≢true h)
    null_is (list ss) h = absurd (false≢true h)
    null_is (mapping ps) h = absurd (false≢true h)

    mutual_step : (k : List ℕ) (s : Shape) (ps qs : Pairs) (e : E) (b : Bool) → is_null s ≡ b → keys_differ (pair k s ps) ≡ true → keys_differ qs ≡ true → SameValues (pair k s ps) qs
        → ((f : E) (rs : Pairs) → keys_differ rs ≡ true → SameValues ps rs → run ps f ≡ run rs f) → run (pair k s ps) e ≡ run qs e
    mutual_step k s ps qs e true null differ_p differ_q same later =
        let parts = and_parts (lacks k ps) (keys_differ ps) differ_p in
        run-null k s ps e null ∙ later e qs differ_q (λ l. rest_null-at k l s ps qs (bytes_eq k l) refl null (null_is s null) parts.0 same)
    mutual_step k s ps qs e false some differ_p differ_q same later =
        let parts = and_parts (lacks k ps) (keys_differ ps) differ_p in
        run-pair k s ps e
        ∙ same_steps (run ps) (run (without k qs)) (λ f. later f (without k qs) (differ-without k qs differ_q) (λ l. rest_some-at k l s ps qs (bytes_eq k l) refl parts.0 differ_q same)) (step k s e)
        ∙ sym (to_front k s qs e some (sym (same k) ∙ found_first k s ps) ∙ run-pair k s (without k qs) e)

    same_run : (ps qs : Pairs) (e : E) → keys_differ ps ≡ true → keys_differ qs ≡ true → SameValues ps qs → run ps e ≡ run qs e
    same_run no_pairs qs e differ_p differ_q same = sym (all_null qs e differ_q (λ k. sym (same k)))
    same_run (pair k s ps) qs e differ_p differ_q same =
        let parts = and_parts (lacks k ps) (keys_differ ps) differ_p in
        mutual_step k s ps qs e (is_null s) refl differ_p differ_q same (λ f rs differ_r same_r. same_run ps rs f parts.1 differ_r same_r)

    -- a table whose rows commute is read in any order
    pub any_order : IsReadInAnyOrder t
    any_order e ps qs differ_p differ_q same = same_run ps qs e differ_p differ_q same

-- ---- rows that commute

-- what is put into two fields, in either order
abbrev Swap : {E X Y : Type 0} → (E → X → E) → (E → Y → E) → Type 0
Swap {E = E} {X = X} {Y = Y} p q = (e : E) (x : X) (y : Y) → q (p e x) y ≡ p (q e y) x

puts-at : {E X Y : Type 0} (p : E → X → E) (q : E → Y → E) (a : Reading X) (b : Reading Y) → Swap p q → Commute (λ e. value_of (with_value (p e) a)) (λ e. value_of (with_value (q e) b))
puts-at p q (Ok (x, notes)) (Ok (y, further)) swap e = ap Some (swap e x y)
puts-at p q (Ok (x, notes)) (Err refusal) swap e = refl
puts-at p q (Err refusal) (Ok (y, further)) swap e = refl
puts-at p q (Err refusal) (Err other) swap e = refl

-- two values that are put into an entry in either order
pub puts : {E X Y : Type 0} (p : E → X → E) (q : E → Y → E) (a : Shape → Reading X) (b : Shape → Reading Y) → Swap p q → (s u : Shape) → Commute (λ e. value_of (with_value (p e) (a s))) (λ e. value_of (with_value (q e) (b u)))
puts p q a b swap s u = puts-at p q (a s) (b u) swap

abbrev refused_value : {Y : Type 0} → Option Y
refused_value = None

-- after a value that is refused nothing is read
pub nothing_after : {X Y : Type 0} (o : Option X) → option_and_then (λ (x : X). refused_value {Y = Y}) o ≡ refused_value {Y = Y}
nothing_after None = refl
nothing_after (Some x) = refl

-- a value that is passed by changes nothing
pub kept : {X : Type 0} (o : Option X) → option_and_then (λ x. Some x) o ≡ o
kept None = refl
kept (Some x) = refl

-- a row that commutes with each of these, at one of its values
pub each_with : {E : Type 0} (row : Row E) (rs : List (Row E)) (u : Shape) → CommutesWith row rs → EachCommutes (read_by row u) rs
each_with row [] u all = tt
each_with row (r ∷ rs) u all = ((λ s. turned_round (read_by row u) (read_by r s) (all.0 u s)), each_with row rs u all.1)
