-- What stands so is read, and so no other tree stands for the rows.
use Rattle.std.proofs.Common.{◌≡◌, ◌≢◌, ℕ, zero, suc, ◌+◌, ◌<◌, ◌≤◌, Bool, true, false, not, cond, eqb, ltb, List, [], ◌∷◌, ◌++◌, length, Option, Some, None, Ok, refl, sym, ap, subst, ◌∙◌, append_assoc, arith, inl, inr, length-append}
use Rattle.std.specs.Prelude.{◌&&◌, ◌||◌, option_map}
use Rattle.std.proofs.lemmas.Bool.{false≢true, eqb-true, ltb-true, ltb-false, le-ltb, ne_eqb, and_parts, and_right, or_cases, cases_Bool, or_parts}
use Rattle.std.proofs.lemmas.List.{append-nil}
use Rattle.doc_tree.specs.Shape.{Shape, nothing, truth, whole, text, list, mapping, Shapes, no_shapes, more, Pairs, no_pairs, pair, shapes_of, pairs_of}
use Rattle.yaml_plain.specs.Bytes.{tail, at_gap}
use Rattle.yaml_read.specs.Keys.{◌>>=◌, key}
use Rattle.yaml_read.specs.OnLine.{entry_on_line}
use Rattle.yaml_read.specs.Rows.{Row, is_dash}
use Rattle.yaml_read.specs.Outside.{is_outside}
use Rattle.yaml_read.specs.Reading.{Block, is_own, own_key, own_dash, begin_with, is_deeper, is_below_key, first_pair, first_item, value_of, pairs, items, some_pairs, some_items, node, document, all_rows}
use Rattle.yaml_read.specs.Standing.{HasValue, IsNode, IsMapping, IsSequence, StandFor}
use Rattle.yaml_read.proofs.Sound.{FirstPair, FirstItem, ok_is, node_some}
use Rattle.doc_tree.specs.declared.limits.TheConstants.{MAX_LEVELS}
use Rattle.yaml_plain.specs.declared.style.Style.TheVariants as style

abbrev list_of : Pairs → List (List ℕ × Shape)
list_of no_pairs = []
list_of (pair k t ps) = (k, t) ∷ list_of ps

abbrev trees_of : Shapes → List Shape
trees_of no_shapes = []
trees_of (more t ts) = t ∷ trees_of ts

pairs_of-list_of : (ps : Pairs) → pairs_of (list_of ps) ≡ ps
pairs_of-list_of no_pairs = refl
pairs_of-list_of (pair k t ps) = ap (pair k t) (pairs_of-list_of ps)

shapes_of-trees_of : (ts : Shapes) → shapes_of (trees_of ts) ≡ ts
shapes_of-trees_of no_shapes = refl
shapes_of-trees_of (more t ts) = ap (more t) (shapes_of-trees_of ts)

-- ---- a dash is no key
lone_no_key : (bs : List ℕ) → at_gap bs ≡ true → key style.Block (45 ∷ bs) ≡ None
unfolding key
lone_no_key bs gap = rw gap refl

dash_no_key : (b : ℕ) (bs : List ℕ) → b ≡ 45 → at_gap bs ≡ true → key style.Block (b ∷ bs) ≡ None
dash_no_key b bs is gap = subst (λ (x : ℕ). key style.Block (x ∷ bs) ≡ None) (sym is) (lone_no_key bs gap)

pub no_key : (bs : List ℕ) → is_dash bs ≡ true → key style.Block bs ≡ None
no_key [] is = absurd (false≢true is)
no_key (b ∷ bs) is =
    let both = and_parts (eqb b 45) (at_gap bs) is in
    dash_no_key b bs (eqb-true b 45 both.0) both.1

pub key_no_dash : (bs : List ℕ) (k : List ℕ × List ℕ) → key style.Block bs ≡ Some k → is_dash bs ≡ false
key_no_dash bs k is = elim (cases_Bool (is_dash bs)) as (λ _. is_dash bs ≡ false) [
  | inl dash ↦ let e : Some k ≡ None = sym is ∙ no_key bs dash in absurd cc
  | inr other ↦ other
]

-- ---- the column of a row that goes on
own_column : (c : ℕ) (r : Row) → is_own c r ≡ true → r.column ≡ c
own_column c r is = eqb-true r.column c (and_parts (eqb r.column c) (not (is_outside r)) is).0

pub dash_column : (c : ℕ) (r : Row) → own_dash c r ≡ true → r.column ≡ c
unfolding own_dash
dash_column c r is = own_column c r (and_parts (is_own c r) (is_dash r.text) is).0

pub dash_text : (c : ℕ) (r : Row) → own_dash c r ≡ true → is_dash r.text ≡ true
unfolding own_dash
dash_text c r is = (and_parts (is_own c r) (is_dash r.text) is).1

key_parts : (b : Bool) (o : Option (List ℕ × List ℕ)) (k : List ℕ × List ℕ) → cond b o None ≡ Some k → (b ≡ true) × (o ≡ Some k)
key_parts true o k is = (refl, is)
key_parts false o k is = absurd cc

pub key_column : (c : ℕ) (r : Row) (k : List ℕ × List ℕ) → own_key c r ≡ Some k → r.column ≡ c
unfolding own_key
key_column c r k is = own_column c r (key_parts (is_own c r) (key style.Block r.text) k is).0

pub key_text : (c : ℕ) (r : Row) (k : List ℕ × List ℕ) → own_key c r ≡ Some k → is_dash r.text ≡ false
unfolding own_key
key_text c r k is = key_no_dash r.text k (key_parts (is_own c r) (key style.Block r.text) k is).1

pub no_own_dash : (c : ℕ) (r : Row) → is_dash r.text ≡ false → own_dash c r ≡ false
unfolding own_dash
no_own_dash c r is = and_right (is_own c r) (is_dash r.text) is

other_own : (c : ℕ) (r : Row) → r.column ≢ c → is_own c r ≡ false
other_own c r ne = ap (λ b. b && not (is_outside r)) (ne_eqb r.column c ne)

other_dash : (c : ℕ) (r : Row) → r.column ≢ c → own_dash c r ≡ false
unfolding own_dash
other_dash c r ne = ap (λ b. b && is_dash r.text) (other_own c r ne)

other_key : (c : ℕ) (r : Row) → r.column ≢ c → own_key c r ≡ None
unfolding own_key
other_key c r ne = ap (λ b. cond b (key style.Block r.text) None) (other_own c r ne)

-- ---- what may follow
-- behind a sequence at this column, and behind a map
abbrev AfterSequence : ℕ → List Row → Type 0
AfterSequence c [] = Unit {0}
AfterSequence c (r ∷ rows) = (r.column ≤ c) × (own_dash c r ≡ false)

abbrev AfterMap : ℕ → List Row → Type 0
AfterMap c [] = Unit {0}
AfterMap c (r ∷ rows) = (r.column ≤ c) × (own_dash c r ≡ false) × (own_key c r ≡ None)

abbrev After : Shape → ℕ → List Row → Type 0
After nothing c rows = Unit {0}
After (truth b) c rows = Unit {0}
After (whole z) c rows = Unit {0}
After (text s) c rows = Unit {0}
After (list ts) c rows = AfterSequence c rows
After (mapping ps) c rows = AfterMap c rows

-- the rows begin before this column
abbrev Before : ℕ → List Row → Type 0
Before c [] = Unit {0}
Before c (r ∷ rows) = r.column < c

Before-sequence : (c : ℕ) (rows : List Row) → Before c rows → AfterSequence c rows
Before-sequence c [] b = tt
Before-sequence c (r ∷ rows) b = (omega arith, other_dash c r (λ e. absurd (omega arith)))

Before-map : (c : ℕ) (rows : List Row) → Before c rows → AfterMap c rows
Before-map c [] b = tt
Before-map c (r ∷ rows) b = (omega arith, other_dash c r (λ e. absurd (omega arith)), other_key c r (λ e. absurd (omega arith)))

Before-any : (t : Shape) (c : ℕ) (rows : List Row) → Before c rows → After t c rows
Before-any nothing c rows b = tt
Before-any (truth x) c rows b = tt
Before-any (whole z) c rows b = tt
Before-any (text s) c rows b = tt
Before-any (list ts) c rows b = Before-sequence c rows b
Before-any (mapping ps) c rows b = Before-map c rows b

-- rows that aren't deeper begin before a deeper column
not_deeper : (c d : ℕ) (rows : List Row) → c < d → begin_with (is_deeper c) rows ≡ false → Before d rows
not_deeper c d [] lt is = tt
not_deeper c d (r ∷ rows) lt is = let le : r.column ≤ c = ltb-false c r.column is in omega arith

not_below : (c d : ℕ) (rows : List Row) → c < d → begin_with (is_below_key c) rows ≡ false → Before d rows
not_below c d [] lt is = tt
not_below c d (r ∷ rows) lt is = let le : r.column ≤ c = ltb-false c r.column (or_parts (ltb c r.column) (own_dash c r) is).0 in omega arith

not_below_sequence : (c : ℕ) (rows : List Row) → begin_with (is_below_key c) rows ≡ false → AfterSequence c rows
not_below_sequence c [] is = tt
not_below_sequence c (r ∷ rows) is =
    let both = or_parts (ltb c r.column) (own_dash c r) is in
    (ltb-false c r.column both.0, both.1)

heads : (a : Row) (xs : List Row) (b : Row) (bs : List Row) → a ∷ xs ≡ b ∷ bs → a ≡ b
heads a xs b bs e = cc

-- what a map's and a sequence's first row is
first_key : (n c : ℕ) (keys : List (List ℕ)) (r : Row) (rows : List Row) (ps : Pairs) → IsMapping n c keys (r ∷ rows) ps → (k : List ℕ × List ℕ) × (own_key c r ≡ Some k)
first_key n c keys r rows no_pairs is = absurd cc
first_key n c keys r rows (pair k t ps) is =
    let same : r ≡ is.0 = heads r rows is.0 (is.1 ++ is.2) is.4 in
    ((k, is.3), ap (own_key c) same ∙ is.5)

first_dash : (n c : ℕ) (r : Row) (rows : List Row) (ts : Shapes) → IsSequence n c (r ∷ rows) ts → own_dash c r ≡ true
first_dash n c r rows no_shapes is = absurd cc
first_dash n c r rows (more t ts) is =
    let same : r ≡ is.0 = heads r rows is.0 (is.1 ++ is.2) is.3 in
    ap (own_dash c) same ∙ is.4

-- a node that begins with a dash at this column is a sequence, and what isn't below a key follows it
dash_after : (n c : ℕ) (q : Row) (body rows : List Row) (t : Shape) → own_dash c q ≡ true → IsNode n (q ∷ body) t → AfterSequence q.column rows → After t q.column rows
dash_after n c q body rows nothing dash is after = tt
dash_after n c q body rows (truth b) dash is after = tt
dash_after n c q body rows (whole z) dash is after = tt
dash_after n c q body rows (text s) dash is after = tt
dash_after n c q body rows (list ts) dash is after = after
dash_after n c q body rows (mapping ps) dash is after =
    let first = first_key is.1 is.0 [] q body ps is.4 in
    absurd (false≢true (sym (key_text is.0 q first.0 first.1) ∙ dash_text c q dash))

after_pair : (n c : ℕ) (rows : List Row) (t : Shape) → begin_with (is_below_key c) rows ≡ false → (q : Row) (body : List Row) → is_below_key c q ≡ true → IsNode n (q ∷ body) t → After t q.column rows
after_pair n c rows t ends q body is node_is = elim (or_cases (ltb c q.column) (own_dash c q) is) as (λ _. After t q.column rows) [
  | inl deeper ↦ Before-any t q.column rows (not_below c q.column rows (ltb-true c q.column deeper) ends)
  | inr dash ↦ dash_after n c q body rows t dash node_is (subst (λ (x : ℕ). AfterSequence x rows) (sym (dash_column c q dash)) (not_below_sequence c rows ends))
]

after_item : (n c : ℕ) (rows : List Row) (t : Shape) → begin_with (is_deeper c) rows ≡ false → (q : Row) (body : List Row) → is_deeper c q ≡ true → IsNode n (q ∷ body) t → After t q.column rows
after_item n c rows t ends q body deeper node_is = Before-any t q.column rows (not_deeper c q.column rows (ltb-true c q.column deeper) ends)

-- ---- what follows an entry doesn't belong to its value
ends_map : (c : ℕ) (rows : List Row) → AfterMap c rows → begin_with (is_below_key c) rows ≡ false
ends_map c [] after = refl
ends_map c (r ∷ rows) after = rw (le-ltb c r.column after.0, after.1) refl

follows_pair : (n c : ℕ) (keys : List (List ℕ)) (others rest : List Row) (ps : Pairs) → IsMapping n c keys others ps → AfterMap c rest → begin_with (is_below_key c) (others ++ rest) ≡ false
follows_pair n c keys others rest no_pairs is after = subst (λ (x : List Row). begin_with (is_below_key c) (x ++ rest) ≡ false) (sym is) (ends_map c rest after)
follows_pair n c keys others rest (pair k t ps) is after =
    let at : is.0.column ≡ c = key_column c is.0 (k, is.3) is.5 in
    let not_deep : ltb c is.0.column ≡ false = le-ltb c is.0.column (omega arith) in
    let not_dash : own_dash c is.0 ≡ false = no_own_dash c is.0 (key_text c is.0 (k, is.3) is.5) in
    let ends : is_below_key c is.0 ≡ false = rw (not_deep, not_dash) refl in
    subst (λ (x : List Row). begin_with (is_below_key c) (x ++ rest) ≡ false) (sym is.4) ends

ends_sequence : (c : ℕ) (rows : List Row) → AfterSequence c rows → begin_with (is_deeper c) rows ≡ false
ends_sequence c [] after = refl
ends_sequence c (r ∷ rows) after = le-ltb c r.column after.0

follows_item : (n c : ℕ) (others rest : List Row) (ts : Shapes) → IsSequence n c others ts → AfterSequence c rest → begin_with (is_deeper c) (others ++ rest) ≡ false
follows_item n c others rest no_shapes is after = subst (λ (x : List Row). begin_with (is_deeper c) (x ++ rest) ≡ false) (sym is) (ends_sequence c rest after)
follows_item n c others rest (more t ts) is after =
    let at : is.0.column ≡ c = dash_column c is.0 is.4 in
    let ends : is_deeper c is.0 ≡ false = le-ltb c is.0.column (omega arith) in
    subst (λ (x : List Row). begin_with (is_deeper c) (x ++ rest) ≡ false) (sym is.3) ends

no_pair_after : (c : ℕ) (rows : List Row) → AfterMap c rows → first_pair c rows ≡ None
no_pair_after c [] after = refl
no_pair_after c (r ∷ rows) after = ap (λ o. option_map {U = FirstPair} (λ k. (k, r, rows)) o) after.2

no_item_after : (c : ℕ) (rows : List Row) → AfterSequence c rows → first_item c rows ≡ None
no_item_after c [] after = refl
no_item_after c (r ∷ rows) after = ap (λ b. cond {A = Option FirstItem} b (Some (r, rows)) None) after.1

module _ (n : ℕ) (read : List Row → Block Shape) (read_complete : (r : Row) (body : List Row) (t : Shape) (rest : List Row) → IsNode n (r ∷ body) t → After t r.column rest → read (r ∷ body ++ rest) ≡ Ok (t, rest)) where
  node_value : (test : Row → Bool) (r : Row) (line : List ℕ) (body : List Row) (t : Shape) (rest : List Row) → entry_on_line n line ≡ Ok None → begin_with test body ≡ true → IsNode n body t
      → ((q : Row) (others : List Row) → test q ≡ true → IsNode n (q ∷ others) t → After t q.column rest)
      → value_of n read r line (begin_with test (body ++ rest)) (body ++ rest) ≡ Ok (t, rest)
  unfolding value_of
  node_value test r line [] t rest none_is is_first is after = absurd (node_some n t is)
  node_value test r line (q ∷ body) t rest none_is is_first is after = rw (none_is, is_first) (read_complete q body t rest is (after q body is_first is))

  value_complete : (test : Row → Bool) (r : Row) (line : List ℕ) (body : List Row) (t : Shape) (rest : List Row) → HasValue n line (begin_with test body) body t (IsNode n body t) → begin_with test rest ≡ false
      → ((q : Row) (others : List Row) → test q ≡ true → IsNode n (q ∷ others) t → After t q.column rest)
      → value_of n read r line (begin_with test (body ++ rest)) (body ++ rest) ≡ Ok (t, rest)
  unfolding value_of
  value_complete test r line body t rest (inl (at, nil)) ends after = rw (nil, at) refl
  value_complete test r line body t rest (inr (inl (none_is, is_first, is))) ends after = node_value test r line body t rest none_is is_first is after
  value_complete test r line body t rest (inr (inr (none_is, nil, is))) ends after = rw (nil, none_is, ends, is) refl

  mapping_complete : (ps : Pairs) (turns c : ℕ) (keys : List (List ℕ)) (rows rest : List Row) → length rows < turns → AfterMap c rest → IsMapping n c keys rows ps → pairs n read turns c keys (rows ++ rest) ≡ Ok (list_of ps, rest)
  unfolding pairs
  mapping_complete ps zero c keys rows rest lt after is = absurd (omega arith)
  mapping_complete no_pairs (suc turns) c keys rows rest lt after is = rw (is, no_pair_after c rest after) refl
  mapping_complete (pair k t ps) (suc turns) c keys rows rest lt after is =
      let r = is.0 in
      let body = is.1 in
      let others = is.2 in
      let line = is.3 in
      let behind = body ++ (others ++ rest) in
      let whole : rows ++ rest ≡ r ∷ behind = ap (λ (x : List Row). x ++ rest) is.4 ∙ ap (λ (x : List Row). r ∷ x) (append_assoc body others rest) in
      let first : first_pair c (r ∷ behind) ≡ Some ((k, line), r, behind) = ap (λ o. option_map {U = FirstPair} (λ k. (k, r, behind)) o) is.5 in
      let ends : begin_with (is_below_key c) (others ++ rest) ≡ false = follows_pair n c (keys ++ k ∷ []) others rest ps is.8 after in
      let value : value_of n read r line (begin_with (is_below_key c) behind) behind ≡ Ok (t, others ++ rest) =
      value_complete (is_below_key c) r line body t (others ++ rest) is.7 ends (after_pair n c (others ++ rest) t ends) in
      let count : length rows ≡ suc (length body + length others) = ap length is.4 ∙ ap suc (length-append body others) in
      let ih = mapping_complete ps turns c (keys ++ k ∷ []) others rest (omega arith) after is.8 in
      let fresh = is.6 in
      ap (pairs n read (suc turns) c keys) whole ∙ rw (first, fresh, value, ih) refl

  sequence_complete : (ts : Shapes) (turns c : ℕ) (rows rest : List Row) → length rows < turns → AfterSequence c rest → IsSequence n c rows ts → items n read turns c (rows ++ rest) ≡ Ok (trees_of ts, rest)
  unfolding items
  sequence_complete ts zero c rows rest lt after is = absurd (omega arith)
  sequence_complete no_shapes (suc turns) c rows rest lt after is = rw (is, no_item_after c rest after) refl
  sequence_complete (more t ts) (suc turns) c rows rest lt after is =
      let r = is.0 in
      let body = is.1 in
      let others = is.2 in
      let behind = body ++ (others ++ rest) in
      let whole : rows ++ rest ≡ r ∷ behind = ap (λ (x : List Row). x ++ rest) is.3 ∙ ap (λ (x : List Row). r ∷ x) (append_assoc body others rest) in
      let first : first_item c (r ∷ behind) ≡ Some (r, behind) = ap (λ b. cond {A = Option FirstItem} b (Some (r, behind)) None) is.4 in
      let ends : begin_with (is_deeper c) (others ++ rest) ≡ false = follows_item n c others rest ts is.6 after in
      let value : value_of n read r (tail r.text) (begin_with (is_deeper c) behind) behind ≡ Ok (t, others ++ rest) =
      value_complete (is_deeper c) r (tail r.text) body t (others ++ rest) is.5 ends (after_item n c (others ++ rest) t ends) in
      let count : length rows ≡ suc (length body + length others) = ap length is.3 ∙ ap suc (length-append body others) in
      let ih = sequence_complete ts turns c others rest (omega arith) after is.6 in
      ap (items n read (suc turns) c) whole ∙ rw (first, value, ih) refl

some_map : (r : Row) (ps : Pairs) (rest : List Row) → ps ≢ no_pairs → some_pairs r (list_of ps) rest ≡ Ok (mapping ps, rest)
some_map r no_pairs rest some = absurd (some refl)
some_map r (pair k t ps) rest some = ap (λ (x : Pairs). Ok (mapping (pair k t x), rest)) (pairs_of-list_of ps)

some_list : (r : Row) (ts : Shapes) (rest : List Row) → ts ≢ no_shapes → some_items r (trees_of ts) rest ≡ Ok (list ts, rest)
some_list r no_shapes rest some = absurd (some refl)
some_list r (more t ts) rest some = ap (λ (x : Shapes). Ok (list (more t x), rest)) (shapes_of-trees_of ts)

map_some : (n c : ℕ) (keys : List (List ℕ)) (r : Row) (rows : List Row) (ps : Pairs) → IsMapping n c keys (r ∷ rows) ps → ps ≢ no_pairs
map_some n c keys r rows no_pairs is empty = absurd cc
map_some n c keys r rows (pair k t ps) is empty = absurd cc

list_some : (n c : ℕ) (r : Row) (rows : List Row) (ts : Shapes) → IsSequence n c (r ∷ rows) ts → ts ≢ no_shapes
list_some n c r rows no_shapes is empty = absurd cc
list_some n c r rows (more t ts) is empty = absurd cc

node_complete : (n : ℕ) (r : Row) (body : List Row) (t : Shape) (rest : List Row) → IsNode n (r ∷ body) t → After t r.column rest → node n (r ∷ body ++ rest) ≡ Ok (t, rest)
unfolding node
node_complete zero r body (list ts) rest is after = absurd (omega (arith, is.2))
node_complete zero r body (mapping ps) rest is after = absurd (omega (arith, is.2))
node_complete (suc levels) r body (list ts) rest is after =
    let dash = first_dash is.1 is.0 r body ts is.4 in
    let at : r.column ≡ is.0 = dash_column is.0 r dash in
    let depth : is.1 ≡ levels = omega (arith, is.2) in
    let same_column : IsSequence is.1 r.column (r ∷ body) ts = subst (λ (x : ℕ). IsSequence is.1 x (r ∷ body) ts) (sym at) is.4 in
    let same_depth : IsSequence levels r.column (r ∷ body) ts = subst (λ (x : ℕ). IsSequence x r.column (r ∷ body) ts) depth same_column in
    let e = sequence_complete levels (node levels) (node_complete levels) ts (length (r ∷ body ++ rest) + 1) r.column (r ∷ body) rest (omega (arith, length-append (r ∷ body) rest)) after same_depth in
    let is_list = dash_text is.0 r dash in
    rw (is_list, e) (some_list r ts rest (list_some levels r.column r body ts same_depth))
node_complete (suc levels) r body (mapping ps) rest is after =
    let first = first_key is.1 is.0 [] r body ps is.4 in
    let at : r.column ≡ is.0 = key_column is.0 r first.0 first.1 in
    let depth : is.1 ≡ levels = omega (arith, is.2) in
    let same_column : IsMapping is.1 r.column [] (r ∷ body) ps = subst (λ (x : ℕ). IsMapping is.1 x [] (r ∷ body) ps) (sym at) is.4 in
    let same_depth : IsMapping levels r.column [] (r ∷ body) ps = subst (λ (x : ℕ). IsMapping x r.column [] (r ∷ body) ps) depth same_column in
    let e = mapping_complete levels (node levels) (node_complete levels) ps (length (r ∷ body ++ rest) + 1) r.column [] (r ∷ body) rest (omega (arith, length-append (r ∷ body) rest)) after same_depth in
    let is_map = key_text is.0 r first.0 first.1 in
    rw (is_map, e) (some_map r ps rest (map_some levels r.column [] r body ps same_depth))
node_complete n r body nothing rest is after = absurd is
node_complete n r body (truth b) rest is after = absurd is
node_complete n r body (whole z) rest is after = absurd is
node_complete n r body (text s) rest is after = absurd is

node_nothing : (n : ℕ) → (node n [] >>= (λ x. all_rows x.0 x.1)) ≡ Ok nothing
unfolding node
node_nothing n = refl

After-nothing : (t : Shape) (c : ℕ) → After t c []
After-nothing t c = Before-any t c [] tt

-- what stands so is read
pub document_complete : (rows : List Row) (t : Shape) → StandFor rows t → document rows ≡ Ok t
unfolding document
document_complete rows t (inl is) = rw (is.0, is.1) (node_nothing MAX_LEVELS)
document_complete [] t (inr is) = absurd (node_some MAX_LEVELS t is)
document_complete (r ∷ rows) t (inr is) =
    let whole : node MAX_LEVELS (r ∷ rows) ≡ Ok (t, []) = ap (node MAX_LEVELS) (sym (append-nil (r ∷ rows))) ∙ node_complete MAX_LEVELS r rows t [] is (After-nothing t r.column) in
    rw whole refl

-- no two trees stand for the same rows
pub one_tree : (rows : List Row) (t u : Shape) → StandFor rows t → StandFor rows u → t ≡ u
one_tree rows t u is other = ok_is t u (sym (document_complete rows t is) ∙ document_complete rows u other)
