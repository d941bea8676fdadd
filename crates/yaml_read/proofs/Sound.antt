-- What is read stands so.
use Rattle.std.proofs.Common.{◌≡◌, ◌≢◌, ℕ, zero, suc, ◌+◌, Bool, true, false, cond, List, [], ◌∷◌, ◌++◌, length, Option, Some, None, Result, Ok, Err, refl, sym, ap, subst, ◌∙◌, append_assoc, inl, inr}
use Rattle.std.specs.Prelude.{option_map}
use Rattle.std.proofs.lemmas.List.{append-nil}
use Rattle.doc_tree.specs.Shape.{Shape, nothing, list, mapping, shapes_of, pairs_of}
use Rattle.yaml_read.specs.declared.stop.Why.{Why}
use Rattle.yaml_read.specs.declared.stop.Why.TheVariants.{Repeated}
use Rattle.yaml_read.specs.declared.fault.YamlFault.{YamlFault}
use Rattle.yaml_plain.specs.Bytes.{tail}
use Rattle.yaml_read.specs.Keys.{◌>>=◌, is_among}
use Rattle.yaml_read.specs.OnLine.{entry_on_line}
use Rattle.yaml_read.specs.Rows.{Row, is_dash}
use Rattle.yaml_read.specs.Faults.{fault_of}
use Rattle.yaml_read.specs.Reading.{Block, at_row, own_key, own_dash, begin_with, is_deeper, is_below_key, first_pair, first_item, below, value_or_below, value_of, pairs_step, pairs, items_step, items, some_pairs, some_items, node, document, all_rows}
use Rattle.yaml_read.specs.Standing.{HasValue, IsNode, IsMapping, IsSequence, StandFor}
use Rattle.doc_tree.specs.declared.limits.TheConstants.{MAX_LEVELS}

abbrev pub done : {A : Type 0} → A → Result A YamlFault
done x = Ok x

pub ok_is : {A : Type 0} (x y : A) → done x ≡ done y → x ≡ y
ok_is x y e = cc

pub bind_ok : {A B : Type 0} (r : Result A YamlFault) (f : A → Result B YamlFault) (y : B) → (r >>= f) ≡ Ok y → (x : A) × (r ≡ Ok x) × (f x ≡ Ok y)
bind_ok (Ok x) f y e = (x, refl, e)
bind_ok (Err d) f y e = absurd cc

-- a test that did not fail
pub passed : {A : Type 0} (b : Bool) (d : YamlFault) (r : Result A YamlFault) (y : A) → cond b (Err d) r ≡ Ok y → (b ≡ false) × (r ≡ Ok y)
passed true d r y e = absurd cc
passed false d r y e = (refl, e)

abbrev here : {A : Type 0} → A → Option A
here x = Some x

pub some_is : {A : Type 0} (x y : A) → here x ≡ here y → x ≡ y
some_is x y e = cc

abbrev pub FirstPair : Type 0
FirstPair = (List ℕ × List ℕ) × Row × List Row

abbrev pub FirstItem : Type 0
FirstItem = Row × List Row

-- what the first row at a column is
pub pair_is : (c : ℕ) (rows : List Row) (f : FirstPair) → first_pair c rows ≡ Some f → (rows ≡ f.1 ∷ f.2) × (own_key c f.1 ≡ Some f.0)
pair_is c [] f e = absurd cc
pair_is c (q ∷ qs) f e = by_key (own_key c q) refl e where
  by_key : (o : Option (List ℕ × List ℕ)) → own_key c q ≡ o → option_map {U = FirstPair} (λ k. (k, q, qs)) o ≡ Some f → (q ∷ qs ≡ f.1 ∷ f.2) × (own_key c f.1 ≡ Some f.0)
  by_key None at e = absurd cc
  by_key (Some k) at e =
      let both : (k, q, qs) ≡ f = some_is (k, q, qs) f e in
      subst (λ (x : FirstPair). (q ∷ qs ≡ x.1 ∷ x.2) × (own_key c x.1 ≡ Some x.0)) both (refl, at)

pub item_is : (c : ℕ) (rows : List Row) (f : FirstItem) → first_item c rows ≡ Some f → (rows ≡ f.0 ∷ f.1) × (own_dash c f.0 ≡ true)
item_is c [] f e = absurd cc
item_is c (q ∷ qs) f e = by_test (own_dash c q) refl e where
  by_test : (b : Bool) → own_dash c q ≡ b → cond {A = Option FirstItem} b (Some (q, qs)) None ≡ Some f → (q ∷ qs ≡ f.0 ∷ f.1) × (own_dash c f.0 ≡ true)
  by_test false at e = absurd cc
  by_test true at e =
      let both : (q, qs) ≡ f = some_is (q, qs) f e in
      subst (λ (x : FirstItem). (q ∷ qs ≡ x.0 ∷ x.1) × (own_dash c x.0 ≡ true)) both (refl, at)

-- a block was read from the front
abbrev pub Took : ℕ → List Row → Shape → List Row → Type 0
Took n rows t rest = (body : List Row) × (rows ≡ body ++ rest) × IsNode n body t

-- a block has a first row
pub node_some : (n : ℕ) (t : Shape) → IsNode n [] t → ⊥
node_some n (list ts) is = is.3 refl
node_some n (mapping ps) is = is.3 refl
node_some n t is = is

-- a front that a block took begins as the whole
front_begins : (test : Row → Bool) (rows body rest : List Row) (n : ℕ) (t : Shape) → rows ≡ body ++ rest → IsNode n body t → begin_with test rows ≡ true → begin_with test body ≡ true
front_begins test rows [] rest n t e is begins = absurd (node_some n t is)
front_begins test rows (r ∷ body) rest n t e is begins = subst (λ (x : List Row). begin_with test x ≡ true) e begins

some_rows : (test : Row → Bool) (rows : List Row) → begin_with test rows ≡ true → rows ≢ []
some_rows test [] begins e = absurd cc
some_rows test (r ∷ rows) begins e = absurd cc

module _ (n : ℕ) (read : List Row → Block Shape) (read_sound : (rows : List Row) (t : Shape) (rest : List Row) → rows ≢ [] → read rows ≡ Ok (t, rest) → Took n rows t rest) where
  -- the value of an entry, as the relation has it
  abbrev Valued : (Row → Bool) → List ℕ → List Row → Shape × List Row → Type 0
  Valued test text rows y = (body : List Row) × (rows ≡ body ++ y.1) × HasValue n text (begin_with test body) body y.0 (IsNode n body y.0)

  below_sound : (test : Row → Bool) (text : List ℕ) (rows : List Row) (follows : Bool) (y : Shape × List Row) → entry_on_line n text ≡ Ok None → begin_with test rows ≡ follows
      → below n read follows rows ≡ Ok y → Valued test text rows y
  below_sound test text rows true y none_is begins e =
      let took = read_sound rows y.0 y.1 (some_rows test rows begins) e in
      (took.0, took.1, inr (inl (none_is, front_begins test rows took.0 y.1 n y.0 took.1 took.2 begins, took.2)))
  below_sound test text rows false y none_is begins e =
      subst (Valued test text rows) (ok_is (nothing, rows) y e) ([], refl, inr (inr (none_is, refl, refl)))

  pub value_sound : (test : Row → Bool) (r : Row) (text : List ℕ) (rows : List Row) (y : Shape × List Row) → value_of n read r text (begin_with test rows) rows ≡ Ok y
      → (body : List Row) × (rows ≡ body ++ y.1) × HasValue n text (begin_with test body) body y.0 (IsNode n body y.0)
  unfolding value_of
  value_sound test r text rows y e = by_line (entry_on_line n text) refl e where
    by_line : (o : Result (Option Shape) Why) → entry_on_line n text ≡ o → (at_row r o >>= value_or_below n read (begin_with test rows) rows) ≡ Ok y → Valued test text rows y
    by_line (Ok (Some t)) at e = subst (Valued test text rows) (ok_is (t, rows) y e) ([], refl, inl (at, refl))
    by_line (Ok None) at e = below_sound test text rows (begin_with test rows) y at refl e
    by_line (Err w) at e = absurd cc

  abbrev PairsRead : Type 0
  PairsRead = List (List ℕ × Shape) × List Row

  abbrev TakesPairs : ℕ → List (List ℕ) → List Row → PairsRead → Type 0
  TakesPairs c keys rows y = (body : List Row) × (rows ≡ body ++ y.1) × IsMapping n c keys body (pairs_of y.0)

  -- what one turn does with the key that it found
  abbrev pair_turn : (List (List ℕ) → List Row → Block (List (List ℕ × Shape))) → List (List ℕ) → FirstPair → Shape × List Row → Block (List (List ℕ × Shape))
  pair_turn go keys f v = go (keys ++ f.0.0 ∷ []) v.1 >>= (λ more. Ok ((f.0.0, v.0) ∷ more.0, more.1))

  pair_sound : (c : ℕ) (keys : List (List ℕ)) (rows : List Row) (go : List (List ℕ) → List Row → Block (List (List ℕ × Shape)))
      → ((keys : List (List ℕ)) (rows : List Row) (y : PairsRead) → go keys rows ≡ Ok y → TakesPairs c keys rows y)
      → (y : PairsRead) (o : Option FirstPair) → first_pair c rows ≡ o → pairs_step n read go c keys rows o ≡ Ok y → TakesPairs c keys rows y
  pair_sound c keys rows go go_sound y None at e = subst (TakesPairs c keys rows) (ok_is ([], rows) y e) ([], refl, refl)
  pair_sound c keys rows go go_sound y (Some f) at e =
      let first = pair_is c rows f at in
      let p = passed (is_among f.0.0 keys) (fault_of Repeated f.1) (value_of n read f.1 f.0.1 (begin_with (is_below_key c) f.2) f.2 >>= pair_turn go keys f) y e in
      let v = bind_ok (value_of n read f.1 f.0.1 (begin_with (is_below_key c) f.2) f.2) (pair_turn go keys f) y p.1 in
      let m = bind_ok (go (keys ++ f.0.0 ∷ []) v.0.1) (λ more. Ok ((f.0.0, v.0.0) ∷ more.0, more.1)) y v.2 in
      let val = value_sound (is_below_key c) f.1 f.0.1 f.2 v.0 v.1 in
      let ih = go_sound (keys ++ f.0.0 ∷ []) v.0.1 m.0 m.1 in
      let made : PairsRead = ((f.0.0, v.0.0) ∷ m.0.0, m.0.1) in
      let split : rows ≡ (f.1 ∷ val.0 ++ ih.0) ++ m.0.1 = first.0 ∙ ap (λ (x : List Row). f.1 ∷ x) (val.1 ∙ ap (λ (x : List Row). val.0 ++ x) ih.1 ∙ sym (append_assoc val.0 ih.0 m.0.1)) in
      subst (TakesPairs c keys rows) (ok_is made y m.2) (f.1 ∷ val.0 ++ ih.0, split, (f.1, val.0, ih.0, f.0.1, refl, first.1, p.0, val.2, ih.2))

  pub pairs_sound : (turns c : ℕ) (keys : List (List ℕ)) (rows : List Row) (y : PairsRead) → pairs n read turns c keys rows ≡ Ok y → TakesPairs c keys rows y
  unfolding pairs
  pairs_sound zero c keys rows y e = subst (TakesPairs c keys rows) (ok_is ([], rows) y e) ([], refl, refl)
  pairs_sound (suc turns) c keys rows y e = pair_sound c keys rows (pairs n read turns c) (pairs_sound turns c) y (first_pair c rows) refl e

  abbrev ItemsRead : Type 0
  ItemsRead = List Shape × List Row

  abbrev TakesItems : ℕ → List Row → ItemsRead → Type 0
  TakesItems c rows y = (body : List Row) × (rows ≡ body ++ y.1) × IsSequence n c body (shapes_of y.0)

  abbrev item_turn : (List Row → Block (List Shape)) → Shape × List Row → Block (List Shape)
  item_turn go v = go v.1 >>= (λ more. Ok (v.0 ∷ more.0, more.1))

  item_sound : (c : ℕ) (rows : List Row) (go : List Row → Block (List Shape)) → ((rows : List Row) (y : ItemsRead) → go rows ≡ Ok y → TakesItems c rows y)
      → (y : ItemsRead) (o : Option FirstItem) → first_item c rows ≡ o → items_step n read go c rows o ≡ Ok y → TakesItems c rows y
  item_sound c rows go go_sound y None at e = subst (TakesItems c rows) (ok_is ([], rows) y e) ([], refl, refl)
  item_sound c rows go go_sound y (Some f) at e =
      let first = item_is c rows f at in
      let v = bind_ok (value_of n read f.0 (tail f.0.text) (begin_with (is_deeper c) f.1) f.1) (item_turn go) y e in
      let m = bind_ok (go v.0.1) (λ more. Ok (v.0.0 ∷ more.0, more.1)) y v.2 in
      let val = value_sound (is_deeper c) f.0 (tail f.0.text) f.1 v.0 v.1 in
      let ih = go_sound v.0.1 m.0 m.1 in
      let made : ItemsRead = (v.0.0 ∷ m.0.0, m.0.1) in
      let split : rows ≡ (f.0 ∷ val.0 ++ ih.0) ++ m.0.1 = first.0 ∙ ap (λ (x : List Row). f.0 ∷ x) (val.1 ∙ ap (λ (x : List Row). val.0 ++ x) ih.1 ∙ sym (append_assoc val.0 ih.0 m.0.1)) in
      subst (TakesItems c rows) (ok_is made y m.2) (f.0 ∷ val.0 ++ ih.0, split, (f.0, val.0, ih.0, refl, first.1, val.2, ih.2))

  pub items_sound : (turns c : ℕ) (rows : List Row) (y : ItemsRead) → items n read turns c rows ≡ Ok y → TakesItems c rows y
  unfolding items
  items_sound zero c rows y e = subst (TakesItems c rows) (ok_is ([], rows) y e) ([], refl, refl)
  items_sound (suc turns) c rows y e = item_sound c rows (items n read turns c) (items_sound turns c) y (first_item c rows) refl e

-- entries have rows
mapping_some : (n c : ℕ) (keys : List (List ℕ)) (body : List Row) (p : List ℕ × Shape) (ps : List (List ℕ × Shape)) → IsMapping n c keys body (pairs_of (p ∷ ps)) → body ≢ []
mapping_some n c keys body p ps is empty =
    let e : is.0 ∷ is.1 ++ is.2 ≡ [] = sym is.4 ∙ empty in
    absurd cc

sequence_some : (n c : ℕ) (body : List Row) (t : Shape) (ts : List Shape) → IsSequence n c body (shapes_of (t ∷ ts)) → body ≢ []
sequence_some n c body t ts is empty =
    let e : is.0 ∷ is.1 ++ is.2 ≡ [] = sym is.3 ∙ empty in
    absurd cc

map_sound : (n c : ℕ) (r : Row) (rows : List Row) (ps : List (List ℕ × Shape)) (rest : List Row) (body : List Row) → rows ≡ body ++ rest → IsMapping n c [] body (pairs_of ps)
    → (y : Shape × List Row) → some_pairs r ps rest ≡ Ok y → Took (suc n) rows y.0 y.1
map_sound n c r rows [] rest body split is y e = absurd cc
map_sound n c r rows (p ∷ ps) rest body split is y e =
    subst (λ (x : Shape × List Row). Took (suc n) rows x.0 x.1) (ok_is (mapping (pairs_of (p ∷ ps)), rest) y e) (body, split, (c, n, refl, mapping_some n c [] body p ps is, is))

list_sound : (n c : ℕ) (r : Row) (rows : List Row) (ts : List Shape) (rest : List Row) (body : List Row) → rows ≡ body ++ rest → IsSequence n c body (shapes_of ts)
    → (y : Shape × List Row) → some_items r ts rest ≡ Ok y → Took (suc n) rows y.0 y.1
list_sound n c r rows [] rest body split is y e = absurd cc
list_sound n c r rows (t ∷ ts) rest body split is y e =
    subst (λ (x : Shape × List Row). Took (suc n) rows x.0 x.1) (ok_is (list (shapes_of (t ∷ ts)), rest) y e) (body, split, (c, n, refl, sequence_some n c body t ts is, is))

by_dash : (levels : ℕ) → ((rows : List Row) (t : Shape) (rest : List Row) → rows ≢ [] → node levels rows ≡ Ok (t, rest) → Took levels rows t rest)
    → (r : Row) (rows : List Row) (t : Shape) (rest : List Row) (b : Bool)
    → cond b (items levels (node levels) (length (r ∷ rows) + 1) r.column (r ∷ rows) >>= (λ x. some_items r x.0 x.1))
    (pairs levels (node levels) (length (r ∷ rows) + 1) r.column [] (r ∷ rows) >>= (λ x. some_pairs r x.0 x.1)) ≡ Ok (t, rest)
    → Took (suc levels) (r ∷ rows) t rest
by_dash levels sound r rows t rest true e =
    let b = bind_ok (items levels (node levels) (length (r ∷ rows) + 1) r.column (r ∷ rows)) (λ x. some_items r x.0 x.1) (t, rest) e in
    let is = items_sound levels (node levels) sound (length (r ∷ rows) + 1) r.column (r ∷ rows) b.0 b.1 in
    list_sound levels r.column r (r ∷ rows) b.0.0 b.0.1 is.0 is.1 is.2 (t, rest) b.2
by_dash levels sound r rows t rest false e =
    let b = bind_ok (pairs levels (node levels) (length (r ∷ rows) + 1) r.column [] (r ∷ rows)) (λ x. some_pairs r x.0 x.1) (t, rest) e in
    let is = pairs_sound levels (node levels) sound (length (r ∷ rows) + 1) r.column [] (r ∷ rows) b.0 b.1 in
    map_sound levels r.column r (r ∷ rows) b.0.0 b.0.1 is.0 is.1 is.2 (t, rest) b.2

-- what a block is that was read
pub node_sound : (n : ℕ) (rows : List Row) (t : Shape) (rest : List Row) → rows ≢ [] → node n rows ≡ Ok (t, rest) → Took n rows t rest
unfolding node
node_sound n [] t rest some e = absurd (some refl)
node_sound zero (r ∷ rows) t rest some e = absurd cc
node_sound (suc levels) (r ∷ rows) t rest some e = by_dash levels (node_sound levels) r rows t rest (is_dash r.text) e

no_rows : (x : Shape) (rows : List Row) (t : Shape) → all_rows x rows ≡ Ok t → (rows ≡ []) × (x ≡ t)
no_rows x [] t e = (refl, ok_is x t e)
no_rows x (r ∷ rows) t e = absurd cc

nothing_read : (t : Shape) → (node MAX_LEVELS [] >>= (λ x. all_rows x.0 x.1)) ≡ Ok t → nothing ≡ t
unfolding node
nothing_read t e = ok_is nothing t e

-- what is read stands so
pub document_sound : (rows : List Row) (t : Shape) → document rows ≡ Ok t → StandFor rows t
unfolding document
document_sound [] t e = inl (refl, sym (nothing_read t e))
document_sound (r ∷ rows) t e =
    let b = bind_ok (node MAX_LEVELS (r ∷ rows)) (λ x. all_rows x.0 x.1) t e in
    let whole = no_rows b.0.0 b.0.1 t b.2 in
    let took = node_sound MAX_LEVELS (r ∷ rows) b.0.0 b.0.1 (λ e. absurd cc) b.1 in
    let all : r ∷ rows ≡ took.0 = took.1 ∙ ap (λ (x : List Row). took.0 ++ x) whole.0 ∙ append-nil took.0 in
    inr (subst (λ (x : List Row). IsNode MAX_LEVELS x t) (sym all) (subst (λ (x : Shape). IsNode MAX_LEVELS took.0 x) whole.1 took.2))
