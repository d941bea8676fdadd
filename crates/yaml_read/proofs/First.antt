-- The fault is at the first row that can't continue a valid document.
use Rattle.std.proofs.Common.{◌≡◌, ℕ, zero, suc, ◌+◌, ◌≤◌, ◌<◌, Bool, true, false, cond, List, [], ◌∷◌, ◌++◌, length, Option, Some, None, Result, Ok, Err, refl, sym, ap, subst, ◌∙◌, arith, length-append}
use Rattle.std.specs.Prelude.{option_map}
use Rattle.doc_tree.specs.Shape.{Shape, nothing, list, mapping, shapes_of, pairs_of}
use Rattle.yaml_read.specs.declared.stop.Why.{Why}
use Rattle.yaml_read.specs.declared.stop.Why.TheVariants.{Outside, Repeated, Deep, Unfit}
use Rattle.yaml_read.specs.declared.fault.YamlFault.{YamlFault}
use Rattle.yaml_read.specs.declared.fault.YamlFault.TheVariants.{Unsupported, DuplicateKey}
use Rattle.yaml_plain.specs.Bytes.{tail}
use Rattle.yaml_read.specs.Keys.{◌>>=◌, is_among}
use Rattle.yaml_read.specs.OnLine.{entry_on_line}
use Rattle.yaml_read.specs.Rows.{Row, is_dash}
use Rattle.yaml_read.specs.Faults.{by_cause, has_other, has_repeat, fault_of}
use Rattle.yaml_read.specs.Reading.{Block, at_row, own_key, own_dash, begin_with, is_deeper, is_below_key, first_pair, first_item, below, value_or_below, value_of, pairs_step, pairs, items_step, items, some_pairs, some_items, node, document, all_rows}
use Rattle.yaml_read.specs.Standing.{StopAt, line_of}
use Rattle.yaml_read.proofs.Fronts.{one_more}
use Rattle.yaml_read.proofs.Sound.{FirstPair, FirstItem, value_sound, node_sound, pair_is, item_is, document_sound}
use Rattle.yaml_read.proofs.Complete.{document_complete}
use Rattle.yaml_read.proofs.Local.{headed, Is, Local, Local-pure, Local-cons, Local-same, Local-map, Local-seq, seq, mapped}
use Rattle.doc_tree.specs.declared.limits.TheConstants.{MAX_LEVELS}

-- ---- a fault names the line of its row
cause_line : (w : Why) (n : ℕ) → line_of (by_cause w n) ≡ n
cause_line Outside n = refl
cause_line Repeated n = refl
cause_line Deep n = refl
cause_line Unfit n = refl

pub fault_line : (w : Why) (r : Row) → line_of (fault_of w r) ≡ r.number
unfolding fault_of
fault_line w r = by_other (has_other r) (has_repeat r) where
  by_other : (b d : Bool) → line_of (cond b (Unsupported r.number) (cond d (DuplicateKey r.number) (by_cause w r.number))) ≡ r.number
  by_other true d = refl
  by_other false true = refl
  by_other false false = cause_line w r.number

bind_same : {A B : Type 0} (res : Result A YamlFault) (f g : A → Result B YamlFault) → ((x : A) → res ≡ Ok x → f x ≡ g x) → (res >>= f) ≡ (res >>= g)
bind_same (Ok x) f g h = h x refl
bind_same (Err d) f g h = refl

abbrev Pairs : Type 0
Pairs = List (List ℕ × Shape)

module _ (n : ℕ) where
  -- what is read of an entry's value leaves no more rows
  shorter : (test : Row → Bool) (r : Row) (line : List ℕ) (rows : List Row) (y : Shape × List Row) → value_of n (node n) r line (begin_with test rows) rows ≡ Ok y → length y.1 ≤ length rows
  shorter test r line rows y e =
      let v = value_sound n (node n) (node_sound n) test r line rows y e in
      omega (arith, ap length v.1, length-append v.0 y.1)

  -- ---- the number of turns is no matter
  module _ (c : ℕ) where
    pair_same : (keys : List (List ℕ)) (rows : List Row) (go other : List (List ℕ) → List Row → Block Pairs) → ((keys : List (List ℕ)) (v : List Row) → length v < length rows → go keys v ≡ other keys v)
        → (o : Option FirstPair) → first_pair c rows ≡ o → pairs_step n (node n) go c keys rows o ≡ pairs_step n (node n) other c keys rows o
    pair_same keys rows go other same None at = refl
    pair_same keys rows go other same (Some f) at =
        let is = (pair_is c rows f at).0 in
        ap (cond (is_among f.0.0 keys) (Err (fault_of Repeated f.1)))
        (bind_same (value_of n (node n) f.1 f.0.1 (begin_with (is_below_key c) f.2) f.2) (λ v. one_more (f.0.0, v.0) (go (keys ++ f.0.0 ∷ []) v.1)) (λ v. one_more (f.0.0, v.0) (other (keys ++ f.0.0 ∷ []) v.1))
        (λ v e. ap (one_more (f.0.0, v.0)) (same (keys ++ f.0.0 ∷ []) v.1 (omega (arith, shorter (is_below_key c) f.1 f.0.1 f.2 v e, ap length is)))))

    pair_turns : (a b : ℕ) (keys : List (List ℕ)) (rows : List Row) → length rows < a → length rows < b → pairs n (node n) a c keys rows ≡ pairs n (node n) b c keys rows
    unfolding pairs
    pair_turns zero b keys rows la lb = absurd (omega arith)
    pair_turns (suc a) zero keys rows la lb = absurd (omega arith)
    pair_turns (suc a) (suc b) keys rows la lb = pair_same keys rows (pairs n (node n) a c) (pairs n (node n) b c) (λ k v lt. pair_turns a b k v (omega arith) (omega arith)) (first_pair c rows) refl

    -- the pairs, with turns enough
    abbrev all_pairs : List (List ℕ) → List Row → Block Pairs
    all_pairs keys rows = pairs n (node n) (length rows + 1) c keys rows

    one_pair : (keys : List (List ℕ)) (rows : List Row) → all_pairs keys rows ≡ pairs_step n (node n) all_pairs c keys rows (first_pair c rows)
    unfolding pairs
    one_pair keys rows =
        let count : length rows + 1 ≡ suc (length rows) = omega arith in
        rw count (pair_same keys rows (pairs n (node n) (length rows) c) all_pairs (λ k v lt. pair_turns (length rows) (length v + 1) k v lt (omega arith)) (first_pair c rows) refl)

    no_pair : (keys : List (List ℕ)) → all_pairs keys [] ≡ Ok ([], [])
    no_pair keys = one_pair keys []

    item_same : (rows : List Row) (go other : List Row → Block (List Shape)) → ((v : List Row) → length v < length rows → go v ≡ other v)
        → (o : Option FirstItem) → first_item c rows ≡ o → items_step n (node n) go c rows o ≡ items_step n (node n) other c rows o
    item_same rows go other same None at = refl
    item_same rows go other same (Some f) at =
        let is = (item_is c rows f at).0 in
        bind_same (value_of n (node n) f.0 (tail f.0.text) (begin_with (is_deeper c) f.1) f.1) (λ v. one_more v.0 (go v.1)) (λ v. one_more v.0 (other v.1))
        (λ v e. ap (one_more v.0) (same v.1 (omega (arith, shorter (is_deeper c) f.0 (tail f.0.text) f.1 v e, ap length is))))

    item_turns : (a b : ℕ) (rows : List Row) → length rows < a → length rows < b → items n (node n) a c rows ≡ items n (node n) b c rows
    unfolding items
    item_turns zero b rows la lb = absurd (omega arith)
    item_turns (suc a) zero rows la lb = absurd (omega arith)
    item_turns (suc a) (suc b) rows la lb = item_same rows (items n (node n) a c) (items n (node n) b c) (λ v lt. item_turns a b v (omega arith) (omega arith)) (first_item c rows) refl

    abbrev all_items : List Row → Block (List Shape)
    all_items rows = items n (node n) (length rows + 1) c rows

    one_item : (rows : List Row) → all_items rows ≡ items_step n (node n) all_items c rows (first_item c rows)
    unfolding items
    one_item rows =
        let count : length rows + 1 ≡ suc (length rows) = omega arith in
        rw count (item_same rows (items n (node n) (length rows) c) all_items (λ v lt. item_turns (length rows) (length v + 1) v lt (omega arith)) (first_item c rows) refl)

    no_item : all_items [] ≡ Ok ([], [])
    no_item = one_item []

  -- ---- a value looks no further than the row at which it stops
  guarded : (Row → Bool) → List Row → Block Shape
  guarded test rows = below n (node n) (begin_with test rows) rows

  guard_is : (test : Row → Bool) (q : Row) (behind rows : List Row) → test q ≡ true → rows ≡ q ∷ behind → guarded test rows ≡ node n rows
  unfolding guarded
  guard_is test q behind rows is e = rw e (ap (λ b. below n (node n) b (q ∷ behind)) is)

  nothing_first : guarded (λ r. true) [] ≡ node n []
  unfolding guarded node
  nothing_first = refl

  front_is : (test : Row → Bool) (q : Row) (xs body : List Row) (p : Row) (others : List Row) → test q ≡ true → q ∷ xs ≡ body ++ p ∷ others → guarded test body ≡ node n body
  unfolding guarded node
  front_is test q xs [] p others is e = refl
  front_is test q xs (b ∷ body) p others is e = guard_is test q body (b ∷ body) is cc

  Is-guard : (test : Row → Bool) (q : Row) (xs : List Row) → test q ≡ true → (res : Block Shape) → Is (node n) (q ∷ xs) res → Is (guarded test) (q ∷ xs) res
  Is-guard test q xs is (Ok (y, [])) e = tt
  Is-guard test q xs is (Ok (y, p ∷ rest)) e =
      (e.0, e.1, λ more. guard_is test q (headed q xs e.0 p rest e.1 more).0 (e.0 ++ p ∷ more) is (headed q xs e.0 p rest e.1 more).1 ∙ e.2 more, front_is test q xs e.0 p rest is e.1 ∙ e.3)
  Is-guard test q xs is (Err f) e =
      (e.0, e.1, e.2, e.3, e.4, λ more. guard_is test q (headed q xs e.0 e.1 e.2 e.3 more).0 (e.0 ++ e.1 ∷ more) is (headed q xs e.0 e.1 e.2 e.3 more).1 ∙ e.5 more, (e.6.0, front_is test q xs e.0 e.1 e.2 is e.3 ∙ e.6.1))

  module _ (node_local : (rows : List Row) → Local (node n) rows) where
    guard_first : (test : Row → Bool) (q : Row) (xs : List Row) (b : Bool) → test q ≡ b → Is (guarded test) (q ∷ xs) (below n (node n) b (q ∷ xs))
    unfolding guarded
    guard_first test q xs true is = Is-guard test q xs is (node n (q ∷ xs)) (node_local (q ∷ xs))
    guard_first test q xs false is = ([], refl, λ more. ap (λ b. below n (node n) b (q ∷ more)) is, refl)

    guard_local : (test : Row → Bool) (rows : List Row) → Local (guarded test) rows
    unfolding guarded
    guard_local test [] = tt
    guard_local test (q ∷ xs) = guard_first test q xs (test q) refl

    -- the value of a row, on the rows behind it
    abbrev value_on : (Row → Bool) → Row → List ℕ → List Row → Block Shape
    value_on test r line xs = value_of n (node n) r line (begin_with test xs) xs

    value_is : (test : Row → Bool) (r : Row) (line : List ℕ) (o : Result (Option Shape) Why) → entry_on_line n line ≡ o → (xs : List Row)
        → value_on test r line xs ≡ (at_row r o >>= value_or_below n (node n) (begin_with test xs) xs)
    unfolding value_of
    value_is test r line o at xs = ap (λ o. at_row r o >>= value_or_below n (node n) (begin_with test xs) xs) at

    guard_value : (test : Row → Bool) (r : Row) (line : List ℕ) → entry_on_line n line ≡ Ok None → (xs : List Row) → value_on test r line xs ≡ guarded test xs
    unfolding guarded
    guard_value test r line at xs = value_is test r line (Ok None) at xs

    value_local : (test : Row → Bool) (r : Row) (line : List ℕ) (found : Option Shape) → entry_on_line n line ≡ Ok found → (rows : List Row) → Local (value_on test r line) rows
    value_local test r line (Some t) at rows = Local-same (λ (x : List Row). Ok (t, x)) (value_on test r line) (value_is test r line (Ok (Some t)) at) rows (Local-pure t rows)
    value_local test r line None at rows = Local-same (guarded test) (value_on test r line) (guard_value test r line at) rows (guard_local test rows)

    -- a reading that fails at the first row
    fails_first : {A : Type 0} (g : List Row → Block A) (r : Row) (xs : List Row) (w : Why) → ((more : List Row) → g (r ∷ more) ≡ Err (fault_of w r)) → (y : A) → g [] ≡ Ok (y, []) → Local g (r ∷ xs)
    fails_first g r xs w is y none = subst (Is g (r ∷ xs)) (sym (is xs)) ([], r, xs, refl, fault_line w r, is, (y, none))

    -- ---- pairs
    module _ (c : ℕ) where
      abbrev pair_rest : List (List ℕ) → List ℕ → Shape → List Row → Block Pairs
      pair_rest keys k t = mapped (λ (ps : Pairs). (k, t) ∷ ps) (all_pairs c (keys ++ k ∷ []))

      abbrev own_pair : List (List ℕ) → Row → List ℕ × List ℕ → List Row → Block Pairs
      own_pair keys r k = seq (value_on (is_below_key c) r k.1) (pair_rest keys k.0)

      pair_first : (r : Row) (k : List ℕ × List ℕ) → own_key c r ≡ Some k → (xs : List Row) → first_pair c (r ∷ xs) ≡ Some (k, r, xs)
      pair_first r k at xs = ap (λ o. option_map {U = FirstPair} (λ k. (k, r, xs)) o) at

      pair_own : (keys : List (List ℕ)) (r : Row) (k : List ℕ × List ℕ) → own_key c r ≡ Some k → is_among k.0 keys ≡ false → (xs : List Row) → all_pairs c keys (r ∷ xs) ≡ own_pair keys r k xs
      pair_own keys r k at fresh xs = one_pair c keys (r ∷ xs) ∙ rw (pair_first r k at xs, fresh) refl

      pair_again : (keys : List (List ℕ)) (r : Row) (k : List ℕ × List ℕ) → own_key c r ≡ Some k → is_among k.0 keys ≡ true → (xs : List Row) → all_pairs c keys (r ∷ xs) ≡ Err (fault_of Repeated r)
      pair_again keys r k at again xs = one_pair c keys (r ∷ xs) ∙ rw (pair_first r k at xs, again) refl

      pair_over : (keys : List (List ℕ)) (r : Row) → own_key c r ≡ None → (xs : List Row) → all_pairs c keys (r ∷ xs) ≡ Ok ([], r ∷ xs)
      pair_over keys r at xs = one_pair c keys (r ∷ xs) ∙ ap (λ o. pairs_step n (node n) (all_pairs c) c keys (r ∷ xs) (option_map {U = FirstPair} (λ k. (k, r, xs)) o)) at

      pair_fails : (keys : List (List ℕ)) (r : Row) (k : List ℕ × List ℕ) (w : Why) → own_key c r ≡ Some k → is_among k.0 keys ≡ false → entry_on_line n k.1 ≡ Err w → (xs : List Row)
          → all_pairs c keys (r ∷ xs) ≡ Err (fault_of w r)
      pair_fails keys r k w at fresh fails xs = pair_own keys r k at fresh xs ∙ ap (λ (b : Block Shape). b >>= (λ y. pair_rest keys k.0 y.0 y.1)) (value_is (is_below_key c) r k.1 (Err w) fails xs)

      pair_seq : (keys : List (List ℕ)) (r : Row) (k : List ℕ × List ℕ) (found : Option Shape) → entry_on_line n k.1 ≡ Ok found → (xs : List Row)
          → ((keys : List (List ℕ)) (rest : List Row) → length rest ≤ length xs → Local (all_pairs c keys) rest) → Local (own_pair keys r k) xs
      pair_seq keys r k found at xs ih =
          Local-seq (value_on (is_below_key c) r k.1) (pair_rest keys k.0) (λ t. ((k.0, t) ∷ [], ap (λ (b : Block Pairs). b >>= (λ y. Ok ((k.0, t) ∷ y.0, y.1))) (no_pair c (keys ++ k.0 ∷ [])))) xs
          (value_local (is_below_key c) r k.1 found at xs)
          (λ t rest e. Local-map (λ (ps : Pairs). (k.0, t) ∷ ps) (all_pairs c (keys ++ k.0 ∷ [])) rest (ih (keys ++ k.0 ∷ []) rest (shorter (is_below_key c) r k.1 xs (t, rest) e)))

      module _ (keys : List (List ℕ)) (r : Row) (xs : List Row) (ih : (keys : List (List ℕ)) (rest : List Row) → length rest ≤ length xs → Local (all_pairs c keys) rest) where
        pair_line : (k : List ℕ × List ℕ) → own_key c r ≡ Some k → is_among k.0 keys ≡ false → (o : Result (Option Shape) Why) → entry_on_line n k.1 ≡ o → Local (all_pairs c keys) (r ∷ xs)
        pair_line k at fresh (Ok found) on = Local-cons (own_pair keys r k) (all_pairs c keys) r (pair_own keys r k at fresh) xs (pair_seq keys r k found on xs ih)
        pair_line k at fresh (Err w) on = fails_first (all_pairs c keys) r xs w (pair_fails keys r k w at fresh on) [] (no_pair c keys)

        pair_fresh : (k : List ℕ × List ℕ) → own_key c r ≡ Some k → (b : Bool) → is_among k.0 keys ≡ b → Local (all_pairs c keys) (r ∷ xs)
        pair_fresh k at true again = fails_first (all_pairs c keys) r xs Repeated (pair_again keys r k at again) [] (no_pair c keys)
        pair_fresh k at false fresh = pair_line k at fresh (entry_on_line n k.1) refl

        pair_key : (o : Option (List ℕ × List ℕ)) → own_key c r ≡ o → Local (all_pairs c keys) (r ∷ xs)
        pair_key None at = subst (Is (all_pairs c keys) (r ∷ xs)) (sym (pair_over keys r at xs)) ([], refl, pair_over keys r at, no_pair c keys)
        pair_key (Some k) at = pair_fresh k at (is_among k.0 keys) refl

      pairs_local : (turns : ℕ) (keys : List (List ℕ)) (rows : List Row) → length rows < turns → Local (all_pairs c keys) rows
      pairs_local zero keys rows lt = absurd (omega arith)
      pairs_local (suc turns) keys [] lt = subst (Is (all_pairs c keys) []) (sym (no_pair c keys)) tt
      pairs_local (suc turns) keys (r ∷ xs) lt = pair_key keys r xs (λ k rest le. pairs_local turns k rest (omega arith)) (own_key c r) refl

      -- ---- items
      abbrev item_rest : Shape → List Row → Block (List Shape)
      item_rest t = mapped (λ (ts : List Shape). t ∷ ts) (all_items c)

      abbrev own_item : Row → List Row → Block (List Shape)
      own_item r = seq (value_on (is_deeper c) r (tail r.text)) item_rest

      item_first : (r : Row) → own_dash c r ≡ true → (xs : List Row) → first_item c (r ∷ xs) ≡ Some (r, xs)
      item_first r at xs = ap (λ b. cond {A = Option FirstItem} b (Some (r, xs)) None) at

      item_own : (r : Row) → own_dash c r ≡ true → (xs : List Row) → all_items c (r ∷ xs) ≡ own_item r xs
      item_own r at xs = one_item c (r ∷ xs) ∙ ap (items_step n (node n) (all_items c) c (r ∷ xs)) (item_first r at xs)

      item_over : (r : Row) → own_dash c r ≡ false → (xs : List Row) → all_items c (r ∷ xs) ≡ Ok ([], r ∷ xs)
      item_over r at xs = one_item c (r ∷ xs) ∙ ap (λ b. items_step n (node n) (all_items c) c (r ∷ xs) (cond {A = Option FirstItem} b (Some (r, xs)) None)) at

      item_fails : (r : Row) (w : Why) → own_dash c r ≡ true → entry_on_line n (tail r.text) ≡ Err w → (xs : List Row) → all_items c (r ∷ xs) ≡ Err (fault_of w r)
      item_fails r w at fails xs = item_own r at xs ∙ ap (λ (b : Block Shape). b >>= (λ y. item_rest y.0 y.1)) (value_is (is_deeper c) r (tail r.text) (Err w) fails xs)

      item_seq : (r : Row) (found : Option Shape) → entry_on_line n (tail r.text) ≡ Ok found → (xs : List Row) → ((rest : List Row) → length rest ≤ length xs → Local (all_items c) rest) → Local (own_item r) xs
      item_seq r found at xs ih =
          Local-seq (value_on (is_deeper c) r (tail r.text)) item_rest (λ t. (t ∷ [], ap (λ (b : Block (List Shape)). b >>= (λ y. Ok (t ∷ y.0, y.1))) (no_item c))) xs
          (value_local (is_deeper c) r (tail r.text) found at xs)
          (λ t rest e. Local-map (λ (ts : List Shape). t ∷ ts) (all_items c) rest (ih rest (shorter (is_deeper c) r (tail r.text) xs (t, rest) e)))

      module _ (r : Row) (xs : List Row) (ih : (rest : List Row) → length rest ≤ length xs → Local (all_items c) rest) where
        item_line : own_dash c r ≡ true → (o : Result (Option Shape) Why) → entry_on_line n (tail r.text) ≡ o → Local (all_items c) (r ∷ xs)
        item_line at (Ok found) on = Local-cons (own_item r) (all_items c) r (item_own r at) xs (item_seq r found on xs ih)
        item_line at (Err w) on = fails_first (all_items c) r xs w (item_fails r w at on) [] (no_item c)

        item_dash : (b : Bool) → own_dash c r ≡ b → Local (all_items c) (r ∷ xs)
        item_dash true at = item_line at (entry_on_line n (tail r.text)) refl
        item_dash false at = subst (Is (all_items c) (r ∷ xs)) (sym (item_over r at xs)) ([], refl, item_over r at, no_item c)

      items_local : (turns : ℕ) (rows : List Row) → length rows < turns → Local (all_items c) rows
      items_local zero rows lt = absurd (omega arith)
      items_local (suc turns) [] lt = subst (Is (all_items c) []) (sym (no_item c)) tt
      items_local (suc turns) (r ∷ xs) lt = item_dash r xs (λ rest le. items_local turns rest (omega arith)) (own_dash c r) refl

-- ---- a node
nothing_is : (n : ℕ) → node n [] ≡ Ok (nothing, [])
unfolding node
nothing_is n = refl

deep_zero : (r : Row) (xs : List Row) → node 0 (r ∷ xs) ≡ Err (fault_of Deep r)
unfolding node
deep_zero r xs = refl

abbrev listed : List Shape → Shape
listed ts = list (shapes_of ts)

abbrev mapped_pairs : Pairs → Shape
mapped_pairs ps = mapping (pairs_of ps)

-- an entry was read, and so there is one
some_listed : (r : Row) (read : Block Shape) (go : List Row → Block (List Shape))
    → ((read >>= (λ v. one_more v.0 (go v.1))) >>= (λ x. some_items r x.0 x.1)) ≡ ((read >>= (λ v. one_more v.0 (go v.1))) >>= (λ x. Ok (listed x.0, x.1)))
some_listed r (Err f) go = refl
some_listed r (Ok v) go = by_rest (go v.1) where
  by_rest : (rest : Block (List Shape)) → (one_more v.0 rest >>= (λ x. some_items r x.0 x.1)) ≡ (one_more v.0 rest >>= (λ x. Ok (listed x.0, x.1)))
  by_rest (Err f) = refl
  by_rest (Ok x) = refl

some_mapped : (r : Row) (k : List ℕ) (read : Block Shape) (go : List Row → Block Pairs)
    → ((read >>= (λ v. one_more (k, v.0) (go v.1))) >>= (λ x. some_pairs r x.0 x.1)) ≡ ((read >>= (λ v. one_more (k, v.0) (go v.1))) >>= (λ x. Ok (mapped_pairs x.0, x.1)))
some_mapped r k (Err f) go = refl
some_mapped r k (Ok v) go = by_rest (go v.1) where
  by_rest : (rest : Block Pairs) → (one_more (k, v.0) rest >>= (λ x. some_pairs r x.0 x.1)) ≡ (one_more (k, v.0) rest >>= (λ x. Ok (mapped_pairs x.0, x.1)))
  by_rest (Err f) = refl
  by_rest (Ok x) = refl

module _ (n : ℕ) (local : (rows : List Row) → Local (node n) rows) (r : Row) (xs : List Row) where
  abbrev next : List Row → Block Shape
  next = node (suc n)

  abbrev list_end : List Shape × List Row → Block Shape
  list_end x = some_items r x.0 x.1

  abbrev map_end : Pairs × List Row → Block Shape
  map_end x = some_pairs r x.0 x.1

  at_dash : is_dash r.text ≡ true → (xs : List Row) → next (r ∷ xs) ≡ (all_items n r.column (r ∷ xs) >>= list_end)
  unfolding node
  at_dash is xs = rw is refl

  at_key : is_dash r.text ≡ false → (xs : List Row) → next (r ∷ xs) ≡ (all_pairs n r.column [] (r ∷ xs) >>= map_end)
  unfolding node
  at_key is xs = rw is refl

  list_is : is_dash r.text ≡ true → own_dash r.column r ≡ true → (xs : List Row) → next (r ∷ xs) ≡ mapped listed (own_item n local r.column r) xs
  list_is is own xs =
      at_dash is xs ∙ (ap (λ (b : Block (List Shape)). b >>= list_end) (item_own n local r.column r own xs)
      ∙ some_listed r (value_on n local (is_deeper r.column) r (tail r.text) xs) (all_items n r.column))

  list_line : is_dash r.text ≡ true → own_dash r.column r ≡ true → (o : Result (Option Shape) Why) → entry_on_line n (tail r.text) ≡ o → Local next (r ∷ xs)
  list_line is own (Ok found) on =
      Local-cons (mapped listed (own_item n local r.column r)) next r (list_is is own) xs
      (Local-map listed (own_item n local r.column r) xs (item_seq n local r.column r found on xs (λ rest le. items_local n local r.column (length rest + 1) rest (omega arith))))
  list_line is own (Err w) on =
      fails_first n local next r xs w (λ more. at_dash is more ∙ ap (λ (b : Block (List Shape)). b >>= list_end) (item_fails n local r.column r w own on more)) nothing (nothing_is (suc n))

  list_own : is_dash r.text ≡ true → (b : Bool) → own_dash r.column r ≡ b → Local next (r ∷ xs)
  list_own is true own = list_line is own (entry_on_line n (tail r.text)) refl
  list_own is false other =
      fails_first n local next r xs Unfit (λ more. at_dash is more ∙ ap (λ (b : Block (List Shape)). b >>= list_end) (item_over n local r.column r other more)) nothing (nothing_is (suc n))

  map_is : is_dash r.text ≡ false → (k : List ℕ × List ℕ) → own_key r.column r ≡ Some k → (xs : List Row) → next (r ∷ xs) ≡ mapped mapped_pairs (own_pair n local r.column [] r k) xs
  map_is is k own xs =
      at_key is xs ∙ (ap (λ (b : Block Pairs). b >>= map_end) (pair_own n local r.column [] r k own refl xs)
      ∙ some_mapped r k.0 (value_on n local (is_below_key r.column) r k.1 xs) (all_pairs n r.column ([] ++ k.0 ∷ [])))

  map_line : is_dash r.text ≡ false → (k : List ℕ × List ℕ) → own_key r.column r ≡ Some k → (o : Result (Option Shape) Why) → entry_on_line n k.1 ≡ o → Local next (r ∷ xs)
  map_line is k own (Ok found) on =
      Local-cons (mapped mapped_pairs (own_pair n local r.column [] r k)) next r (map_is is k own) xs
      (Local-map mapped_pairs (own_pair n local r.column [] r k) xs (pair_seq n local r.column [] r k found on xs (λ keys rest le. pairs_local n local r.column (length rest + 1) keys rest (omega arith))))
  map_line is k own (Err w) on =
      fails_first n local next r xs w (λ more. at_key is more ∙ ap (λ (b : Block Pairs). b >>= map_end) (pair_fails n local r.column [] r k w own refl on more)) nothing (nothing_is (suc n))

  map_own : is_dash r.text ≡ false → (o : Option (List ℕ × List ℕ)) → own_key r.column r ≡ o → Local next (r ∷ xs)
  map_own is (Some k) own = map_line is k own (entry_on_line n k.1) refl
  map_own is None other =
      fails_first n local next r xs Unfit (λ more. at_key is more ∙ ap (λ (b : Block Pairs). b >>= map_end) (pair_over n local r.column [] r other more)) nothing (nothing_is (suc n))

  node_step : (b : Bool) → is_dash r.text ≡ b → Local next (r ∷ xs)
  node_step true is = list_own is (own_dash r.column r) refl
  node_step false is = map_own is (own_key r.column r) refl

node_local : (n : ℕ) (rows : List Row) → Local (node n) rows
node_local n [] = subst (Is (node n) []) (sym (nothing_is n)) tt
node_local zero (r ∷ xs) = subst (Is (node zero) (r ∷ xs)) (sym (deep_zero r xs)) ([], r, xs, refl, fault_line Deep r, deep_zero r, (nothing, nothing_is 0))
node_local (suc n) (r ∷ xs) = node_step n (node_local n) r xs (is_dash r.text) refl

-- ---- the whole text
abbrev failed : YamlFault → Result Shape YamlFault
failed f = Err f

err_is : (d f : YamlFault) → failed d ≡ failed f → d ≡ f
err_is d f e = cc

not_both : (f : YamlFault) (u : Shape) → failed f ≡ Ok u → ⊥
not_both f u e = absurd cc

stops : (rows front : List Row) (r : Row) (rest : List Row) (f : YamlFault) (t : Shape) → rows ≡ front ++ r ∷ rest → line_of f ≡ r.number → document front ≡ Ok t → ((more : List Row) → document (front ++ r ∷ more) ≡ Err f) → StopAt rows (line_of f)
stops rows front r rest f t split named before after =
    (front, r, rest, split, sym named, (t, document_sound front t before), λ more u stands. not_both f u (sym (after more) ∙ document_complete (front ++ r ∷ more) u stands))

document_is : (rows : List Row) (res : Block Shape) → node MAX_LEVELS rows ≡ res → document rows ≡ (res >>= (λ x. all_rows x.0 x.1))
unfolding document
document_is rows res e = ap (λ (b : Block Shape). b >>= (λ x. all_rows x.0 x.1)) e

first_of : (rows : List Row) (res : Block Shape) → node MAX_LEVELS rows ≡ res → Is (node MAX_LEVELS) rows res → (f : YamlFault) → document rows ≡ Err f → StopAt rows (line_of f)
first_of rows (Ok (y, [])) at e f fails = absurd (not_both f y (sym fails ∙ document_is rows (Ok (y, [])) at))
first_of rows (Ok (y, r ∷ rest)) at e f fails =
    let same : fault_of Unfit r ≡ f = err_is _ f (sym (document_is rows (Ok (y, r ∷ rest)) at) ∙ fails) in
    subst (λ (g : YamlFault). StopAt rows (line_of g)) same
    (stops rows e.0 r rest (fault_of Unfit r) y e.1 (fault_line Unfit r) (document_is e.0 (Ok (y, [])) e.3) (λ more. document_is (e.0 ++ r ∷ more) (Ok (y, r ∷ more)) (e.2 more)))
first_of rows (Err d) at e f fails =
    let same : d ≡ f = err_is _ f (sym (document_is rows (Err d) at) ∙ fails) in
    subst (λ (g : YamlFault). StopAt rows (line_of g)) same
    (stops rows e.0 e.1 e.2 d e.6.0 e.3 e.4 (document_is e.0 (Ok (e.6.0, [])) e.6.1) (λ more. document_is (e.0 ++ e.1 ∷ more) (Err d) (e.5 more)))

pub document_stops : (rows : List Row) (f : YamlFault) → document rows ≡ Err f → StopAt rows (line_of f)
document_stops rows f fails = first_of rows (node MAX_LEVELS rows) refl (node_local MAX_LEVELS rows) f fails
