-- A capture has a value only where all that it names have values, and from then on it is the same one.
use Rattle.std.proofs.Common.{◌≡◌, ◌∙◌, ◌&&◌, ◌++◌, ◌≤◌, ◌+◌, ◌-◌, ℕ, zero, suc, Bool, true, false, cond, List, [], ◌∷◌, map, flat_map, take, drop, Option, Some, None, refl, sym, ap, arith}
use Rattle.std.specs.Prelude.{is_some, option_and_then, option_to_list}
use Rattle.std.specs.Str.{bytes_eq}
use Rattle.std.proofs.lemmas.Bool.{and_parts, and_from}
use Rattle.std.proofs.lemmas.List.Folds.{list_all-append}
use Rattle.doc_tree.specs.Shape.{Shape}
use Rattle.policy_model.specs.Keys.{Text}
use Rattle.policy_model.specs.Leading.{led}
use Rattle.policy_model.specs.Reading.{expression_of}
use Rattle.policy_model.specs.Steps.{value_of_tree, narrowed}
use Rattle.policy_model.specs.Values.{operand_names, names_in, operand_value, step_value, steps_value, start_value, expression_value}
use Rattle.policy_model.specs.declared.capture.Capture.{Capture}
use Rattle.policy_model.specs.declared.expression.Constant.{Constant}
use Rattle.policy_model.specs.declared.expression.Operand.{Operand}
use Rattle.policy_model.specs.declared.expression.Operand.TheVariants.{Constant as Written, Refers}
use Rattle.policy_model.specs.declared.expression.Step.{Step}
use Rattle.policy_model.specs.declared.expression.Expression.{Expression}
use Rattle.policy_values.specs.Tables.{Table, found_in, valued, round, tables, names, have_values, was_ready}

abbrev steps_names : List Step → List Text
steps_names steps = flat_map (λ (s : Step). operand_names s.operand) steps

-- ---- names of several parts

have_both : (v : Text → Option Shape) (ms ns : List Text) → have_values v (ms ++ ns) ≡ (have_values v ms && have_values v ns)
have_both v ms ns = list_all-append (λ n. is_some (v n)) ms ns

have_parts : (v : Text → Option Shape) (ms ns : List Text) → have_values v (ms ++ ns) ≡ true → (have_values v ms ≡ true) × (have_values v ns ≡ true)
have_parts v ms ns h = and_parts _ _ (sym (have_both v ms ns) ∙ h)

-- what is false of both parts but true of the first is false of the second
other_part : (a b : Bool) → a ≡ true → (a && b) ≡ false → b ≡ false
other_part true b is h = h
other_part false b is h = absurd cc

-- ---- where something is missing there is no value

module _ (v : Text → Option Shape) where
  none_operand : (o : Operand) → have_values v (operand_names o) ≡ false → operand_value v o ≡ None
  none_operand (Written c) h = absurd cc
  none_operand (Refers r) h =
      (elim (v r.name) as (λ x. (is_some x && true) ≡ false → option_and_then value_of_tree (option_and_then (led r.path) x) ≡ None) [
        | None ↦ λ _. refl
        | Some s ↦ λ e. absurd cc
      ]) h

  then_none : (f : Shape → Option Shape) (o : Option Shape) → ((s : Shape) → f s ≡ None) → option_and_then f o ≡ None
  then_none f None h = refl
  then_none f (Some s) h = h s

  none_steps : (ss : List Step) (s : Shape) → have_values v (steps_names ss) ≡ false → steps_value v ss s ≡ None
  none_steps [] s h = absurd cc
  none_steps (t ∷ ss) s h = go (none_steps ss) (have_values v (operand_names t.operand)) refl
    where
      go : ((u : Shape) → have_values v (steps_names ss) ≡ false → steps_value v ss u ≡ None) → (b : Bool) → have_values v (operand_names t.operand) ≡ b → option_and_then (steps_value v ss) (step_value v t s) ≡ None
      go none true is = then_none (steps_value v ss) (step_value v t s) (λ u. none u (other_part _ _ is (sym (have_both v (operand_names t.operand) (steps_names ss)) ∙ h)))
      go none false is = ap (λ (x : Option Constant). option_and_then (steps_value v ss) (option_and_then (λ c. narrowed t.verb c t.path s) x)) (none_operand t.operand is)

  none_start : (running : Shape) (o : Option Text) → have_values v (option_to_list o) ≡ false → start_value v running o ≡ None
  none_start running None h = absurd cc
  none_start running (Some name) h = (elim (v name) as (λ x. (is_some x && true) ≡ false → x ≡ None) [
    | None ↦ λ _. refl
    | Some s ↦ λ e. absurd cc
  ]) h

  none_expression : (running : Shape) (e : Expression) → have_values v (names_in e) ≡ false → expression_value v running e ≡ None
  none_expression running e h = go (have_values v (option_to_list e.start)) refl
    where
      go : (b : Bool) → have_values v (option_to_list e.start) ≡ b → expression_value v running e ≡ None
      go true is = then_none (steps_value v e.steps) (start_value v running e.start) (λ u. none_steps e.steps u (other_part _ _ is (sym (have_both v (option_to_list e.start) (steps_names e.steps)) ∙ h)))
      go false is = ap (option_and_then (steps_value v e.steps)) (none_start running e.start is)

  both_false : (a : Bool) → (a && true) ≡ false → a ≡ false
  both_false true h = h
  both_false false h = refl

  none_read : (running : Shape) (o : Option Expression) → have_values v (flat_map names_in (option_to_list o)) ≡ false → option_and_then (expression_value v running) o ≡ None
  none_read running None h = refl
  none_read running (Some e) h = none_expression running e (both_false _ (sym (have_both v (names_in e) []) ∙ h))

  pub none_valued : (running : Shape) (c : Capture) → have_values v (names c) ≡ false → valued v running c ≡ None
  none_valued running c h = none_read running (expression_of c.text) h

-- ---- where nothing is missing, more values change nothing

-- what has a value has the same one there
abbrev pub Below : (Text → Option Shape) → (Text → Option Shape) → Type 0
Below v w = (name : Text) (s : Shape) → v name ≡ Some s → w name ≡ Some s

module _ (v w : Text → Option Shape) (below : Below v w) where
  agree : (name : Text) → (is_some (v name) && true) ≡ true → v name ≡ w name
  agree name some = go (v name) refl some
    where
      go : (o : Option Shape) → v name ≡ o → (is_some o && true) ≡ true → v name ≡ w name
      go None is e = absurd cc
      go (Some s) is e = is ∙ sym (below name s is)

  same_operand : (o : Operand) → have_values v (operand_names o) ≡ true → operand_value v o ≡ operand_value w o
  same_operand (Written c) h = refl
  same_operand (Refers r) h = ap (λ (x : Option Shape). option_and_then value_of_tree (option_and_then (led r.path) x)) (agree r.name h)

  same_steps : (ss : List Step) (s : Shape) → have_values v (steps_names ss) ≡ true → steps_value v ss s ≡ steps_value w ss s
  same_steps [] s h = refl
  same_steps (t ∷ ss) s h =
      let parts = have_parts v (operand_names t.operand) (steps_names ss) h in
      ap (λ (x : Option Constant). option_and_then (steps_value v ss) (option_and_then (λ c. narrowed t.verb c t.path s) x)) (same_operand t.operand parts.0)
      ∙ ap (λ (f : Shape → Option Shape). option_and_then f (step_value w t s)) (λ i u. same_steps ss u parts.1 i)

  same_start : (running : Shape) (o : Option Text) → have_values v (option_to_list o) ≡ true → start_value v running o ≡ start_value w running o
  same_start running None h = refl
  same_start running (Some name) h = agree name h

  same_expression : (running : Shape) (e : Expression) → have_values v (names_in e) ≡ true → expression_value v running e ≡ expression_value w running e
  same_expression running e h =
      let parts = have_parts v (option_to_list e.start) (steps_names e.steps) h in
      ap (option_and_then (steps_value v e.steps)) (same_start running e.start parts.0)
      ∙ ap (λ (f : Shape → Option Shape). option_and_then f (start_value w running e.start)) (λ i u. same_steps e.steps u parts.1 i)

  same_read : (running : Shape) (o : Option Expression) → have_values v (flat_map names_in (option_to_list o)) ≡ true → option_and_then (expression_value v running) o ≡ option_and_then (expression_value w running) o
  same_read running None h = refl
  same_read running (Some e) h = same_expression running e (have_parts v (names_in e) [] h).0

  pub same_valued : (running : Shape) (c : Capture) → have_values v (names c) ≡ true → valued v running c ≡ valued w running c
  same_valued running c h = same_read running (expression_of c.text) h

  pub still_have : (ns : List Text) → have_values v ns ≡ true → have_values w ns ≡ true
  still_have [] h = refl
  still_have (n ∷ ns) h =
      let parts = and_parts (is_some (v n)) (have_values v ns) h in
      and_from (is_some (w n)) (have_values w ns) (ap is_some (sym (agree n (and_from (is_some (v n)) true parts.0 refl))) ∙ parts.0) (still_have ns parts.1)

-- ---- tables whose entries have more values

module _ (f g : Capture → Option Shape) (more : (c : Capture) (s : Shape) → f c ≡ Some s → g c ≡ Some s) where
  found_more : (cs : List Capture) (name : Text) (s : Shape) → found_in cs (map f cs) name ≡ Some s → found_in cs (map g cs) name ≡ Some s
  found_more [] name s e = absurd cc
  found_more (c ∷ cs) name s e =
      (elim (bytes_eq c.name name) as (λ b. cond b (f c) (found_in cs (map f cs) name) ≡ Some s → cond b (g c) (found_in cs (map g cs) name) ≡ Some s) [
        | true ↦ more c s
        | false ↦ found_more cs name s
      ]) e

  -- also where only the first of them do
  found_half : (cs : List Capture) (i : ℕ) (name : Text) (s : Shape) → found_in cs (map f cs) name ≡ Some s → found_in cs (take i (map g cs) ++ drop i (map f cs)) name ≡ Some s
  found_half [] i name s e = absurd cc
  found_half (c ∷ cs) zero name s e = e
  found_half (c ∷ cs) (suc i) name s e =
      (elim (bytes_eq c.name name) as (λ b. cond b (f c) (found_in cs (map f cs) name) ≡ Some s → cond b (g c) (found_in cs (take i (map g cs) ++ drop i (map f cs)) name) ≡ Some s) [
        | true ↦ more c s
        | false ↦ found_half cs i name s
      ]) e

-- ---- passes

module _ (captures : List Capture) (running : Shape) where
  -- the entry of a capture after so many passes
  abbrev pub entry : ℕ → Capture → Option Shape
  entry zero = λ c. None
  entry (suc n) = valued (found_in captures (tables captures running n)) running

  pub tables_entries : (n : ℕ) → tables captures running n ≡ map (entry n) captures
  tables_entries zero = refl
  tables_entries (suc n) = refl

  -- a capture that was ready has the same entry in the next pass, and one that wasn't has none
  grows_on : (n : ℕ) → Below (found_in captures (tables captures running n)) (found_in captures (tables captures running (suc n)))
      → (c : Capture) (s : Shape) (b : Bool) → have_values (found_in captures (tables captures running n)) (names c) ≡ b → entry (suc n) c ≡ Some s → entry (suc (suc n)) c ≡ Some s
  grows_on n more c s true is e = sym (same_valued (found_in captures (tables captures running n)) (found_in captures (tables captures running (suc n))) more running c is) ∙ e
  grows_on n more c s false is e = let none : entry (suc n) c ≡ None = none_valued (found_in captures (tables captures running n)) running c is in absurd cc

  -- an entry once found stays
  grows : (n : ℕ) (c : Capture) (s : Shape) → entry n c ≡ Some s → entry (suc n) c ≡ Some s
  grows zero c s e = absurd cc
  grows (suc n) c s e =
      grows_on n (λ name t h. found_more (entry n) (entry (suc n)) (grows n) captures name t (ap (λ (u : Table). found_in captures u name) (sym (tables_entries n)) ∙ h)) c s
      (have_values (found_in captures (tables captures running n)) (names c)) refl e

  below : (n : ℕ) → Below (found_in captures (tables captures running n)) (found_in captures (tables captures running (suc n)))
  below n name s e = found_more (entry n) (entry (suc n)) (grows n) captures name s (ap (λ (t : Table). found_in captures t name) (sym (tables_entries n)) ∙ e)

  -- the values that were known before a pass are known within it
  pub below_half : (n i : ℕ) → Below (found_in captures (tables captures running n)) (found_in captures (take i (tables captures running (suc n)) ++ drop i (tables captures running n)))
  below_half n i name s e =
      ap (λ (t : Table). found_in captures (take i (tables captures running (suc n)) ++ drop i t) name) (tables_entries n)
      ∙ found_half (entry n) (entry (suc n)) (grows n) captures i name s (ap (λ (t : Table). found_in captures t name) (sym (tables_entries n)) ∙ e)

  waiting_on : (o p : Option Shape) → ((s : Shape) → o ≡ Some s → p ≡ Some s) → p ≡ None → o ≡ None
  waiting_on None p more none = refl
  waiting_on (Some s) p more none = let there : None ≡ Some s = sym none ∙ more s refl in absurd cc

  -- a capture that was ready before has its value already ..
  pub kept_done : (n : ℕ) (c : Capture) → was_ready captures running n c ≡ true → entry n c ≡ entry (suc n) c
  kept_done zero c h = absurd cc
  kept_done (suc n) c h = same_valued (found_in captures (tables captures running n)) (found_in captures (tables captures running (suc n))) (below n) running c h

  -- .. and one that isn't ready yet has none
  pub kept_waiting : (n : ℕ) (c : Capture) → was_ready captures running (suc n) c ≡ false → entry n c ≡ entry (suc n) c
  kept_waiting n c h =
      let none : entry (suc n) c ≡ None = none_valued (found_in captures (tables captures running n)) running c h in
      waiting_on (entry n c) (entry (suc n) c) (grows n c) none ∙ sym none

  -- one that is ready gets it from any table within the pass
  pub brought_on : (n i : ℕ) (c : Capture) → was_ready captures running (suc n) c ≡ true
      → valued (found_in captures (take i (tables captures running (suc n)) ++ drop i (tables captures running n))) running c ≡ entry (suc n) c
  brought_on n i c h = sym (same_valued (found_in captures (tables captures running n)) (found_in captures (take i (tables captures running (suc n)) ++ drop i (tables captures running n))) (below_half n i) running c h)

  -- ---- a pass before which no more were ready than before the last one

  same_head : {A : Type 0} (x y : A) (xs ys : List A) → x ∷ xs ≡ y ∷ ys → x ≡ y
  same_head x y xs ys e = cc

  same_tail : {A : Type 0} (x y : A) (xs ys : List A) → x ∷ xs ≡ y ∷ ys → xs ≡ ys
  same_tail x y xs ys e = cc

  kept_same : (n : ℕ) (c : Capture) → was_ready captures running (suc n) c ≡ was_ready captures running n c → entry (suc n) c ≡ entry n c
  kept_same n c same = sym (go (was_ready captures running n c) refl)
    where
      go : (b : Bool) → was_ready captures running n c ≡ b → entry n c ≡ entry (suc n) c
      go true is = kept_done n c is
      go false is = kept_waiting n c (same ∙ is)

  all_same : (n : ℕ) (cs : List Capture) → map (was_ready captures running (suc n)) cs ≡ map (was_ready captures running n) cs → map (entry (suc n)) cs ≡ map (entry n) cs
  all_same n [] h = refl
  all_same n (c ∷ cs) h =
      ap (λ (x : Option Shape). x ∷ map (entry (suc n)) cs) (kept_same n c (same_head _ _ _ _ h))
      ∙ ap (λ (xs : Table). entry n c ∷ xs) (all_same n cs (same_tail _ _ _ _ h))

  stays : (n : ℕ) → tables captures running (suc n) ≡ tables captures running n → (k m : ℕ) → m ≡ n + k → tables captures running m ≡ tables captures running n
  stays n h zero m is = ap (tables captures running) (omega (arith, is))
  stays n h (suc k) zero is = absurd (omega (arith, is))
  stays n h (suc k) (suc m) is = ap (round captures running) (stays n h k m (omega (arith, is))) ∙ h

  -- .. adds nothing, and neither does any later one
  pub settled : (n m : ℕ) → n ≤ m → map (was_ready captures running (suc n)) captures ≡ map (was_ready captures running n) captures → tables captures running n ≡ tables captures running m
  settled n m le h = sym (stays n (all_same n captures h ∙ sym (tables_entries n)) (m - n) m (omega arith))
