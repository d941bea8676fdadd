-- A pass over a table as it is held, capture by capture.
use Rattle.std.proofs.Common.{◌≡◌, ◌∙◌, ◌++◌, ◌<◌, ◌≤◌, ℕ, zero, suc, Bool, true, false, List, [], ◌∷◌, map, take, drop, length, get_or, Option, option_map, refl, sym, ap, arith}
use Rattle.std.specs.Prelude.{set}
use Rattle.std.proofs.lemmas.List.{map-set, length-map}
use Rattle.doc_tree.specs.Shape.{Shape, shape}
use Rattle.doc_tree.specs.declared.Tree.{Tree}
use Rattle.policy_model.specs.Keys.{Text}
use Rattle.policy_model.specs.declared.capture.Capture.{Capture}
use Rattle.policy_values.specs.Tables.{Table, found_in, valued, tables, names, have_values, was_ready, halfway, seen, IsStep}
use Rattle.policy_values.proofs.Ready.{entry, tables_entries, kept_done, kept_waiting, brought_on}

-- ---- lists made item by item, of which so many are made anew

at_map : {A B : Type 0} (f : A → B) (xs : List A) (i : ℕ) (e : B) (d : A) → i < length xs → get_or (map f xs) i e ≡ f (get_or xs i d)
at_map f [] i e d lt = absurd (omega arith)
at_map f (x ∷ xs) zero e d lt = refl
at_map f (x ∷ xs) (suc i) e d lt = at_map f xs i e d (omega arith)

same_at : {A : Type 0} (xs : List A) (i : ℕ) (c d : A) → i < length xs → get_or xs i c ≡ get_or xs i d
same_at [] i c d lt = absurd (omega arith)
same_at (x ∷ xs) zero c d lt = refl
same_at (x ∷ xs) (suc i) c d lt = same_at xs i c d (omega arith)

module _ {A B : Type 0} (f g : A → B) where
  -- one more that is as it was
  kept_at : (xs : List A) (i : ℕ) → i < length xs → ((d : A) → f (get_or xs i d) ≡ g (get_or xs i d)) → take i (map g xs) ++ drop i (map f xs) ≡ take (suc i) (map g xs) ++ drop (suc i) (map f xs)
  kept_at [] i lt same = absurd (omega arith)
  kept_at (x ∷ xs) zero lt same = ap (λ y. y ∷ map f xs) (same x)
  kept_at (x ∷ xs) (suc i) lt same = ap (λ ys. g x ∷ ys) (kept_at xs i (omega arith) same)

  -- one more that is put in its place
  put_at : (xs : List A) (i : ℕ) (y : B) → i < length xs → ((d : A) → y ≡ g (get_or xs i d)) → set (take i (map g xs) ++ drop i (map f xs)) i y ≡ take (suc i) (map g xs) ++ drop (suc i) (map f xs)
  put_at [] i y lt is = absurd (omega arith)
  put_at (x ∷ xs) zero y lt is = ap (λ z. z ∷ map f xs) (is x)
  put_at (x ∷ xs) (suc i) y lt is = ap (λ ys. g x ∷ ys) (put_at xs i y (omega arith) is)

  all_put : (xs : List A) (i : ℕ) → length xs ≤ i → take i (map g xs) ++ drop i (map f xs) ≡ map g xs
  all_put [] zero le = refl
  all_put [] (suc i) le = refl
  all_put (x ∷ xs) zero le = absurd (omega arith)
  all_put (x ∷ xs) (suc i) le = ap (λ ys. g x ∷ ys) (all_put xs i (omega arith))

  half_length : (xs : List A) (i : ℕ) → length (take i (map g xs) ++ drop i (map f xs)) ≡ length xs
  half_length [] zero = refl
  half_length [] (suc i) = refl
  half_length (x ∷ xs) zero = ap (λ n. suc n) (length-map xs f)
  half_length (x ∷ xs) (suc i) = ap (λ n. suc n) (half_length xs i)

mapped_twice : {A B C : Type 0} (g : B → C) (f : A → B) (xs : List A) → map g (map f xs) ≡ map (λ x. g (f x)) xs
mapped_twice g f [] = refl
mapped_twice g f (x ∷ xs) = ap (λ ys. g (f x) ∷ ys) (mapped_twice g f xs)

-- ---- a pass

module _ (captures : List Capture) (running : Shape) where
  halfway_entries : (n i : ℕ) → halfway captures running n i ≡ take i (map (entry captures running (suc n)) captures) ++ drop i (map (entry captures running n) captures)
  halfway_entries n i = ap (λ (t : Table). take i (tables captures running (suc n)) ++ drop i t) (tables_entries captures running n)

  pub halfway_all : (n i : ℕ) → length captures ≤ i → halfway captures running n i ≡ tables captures running (suc n)
  halfway_all n i le = halfway_entries n i ∙ all_put (entry captures running n) (entry captures running (suc n)) captures i le

  module _ (done ready : List Bool) (i : ℕ) (lt : i < length captures) where
    flag_at : (p : Capture → Bool) (flags : List Bool) (b : Bool) → flags ≡ map p captures → get_or flags i false ≡ b → (d : Capture) → p (get_or captures i d) ≡ b
    flag_at p flags b are is d = sym (at_map p captures i false d lt) ∙ ap (λ (fs : List Bool). get_or fs i false) (sym are) ∙ is

    half_kept : (n : ℕ) → ((d : Capture) → entry captures running n (get_or captures i d) ≡ entry captures running (suc n) (get_or captures i d)) → halfway captures running n i ≡ halfway captures running n (suc i)
    half_kept n same = halfway_entries n i ∙ kept_at (entry captures running n) (entry captures running (suc n)) captures i lt same ∙ sym (halfway_entries n (suc i))

    -- a capture that was ready before stays as it is ..
    pub step_done : (values : List (Option Tree)) → get_or done i false ≡ true → IsStep captures running done ready i values values
    step_done values is n are half = half ∙ half_kept n (λ d. kept_done captures running n (get_or captures i d) (flag_at (was_ready captures running n) done true are.0 is d))

    -- .. and so does one that isn't ready ..
    pub step_waiting : (values : List (Option Tree)) → get_or ready i false ≡ false → IsStep captures running done ready i values values
    step_waiting values is n are half = half ∙ half_kept n (λ d. kept_waiting captures running n (get_or captures i d) (flag_at (was_ready captures running (suc n)) ready false are.1 is d))

    -- .. and one that is ready gets its value
    pub step_brought : (values : List (Option Tree)) (value : Option Tree) (c : Capture) → get_or ready i false ≡ true → c ≡ get_or captures i c
        → option_map shape value ≡ valued (found_in captures (seen values)) running c → IsStep captures running done ready i values (set values i value)
    step_brought values value c is at to n are half =
        map-set (option_map shape) values i value
        ∙ ap (λ (t : Table). set t i (option_map shape value)) (half ∙ halfway_entries n i)
        ∙ put_at (entry captures running n) (entry captures running (suc n)) captures i (option_map shape value) lt
        (λ d. to
        ∙ ap (λ (t : Table). valued (found_in captures t) running c) half
        ∙ brought_on captures running n i c (ap (was_ready captures running (suc n)) at ∙ flag_at (was_ready captures running (suc n)) ready true are.1 is c)
        ∙ ap (entry captures running (suc n)) (at ∙ same_at captures i c d lt))
        ∙ sym (halfway_entries n (suc i))

  -- the flags of a pass
  pub flags_are : (n : ℕ) (values : List (Option Tree)) (these : List (List Text)) (flags : List Bool) → these ≡ map names captures → seen values ≡ tables captures running n
      → flags ≡ map (have_values (found_in captures (seen values))) these → flags ≡ map (was_ready captures running (suc n)) captures
  flags_are n values these flags named known are =
      are
      ∙ ap (map (have_values (found_in captures (seen values)))) named
      ∙ mapped_twice (have_values (found_in captures (seen values))) names captures
      ∙ ap (λ (t : Table). map (λ (c : Capture). have_values (found_in captures t) (names c)) captures) known
