-- What states the same fields and values as an item, narrowed to these fields, is what matches the item.
use Rattle.std.proofs.Common.{◌≡◌, ℕ, ◌<◌, zero, suc, Bool, true, false, ◌&&◌, ◌||◌, cond, List, [], ◌∷◌, ◌++◌, length, get_or, Option, Some, None, is_some, if◌then◌else◌, Ordering, refl, sym, ap, ◌∙◌, arith}
use Rattle.std.specs.List.{list_any}
use Rattle.std.specs.Option.{option_eq}
use Rattle.std.specs.Ordering.{is_eq}
use Rattle.std.specs.BTreeSet.{BTreeSet, contains, Updates}
use Rattle.net_model.specs.Words.{bool_eq}
use Rattle.net_model.proofs.lemmas.Truth.{and_left, and_right, and_both}
use Rattle.merge_model.specs.Routes.{agrees, agrees_if}
use Rattle.route_merge.proofs.Indexed.{any_more}

any_index : {X : Type 0} (p : X → Bool) (xs : List X) (d : X) → list_any p xs ≡ true → (i : ℕ) × (i < length xs) × (p (get_or xs i d) ≡ true)
any_index p [] d h = absurd cc
any_index p (x ∷ xs) d h = elim (p x) as (λ v. p x ≡ v → (v || list_any p xs) ≡ true → (i : ℕ) × (i < suc (length xs)) × (p (get_or (x ∷ xs) i d) ≡ true)) [
  | true ↦ λ e _. (0, omega arith, e)
  | false ↦ λ e later. let i = any_index p xs d later in (suc i.0, omega (arith, i.1), i.2)
] refl h

any_here : {X : Type 0} (p : X → Bool) (xs : List X) (i : ℕ) (d : X) → i < length xs → p (get_or xs i d) ≡ true → list_any p xs ≡ true
any_here p [] i d lt h = absurd (omega (arith, lt))
any_here p (x ∷ xs) zero d lt h = rw h refl
any_here p (x ∷ xs) (suc i) d lt h = later (p x) (any_here p xs i d (omega (arith, lt)) h)
  where
    later : (b : Bool) → list_any p xs ≡ true → (b || list_any p xs) ≡ true
    later true e = refl
    later false e = e

both_ways : (a b : Bool) → (a ≡ true → b ≡ true) → (b ≡ true → a ≡ true) → a ≡ b
both_ways true b f g = sym (f refl)
both_ways false true f g = g refl
both_ways false false f g = refl

module _ {E Q : Type 0} (absent : E → Bool) (of : E → Q) (alike same : Q → Q → Bool) where
  -- one more entry, none of whose fields is new
  pub shape_known : (shapes : List Q) (es : List E) (e : E) → ((a b q : Q) → alike a b ≡ true → alike a q ≡ alike b q) → list_any (λ s. alike s (of e)) shapes ≡ true
      → ((q : Q) → list_any (λ s. alike s q) shapes ≡ list_any (λ x. absent x && alike (of x) q) es) → (q : Q) → list_any (λ s. alike s q) shapes ≡ list_any (λ x. absent x && alike (of x) q) (es ++ e ∷ [])
  shape_known shapes es e congr known h q = by (absent e && alike (of e) q) refl ∙ sym (any_more (λ x. absent x && alike (of x) q) es e)
    where
      by : (v : Bool) → (absent e && alike (of e) q) ≡ v → list_any (λ s. alike s q) shapes ≡ cond v true (list_any (λ x. absent x && alike (of x) q) es)
      by false here = h q
      by true here =
          let s = any_index (λ s. alike s (of e)) shapes (of e) known in
          any_here (λ s. alike s q) shapes s.0 (of e) s.1 (congr (get_or shapes s.0 (of e)) (of e) q s.2 ∙ and_right (absent e) (alike (of e) q) here)

  -- one whose fields are
  pub shape_new : (shapes : List Q) (es : List E) (e : E) → absent e ≡ true
      → ((q : Q) → list_any (λ s. alike s q) shapes ≡ list_any (λ x. absent x && alike (of x) q) es) → (q : Q) → list_any (λ s. alike s q) (shapes ++ of e ∷ []) ≡ list_any (λ x. absent x && alike (of x) q) (es ++ e ∷ [])
  shape_new shapes es e here h q =
      any_more (λ s. alike s q) shapes (of e) ∙ ap (cond (alike (of e) q) true) (h q)
      ∙ ap (λ b. cond (b && alike (of e) q) true (list_any (λ x. absent x && alike (of x) q) es)) (sym here)
      ∙ sym (any_more (λ x. absent x && alike (of x) q) es e)

  -- one that isn't absent
  pub passed : (test : Q → Q → Bool) (known : Q → Bool) (es : List E) (e : E) → absent e ≡ false
      → ((q : Q) → known q ≡ list_any (λ x. absent x && test (of x) q) es) → (q : Q) → known q ≡ list_any (λ x. absent x && test (of x) q) (es ++ e ∷ [])
  passed test known es e not_it h q =
      h q ∙ ap (λ b. cond (b && test (of e) q) true (list_any (λ x. absent x && test (of x) q) es)) (sym not_it) ∙ sym (any_more (λ x. absent x && test (of x) q) es e)

  -- a set with what one more states
  pub noted : (cmp : Q → Q → Ordering) (set set' : BTreeSet Q) (es : List E) (e : E) → ((a b : Q) → same a b ≡ is_eq (cmp a b)) → absent e ≡ true → Updates cmp set set' (of e) true
      → ((q : Q) → contains cmp set q ≡ list_any (λ x. absent x && same (of x) q) es) → (q : Q) → contains cmp set' q ≡ list_any (λ x. absent x && same (of x) q) (es ++ e ∷ [])
  noted cmp set set' es e tie here u h q =
      u.0 q ∙ ap (λ b. cond (is_eq (cmp (of e) q)) true b) (h q)
      ∙ ap (λ b. cond b true (list_any (λ x. absent x && same (of x) q) es)) (sym (tie (of e) q))
      ∙ ap (λ b. cond (b && same (of e) q) true (list_any (λ x. absent x && same (of x) q) es)) (sym here)
      ∙ sym (any_more (λ x. absent x && same (of x) q) es e)

  -- an absent entry matches an item where what it states of some shape is in the set
  pub matched : {X : Type 0} (narrowed : Q → X → Q) (matches : E → X → Bool) (shapes : List Q) (has : Q → Bool) (es : List E) (dq : Q) (de : E) (x : X)
      → ((a : Q) → alike a a ≡ true) → ((a b : Q) → alike a b ≡ true → narrowed a x ≡ narrowed b x) → ((e : E) → matches e x ≡ true → same (of e) (narrowed (of e) x) ≡ true)
      → ((e : E) (s : Q) → same (of e) (narrowed s x) ≡ true → matches e x ≡ true)
      → ((q : Q) → list_any (λ s. alike s q) shapes ≡ list_any (λ e. absent e && alike (of e) q) es) → ((q : Q) → has q ≡ list_any (λ e. absent e && same (of e) q) es)
      → list_any (λ s. has (narrowed s x)) shapes ≡ list_any (λ e. absent e && matches e x) es
  matched narrowed matches shapes has es dq de x itself narrows whole sound shaped held = both_ways (list_any (λ s. has (narrowed s x)) shapes) (list_any (λ e. absent e && matches e x) es) there back
    where
      there : list_any (λ s. has (narrowed s x)) shapes ≡ true → list_any (λ e. absent e && matches e x) es ≡ true
      there h =
          let s = any_index (λ s. has (narrowed s x)) shapes dq h in
          let shape : Q = get_or shapes s.0 dq in
          let e = any_index (λ e. absent e && same (of e) (narrowed shape x)) es de (sym (held (narrowed shape x)) ∙ s.2) in
          let entry : E = get_or es e.0 de in
          any_here (λ e. absent e && matches e x) es e.0 de e.1
          (and_both (absent entry) (matches entry x) (and_left (absent entry) (same (of entry) (narrowed shape x)) e.2)
          (sound entry shape (and_right (absent entry) (same (of entry) (narrowed shape x)) e.2)))

      back : list_any (λ e. absent e && matches e x) es ≡ true → list_any (λ s. has (narrowed s x)) shapes ≡ true
      back h =
          let e = any_index (λ e. absent e && matches e x) es de h in
          let entry : E = get_or es e.0 de in
          let here : absent entry ≡ true = and_left (absent entry) (matches entry x) e.2 in
          let s = any_index (λ s. alike s (of entry)) shapes dq
          (shaped (of entry) ∙ any_here (λ e. absent e && alike (of e) (of entry)) es e.0 de e.1 (and_both (absent entry) (alike (of entry) (of entry)) here (itself (of entry)))) in
          let shape : Q = get_or shapes s.0 dq in
          let same_narrowed : narrowed (of entry) x ≡ narrowed shape x = sym (narrows shape (of entry) s.2) in
          any_here (λ s. has (narrowed s x)) shapes s.0 dq s.1
          (held (narrowed shape x)
          ∙ any_here (λ e. absent e && same (of e) (narrowed shape x)) es e.0 de e.1
          (and_both (absent entry) (same (of entry) (narrowed shape x)) here
          (ap (same (of entry)) (sym same_narrowed) ∙ whole entry (and_right (absent entry) (matches entry x) e.2))))

-- ---- a field

pub one_bit : (a b : Bool) → bool_eq a b ≡ true → a ≡ b
one_bit true true h = refl
one_bit true false h = absurd cc
one_bit false true h = absurd cc
one_bit false false h = refl

pub bit_itself : (a : Bool) → bool_eq a a ≡ true
bit_itself true = refl
bit_itself false = refl

module _ {X : Type 0} (R : X → X → Bool) where
  pub field_sound : (o : Option X) (b : Bool) (v : X) → option_eq R o (if b then Some v else None) ≡ true → agrees R o v ≡ true
  field_sound None b v h = refl
  field_sound (Some x) true v h = h
  field_sound (Some x) false v h = absurd cc

  pub field_whole : (o : Option X) (v : X) → agrees R o v ≡ true → option_eq R o (if is_some o then Some v else None) ≡ true
  field_whole None v h = refl
  field_whole (Some x) v h = h

  pub field_sound_if : (o : Option X) (b : Bool) (v : Option X) → option_eq R o (if b then v else None) ≡ true → agrees_if R o v ≡ true
  field_sound_if None b v h = refl
  field_sound_if (Some x) true None h = absurd cc
  field_sound_if (Some x) true (Some y) h = h
  field_sound_if (Some x) false v h = absurd cc

  pub field_whole_if : (o v : Option X) → agrees_if R o v ≡ true → option_eq R o (if is_some o then v else None) ≡ true
  field_whole_if None v h = refl
  field_whole_if (Some x) None h = absurd cc
  field_whole_if (Some x) (Some y) h = h
