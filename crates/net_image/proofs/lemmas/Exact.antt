-- A form that is made of exact ones is exact.
use Rattle.std.proofs.Common.{◌≡◌, ℕ, zero, suc, ◌≤◌, Bool, true, false, cond, ltb, eqb, List, [], ◌∷◌, ◌++◌, length, take, drop, Option, Some, None, refl, sym, ap, subst, ◌∙◌, append_assoc, arith}
use Rattle.std.specs.Option.{option_map, option_map_or}
use Rattle.std.specs.List.{flat_map, list_all}
use Rattle.std.proofs.lemmas.Bool.{and_parts, and_from, eqb-true, eq-eqb, ltb-false, lt-ltb, le-ltb}
use Rattle.std.proofs.lemmas.List.{take_at, drop_at, take-append-drop, length-append, length-take-le}
use Rattle.std.proofs.lemmas.Option.{cond_some}
use Rattle.net_image.specs.Form.{Form, is_byte, first_byte, byte, run, nothing, never, such_that, made, variant, linked, ◌⨾◌, tagged, times, read_times, counted, some, none, held_none}
use Rattle.net_image.specs.Laws.{AreBytes, IsWritten, IsExact}
use Rattle.net_image.proofs.lemmas.Reading.{bind_some, map_some, passed, rest_are_bytes, front_are_bytes}

-- ---- what isn't made of others

first_only : (bytes rest : List ℕ) (x : ℕ) → AreBytes bytes → first_byte bytes ≡ Some (x, rest) → IsWritten byte bytes x rest
first_only [] rest x are got = absurd cc
first_only (b ∷ bytes) rest x are got =
    let p : ◌≡◌ {A = ℕ × List ℕ} (b, bytes) (x, rest) = cc in
    subst (λ (q : ℕ × List ℕ). IsWritten byte (b ∷ bytes) q.0 q.1) p (record { bytes_are = refl; fits = lt-ltb b 256 (are 0) })

-- one byte is exact
pub byte_exact : IsExact byte
byte_exact = record { again = λ x rest fits. refl; only = first_only }

run_only : (n : ℕ) (bytes rest x : List ℕ) → AreBytes bytes → (run n).read bytes ≡ Some (x, rest) → IsWritten (run n) bytes x rest
run_only n bytes rest x are got =
    let p = passed (ltb (length bytes) n) (take n bytes, drop n bytes) (x, rest) got in
    let long : n ≤ length bytes = ltb-false _ _ p.0 in
    let parts : bytes ≡ take n bytes ++ drop n bytes = sym (take-append-drop n bytes) in
    let size : eqb (length (take n bytes)) n ≡ true = eq-eqb _ _ (length-take-le n bytes long) in
    let bytes_all : list_all is_byte (take n bytes) ≡ true = front_are_bytes (take n bytes) (drop n bytes) (subst AreBytes parts are) in
    subst (λ (q : List ℕ × List ℕ). IsWritten (run n) bytes q.0 q.1) p.1 (record { bytes_are = parts; fits = and_from _ _ size bytes_all })

run_again : (n : ℕ) (x rest : List ℕ) → (run n).fits x ≡ true → (run n).read (x ++ rest) ≡ Some (x, rest)
run_again n x rest fits =
    let size : length x ≡ n = eqb-true _ _ (and_parts _ _ fits).0 in
    let long : ltb (length (x ++ rest)) n ≡ false = le-ltb _ _ (omega (arith, length-append x rest)) in
    rw (long, take_at x rest n size, drop_at x rest n size) refl

-- so many bytes are exact
pub run_exact : (n : ℕ) → IsExact (run n)
run_exact n = record { again = run_again n; only = run_only n }

-- no bytes are exact
pub nothing_exact : IsExact nothing
nothing_exact = record { again = λ x rest fits. refl; only = λ bytes rest x are got. let p : ◌≡◌ {A = Unit {0} × List ℕ} (tt, bytes) (x, rest) = cc in record { bytes_are = ap (λ (q : Unit {0} × List ℕ). q.1) p; fits = refl } }

-- the form without values is exact
pub never_exact : {X : Type 0} → IsExact (never {X = X})
never_exact = record { again = λ x rest fits. absurd cc; only = λ bytes rest x are got. absurd cc }

-- ---- what is made of others

module _ {X : Type 0} (test : X → Bool) (form : Form X) (exact : IsExact form) where
  such_that_again : (x : X) (rest : List ℕ) → (such_that test form).fits x ≡ true → (such_that test form).read (form.write x ++ rest) ≡ Some (x, rest)
  such_that_again x rest fits =
      let parts = and_parts (test x) (form.fits x) fits in
      rw (exact.again x rest parts.1, parts.0) refl

  such_that_only : (bytes rest : List ℕ) (x : X) → AreBytes bytes → (such_that test form).read bytes ≡ Some (x, rest) → IsWritten (such_that test form) bytes x rest
  such_that_only bytes rest x are got =
      let b = bind_some (form.read bytes) (λ (p : X × List ℕ). cond (test p.0) (Some p) None) (x, rest) got in
      let c = cond_some (test b.0.0) b.0 (x, rest) b.2 in
      let w = exact.only bytes b.0.1 b.0.0 are b.1 in
      subst (λ (p : X × List ℕ). IsWritten (such_that test form) bytes p.0 p.1) c.1 (record { bytes_are = w.bytes_are; fits = and_from _ _ c.0 w.fits })

  pub such_that_exact : IsExact (such_that test form)
  such_that_exact = record { again = such_that_again; only = such_that_only }

module _ {X Y : Type 0} (to : Y → X) (from : X → Y) (form : Form Y) (exact : IsExact form)
    (there : (x : X) → form.fits (from x) ≡ true → to (from x) ≡ x) (back : (y : Y) → form.fits y ≡ true → from (to y) ≡ y) where
  made_again : (x : X) (rest : List ℕ) → form.fits (from x) ≡ true → (made to from form).read (form.write (from x) ++ rest) ≡ Some (x, rest)
  made_again x rest fits = rw (exact.again (from x) rest fits) (ap (λ (z : X). Some (z, rest)) (there x fits))

  made_only : (bytes rest : List ℕ) (x : X) → AreBytes bytes → (made to from form).read bytes ≡ Some (x, rest) → IsWritten (made to from form) bytes x rest
  made_only bytes rest x are got =
      let m = map_some (form.read bytes) (λ (y : Y × List ℕ). (to y.0, y.1)) (x, rest) got in
      let w = exact.only bytes m.0.1 m.0.0 are m.1 in
      let same : from (to m.0.0) ≡ m.0.0 = back m.0.0 w.fits in
      subst (λ (p : X × List ℕ). IsWritten (made to from form) bytes p.0 p.1) m.2 (record { bytes_are = w.bytes_are ∙ ap (λ (y : Y). form.write y ++ m.0.1) (sym same); fits = ap form.fits same ∙ w.fits })

  pub made_exact : IsExact (made to from form)
  made_exact = record { again = made_again; only = made_only }

module _ {X Y : Type 0} (to : Y → X) (held : X → Option Y) (form : Form Y) (exact : IsExact form)
    (there : (x : X) (y : Y) → held x ≡ Some y → to y ≡ x) (back : (y : Y) → form.fits y ≡ true → held (to y) ≡ Some y) where
  held_again : (x : X) (rest : List ℕ) (o : Option Y) → held x ≡ o → option_map_or form.fits o false ≡ true
      → option_map {U = X × List ℕ} (λ (y : Y × List ℕ). (to y.0, y.1)) (form.read (option_map_or form.write o [] ++ rest)) ≡ Some (x, rest)
  held_again x rest None is fits = absurd cc
  held_again x rest (Some y) is fits = rw (exact.again y rest fits) (ap (λ (z : X). Some (z, rest)) (there x y is))

  variant_only : (bytes rest : List ℕ) (x : X) → AreBytes bytes → (variant to held form).read bytes ≡ Some (x, rest) → IsWritten (variant to held form) bytes x rest
  variant_only bytes rest x are got =
      let m = map_some (form.read bytes) (λ (y : Y × List ℕ). (to y.0, y.1)) (x, rest) got in
      let w = exact.only bytes m.0.1 m.0.0 are m.1 in
      let same : held (to m.0.0) ≡ Some m.0.0 = back m.0.0 w.fits in
      subst (λ (p : X × List ℕ). IsWritten (variant to held form) bytes p.0 p.1) m.2
      (record { bytes_are = w.bytes_are ∙ ap (λ (o : Option Y). option_map_or form.write o [] ++ m.0.1) (sym same); fits = ap (λ (o : Option Y). option_map_or form.fits o false) same ∙ w.fits })

  pub variant_exact : IsExact (variant to held form)
  variant_exact = record { again = λ x rest fits. held_again x rest (held x) refl fits; only = variant_only }

join : (a x b y c : List ℕ) → a ≡ x ++ b → b ≡ y ++ c → a ≡ (x ++ y) ++ c
join a x b y c p q = p ∙ ap (λ (l : List ℕ). x ++ l) q ∙ sym (append_assoc x y c)

module _ {X Y : Type 0} (front : Form X) (behind : X → Form Y) (front_exact : IsExact front) (behind_exact : (x : X) → IsExact (behind x)) where
  linked_again : (p : X × Y) (rest : List ℕ) → (linked front behind).fits p ≡ true → (linked front behind).read ((linked front behind).write p ++ rest) ≡ Some (p, rest)
  linked_again p rest fits =
      let parts = and_parts (front.fits p.0) ((behind p.0).fits p.1) fits in
      let regrouped : (front.write p.0 ++ (behind p.0).write p.1) ++ rest ≡ front.write p.0 ++ ((behind p.0).write p.1 ++ rest) = append_assoc (front.write p.0) ((behind p.0).write p.1) rest in
      ap (linked front behind).read regrouped ∙ rw (front_exact.again p.0 ((behind p.0).write p.1 ++ rest) parts.0, (behind_exact p.0).again p.1 rest parts.1) refl

  linked_only : (bytes rest : List ℕ) (p : X × Y) → AreBytes bytes → (linked front behind).read bytes ≡ Some (p, rest) → IsWritten (linked front behind) bytes p rest
  linked_only bytes rest p are got =
      let a = bind_some (front.read bytes) (λ (x : X × List ℕ). option_map (λ (y : Y × List ℕ). ((x.0, y.0), y.1)) ((behind x.0).read x.1)) (p, rest) got in
      let b = map_some ((behind a.0.0).read a.0.1) (λ (y : Y × List ℕ). ((a.0.0, y.0), y.1)) (p, rest) a.2 in
      let first = front_exact.only bytes a.0.1 a.0.0 are a.1 in
      let second = (behind_exact a.0.0).only a.0.1 b.0.1 b.0.0 (rest_are_bytes (front.write a.0.0) a.0.1 (subst AreBytes first.bytes_are are)) b.1 in
      let both = join bytes (front.write a.0.0) a.0.1 ((behind a.0.0).write b.0.0) b.0.1 first.bytes_are second.bytes_are in
      subst (λ (q : (X × Y) × List ℕ). IsWritten (linked front behind) bytes q.0 q.1) b.2 (record { bytes_are = both; fits = and_from _ _ first.fits second.fits })

  pub linked_exact : IsExact (linked front behind)
  linked_exact = record { again = linked_again; only = linked_only }

-- one exact form behind another is exact
pub seq_exact : {X Y : Type 0} (f : Form X) (g : Form Y) → IsExact f → IsExact g → IsExact (f ⨾ g)
seq_exact f g f_exact g_exact = linked_exact f (λ x. g) f_exact (λ x. g_exact)

-- a tag and what it says how to read are exact
pub tagged_exact : {X Y : Type 0} (tag : X → Y) (front : Form Y) (body : Y → Form X) → IsExact front → ((y : Y) → IsExact (body y))
    → ((y : Y) (x : X) → (body y).fits x ≡ true → tag x ≡ y) → IsExact (tagged tag front body)
tagged_exact {X = X} {Y = Y} tag front body front_exact body_exact tells =
    made_exact (λ (p : Y × X). p.1) (λ x. (tag x, x)) (linked front body) (linked_exact front body front_exact body_exact) (λ x fits. refl)
    (λ p fits. ap (λ (y : Y). (y, p.1)) (tells p.0 p.1 (and_parts _ _ fits).1))

module _ {X : Type 0} (form : Form X) (exact : IsExact form) where
  times_again : (xs : List X) (rest : List ℕ) → list_all form.fits xs ≡ true → read_times form (length xs) (flat_map form.write xs ++ rest) ≡ Some (xs, rest)
  times_again [] rest fits = refl
  times_again (x ∷ xs) rest fits =
      let parts = and_parts (form.fits x) (list_all form.fits xs) fits in
      let regrouped : flat_map form.write (x ∷ xs) ++ rest ≡ form.write x ++ (flat_map form.write xs ++ rest) = append_assoc (form.write x) (flat_map form.write xs) rest in
      ap (read_times form (suc (length xs))) regrouped ∙ rw (exact.again x (flat_map form.write xs ++ rest) parts.0, times_again xs rest parts.1) refl

  times_only : (n : ℕ) (bytes rest : List ℕ) (xs : List X) → AreBytes bytes → read_times form n bytes ≡ Some (xs, rest) → IsWritten (times form n) bytes xs rest
  times_only zero bytes rest xs are got =
      let p : ◌≡◌ {A = List X × List ℕ} ([], bytes) (xs, rest) = cc in
      subst (λ (q : List X × List ℕ). IsWritten (times form 0) bytes q.0 q.1) p (record { bytes_are = refl; fits = refl })
  times_only (suc n) bytes rest xs are got =
      let a = bind_some (form.read bytes) (λ (x : X × List ℕ). option_map (λ (ys : List X × List ℕ). (x.0 ∷ ys.0, ys.1)) (read_times form n x.1)) (xs, rest) got in
      let b = map_some (read_times form n a.0.1) (λ (ys : List X × List ℕ). (a.0.0 ∷ ys.0, ys.1)) (xs, rest) a.2 in
      let first = exact.only bytes a.0.1 a.0.0 are a.1 in
      let second = times_only n a.0.1 b.0.1 b.0.0 (rest_are_bytes (form.write a.0.0) a.0.1 (subst AreBytes first.bytes_are are)) b.1 in
      let others = and_parts (eqb (length b.0.0) n) (list_all form.fits b.0.0) second.fits in
      let size : eqb (length (a.0.0 ∷ b.0.0)) (suc n) ≡ true = eq-eqb _ _ (ap suc (eqb-true _ _ others.0)) in
      let both = join bytes (form.write a.0.0) a.0.1 (flat_map form.write b.0.0) b.0.1 first.bytes_are second.bytes_are in
      subst (λ (q : List X × List ℕ). IsWritten (times form (suc n)) bytes q.0 q.1) b.2 (record { bytes_are = both; fits = and_from _ _ size (and_from _ _ first.fits others.1) })

  pub times_exact : (n : ℕ) → IsExact (times form n)
  times_exact n = record {
    again = λ xs rest fits. let parts = and_parts (eqb (length xs) n) (list_all form.fits xs) fits in
        subst (λ (k : ℕ). read_times form k (flat_map form.write xs ++ rest) ≡ Some (xs, rest)) (eqb-true _ _ parts.0) (times_again xs rest parts.1);
    only = times_only n;
  }

-- a count and so many are exact
pub counted_exact : {X : Type 0} (count : Form ℕ) (form : Form X) → IsExact count → IsExact form → IsExact (counted count form)
counted_exact count form count_exact exact = tagged_exact length count (times form) count_exact (times_exact form exact) (λ n xs fits. eqb-true _ _ (and_parts _ _ fits).0)

-- an exact form is exact for what is there
pub some_exact : {X : Type 0} (form : Form X) → IsExact form → IsExact (some form)
some_exact form exact = variant_exact Some (λ o. o) form exact (λ o y is. sym is) (λ y fits. refl)

none_held : {X : Type 0} (o : Option X) (u : Unit {0}) → held_none o ≡ Some u → None ≡ o
none_held None u is = refl
none_held (Some x) u is = absurd cc

-- no bytes for what is missing are exact
pub none_exact : {X : Type 0} → IsExact (none {X = X})
none_exact {X = X} = variant_exact (λ u. None) held_none nothing nothing_exact none_held (λ u fits. refl)
