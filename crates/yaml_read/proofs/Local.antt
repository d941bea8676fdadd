-- Readings that look no further than the row at which they stop.
use Rattle.std.proofs.Common.{◌≡◌, List, [], ◌∷◌, ◌++◌, Ok, Err, refl, sym, ap, subst, ◌∙◌, append_assoc}
use Rattle.std.proofs.lemmas.List.{append-nil}
use Rattle.yaml_read.specs.declared.fault.YamlFault.{YamlFault}
use Rattle.yaml_read.specs.Keys.{◌>>=◌}
use Rattle.yaml_read.specs.Rows.{Row}
use Rattle.yaml_read.specs.Reading.{Block}
use Rattle.yaml_read.specs.Standing.{line_of}

module _ {A : Type 0} (g : List Row → Block A) where
  -- it stops at r, whatever comes behind it
  abbrev pub Stops : List Row → A → Row → List Row → Type 0
  Stops rows y r rest = (body : List Row) × (rows ≡ body ++ r ∷ rest) × ((more : List Row) → g (body ++ r ∷ more) ≡ Ok (y, r ∷ more)) × (g body ≡ Ok (y, []))

  -- it fails at r, whatever comes behind it, and not before
  abbrev pub Faults : List Row → YamlFault → Type 0
  Faults rows f = (front : List Row) × (r : Row) × (rest : List Row) × (rows ≡ front ++ r ∷ rest) × (line_of f ≡ r.number) × ((more : List Row) → g (front ++ r ∷ more) ≡ Err f) × ((y : A) × (g front ≡ Ok (y, [])))

  abbrev pub Ends : List Row → A → List Row → Type 0
  Ends rows y [] = Unit {0}
  Ends rows y (r ∷ rest) = Stops rows y r rest

  abbrev pub Is : List Row → Block A → Type 0
  Is rows (Ok y) = Ends rows y.0 y.1
  Is rows (Err f) = Faults rows f

  abbrev pub Local : List Row → Type 0
  Local rows = Is rows (g rows)

-- what gives everything back
pub Local-pure : {A : Type 0} (x : A) (rows : List Row) → Ends (λ (r : List Row). Ok (x, r)) rows x rows
Local-pure x [] = tt
Local-pure x (r ∷ rest) = ([], refl, λ more. refl, refl)

-- another reader that does the same on each list with r in front
module _ {A : Type 0} (g h : List Row → Block A) (r : Row) (same : (xs : List Row) → h (r ∷ xs) ≡ g xs) where
  Ends-cons : (xs : List Row) (y : A) (rest : List Row) → Ends g xs y rest → Ends h (r ∷ xs) y rest
  Ends-cons xs y [] e = tt
  Ends-cons xs y (q ∷ rest) e = (r ∷ e.0, ap (λ (z : List Row). r ∷ z) e.1, λ more. same (e.0 ++ q ∷ more) ∙ e.2 more, same e.0 ∙ e.3)

  Is-cons : (xs : List Row) (res : Block A) → Is g xs res → Is h (r ∷ xs) res
  Is-cons xs (Ok y) e = Ends-cons xs y.0 y.1 e
  Is-cons xs (Err f) e = (r ∷ e.0, e.1, e.2, ap (λ (z : List Row). r ∷ z) e.3, e.4, λ more. same (e.0 ++ e.1 ∷ more) ∙ e.5 more, (e.6.0, same e.0 ∙ e.6.1))

  pub Local-cons : (xs : List Row) → Local g xs → Local h (r ∷ xs)
  Local-cons xs e = subst (Is h (r ∷ xs)) (sym (same xs)) (Is-cons xs (g xs) e)

-- another reader that does the same
module _ {A : Type 0} (g h : List Row → Block A) (same : (xs : List Row) → h xs ≡ g xs) where
  Ends-same : (xs : List Row) (y : A) (rest : List Row) → Ends g xs y rest → Ends h xs y rest
  Ends-same xs y [] e = tt
  Ends-same xs y (q ∷ rest) e = (e.0, e.1, λ more. same (e.0 ++ q ∷ more) ∙ e.2 more, same e.0 ∙ e.3)

  Is-same : (xs : List Row) (res : Block A) → Is g xs res → Is h xs res
  Is-same xs (Ok y) e = Ends-same xs y.0 y.1 e
  Is-same xs (Err f) e = (e.0, e.1, e.2, e.3, e.4, λ more. same (e.0 ++ e.1 ∷ more) ∙ e.5 more, (e.6.0, same e.0 ∙ e.6.1))

  pub Local-same : (xs : List Row) → Local g xs → Local h xs
  Local-same xs e = subst (Is h xs) (sym (same xs)) (Is-same xs (g xs) e)

-- a result that is changed
abbrev pub mapped : {A B : Type 0} → (A → B) → (List Row → Block A) → List Row → Block B
mapped f g rows = g rows >>= (λ y. Ok (f y.0, y.1))

module _ {A B : Type 0} (f : A → B) (g : List Row → Block A) where
  Ends-map : (rows : List Row) (y : A) (rest : List Row) → Ends g rows y rest → Ends (mapped f g) rows (f y) rest
  Ends-map rows y [] e = tt
  Ends-map rows y (r ∷ rest) e = (e.0, e.1, λ more. ap (λ (b : Block A). b >>= (λ z. Ok (f z.0, z.1))) (e.2 more), ap (λ (b : Block A). b >>= (λ z. Ok (f z.0, z.1))) e.3)

  Is-map : (rows : List Row) (res : Block A) → Is g rows res → Is (mapped f g) rows (res >>= (λ z. Ok (f z.0, z.1)))
  Is-map rows (Ok y) e = Ends-map rows y.0 y.1 e
  Is-map rows (Err d) e = (e.0, e.1, e.2, e.3, e.4, λ more. ap (λ (b : Block A). b >>= (λ z. Ok (f z.0, z.1))) (e.5 more), (f e.6.0, ap (λ (b : Block A). b >>= (λ z. Ok (f z.0, z.1))) e.6.1))

  pub Local-map : (rows : List Row) → Local g rows → Local (mapped f g) rows
  Local-map rows e = Is-map rows (g rows) e

-- one reader, and then another on what is left
abbrev pub seq : {A B : Type 0} → (List Row → Block A) → (A → List Row → Block B) → List Row → Block B
seq g k rows = g rows >>= (λ y. k y.0 y.1)

-- a front of r ∷ rest begins with r
pub headed : (r : Row) (rest body : List Row) (q : Row) (others : List Row) → r ∷ rest ≡ body ++ q ∷ others → (more : List Row) → (tail : List Row) × (body ++ q ∷ more ≡ r ∷ tail)
headed r rest [] q others e more = (more, cc)
headed r rest (b ∷ body) q others e more = (body ++ q ∷ more, cc)

module _ {A B : Type 0} (g : List Row → Block A) (k : A → List Row → Block B) (empty : (y : A) → (z : B) × (k y [] ≡ Ok (z, []))) where
  -- the first reader stops at r, and the second goes on
  at_more : (y : A) (r : Row) (body list : List Row) (res : Block B) → ((more : List Row) → g (body ++ r ∷ more) ≡ Ok (y, r ∷ more)) → (tail : List Row) × (list ≡ r ∷ tail) → k y list ≡ res → seq g k (body ++ list) ≡ res
  at_more y r body list res goes is e = rw is.1 (ap (λ (b : Block A). b >>= (λ z. k z.0 z.1)) (goes is.0) ∙ ap (k y) (sym is.1) ∙ e)

  at_front : (y : A) (r : Row) (rest body front : List Row) (q : Row) (others : List Row) (res : Block B) → ((more : List Row) → g (body ++ r ∷ more) ≡ Ok (y, r ∷ more)) → g body ≡ Ok (y, [])
      → r ∷ rest ≡ front ++ q ∷ others → k y front ≡ res → seq g k (body ++ front) ≡ res
  at_front y r rest body [] q others res goes stops e is = rw append-nil (ap (λ (b : Block A). b >>= (λ z. k z.0 z.1)) stops ∙ is)
  at_front y r rest body (b ∷ front) q others res goes stops e is = at_more y r body (b ∷ front) res goes (front, cc) is

  second : (rows : List Row) (y : A) (r : Row) (rest : List Row) → Stops g rows y r rest → (res : Block B) → Is (k y) (r ∷ rest) res → Is (seq g k) rows res
  second rows y r rest first (Ok (z, [])) e = tt
  second rows y r rest first (Ok (z, q ∷ others)) e = (
    first.0 ++ e.0,
    first.1 ∙ ap (λ (x : List Row). first.0 ++ x) e.1 ∙ sym (append_assoc first.0 e.0 (q ∷ others)),
    λ more. ap (seq g k) (append_assoc first.0 e.0 (q ∷ more)) ∙ at_more y r first.0 (e.0 ++ q ∷ more) (Ok (z, q ∷ more)) first.2 (headed r rest e.0 q others e.1 more) (e.2 more),
    at_front y r rest first.0 e.0 q others (Ok (z, [])) first.2 first.3 e.1 e.3,
  )
  second rows y r rest first (Err f) e = (
    first.0 ++ e.0,
    e.1,
    e.2,
    first.1 ∙ ap (λ (x : List Row). first.0 ++ x) e.3 ∙ sym (append_assoc first.0 e.0 (e.1 ∷ e.2)),
    e.4,
    λ more. ap (seq g k) (append_assoc first.0 e.0 (e.1 ∷ more)) ∙ at_more y r first.0 (e.0 ++ e.1 ∷ more) (Err f) first.2 (headed r rest e.0 e.1 e.2 e.3 more) (e.5 more),
    (e.6.0, at_front y r rest first.0 e.0 e.1 e.2 (Ok (e.6.0, [])) first.2 first.3 e.3 e.6.1),
  )

  Ends-seq : (rows : List Row) (y : A) (rest : List Row) → Ends g rows y rest → Local (k y) rest → Is (seq g k) rows (k y rest)
  Ends-seq rows y [] e next = subst (Is (seq g k) rows) (sym (empty y).1) tt
  Ends-seq rows y (r ∷ rest) e next = second rows y r rest e (k y (r ∷ rest)) next

  Is-seq : (rows : List Row) (res : Block A) → Is g rows res → ((y : A) (rest : List Row) → res ≡ Ok (y, rest) → Local (k y) rest) → Is (seq g k) rows (res >>= (λ y. k y.0 y.1))
  Is-seq rows (Ok y) e next = Ends-seq rows y.0 y.1 e (next y.0 y.1 refl)
  Is-seq rows (Err f) e next =
      (e.0, e.1, e.2, e.3, e.4, λ more. ap (λ (b : Block A). b >>= (λ z. k z.0 z.1)) (e.5 more), ((empty e.6.0).0, ap (λ (b : Block A). b >>= (λ z. k z.0 z.1)) e.6.1 ∙ (empty e.6.0).1))

  pub Local-seq : (rows : List Row) → Local g rows → ((y : A) (rest : List Row) → g rows ≡ Ok (y, rest) → Local (k y) rest) → Local (seq g k) rows
  Local-seq rows e next = Is-seq rows (g rows) e next
