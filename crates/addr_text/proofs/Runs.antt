-- Runs of zero fields: where they lie, and that nothing else stands in them.
use Rattle.std.proofs.Common.{◌≡◌, ℕ, ◌+◌, ◌≤◌, ◌==◌, List, [], ◌∷◌, ◌++◌, length, take, drop, replicate, refl, ap, sym, ◌∙◌, subst, arith, suc, add-one, eqb-true, inl, inr}
use Rattle.std.proofs.lemmas.Bool.{cond-true, cond-false, cases_Bool}
use Rattle.std.proofs.lemmas.Bool.Decides.{nat_tests}
use Rattle.addr_text.specs.V6Text.{zeros, longest, first_run}

pub zeros_within : (fs : List ℕ) → zeros fs ≤ length fs
zeros_within [] = omega arith
zeros_within (f ∷ fs) = grind (arith, zeros_within fs)

-- the chosen run lies within the fields
pub run_within : (fs : List ℕ) (n : ℕ) → n ≡ longest fs → first_run n fs + n ≤ length fs
run_within [] n e = omega arith
run_within (f ∷ fs) n e = grind (arith, zeros_within (f ∷ fs), run_within fs n)

-- the zeros at the front and what follows them are the fields
zeros_front : (fs : List ℕ) → replicate (zeros fs) 0 ++ drop (zeros fs) fs ≡ fs
zeros_front [] = refl
zeros_front (f ∷ fs) =
    elim (cases_Bool (f == 0)) [
      | inl e ↦
          let z : zeros (f ∷ fs) ≡ suc (zeros fs) = cond-true (f == 0) (zeros fs + 1) 0 e ∙ add-one (zeros fs) in
          rw z (rw (eqb-true f 0 e) (ap (λ u. 0 ∷ u) (zeros_front fs)))
      | inr e ↦
          let z : zeros (f ∷ fs) ≡ 0 = cond-false (f == 0) (zeros fs + 1) 0 e in
          rw z refl
    ]

-- what stands before the chosen run, as many zeros and what follows it are the fields
pub run_whole : (fs : List ℕ) (n : ℕ) → n ≡ longest fs → take (first_run n fs) fs ++ replicate n 0 ++ drop (first_run n fs + n) fs ≡ fs
run_whole [] n e = rw e refl
run_whole (f ∷ fs) n e =
    elim (cases_Bool (zeros (f ∷ fs) == n)) [
      | inl k ↦
          let z : first_run n (f ∷ fs) ≡ 0 = cond-true (zeros (f ∷ fs) == n) 0 (first_run n fs + 1) k in
          let s : zeros (f ∷ fs) ≡ n = eqb-true (zeros (f ∷ fs)) n k in
          let zn : 0 + n ≡ n = omega arith in
          subst (λ m. take m (f ∷ fs) ++ replicate n 0 ++ drop (m + n) (f ∷ fs) ≡ f ∷ fs) (sym z)
          (rw zn (subst (λ m. replicate m 0 ++ drop m (f ∷ fs) ≡ f ∷ fs) s (zeros_front (f ∷ fs))))
      | inr k ↦
          let z : first_run n (f ∷ fs) ≡ suc (first_run n fs) = cond-false (zeros (f ∷ fs) == n) 0 (first_run n fs + 1) k ∙ add-one (first_run n fs) in
          let same : n ≡ longest fs = grind (arith, nat_tests) in
          let back : suc (first_run n fs) + n ≡ suc (first_run n fs + n) = omega arith in
          rw (z, back) (ap (λ u. f ∷ u) (run_whole fs n same))
    ]
