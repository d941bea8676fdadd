-- The run that is shortened is the longest and the first.
use Rattle.std.proofs.Common.{◌≡◌, ℕ, ◌+◌, ◌<◌, ◌≤◌, ◌==◌, nat_le, List, [], ◌∷◌, length, slice_index, refl, sym, ◌∙◌, subst, arith, suc, zero, inl, inr, add-one, eqb-true}
use Rattle.std.proofs.lemmas.Bool.{cond-true, cond-false, leb-true, cases_Bool}
use Rattle.std.proofs.lemmas.Bool.Decides.{nat_tests}
use Rattle.addr_text.specs.V6Text.{fields_text, zeros, longest, first_run, shortened, compressed, IsZeroRun, IsCanonical}
use Rattle.addr_text.proofs.Runs.{zeros_within}

-- a run behind the first field
behind : (f : ℕ) (fs : List ℕ) (s n : ℕ) → IsZeroRun (f ∷ fs) (suc s) n → IsZeroRun fs s n
behind f fs s n r = record {
  within = omega (arith, r.within);
  zero = λ k h. let up : suc s + k ≡ suc (s + k) = omega arith in subst (λ i. slice_index (f ∷ fs) i ≡ 0) up (r.zero k h);
}

before : (f : ℕ) (fs : List ℕ) (s n : ℕ) → IsZeroRun fs s n → IsZeroRun (f ∷ fs) (suc s) n
before f fs s n r = record {
  within = omega (arith, r.within);
  zero = λ k h. let up : suc s + k ≡ suc (s + k) = omega arith in subst (λ i. slice_index (f ∷ fs) i ≡ 0) (sym up) (r.zero k h);
}

-- the zeros at the front are a run, and no run at the front has more
zeros_zero : (fs : List ℕ) (k : ℕ) → k < zeros fs → slice_index fs k ≡ 0
zeros_zero [] k h = absurd (omega arith)
zeros_zero (f ∷ fs) zero h = grind (arith, nat_tests)
zeros_zero (f ∷ fs) (suc k) h = zeros_zero fs k (grind (arith, nat_tests))

front_run : (fs : List ℕ) (n : ℕ) → n ≡ zeros fs → IsZeroRun fs 0 n
front_run fs n e = record {
  within = omega (arith, zeros_within fs);
  zero = λ k h. let z : 0 + k ≡ k = omega arith in subst (λ i. slice_index fs i ≡ 0) (sym z) (zeros_zero fs k (omega arith));
}

front_most : (fs : List ℕ) (n : ℕ) → n ≤ length fs → ((k : ℕ) → k < n → slice_index fs k ≡ 0) → n ≤ zeros fs
front_most fs zero h z = omega arith
front_most [] (suc n) h z = absurd (omega arith)
front_most (f ∷ fs) (suc n) h z =
    let first : f ≡ 0 = z 0 (omega arith) in
    let rest : n ≤ zeros fs = front_most fs n (omega arith) (λ k l. z (suc k) (omega arith)) in
    grind (arith, nat_tests)

at_front : (fs : List ℕ) (n : ℕ) → IsZeroRun fs 0 n → n ≤ zeros fs
at_front fs n r = front_most fs n (omega (arith, r.within)) (λ k h. let z : 0 + k ≡ k = omega arith in subst (λ i. slice_index fs i ≡ 0) z (r.zero k h))

longest_most : (fs : List ℕ) (s n : ℕ) → IsZeroRun fs s n → n ≤ longest fs
longest_most [] s n r = omega (arith, r.within)
longest_most (f ∷ fs) zero n r = let h : n ≤ zeros (f ∷ fs) = at_front (f ∷ fs) n r in omega arith
longest_most (f ∷ fs) (suc s) n r = let h : n ≤ longest fs = longest_most fs s n (behind f fs s n r) in omega arith

chosen_run : (fs : List ℕ) (n : ℕ) → n ≡ longest fs → IsZeroRun fs (first_run n fs) n
chosen_run [] n e = record { within = omega arith; zero = λ k h. absurd (omega arith) }
chosen_run (f ∷ fs) n e =
    elim (cases_Bool (zeros (f ∷ fs) == n)) [
      | inl k ↦
          let z : first_run n (f ∷ fs) ≡ 0 = cond-true (zeros (f ∷ fs) == n) 0 (first_run n fs + 1) k in
          subst (λ s. IsZeroRun (f ∷ fs) s n) (sym z) (front_run (f ∷ fs) n (sym (eqb-true (zeros (f ∷ fs)) n k)))
      | inr k ↦
          let z : first_run n (f ∷ fs) ≡ suc (first_run n fs) = cond-false (zeros (f ∷ fs) == n) 0 (first_run n fs + 1) k ∙ add-one (first_run n fs) in
          let same : n ≡ longest fs = grind (arith, nat_tests) in
          subst (λ s. IsZeroRun (f ∷ fs) s n) (sym z) (before f fs (first_run n fs) n (chosen_run fs n same))
    ]

chosen_first : (fs : List ℕ) (n s : ℕ) → n ≡ longest fs → IsZeroRun fs s n → first_run n fs ≤ s
chosen_first [] n s e r = omega arith
chosen_first (f ∷ fs) n zero e r = let h : n ≤ zeros (f ∷ fs) = at_front (f ∷ fs) n r in grind (arith, nat_tests)
chosen_first (f ∷ fs) n (suc s) e r =
    elim (cases_Bool (zeros (f ∷ fs) == n)) [
      | inl k ↦
          let z : first_run n (f ∷ fs) ≡ 0 = cond-true (zeros (f ∷ fs) == n) 0 (first_run n fs + 1) k in
          omega arith
      | inr k ↦
          let z : first_run n (f ∷ fs) ≡ first_run n fs + 1 = cond-false (zeros (f ∷ fs) == n) 0 (first_run n fs + 1) k in
          let same : n ≡ longest fs = grind (arith, nat_tests) in
          omega (arith, chosen_first fs n s same (behind f fs s n r))
    ]

pub compressed_canonical : (fs : List ℕ) → IsCanonical fs (compressed fs)
compressed_canonical fs =
    elim (cases_Bool (nat_le (longest fs) 1)) [
      | inl e ↦
          let few : longest fs ≤ 1 = leb-true (longest fs) 1 e in
          inr (
            (λ s r. let h : 2 ≤ longest fs = longest_most fs s 2 r in let no : ⊥ = omega arith in no),
            cond-true (nat_le (longest fs) 1) (fields_text fs) (shortened fs (first_run (longest fs) fs) (longest fs)) e,
          )
      | inr e ↦ inl (record {
        start = first_run (longest fs) fs;
        count = longest fs;
        run = chosen_run fs (longest fs) refl;
        at_least_two = grind (arith, nat_tests);
        longest_run = λ s n r. longest_most fs s n r;
        first_of_equals = λ s r. chosen_first fs (longest fs) s refl r;
        written = cond-false (nat_le (longest fs) 1) (fields_text fs) (shortened fs (first_run (longest fs) fs) (longest fs)) e;
      })
    ]
