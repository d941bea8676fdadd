-- Places that are settled after all that their arrows lead to.
use Rattle.std.proofs.Common.{◌≡◌, ◌≢◌, ℕ, ◌+◌, ◌<◌, ◌⊎◌, inl, inr, Bool, true, false, cond, eqb, eq-eqb, List, [], length, get_or, set, sym, ap, subst, ◌∙◌, arith}
use Rattle.reach.specs.Reach.{is_marked, AllMarked}
use Rattle.reach.specs.Cycle.{target, Founded}
use Rattle.reach.proofs.lemmas.Marks.{marked-set, marked-before}

same_or_not : (i j : ℕ) → (i ≡ j) ⊎ (i ≢ j)
same_or_not i j = grind arith

-- the ranks with a new highest one
abbrev raised : (ℕ → ℕ) → ℕ → ℕ → ℕ → ℕ
raised rank top i j = cond (eqb j i) (top + 1) (rank j)

raised_same : (rank : ℕ → ℕ) (top i j : ℕ) → i ≡ j → raised rank top i j ≡ top + 1
raised_same rank top i j e = ap (λ b. cond b (top + 1) (rank j)) (eq-eqb j i (sym e))

not_eqb : (i j : ℕ) → (j ≡ i → ⊥) → eqb i j ≡ false
not_eqb i j ne = grind arith

raised_other : (rank : ℕ → ℕ) (top i j : ℕ) → (i ≡ j → ⊥) → raised rank top i j ≡ rank j
raised_other rank top i j ne = ap (λ b. cond b (top + 1) (rank j)) (not_eqb j i ne)

module _ (arrows : List (List ℕ)) (old : List Bool) (i : ℕ) (inside : i < length old) (off : is_marked old i ≡ false) (all : AllMarked (get_or arrows i []) (is_marked old)) where
  apart_from : (j : ℕ) → is_marked old j ≡ true → i ≡ j → ⊥
  apart_from j on e = let wrong : true ≡ false = sym on ∙ ap (is_marked old) (sym e) ∙ off in absurd cc

  -- a place whose arrows lead to settled ones is settled
  pub grown : Founded arrows old → Founded arrows (set old i true)
  grown f = record {
    rank = raised f.rank f.top i;
    top = f.top + 1;
    most = λ j. elim (same_or_not i j) [
      | inl e ↦ omega (arith, raised_same f.rank f.top i j e)
      | inr ne ↦ omega (arith, raised_other f.rank f.top i j ne, f.most j)
    ];
    falls = λ j k lt on below. elim (same_or_not i j) [
      | inl e ↦
          let to : is_marked old (target arrows j k) ≡ true = subst (λ n. k < length (get_or arrows n []) → is_marked old (target arrows n k) ≡ true) e (all k) below in (
            marked-set old i (target arrows j k) inside to,
            omega (arith, raised_same f.rank f.top i j e, raised_other f.rank f.top i (target arrows j k) (apart_from (target arrows j k) to), f.most (target arrows j k)),
          )
      | inr ne ↦
          let before : is_marked old j ≡ true = elim (marked-before old i j inside on) [ inl e ↦ absurd (ne e) | inr h ↦ h ] in
          let step = f.falls j k lt before below in (
            marked-set old i (target arrows j k) inside step.0,
            omega (arith, step.1, raised_other f.rank f.top i j ne, raised_other f.rank f.top i (target arrows j k) (apart_from (target arrows j k) step.0)),
          )
    ];
  }

-- nothing is settled at first
pub founded_first : (arrows : List (List ℕ)) (settled : List Bool) → ((i : ℕ) → is_marked settled i ≡ false) → Founded arrows settled
founded_first arrows settled off = record {
  rank = λ _. 0;
  top = 0;
  most = λ i. omega arith;
  falls = λ i k lt on below. let wrong : true ≡ false = sym on ∙ off i in absurd cc;
}
