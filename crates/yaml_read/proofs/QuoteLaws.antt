-- Reading quoted scalars, step by step.
use Rattle.std.proofs.Common.{◌≡◌, ◌∙◌, ◌++◌, ◌∷◌, ◌-◌, ◌<◌, ◌+◌, ℕ, suc, length, [], List, Bool, true, false, not, eqb, cond, Option, Some, None, refl, sym, ap, append_assoc, arith}
use Rattle.std.specs.Prelude.{◌&&◌, option_map, option_and_then}
use Rattle.std.proofs.lemmas.Bool.{false≢true, ne_eqb}
use Rattle.std.proofs.lemmas.List.{append-nil}
use Rattle.yaml_plain.specs.Bytes.{is_empty, apostrophe}
use Rattle.yaml_plain.specs.Plain.{with_front}
use Rattle.yaml_plain.proofs.lemmas.Parts.{behind}
use Rattle.yaml_read.specs.Quoted.{single_quoted, piece, behind_piece, unescaped_within}
use Rattle.yaml_read.proofs.Fronts.{turn, no_turn}

-- both words for a text without a byte
pub empty_is : (bs : List ℕ) → eqb (length bs) 0 ≡ is_empty bs
empty_is [] = refl
empty_is (b ∷ bs) = ne_eqb (suc (length bs)) 0 (λ e. absurd (omega arith))

abbrev pub end_of : Option (List ℕ × List ℕ) → Option (List ℕ)
end_of r = option_map (λ p. p.1) r

front_end : (b : ℕ) (r : Option (List ℕ × List ℕ)) → end_of (option_map (with_front b) r) ≡ end_of r
front_end b None = refl
front_end b (Some p) = refl

outside_step : (t : Bool) (b : ℕ) (bs : List ℕ) → end_of (cond t (single_quoted true bs) (option_map (with_front b) (single_quoted false bs))) ≡ end_of (single_quoted t bs)
outside_step true b bs = refl
outside_step false b bs = front_end b (single_quoted false bs)

pending_step : (t : Bool) (b : ℕ) (bs : List ℕ) → not t ≡ false → end_of (cond t (option_map (with_front b) (single_quoted false bs)) (Some ([], b ∷ bs))) ≡ end_of (single_quoted false bs)
pending_step true b bs is = front_end b (single_quoted false bs)
pending_step false b bs is = absurd (false≢true (sym is))

-- the scan for the closing apostrophe goes on
pub single_step : (pending : Bool) (b : ℕ) (bs : List ℕ) → false ≡ (pending && not (eqb b apostrophe)) → end_of (single_quoted pending (b ∷ bs)) ≡ end_of (single_quoted (not pending && eqb b apostrophe) bs)
single_step false b bs is = outside_step (eqb b apostrophe) b bs
single_step true b bs is = pending_step (eqb b apostrophe) b bs (sym is)

-- ---- a scalar in apostrophes, behind what was read of it

front_more : (front : List ℕ) (b : ℕ) (r : Option (List ℕ × List ℕ)) → option_map (behind (front ++ b ∷ [])) r ≡ option_map (behind front) (option_map (with_front b) r)
front_more front b None = refl
front_more front b (Some p) = ap (λ (xs : List ℕ). Some (xs, p.1)) (append_assoc front (b ∷ []) p.0)

outside_more : (t : Bool) (front : List ℕ) (b : ℕ) (bs : List ℕ)
    → option_map (behind (cond t front (front ++ b ∷ []))) (single_quoted t bs) ≡ option_map (behind front) (cond t (single_quoted true bs) (option_map (with_front b) (single_quoted false bs)))
outside_more true front b bs = refl
outside_more false front b bs = front_more front b (single_quoted false bs)

pending_more : (t : Bool) (front : List ℕ) (b : ℕ) (bs : List ℕ) → not t ≡ false
    → option_map (behind (front ++ b ∷ [])) (single_quoted false bs) ≡ option_map (behind front) (cond t (option_map (with_front b) (single_quoted false bs)) (Some ([], b ∷ bs)))
pending_more true front b bs is = front_more front b (single_quoted false bs)
pending_more false front b bs is = absurd (false≢true (sym is))

-- the scalar goes on with a byte, or with nothing for the first of two apostrophes
pub single_more : (pending : Bool) (front : List ℕ) (b : ℕ) (bs : List ℕ) → false ≡ (pending && not (eqb b apostrophe))
    → option_map (behind (cond (not pending && eqb b apostrophe) front (front ++ b ∷ []))) (single_quoted (not pending && eqb b apostrophe) bs) ≡ option_map (behind front) (single_quoted pending (b ∷ bs))
single_more false front b bs is = outside_more (eqb b apostrophe) front b bs
single_more true front b bs is = pending_more (eqb b apostrophe) front b bs (sym is)

closed : (t : Bool) (front : List ℕ) (b : ℕ) (bs : List ℕ) → not t ≡ true → option_map (behind front) (cond t (option_map (with_front b) (single_quoted false bs)) (Some ([], b ∷ bs))) ≡ Some (front, b ∷ bs)
closed true front b bs is = absurd (false≢true is)
closed false front b bs is = ap (λ (xs : List ℕ). Some (xs, b ∷ bs)) (append-nil front)

-- it is closed before a byte that follows an apostrophe and is none
pub single_closed : (pending : Bool) (front : List ℕ) (b : ℕ) (bs : List ℕ) → true ≡ (pending && not (eqb b apostrophe)) → option_map (behind front) (single_quoted pending (b ∷ bs)) ≡ Some (front, b ∷ bs)
single_closed false front b bs is = absurd (false≢true (sym is))
single_closed true front b bs is = closed (eqb b apostrophe) front b bs (sym is)

-- or at the end of the text, behind an apostrophe
pub single_last : (pending : Bool) (front : List ℕ) → pending ≡ true → Some (front, []) ≡ option_map (behind front) (single_quoted pending [])
single_last true front is = ap (λ (xs : List ℕ). Some (xs, [])) (sym (append-nil front))
single_last false front is = absurd (false≢true is)

pub single_open : (pending : Bool) (front : List ℕ) → pending ≡ false → None ≡ option_map (behind front) (single_quoted pending [])
single_open true front is = absurd (false≢true (sym is))
single_open false front is = refl

-- ---- what was read before, in front of what is still read
abbrev pub behind_text : List ℕ → Option (List ℕ) → Option (List ℕ)
behind_text front rest = option_map (λ more. front ++ more) rest

behind_both : (front first : List ℕ) (rest : Option (List ℕ)) → behind_text front (option_map (λ more. first ++ more) rest) ≡ behind_text (front ++ first) rest
behind_both front first None = refl
behind_both front first (Some more) = ap (λ (x : List ℕ). Some x) (sym (append_assoc front first more))

module _ (n i : ℕ) (lt : i < n) (front bs : List ℕ) (total : Option (List ℕ)) (so_far : behind_text front (unescaped_within (n - i) bs) ≡ total) where
  abbrev go : List ℕ → Option (List ℕ)
  go = unescaped_within (n - (i + 1))

  one : unescaped_within (n - i) bs ≡ cond (is_empty bs) (Some []) (option_and_then (behind_piece go) (piece bs))
  unfolding unescaped_within
  one = ap (λ (k : ℕ). unescaped_within k bs) (turn n i lt)

  step : behind_text front (cond (is_empty bs) (Some []) (option_and_then (behind_piece go) (piece bs))) ≡ total
  step = ap (behind_text front) (sym one) ∙ so_far

  pub text_ends : is_empty bs ≡ true → Some front ≡ total
  text_ends is = ap (λ (x : List ℕ). Some x) (sym (append-nil front)) ∙ (sym (rw is refl) ∙ step)

  pub no_piece : is_empty bs ≡ false → piece bs ≡ None → None ≡ total
  no_piece some is = sym (rw (some, is) refl) ∙ step

  pub text_goes : is_empty bs ≡ false → (p : List ℕ × List ℕ) → piece bs ≡ Some p → behind_text (front ++ p.0) (go p.1) ≡ total
  text_goes some p is = sym (behind_both front p.0 (go p.1)) ∙ (sym (rw (some, is) refl) ∙ step)

module _ (n : ℕ) (front bs : List ℕ) (total : Option (List ℕ)) (so_far : behind_text front (unescaped_within (n - n) bs) ≡ total) where
  last : behind_text front (cond (is_empty bs) (Some []) None) ≡ total
  unfolding unescaped_within
  last = sym (ap (λ (k : ℕ). behind_text front (unescaped_within k bs)) (no_turn n)) ∙ so_far

  pub turns_end : is_empty bs ≡ true → Some front ≡ total
  turns_end is = ap (λ (x : List ℕ). Some x) (sym (append-nil front)) ∙ (sym (rw is refl) ∙ last)

  pub turns_over : is_empty bs ≡ false → None ≡ total
  turns_over some = sym (rw some refl) ∙ last
