-- One turn of the scan for what isn't closed.
use Rattle.std.proofs.Common.{◌≡◌, ◌≢◌, ◌∙◌, ◌+◌, ◌-◌, ◌<◌, ℕ, Bool, true, false, eqb, List, Some, None, refl, sym, ap, arith}
use Rattle.std.specs.Prelude.{◌&&◌, ◌||◌}
use Rattle.std.proofs.lemmas.Bool.{eq-eqb, ne_eqb}
use Rattle.yaml_plain.specs.Bytes.{space, hash, is_empty, begins, tail}
use Rattle.yaml_read.specs.Quoted.{begins_quoted, closed_quote}
use Rattle.yaml_read.proofs.Fronts.{turn}
use Rattle.yaml_read.specs.Outside.{opens_flow, closes_flow, parts_flow, open_step, flow_is_open}

-- the turns are over
pub all_turns : (n depth : ℕ) (fresh spaced : Bool) (bs : List ℕ) (total : Bool) → flow_is_open (n - n) depth fresh spaced bs ≡ total → true ≡ total
unfolding flow_is_open
all_turns n depth fresh spaced bs total so_far =
    let none : n - n ≡ 0 = omega arith in
    sym (ap (λ (k : ℕ). flow_is_open k depth fresh spaced bs) none) ∙ so_far

module _ (n i depth : ℕ) (fresh spaced : Bool) (bs : List ℕ) (total : Bool) (lt : i < n) (so_far : flow_is_open (n - i) depth fresh spaced bs ≡ total) where
  abbrev go : ℕ → Bool → Bool → List ℕ → Bool
  go = flow_is_open (n - (i + 1))

  one : flow_is_open (n - i) depth fresh spaced bs ≡ open_step go depth fresh spaced bs
  unfolding flow_is_open
  one = ap (λ (k : ℕ). flow_is_open k depth fresh spaced bs) (turn n i lt)

  step : open_step go depth fresh spaced bs ≡ total
  step = sym one ∙ so_far

  pub at_space : begins space bs ≡ true → go depth fresh true (tail bs) ≡ total
  at_space is = sym (rw is refl) ∙ step

  module _ (not_space : begins space bs ≡ false) where
    pub at_end : (is_empty bs || (spaced && begins hash bs)) ≡ true → true ≡ total
    at_end is = sym (rw (not_space, is) refl) ∙ step

    module _ (not_end : (is_empty bs || (spaced && begins hash bs)) ≡ false) where
      pub at_open_quote : (fresh && begins_quoted bs) ≡ true → closed_quote bs ≡ None → true ≡ total
      at_open_quote is none = sym (rw (not_space, not_end, is, none) refl) ∙ step

      pub at_quote : (fresh && begins_quoted bs) ≡ true → (rest : List ℕ) → closed_quote bs ≡ Some rest → go depth false false rest ≡ total
      at_quote is rest some = sym (rw (not_space, not_end, is, some) refl) ∙ step

      module _ (not_quote : (fresh && begins_quoted bs) ≡ false) where
        pub at_opening : opens_flow bs ≡ true → go (depth + 1) true false (tail bs) ≡ total
        at_opening is = sym (rw (not_space, not_end, not_quote, is) refl) ∙ step

        module _ (not_opening : opens_flow bs ≡ false) where
          pub at_other : closes_flow bs ≡ false → go depth (parts_flow bs) false (tail bs) ≡ total
          at_other is = sym (rw (not_space, not_end, not_quote, not_opening, is) refl) ∙ step

          pub at_last : closes_flow bs ≡ true → depth ≡ 0 → false ≡ total
          at_last is none = let e : eqb depth 0 ≡ true = eq-eqb depth 0 none in sym (rw (not_space, not_end, not_quote, not_opening, is, e) refl) ∙ step

          pub at_closing : closes_flow bs ≡ true → depth ≢ 0 → go (depth - 1) false false (tail bs) ≡ total
          at_closing is some = let e : eqb depth 0 ≡ false = ne_eqb depth 0 some in sym (rw (not_space, not_end, not_quote, not_opening, is, e) refl) ∙ step
