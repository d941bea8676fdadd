-- How steps follow one another.
use Rattle.std.proofs.Common.{◌≡◌, inl, inr, ⊎_elim, ◌≤◌, ℕ, refl, sym, subst, arith}
use Rattle.host_core.specs.Stops.{Stops, After, Steps, Stays, seen_as}

module _ {S : Type 0} where
  pub stays : (old : Stops S) → Steps Stays old old
  stays old = record {
    later = omega arith;
    now = λ s left. (s, left, refl);
    since = λ t s le left. inl left;
    keeps = λ t s le left. left;
  }

  -- a step that implies another
  pub weaken : (step wider : S → S → Type 0) (old new : Stops S) → Steps step old new
      → ((r s : S) → old.may_leave r → step r s → wider r s) → Steps wider old new
  weaken step wider old new steps implies = record {
    later = steps.later;
    now = λ s left. let from = steps.now s left in (from.0, from.1, implies from.0 s from.1 from.2);
    since = λ t s le left. ⊎_elim (λ was. inl was) (λ from. inr (from.0, from.1, implies from.0 s from.1 from.2)) (steps.since t s le left);
    keeps = steps.keeps;
  }

  -- one call after another
  pub follow : (first second both : S → S → Type 0) (old mid new : Stops S) → Steps first old mid → Steps second mid new
      → ((r s : S) → old.may_leave r → first r s → both r s)
      → ((q r s : S) → old.may_leave q → mid.may_leave r → first q r → second r s → both q s)
      → Steps both old new
  follow first second both old mid new one two begins ends = record {
    later = omega (arith, one.later, two.later);
    now = λ s left. joined s (two.now s left);
    since = λ t s le left. ⊎_elim
        (λ was. ⊎_elim (λ before. inl before) (λ from. inr (from.0, from.1, begins from.0 s from.1 from.2)) (one.since t s le was))
        (λ from. inr (joined s from))
        (two.since t s (later t le) left);
    keeps = λ t s le left. two.keeps t s (later t le) (one.keeps t s le left);
  }
    where
      later : (t : ℕ) → t ≤ old.moment → t ≤ mid.moment
      later t le = omega (arith, one.later)

      joined : (s : S) → After mid second s → After old both s
      joined s from =
          let start = one.now from.0 from.1 in
          (start.0, start.1, ends start.0 from.0 s start.1 from.1 start.2 from.2)

-- a step below is a step above
pub seen_steps : {A B : Type 0} (f : A → B) (below : A → A → Type 0) (above : B → B → Type 0) (old new : Stops A) → Steps below old new
    → ((r s : A) → old.may_leave r → below r s → above (f r) (f s)) → Steps above (seen_as f old) (seen_as f new)
seen_steps {A = A} {B = B} f below above old new steps leads = record {
  later = steps.later;
  now = λ b left. lift b (steps.now left.0 left.1) left.2;
  since = λ t b le left. ⊎_elim (λ was. inl (left.0, was, left.2)) (λ from. inr (lift b from left.2)) (steps.since t left.0 le left.1);
  keeps = λ t b le left. (left.0, steps.keeps t left.0 le left.1, left.2);
}
  where
    lift : (b : B) {s : A} → After old below s → b ≡ f s → After (seen_as f old) above b
    lift b {s} from is = (f from.0, (from.0, from.1, refl), subst (above (f from.0)) (sym is) (leads from.0 s from.1 from.2))
