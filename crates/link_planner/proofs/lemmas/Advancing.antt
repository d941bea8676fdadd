-- Drafts that advance.
use Rattle.std.proofs.Common.{◌≡◌, ℕ, ◌+◌, ◌≤◌, [], ◌∷◌, length, length-append, refl, sym, subst, ◌∙◌, arith}
use Rattle.net_model.specs.Lists.{NetData}
use Rattle.net_model.specs.declared.call.Call.{Call}
use Rattle.link_planner.specs.Drafts.{DraftData, Advances, with_call}

-- one way after the other
pub advances_more : (m n : ℕ) (a b c : DraftData) → Advances m a b → Advances n b c → Advances (m + n) a c
advances_more m n a b c first second = record {
  start = second.start ∙ first.start;
  target = second.target ∙ first.target;
  count = omega (arith, first.count, second.count);
}

pub advances_itself : (d : DraftData) → Advances 0 d d
advances_itself d = record { start = refl; target = refl; count = omega arith }

-- at most as many calls are at most more
pub advances_least : (m n : ℕ) (a b : DraftData) → m ≤ n → Advances m a b → Advances n a b
advances_least m n a b le first = record { start = first.start; target = first.target; count = omega (arith, le, first.count) }

-- what holds of the networks between which it leads
pub of_ends : (P : NetData → NetData → Type 0) (n : ℕ) (a b : DraftData) → Advances n a b → P a.start a.target → P b.start b.target
of_ends P n a b advances h = subst (λ s. P s b.target) (sym advances.start) (subst (λ t. P a.start t) (sym advances.target) h)

-- one call is one
pub one_call : (d : DraftData) (call : Call) → Advances 1 d (with_call call d)
one_call d call = record { start = refl; target = refl; count = omega (arith, length-append d.calls (call ∷ []), one) }
  where
    one : length (call ∷ []) ≡ 1
    one = refl
