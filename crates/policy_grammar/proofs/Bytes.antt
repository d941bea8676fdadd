-- Bytes of one kind are none of another; texts whose bytes all pass a test.
use Rattle.std.proofs.Common.{◌≡◌, ◌∙◌, ℕ, zero, suc, Bool, true, false, eqb, ◌==◌, [], ◌∷◌, ◌++◌, replicate, refl, sym, ap}
use Rattle.std.specs.List.{list_all}
use Rattle.std.proofs.lemmas.Bool.{ne_eqb, eqb-true, both_ways, and_parts, and_from, false≢true}
use Rattle.yaml_plain.specs.Bytes.{space, is_same}
use Rattle.policy_model.specs.Keys.{Text}

-- a byte that passes a test is none that doesn't
pub apart : (test : ℕ → Bool) (b k : ℕ) → test b ≡ true → test k ≡ false → eqb b k ≡ false
apart test b k is other = ne_eqb b k (λ e. both_ways (test k) other (sym (ap test e) ∙ is))

-- what passes a test passes a wider one
pub all_wider : (p q : ℕ → Bool) → ((b : ℕ) → p b ≡ true → q b ≡ true) → (t : Text) → list_all p t ≡ true → list_all q t ≡ true
all_wider p q wider [] all = refl
all_wider p q wider (b ∷ bs) all =
    let both = and_parts (p b) (list_all p bs) all in
    and_from (q b) (list_all q bs) (wider b both.0) (all_wider p q wider bs both.1)

-- both halves pass
pub all_append : (p : ℕ → Bool) (x y : Text) → list_all p x ≡ true → list_all p y ≡ true → list_all p (x ++ y) ≡ true
all_append p [] y first second = second
all_append p (b ∷ bs) y first second =
    let both = and_parts (p b) (list_all p bs) first in
    and_from (p b) (list_all p (bs ++ y)) both.0 (all_append p bs y both.1 second)

-- so the second half does
pub all_behind : (p : ℕ → Bool) (x y : Text) → list_all p (x ++ y) ≡ true → list_all p y ≡ true
all_behind p [] y all = all
all_behind p (b ∷ bs) y all = all_behind p bs y (and_parts (p b) (list_all p (bs ++ y)) all).1

abbrev pub is_space : ℕ → Bool
is_space b = b == space

pub all_spaces : (n : ℕ) → list_all is_space (replicate n space) ≡ true
all_spaces zero = refl
all_spaces (suc n) = all_spaces n

-- texts that are found the same are
pub same_is : (x y : Text) → is_same x y ≡ true → x ≡ y
same_is [] [] is = refl
same_is [] (b ∷ bs) is = absurd (false≢true is)
same_is (a ∷ xs) [] is = absurd (false≢true is)
same_is (a ∷ xs) (b ∷ bs) is =
    let both = and_parts (eqb a b) (is_same xs bs) is in
    λ k. eqb-true a b both.0 k ∷ same_is xs bs both.1 k
