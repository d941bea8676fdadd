-- What holds of each item of a list, and of those that a filter keeps.
use Rattle.std.proofs.Common.{◌≡◌, ℕ, suc, zero, ◌<◌, List, [], ◌∷◌, Bool, true, false, cond, filter, slice_index, refl, arith}
use Rattle.std.specs.List.{All}
use Rattle.std.proofs.lemmas.List.Elements.{All-nil, All-cons, All-head, All-tail}
use Rattle.net_search.specs.Ranges.{IsU8}

kept_one : {X : Type 0} (Q : X → Type 0) (b : Bool) (x : X) (xs : List X) → (b ≡ true → Q x) → All Q xs → All Q (cond b (x ∷ xs) xs)
kept_one Q true x xs here there = All-cons Q x xs (here refl) there
kept_one Q false x xs here there = there

-- what follows of each item that passes holds of all that are kept
pub all_kept : {X : Type 0} (p : X → Bool) (P Q : X → Type 0) → ((x : X) → p x ≡ true → P x → Q x) → (xs : List X) → All P xs → All Q (filter p xs)
all_kept p P Q f [] h = All-nil Q
all_kept p P Q f (x ∷ xs) h = kept_one Q (p x) x (filter p xs) (λ e. f x e (All-head P x xs h)) (all_kept p P Q f xs (All-tail P x xs h))

-- each byte of a list, and the 0 that stands for those after it
pub bytes_small : (bytes : List ℕ) → All IsU8 bytes → (k : ℕ) → slice_index bytes k < 256
bytes_small [] h k = omega arith
bytes_small (b ∷ bytes) h zero = All-head IsU8 b bytes h
bytes_small (b ∷ bytes) h (suc k) = bytes_small bytes (All-tail IsU8 b bytes h) k
