-- Spoilt bytes, byte by byte, and what they make of a torn write.
use Rattle.std.proofs.Common.{◌≡◌, ◌≤◌, ◌+◌, ◌-◌, ◌++◌, ◌∙◌, ℕ, zero, suc, Bool, true, false, List, [], ◌∷◌, length, take, drop, replicate, refl, sym, ap, subst, arith}
use Rattle.std.proofs.lemmas.List.{length-take}
use Rattle.host_core.specs.Bytes.{Torn}
use Rattle.host_memory.specs.Touches.{Touch, Writes, Syncs, Spares, spoil, spoilt_byte, half_of, spoilt}

-- the bytes with so many of them spoilt from a place on
abbrev spoilt_at : List ℕ → ℕ → ℕ → List ℕ
spoilt_at [] from n = []
spoilt_at (x ∷ xs) zero zero = x ∷ xs
spoilt_at (x ∷ xs) zero (suc n) = spoilt_byte ∷ spoilt_at xs zero n
spoilt_at (x ∷ xs) (suc from) n = x ∷ spoilt_at xs from n

parts : (xs : List ℕ) (from n : ℕ)
    → take from xs ++ (replicate (length (take n (drop from xs))) spoilt_byte ++ drop (length (take from xs) + length (take n (drop from xs))) xs) ≡ spoilt_at xs from n
parts [] zero zero = refl
parts [] zero (suc n) = refl
parts [] (suc from) zero = refl
parts [] (suc from) (suc n) = refl
parts (x ∷ xs) zero zero = refl
parts (x ∷ xs) zero (suc n) =
    let sum : 0 + suc (length (take n xs)) ≡ suc (0 + length (take n xs)) = omega arith in
    ap (λ (k : ℕ). spoilt_byte ∷ (replicate (length (take n xs)) spoilt_byte ++ drop k (x ∷ xs))) sum ∙ ap (λ (l : List ℕ). spoilt_byte ∷ l) (parts xs zero n)
parts (x ∷ xs) (suc from) n =
    let sum : suc (length (take from xs)) + length (take n (drop from xs)) ≡ suc (length (take from xs) + length (take n (drop from xs))) = omega arith in
    ap (λ (k : ℕ). x ∷ (take from xs ++ (replicate (length (take n (drop from xs))) spoilt_byte ++ drop k (x ∷ xs)))) sum
    ∙ ap (λ (l : List ℕ). x ∷ l) (parts xs from n)

spoil_is : (from to : ℕ) (xs : List ℕ) → spoil from to xs ≡ spoilt_at xs from (to - from)
spoil_is from to xs = parts xs from (to - from)

as_long : (xs : List ℕ) (from n : ℕ) → length (spoilt_at xs from n) ≡ length xs
as_long [] from n = refl
as_long (x ∷ xs) zero zero = refl
as_long (x ∷ xs) zero (suc n) = ap (λ (k : ℕ). suc k) (as_long xs zero n)
as_long (x ∷ xs) (suc from) n = ap (λ (k : ℕ). suc k) (as_long xs from n)

front : (k : ℕ) (xs : List ℕ) (from n : ℕ) → take k (spoilt_at xs from n) ≡ spoilt_at (take k xs) from n
front zero xs from n = refl
front (suc k) [] from n = refl
front (suc k) (x ∷ xs) zero zero = refl
front (suc k) (x ∷ xs) zero (suc n) = ap (λ (l : List ℕ). spoilt_byte ∷ l) (front k xs zero n)
front (suc k) (x ∷ xs) (suc from) n = ap (λ (l : List ℕ). x ∷ l) (front k xs from n)

-- nothing is spoilt past the end
past_end : (xs : List ℕ) (from n : ℕ) → length xs ≤ from → spoilt_at xs from n ≡ xs
past_end [] from n short = refl
past_end (x ∷ xs) zero n short = absurd (omega (arith, short))
past_end (x ∷ xs) (suc from) n short = ap (λ (l : List ℕ). x ∷ l) (past_end xs from n (omega (arith, short)))

-- nothing is spoilt from the end of the range on
past_range : (k : ℕ) (xs : List ℕ) (from n : ℕ) → from + n ≤ k → drop k (spoilt_at xs from n) ≡ drop k xs
past_range k [] from n le = refl
past_range k (x ∷ xs) zero zero le = refl
past_range zero (x ∷ xs) zero (suc n) le = absurd (omega (arith, le))
past_range (suc k) (x ∷ xs) zero (suc n) le = past_range k xs zero n (omega (arith, le))
past_range zero (x ∷ xs) (suc from) n le = absurd (omega (arith, le))
past_range (suc k) (x ∷ xs) (suc from) n le = past_range k xs from n (omega (arith, le))

-- what spoiling makes of what stands from a place on
abbrev rest_of : ℕ → ℕ → ℕ → List ℕ → List ℕ
rest_of zero from n xs = spoilt_at xs from n
rest_of (suc k) zero zero xs = xs
rest_of (suc k) zero (suc n) xs = rest_of k zero n xs
rest_of (suc k) (suc from) n xs = rest_of k from n xs

rest_of_none : (k from n : ℕ) → rest_of k from n [] ≡ []
rest_of_none zero from n = refl
rest_of_none (suc k) zero zero = refl
rest_of_none (suc k) zero (suc n) = rest_of_none k zero n
rest_of_none (suc k) (suc from) n = rest_of_none k from n

rest_is : (k : ℕ) (xs : List ℕ) (from n : ℕ) → drop k (spoilt_at xs from n) ≡ rest_of k from n (drop k xs)
rest_is zero xs from n = refl
rest_is (suc k) [] from n = sym (rest_of_none (suc k) from n)
rest_is (suc k) (x ∷ xs) zero zero = refl
rest_is (suc k) (x ∷ xs) zero (suc n) = rest_is k xs zero n
rest_is (suc k) (x ∷ xs) (suc from) n = rest_is k xs from n

module _ (at len : ℕ) (old new : List ℕ) (torn : Torn at len old new) (from n : ℕ) where
  -- a torn write is one after the same bytes before and after it are spoilt
  both_spoilt : Torn at len (spoilt_at old from n) (spoilt_at new from n)
  both_spoilt = record {
    before = ap (λ (k : ℕ). take at (take k (spoilt_at new from n))) (as_long old from n)
        ∙ ap (λ (l : List ℕ). take at l) (front (length old) new from n)
        ∙ front at (take (length old) new) from n
        ∙ ap (λ (l : List ℕ). spoilt_at l from n) torn.before
        ∙ sym (front at old from n);
    after = rest_is (at + len) new from n ∙ ap (λ (l : List ℕ). rest_of (at + len) from n l) torn.after ∙ sym (rest_is (at + len) old from n);
    no_shorter = omega (arith, as_long old from n, as_long new from n, torn.no_shorter);
    no_longer = omega (arith, as_long old from n, as_long new from n, torn.no_longer);
  }

  -- and one after bytes of its range are spoilt
  range_spoilt : at ≤ from → from + n ≤ at + len → Torn at len old (spoilt_at new from n)
  range_spoilt above below = record {
    before = ap (λ (l : List ℕ). take at l) (front (length old) new from n)
        ∙ front at (take (length old) new) from n
        ∙ past_end (take at (take (length old) new)) from n (omega (arith, above, length-take at (take (length old) new)))
        ∙ torn.before;
    after = past_range (at + len) new from n below ∙ torn.after;
    no_shorter = omega (arith, as_long new from n, torn.no_shorter);
    no_longer = omega (arith, as_long new from n, torn.no_longer);
  }

half_within : (half : Bool) (len : ℕ) → half_of half len ≤ len
half_within true len = omega arith
half_within false len = omega arith

-- the write is torn at most with its range spoilt, or the second half of it
pub torn_spoilt : (half : Bool) (at len : ℕ) (old new : List ℕ) → Torn at len old new → Torn at len old (spoil (at + half_of half len) (at + len) new)
torn_spoilt half at len old new torn =
    subst (λ (l : List ℕ). Torn at len old l) (sym (spoil_is (at + half_of half len) (at + len) new))
    (range_spoilt at len old new torn (at + half_of half len) (at + len - (at + half_of half len)) (omega arith) (omega (arith, half_within half len)))

-- and after the ranges of other events are spoilt before it and after it
pub torn_among : (half : Bool) (at len : ℕ) (old new : List ℕ) (events : List Touch) → Torn at len old new → Torn at len (spoilt half old events) (spoilt half new events)
torn_among half at len old new [] torn = torn
torn_among half at len old new (Writes a l before ∷ events) torn =
    let from = a + half_of half l in
    torn_among half at len (spoil from (a + l) old) (spoil from (a + l) new) events
    (subst (λ (x : List ℕ). Torn at len x (spoil from (a + l) new)) (sym (spoil_is from (a + l) old))
    (subst (λ (x : List ℕ). Torn at len (spoilt_at old from (a + l - from)) x) (sym (spoil_is from (a + l) new)) (both_spoilt at len old new torn from (a + l - from))))
torn_among half at len old new (Syncs ∷ events) torn = torn
torn_among half at len old new (Spares ∷ events) torn = torn_among half at len old new events torn
