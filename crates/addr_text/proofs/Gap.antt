-- Looking for two colons from a place on.
use Rattle.std.proofs.Common.{◌≡◌, ℕ, ◌+◌, ◌<◌, ◌≤◌, ◌&&◌, ◌==◌, cond, List, [], ◌∷◌, Option, Some, None, length, get_or, drop, refl, ap, arith, zero-add, suc, drop-cons}
use Rattle.std.specs.Option.{option_map}
use Rattle.addr_text.specs.Find.{gap_of}

-- a place counted from another
abbrev pub moved : ℕ → Option ℕ → Option ℕ
moved n None = None
moved n (Some k) = Some (n + k)

pub moved_none : (o : Option ℕ) → moved 0 o ≡ o
moved_none None = refl
moved_none (Some k) = ap Some (zero-add k)

pub moved_more : (n : ℕ) (o : Option ℕ) → moved n (option_map suc o) ≡ moved (n + 1) o
moved_more n None = refl
moved_more n (Some k) = ap Some (omega arith)

-- fewer than two bytes hold no two colons
pub gap_past : (xs : List ℕ) → length xs ≤ 1 → gap_of xs ≡ None
gap_past [] h = refl
gap_past (x ∷ []) h = refl
gap_past (x ∷ y ∷ r) h = absurd (omega arith)

-- what the next two bytes say
pub gap_next : (xs : List ℕ) (i : ℕ) → i + 1 < length xs → gap_of (drop i xs) ≡ cond ((get_or xs (i + 1) 0 == 58) && (get_or xs i 0 == 58)) (Some 0) (option_map suc (gap_of (drop (i + 1) xs)))
gap_next xs i h =
    let a : i < length xs = omega arith in
    let b : suc i < length xs = omega arith in
    let e : i + 1 ≡ suc i = omega arith in
    rw (e, drop-cons xs i 0, drop-cons xs (suc i) 0)
