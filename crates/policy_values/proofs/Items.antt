-- Items of lists, and the positions that digits write.
use Rattle.std.proofs.Common.{◌≡◌, ◌∙◌, ◌<◌, ◌≤◌, ◌^◌, ℕ, zero, suc, Bool, true, false, List, [], ◌∷◌, map, length, get_or, Option, Some, None, option_map, refl, sym, ap, subst, arith}
use Rattle.std.specs.Prelude.{nat_lt, Result, Ok, Err, if◌then◌else◌}
use Rattle.std.specs.List.{list_all}
use Rattle.std.specs.Borrow.{Bor}
use Rattle.std.specs.Char.{digit_value}
use Rattle.std.specs.Slice.{IsItemAt}
use Rattle.std.specs.Str.Parse.{AllDigits, ParsesUnsigned, digits_value}
use Rattle.std.proofs.lemmas.Bool.{and_parts, ltb-true, lt-ltb}
use Rattle.std.proofs.lemmas.Str.Parse.{IsNumeralModel, numerals_by_value, tells_digits, parse_digits}
use Rattle.doc_tree.specs.Shape.{shape, shapes_of}
use Rattle.doc_tree.specs.declared.Tree.{Tree}
use Rattle.policy_model.specs.Leading.{is_position, item_at}

-- ---- items

item_there : (ts : List Tree) (n : ℕ) (d : Tree) → n < length ts → item_at n (shapes_of (map shape ts)) ≡ Some (shape (get_or ts n d))
item_there [] n d lt = absurd (omega arith)
item_there (t ∷ ts) zero d lt = refl
item_there (t ∷ ts) (suc n) d lt = item_there ts n d (omega arith)

-- there is no item past the end
pub item_past : (ts : List Tree) (n : ℕ) → length ts ≤ n → item_at n (shapes_of (map shape ts)) ≡ None
item_past [] n le = refl
item_past (t ∷ ts) zero le = absurd (omega arith)
item_past (t ∷ ts) (suc n) le = item_past ts n (omega arith)

-- what `get` gives at a position is the item there
pub item_got : (ts : List Tree) (n : ℕ) (r : Option (Bor Tree)) → IsItemAt ts n r → option_map (λ (t : Bor Tree). shape t.now) r ≡ item_at n (shapes_of (map shape ts))
item_got ts n None h = sym (item_past ts n h.3)
item_got ts n (Some x) h = ap (λ (t : Tree). Some (shape t)) h.1 ∙ sym (item_there ts n x.now h.3.0)

-- ---- positions

digits_from : (ds : List ℕ) → list_all (λ d. nat_lt (digit_value d) 10) ds ≡ true → AllDigits 10 ds
digits_from [] e = tt
digits_from (d ∷ ds) e =
    let parts = and_parts _ _ e in
    (ltb-true _ _ parts.0, digits_from ds parts.1)

decimal : IsNumeralModel (AllDigits 10) (digits_value 10)
decimal = numerals_by_value (AllDigits 10) tells_digits

-- what std reads in digits is their number
pub number_read : {E : Type 0} (text : List ℕ) (r : Result ℕ E) (number : ℕ) → r ≡ Ok number → is_position text ≡ true → ParsesUnsigned 64 10 text r
    → Some number ≡ (if nat_lt (digits_value 10 text) (2 ^ 64) then Some (digits_value 10 text) else None)
number_read {E} text r number is digits h =
    let read = parse_digits decimal {E = E} 64 text (Ok number) (subst (λ (q : Result ℕ E). ParsesUnsigned {E = E} 64 10 text q) is h) (digits_from text digits) in
    rw (lt-ltb (digits_value 10 text) (2 ^ 64) read.0.1) (ap (λ (n : ℕ). Some n) read.1)

-- and where it reads none, the number has more than 64 bits
pub number_large : {E : Type 0} (text : List ℕ) (r : Result ℕ E) (e : E) → r ≡ Err e → 0 < length text → is_position text ≡ true → ParsesUnsigned 64 10 text r
    → None ≡ (if nat_lt (digits_value 10 text) (2 ^ 64) then Some (digits_value 10 text) else None)
number_large {E} text r e is some digits h = go (nat_lt (digits_value 10 text) (2 ^ 64)) refl
  where
    go : (b : Bool) → nat_lt (digits_value 10 text) (2 ^ 64) ≡ b → None ≡ (if nat_lt (digits_value 10 text) (2 ^ 64) then Some (digits_value 10 text) else None)
    go true holds = absurd (parse_digits decimal {E = E} 64 text (Err e) (subst (λ (q : Result ℕ E). ParsesUnsigned {E = E} 64 10 text q) is h) (digits_from text digits) (some, ltb-true _ _ holds))
    go false isnt = rw isnt refl

-- a number of more than 64 bits is past each count
pub position_none : (number count : ℕ) → count < 2 ^ 64 → None ≡ (if nat_lt number (2 ^ 64) then Some number else None) → None ≡ (if nat_lt number count then Some number else None)
position_none number count fits h = go (nat_lt number count) refl
  where
    go : (b : Bool) → nat_lt number count ≡ b → None ≡ (if nat_lt number count then Some number else None)
    go false past = rw past refl
    go true below =
        let lt : number < count = ltb-true number count below in
        let e : nat_lt number (2 ^ 64) ≡ true = lt-ltb number (2 ^ 64) (omega arith) in
        let wrong : None ≡ Some number = rw e at h in
        absurd cc
