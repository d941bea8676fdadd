-- Tests of texts that stand without quotes.
use Rattle.std.proofs.Common.{◌≡◌, ◌∙◌, ◌-◌, ◌∷◌, ℕ, suc, List, [], length, get_or, Bool, true, false, eqb, cond, refl, sym, ap, arith, Result, Ok, Err, ℤ, Some, None}
use Rattle.std.specs.Result.{is_ok, result_ok}
use Rattle.std.specs.Int.{w128}
use Rattle.std.specs.Str.Parse.{ParsesSigned, signed_digits_value}
use Rattle.yaml_plain.specs.Plain.{is_whole, is_integer}
use Rattle.yaml_plain.proofs.lemmas.Numbers.{number_is}
use Rattle.yaml_text.specs.Scalars.{ends_with_colon}

pub last_is_colon : (bs : List ℕ) → ends_with_colon bs ≡ eqb (get_or bs (length bs - 1) 0) 58
last_is_colon [] = refl
last_is_colon (b ∷ []) = refl
last_is_colon (b ∷ c ∷ bs) =
    let less : length (b ∷ c ∷ bs) - 1 ≡ suc (length (c ∷ bs) - 1) = omega arith in
    last_is_colon (c ∷ bs) ∙ ap (λ (k : ℕ). eqb (get_or (b ∷ c ∷ bs) k 0) 58) (sym less)

some_is : {E : Type 0} (r : Result ℤ E) (t : Bool) (z : ℤ) → result_ok r ≡ cond t (Some z) None → is_ok r ≡ t
some_is (Ok x) true z is = refl
some_is (Ok x) false z is = absurd cc
some_is (Err e) true z is = absurd cc
some_is (Err e) false z is = refl

pub integer_is : {E : Type 0} (bs : List ℕ) → is_whole bs ≡ true → (r : Result ℤ E) → ParsesSigned w128 10 bs r → is_ok r ≡ is_integer bs
integer_is bs is r h = some_is r (is_integer bs) (signed_digits_value 10 bs) (number_is bs is r h)

pub no_integer : (bs : List ℕ) → is_whole bs ≡ false → false ≡ is_integer bs
unfolding is_integer
no_integer bs is = rw is refl
