-- What follows from a reading that gave something, and of bytes in parts.
use Rattle.std.proofs.Common.{◌≡◌, ℕ, suc, Bool, true, false, cond, List, [], ◌∷◌, ◌++◌, Option, Some, None, refl}
use Rattle.std.specs.Option.{option_map, option_and_then}
use Rattle.std.specs.List.{list_all}
use Rattle.std.proofs.lemmas.Bool.{lt-ltb, and_from}
use Rattle.net_image.specs.Form.{is_byte}
use Rattle.net_image.specs.Laws.{AreBytes}

-- what is read in two steps is read by both
pub bind_some : {A B : Type 0} (o : Option A) (f : A → Option B) (y : B) → option_and_then f o ≡ Some y → (x : A) × (o ≡ Some x) × (f x ≡ Some y)
bind_some None f y e = absurd cc
bind_some (Some x) f y e = (x, refl, e)

-- what is read and changed was read
pub map_some : {A B : Type 0} (o : Option A) (f : A → B) (y : B) → option_map f o ≡ Some y → (x : A) × (o ≡ Some x) × (f x ≡ y)
map_some None f y e = absurd cc
map_some (Some x) f y e = (x, refl, cc)

-- a test that a reading passed
pub passed : {A : Type 0} (b : Bool) (x y : A) → cond b None (Some x) ≡ Some y → (b ≡ false) × (x ≡ y)
passed true x y e = absurd cc
passed false x y e = (refl, cc)

-- what is behind bytes is bytes
pub rest_are_bytes : (front rest : List ℕ) → AreBytes (front ++ rest) → AreBytes rest
rest_are_bytes [] rest are = are
rest_are_bytes (b ∷ front) rest are = rest_are_bytes front rest (λ i. are (suc i))

-- what is at the front of bytes is bytes
pub front_are_bytes : (front rest : List ℕ) → AreBytes (front ++ rest) → list_all is_byte front ≡ true
front_are_bytes [] rest are = refl
front_are_bytes (b ∷ front) rest are = and_from (is_byte b) (list_all is_byte front) (lt-ltb b 256 (are 0)) (front_are_bytes front rest (λ i. are (suc i)))
