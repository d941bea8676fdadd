-- Truth values.
use Rattle.std.proofs.Common.{◌≡◌, Bool, true, false, not, ◌&&◌, ◌||◌, refl}

pub and_left : (b c : Bool) → (b && c) ≡ true → b ≡ true
and_left true c h = refl
and_left false c h = cc

pub and_right : (b c : Bool) → (b && c) ≡ true → c ≡ true
and_right true c h = h
and_right false c h = cc

pub and_both : (b c : Bool) → b ≡ true → c ≡ true → (b && c) ≡ true
and_both b c h k = rw (h, k) refl

pub or_left_false : (b c : Bool) → (b || c) ≡ false → b ≡ false
or_left_false false c h = refl
or_left_false true c h = cc

pub or_right_false : (b c : Bool) → (b || c) ≡ false → c ≡ false
or_right_false false c h = h
or_right_false true c h = cc

pub or_right : (b c : Bool) → c ≡ true → (b || c) ≡ true
or_right true c h = refl
or_right false c h = h

pub not_true : (b : Bool) → not b ≡ true → b ≡ false
not_true false h = refl
not_true true h = cc

pub not_false : (b : Bool) → b ≡ false → not b ≡ true
not_false b h = rw h refl
