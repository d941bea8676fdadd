-- Numbers with their highest byte first are exact.
use Rattle.std.proofs.Common.{◌≡◌, ℕ, zero, suc, ◌+◌, ◌*◌, ◌^◌, ◌/◌, ◌<◌, ◌≤◌, true, false, ltb, List, [], ◌∷◌, ◌++◌, length, take, drop, Some, refl, sym, ap, subst, ◌∙◌, arith}
use Rattle.std.specs.Int.{byte_at, bytes_high_first}
use Rattle.std.proofs.lemmas.Bool.{ltb-false, ltb-true, lt-ltb, le-ltb}
use Rattle.std.proofs.lemmas.List.{drop_at, take-append-drop, length-append, length-take-le, append-nil}
use Rattle.std.proofs.lemmas.Nat.{mod_below, same_from_place}
use Rattle.byteorder.specs.Endian.{big_from, big_number, big_bytes}
use Rattle.byteorder.specs.Numbers.{big_from-cons, big_from-take, big_from-lt, big_number-reads_back, length-bytes_high_first}
use Rattle.net_image.specs.Form.{number}
use Rattle.net_image.specs.Laws.{AreBytes, IsWritten, IsExact}
use Rattle.net_image.proofs.lemmas.Reading.{passed}

byte_below : (k x : ℕ) → byte_at k x < 256
byte_below zero x = mod_below x 256 (omega arith)
byte_below (suc k) x = mod_below (x / 256 ^ suc k) 256 (omega arith)

high_are_bytes : (n x : ℕ) → AreBytes (bytes_high_first n x)
high_are_bytes zero x i = omega arith
high_are_bytes (suc n) x zero = byte_below n x
high_are_bytes (suc n) x (suc i) = high_are_bytes n x i

-- bytes of one length that spell one number are the same
same_spelling : (s t : List ℕ) → AreBytes s → AreBytes t → length s ≡ length t → big_from 0 (length s) s ≡ big_from 0 (length t) t → s ≡ t
same_spelling [] [] one two same e = refl
same_spelling [] (c ∷ t) one two same e = absurd cc
same_spelling (b ∷ s) [] one two same e = absurd cc
same_spelling (b ∷ s) (c ∷ t) one two same e =
    let size : length s ≡ length t = cc in
    let left : big_from 1 (length s) (b ∷ s) ≡ big_from 0 (length s) s = big_from-cons 0 (length s) b s in
    let right : big_from 1 (length t) (c ∷ t) ≡ big_from 0 (length t) t = big_from-cons 0 (length t) c t in
    let low_s : big_from 0 (length s) s < 256 ^ length t = subst (λ (k : ℕ). big_from 0 (length s) s < 256 ^ k) size (big_from-lt 0 (length s) s (λ i. one (suc i))) in
    let low_t : big_from 0 (length t) t < 256 ^ length t = big_from-lt 0 (length t) t (λ i. two (suc i)) in
    let sums : b * 256 ^ length t + big_from 0 (length s) s ≡ c * 256 ^ length t + big_from 0 (length t) t =
    ap (λ (k : ℕ). b * 256 ^ k + big_from 0 (length s) s) (sym size) ∙ ap (λ (r : ℕ). b * 256 ^ length s + r) (sym left) ∙ e ∙ ap (λ (r : ℕ). c * 256 ^ length t + r) right in
    let parts = same_from_place b (big_from 0 (length s) s) c (big_from 0 (length t) t) (256 ^ length t) low_s low_t sums in
    let rest : s ≡ t = same_spelling s t (λ i. one (suc i)) (λ i. two (suc i)) size parts.1 in
    ap (λ (x : ℕ). x ∷ s) parts.0 ∙ ap (λ (l : List ℕ). c ∷ l) rest

-- the bytes of the number that bytes spell are these bytes
pub bytes_again : (n : ℕ) (t : List ℕ) → length t ≡ n → AreBytes t → big_bytes n (big_number n t) ≡ t
bytes_again n t size are =
    let long : length (bytes_high_first n (big_from 0 n t)) ≡ n = length-bytes_high_first n (big_from 0 n t) in
    let below : big_from 0 n t < 256 ^ n = big_from-lt 0 n t are in
    let again : big_from 0 n (bytes_high_first n (big_from 0 n t)) ≡ big_from 0 n t =
    ap (big_from 0 n) (sym (append-nil (bytes_high_first n (big_from 0 n t)))) ∙ big_number-reads_back n (big_from 0 n t) [] below in
    same_spelling (bytes_high_first n (big_from 0 n t)) t (high_are_bytes n (big_from 0 n t)) are (long ∙ sym size)
    (ap (λ (k : ℕ). big_from 0 k (bytes_high_first n (big_from 0 n t))) long ∙ again ∙ ap (λ (k : ℕ). big_from 0 k t) (sym size))

front_are : (n : ℕ) (bytes : List ℕ) → AreBytes bytes → AreBytes (take n bytes)
front_are zero bytes are i = omega arith
front_are (suc n) [] are i = are i
front_are (suc n) (b ∷ bytes) are zero = are 0
front_are (suc n) (b ∷ bytes) are (suc i) = front_are n bytes (λ j. are (suc j)) i

number_again : (n x : ℕ) (rest : List ℕ) → (number n).fits x ≡ true → (number n).read (big_bytes n x ++ rest) ≡ Some (x, rest)
number_again n x rest fits =
    let size : length (bytes_high_first n x) ≡ n = length-bytes_high_first n x in
    let long : ltb (length (bytes_high_first n x ++ rest)) n ≡ false = le-ltb _ _ (omega (arith, length-append (bytes_high_first n x) rest)) in
    rw (long, big_number-reads_back n x rest (ltb-true _ _ fits), drop_at (bytes_high_first n x) rest n size) refl

number_only : (n : ℕ) (bytes rest : List ℕ) (x : ℕ) → AreBytes bytes → (number n).read bytes ≡ Some (x, rest) → IsWritten (number n) bytes x rest
number_only n bytes rest x are got =
    let p = passed (ltb (length bytes) n) (big_number n bytes, drop n bytes) (x, rest) got in
    let long : n ≤ length bytes = ltb-false _ _ p.0 in
    let spelled : big_bytes n (big_number n bytes) ≡ take n bytes =
    ap (big_bytes n) (sym (big_from-take 0 n n bytes (omega arith))) ∙ bytes_again n (take n bytes) (length-take-le n bytes long) (front_are n bytes are) in
    let parts : bytes ≡ big_bytes n (big_number n bytes) ++ drop n bytes = sym (take-append-drop n bytes) ∙ ap (λ (l : List ℕ). l ++ drop n bytes) (sym spelled) in
    subst (λ (q : ℕ × List ℕ). IsWritten (number n) bytes q.0 q.1) p.1 (record { bytes_are = parts; fits = lt-ltb _ _ (big_from-lt 0 n bytes are) })

-- the form of a number is exact
pub number_exact : (n : ℕ) → IsExact (number n)
number_exact n = record { again = number_again n; only = number_only n }
