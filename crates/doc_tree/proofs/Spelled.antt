-- Strings and numbers as they are printed, read again, whatever follows them.
use Rattle.std.proofs.Common.{◌≡◌, ◌∙◌, ◌++◌, ◌∷◌, [], ◌<◌, ◌≤◌, ◌^◌, ◌-◌, ◌/◌, ◌%◌, ◌||◌, ◌==◌, ℕ, suc, negsuc, List, length, get_or, take, drop, Bool, true, false, Option, Some, None, refl, sym, ap, ap₂, subst, ⊎_elim, inl, inr, arith, append_assoc, length-append, decimal, eqb-true, cond}
use Rattle.std.specs.Char.{digit_char, digit_value, is_ascii_digit}
use Rattle.std.specs.List.{prefix_len}
use Rattle.std.specs.Str.Parse.{AllDigits}
use Rattle.std.specs.Fmt.{signed_decimal}
use Rattle.std.proofs.lemmas.Bool.{lt-ltb, le-ltb, lt-leb, or_from, or_parts, agree_below_at, cases_lt, eqb-false, ne_eqb}
use Rattle.std.proofs.lemmas.Str.{encode_ascii}
use Rattle.std.proofs.lemmas.Str.Parse.{digit_from_value}
use Rattle.std.proofs.lemmas.Fmt.{decimal_is_IsNumeral, decimal_digit, first_decimal}
use Rattle.json.specs.Token.{Token}
use Rattle.json.specs.Text.{content, plain, prepend, code_unit, short_escape, is_high_surrogate, is_low_surrogate}
use Rattle.json.specs.Word.{head, ends_word, word, after_number, after_whole, number_before, is_operator, is_space}
use Rattle.json.specs.Lex.{lex, lex_byte, token, between, in_word, in_string, begins_colon, class, Class, quote, backslash, operator, space, other}
use Rattle.json.specs.Print.{escape, escape_byte, escape_letter, quoted}

-- ---- one of some bytes, or another

apart_from : (P : ℕ → Type 0) (k x : ℕ) → P k → ((x == k) ≡ false → P x) → P x
apart_from P k x is differs = go (x == k) refl where
  go : (b : Bool) → (x == k) ≡ b → P x
  go true e = subst P (sym (eqb-true x k e)) is
  go false e = differs e

-- ---- strings

-- what a byte is printed as in a string is read as the byte
abbrev IsRead : ℕ → Type 0
IsRead x = (rest : List ℕ) → (content plain (escape_byte x ++ rest) ≡ prepend (x ∷ []) (content plain rest)) × (lex in_string (escape_byte x ++ rest) ≡ lex in_string rest)

pub escaped : (P : ℕ → Type 0) → P 34 → P 92 → P 8 → P 12 → P 10 → P 13 → P 9 → ((x : ℕ) → escape_letter x ≡ 0 → ((x == 34) || (x == 92)) ≡ false → P x) → (x : ℕ) → P x
escaped P h34 h92 h8 h12 h10 h13 h9 plainly x =
    apart_from P 34 x h34
    (λ p. apart_from P 92 x h92 (λ q. apart_from P 8 x h8 (λ v. apart_from P 12 x h12 (λ w. apart_from P 10 x h10 (λ y. apart_from P 13 x h13 (λ z. apart_from P 9 x h9 (λ u. plainly x (rw (p, q, v, w, y, z, u) refl) (or_from (x == 34) (x == 92) p q))))))))

gives : Option ℕ → ℕ → Bool
gives None n = false
gives (Some m) n = m == n

gives-some : (o : Option ℕ) (n : ℕ) → gives o n ≡ true → o ≡ Some n
unfolding gives
gives-some None n h = absurd (cc)
gives-some (Some m) n h = ap Some (eqb-true m n h)

low_code : (x : ℕ) → x < 32 → code_unit 48 48 (digit_char (x / 16)) (digit_char (x % 16)) ≡ Some x
unfolding gives code_unit
low_code x h = gives-some _ x (agree_below_at (λ k. gives (code_unit 48 48 (digit_char (k / 16)) (digit_char (k % 16))) k) (λ k. true) 32 x refl h)

-- a byte of a string that ends it not and begins no escape
inner : Class → Bool
inner quote = false
inner backslash = false
inner operator = true
inner space = true
inner other = true

inner-lex : (c : Class) (x : ℕ) (xs : List ℕ) → inner c ≡ true → lex_byte in_string c x xs (λ next. lex next xs) ≡ lex in_string xs
unfolding inner
inner-lex quote x xs h = absurd (cc)
inner-lex backslash x xs h = absurd (cc)
inner-lex operator x xs h = refl
inner-lex space x xs h = refl
inner-lex other x xs h = refl

inner-digit : (d : ℕ) → d < 16 → inner (class (digit_char d)) ≡ true
unfolding inner
inner-digit d h = agree_below_at (λ k. inner (class (digit_char k))) (λ k. true) 16 d refl h

lex-inner : (x : ℕ) (xs : List ℕ) → inner (class x) ≡ true → lex in_string (x ∷ xs) ≡ lex in_string xs
unfolding lex
lex-inner x xs h = inner-lex (class x) x xs h

lex-code : (a b : ℕ) (rest : List ℕ) → lex in_string (92 ∷ 117 ∷ 48 ∷ 48 ∷ a ∷ b ∷ rest) ≡ lex in_string (a ∷ b ∷ rest)
unfolding lex
lex-code a b rest = refl

content-code : (a b x : ℕ) (rest : List ℕ) → x < 32 → code_unit 48 48 a b ≡ Some x → content plain (92 ∷ 117 ∷ 48 ∷ 48 ∷ a ∷ b ∷ rest) ≡ prepend (x ∷ []) (content plain rest)
unfolding content
content-code a b x rest low is =
    let high : is_high_surrogate x ≡ false = rw (lt-leb 0xd800 x (omega arith)) refl in
    let second : is_low_surrogate x ≡ false = rw (lt-leb 0xdc00 x (omega arith)) refl in
    rw (is, high, second, encode_ascii x (omega arith)) refl

content-other : (x : ℕ) (rest : List ℕ) → ((x == 34) || (x == 92)) ≡ false → 32 ≤ x → content plain (x ∷ rest) ≡ prepend (x ∷ []) (content plain rest)
unfolding content
content-other x rest differs high = let both = or_parts (x == 34) (x == 92) differs in rw (both.0, both.1, le-ltb x 32 high) refl

inner-other : (x : ℕ) → ((x == 34) || (x == 92)) ≡ false → inner (class x) ≡ true
unfolding inner
inner-other x differs = let both = or_parts (x == 34) (x == 92) differs in rw (both.0, both.1) (go (is_operator x) (is_space x)) where
  go : (a b : Bool) → inner (cond a operator (cond b space other)) ≡ true
  go true b = refl
  go false true = refl
  go false false = refl

read_quickly : (x l : ℕ) → escape_byte x ≡ 92 ∷ l ∷ [] → short_escape l ≡ Some x → (l == 117) ≡ false → IsRead x
unfolding content lex
read_quickly x l is means differs rest = rw (is, differs, means) (refl, refl)

read_plainly : (x : ℕ) → escape_letter x ≡ 0 → ((x == 34) || (x == 92)) ≡ false → IsRead x
unfolding escape_byte
read_plainly x none differs rest = ⊎_elim low high (cases_lt x 32) where
  low : x < 32 → (content plain (escape_byte x ++ rest) ≡ prepend (x ∷ []) (content plain rest)) × (lex in_string (escape_byte x ++ rest) ≡ lex in_string rest)
  low h = let a = digit_char (x / 16) in
      let b = digit_char (x % 16) in
      rw (none, lt-ltb x 32 h)
      (content-code a b x rest h (low_code x h), lex-code a b rest ∙ (lex-inner a (b ∷ rest) (inner-digit (x / 16) (omega arith)) ∙ lex-inner b rest (inner-digit (x % 16) (omega arith))))

  high : 32 ≤ x → (content plain (escape_byte x ++ rest) ≡ prepend (x ∷ []) (content plain rest)) × (lex in_string (escape_byte x ++ rest) ≡ lex in_string rest)
  high h = rw (none, le-ltb x 32 h) (content-other x rest differs h, lex-inner x rest (inner-other x differs))

byte_is_read : (x : ℕ) → IsRead x
unfolding escape_byte short_escape
byte_is_read =
    escaped IsRead (read_quickly 34 34 refl refl refl) (read_quickly 92 92 refl refl refl) (read_quickly 8 98 refl refl refl) (read_quickly 12 102 refl refl refl)
    (read_quickly 10 110 refl refl refl) (read_quickly 13 114 refl refl refl) (read_quickly 9 116 refl refl refl) read_plainly

string_content : (s rest : List ℕ) → content plain (escape s ++ 34 ∷ rest) ≡ Some s
unfolding content
string_content [] rest = refl
string_content (x ∷ xs) rest =
    ap (content plain) (append_assoc (escape_byte x) (escape xs) (34 ∷ rest)) ∙ ((byte_is_read x (escape xs ++ 34 ∷ rest)).0 ∙ ap (prepend (x ∷ [])) (string_content xs rest))

string_passed : (s rest : List ℕ) → lex in_string (escape s ++ 34 ∷ rest) ≡ lex between rest
unfolding lex
string_passed [] rest = refl
string_passed (x ∷ xs) rest = ap (lex in_string) (append_assoc (escape_byte x) (escape xs) (34 ∷ rest)) ∙ ((byte_is_read x (escape xs ++ 34 ∷ rest)).1 ∙ string_passed xs rest)

-- a string in its quotes is read as the string
pub lex-quoted : (s rest : List ℕ) → lex between (quoted s ++ rest) ≡ token (Token.string s) ∷ lex between rest
unfolding lex
lex-quoted s rest = rw (append_assoc (escape s) (34 ∷ []) rest, string_content s rest, string_passed s rest) refl

-- ---- numbers

-- what may follow a number, a word or a string: the end of the text, a space, a comma or a closing bracket
pub record Ends (rest : List ℕ) : Type 0 where
  pub word : ends_word rest ≡ true
  pub value : begins_colon (lex between rest) ≡ false
  pub lexemes : lex in_word rest ≡ lex between rest
  pub digits : prefix_len is_ascii_digit rest ≡ 0
  pub point : (head rest == 46) ≡ false
  pub exponent : ((head rest == 101) || (head rest == 69)) ≡ false

pub ends-none : Ends []
unfolding lex
ends-none = record { word = refl; value = refl; lexemes = refl; digits = refl; point = refl; exponent = refl }

pub ends-line : Ends (10 ∷ [])
unfolding lex
ends-line = record { word = refl; value = refl; lexemes = refl; digits = refl; point = refl; exponent = refl }

pub ends-comma : (rest : List ℕ) → Ends (44 ∷ rest)
unfolding lex
ends-comma rest = record { word = refl; value = refl; lexemes = refl; digits = refl; point = refl; exponent = refl }

pub ends-items : (rest : List ℕ) → Ends (93 ∷ rest)
unfolding lex
ends-items rest = record { word = refl; value = refl; lexemes = refl; digits = refl; point = refl; exponent = refl }

pub ends-members : (rest : List ℕ) → Ends (125 ∷ rest)
unfolding lex
ends-members rest = record { word = refl; value = refl; lexemes = refl; digits = refl; point = refl; exponent = refl }

-- what holds of each digit
each_digit : (P : ℕ → Type 0) → P 48 → P 49 → P 50 → P 51 → P 52 → P 53 → P 54 → P 55 → P 56 → P 57 → (c : ℕ) → digit_value c < 10 → P c
each_digit P d0 d1 d2 d3 d4 d5 d6 d7 d8 d9 c h =
    let digit = digit_from_value c h in
    apart_from P 48 c d0
    (λ p0. apart_from P 49 c d1
    (λ p1. apart_from P 50 c d2
    (λ p2. apart_from P 51 c d3
    (λ p3. apart_from P 52 c d4
    (λ p4. apart_from P 53 c d5
    (λ p5. apart_from P 54 c d6
    (λ p6. apart_from P 55 c d7
    (λ p7. apart_from P 56 c d8
    (λ p8. apart_from P 57 c d9
    (λ p9.
    absurd (omega (arith, digit.0, digit.1, eqb-false c 48 p0, eqb-false c 49 p1, eqb-false c 50 p2, eqb-false c 51 p3, eqb-false c 52 p4, eqb-false c 53 p5, eqb-false c 54 p6, eqb-false c 55 p7, eqb-false c 56 p8, eqb-false c 57 p9))))))))))))

record IsDigit (c : ℕ) : Type 0 where
  digit : is_ascii_digit c ≡ true
  class_is : class c ≡ other
  minus : (c == 45) ≡ false
  t : (c == 116) ≡ false
  f : (c == 102) ≡ false
  n : (c == 110) ≡ false

a_digit : (c : ℕ) → is_ascii_digit c ≡ true → class c ≡ other → (c == 45) ≡ false → ((c == 116) || (c == 102)) ≡ false → (c == 110) ≡ false → IsDigit c
a_digit c digit is minus words n = let both = or_parts (c == 116) (c == 102) words in record { digit = digit; class_is = is; minus = minus; t = both.0; f = both.1; n = n }

is_digit_of : (c : ℕ) → digit_value c < 10 → IsDigit c
is_digit_of =
    each_digit IsDigit (a_digit 48 refl refl refl refl refl) (a_digit 49 refl refl refl refl refl) (a_digit 50 refl refl refl refl refl) (a_digit 51 refl refl refl refl refl) (a_digit 52 refl refl refl refl refl)
    (a_digit 53 refl refl refl refl refl) (a_digit 54 refl refl refl refl refl) (a_digit 55 refl refl refl refl refl) (a_digit 56 refl refl refl refl refl) (a_digit 57 refl refl refl refl refl)

prefix_len-digits : (ds rest : List ℕ) → AllDigits 10 ds → prefix_len is_ascii_digit rest ≡ 0 → prefix_len is_ascii_digit (ds ++ rest) ≡ length ds
prefix_len-digits [] rest h e = e
prefix_len-digits (c ∷ cs) rest h e = let d = is_digit_of c h.0 in rw (d.digit, prefix_len-digits cs rest h.1 e) (omega arith)

lex-digits : (ds rest : List ℕ) → AllDigits 10 ds → lex in_word (ds ++ rest) ≡ lex in_word rest
unfolding lex
lex-digits [] rest h = refl
lex-digits (c ∷ cs) rest h = let d = is_digit_of c h.0 in rw d.class_is (lex-digits cs rest h.1)

drop-front : (xs rest : List ℕ) → drop (length xs) (xs ++ rest) ≡ rest
drop-front [] rest = refl
drop-front (x ∷ xs) rest = drop-front xs rest

take-front : (xs rest : List ℕ) → take (length xs) (xs ++ rest) ≡ xs
take-front [] rest = refl
take-front (x ∷ xs) rest = ap (λ ys. x ∷ ys) (take-front xs rest)

-- the digits of a whole number, with no zero before others
record AreWhole (ds : List ℕ) : Type 0 where
  digits : AllDigits 10 ds
  some : 0 < length ds
  lead : get_or ds 0 0 ≡ 48 → length ds ≡ 1

whole-decimal : (n : ℕ) → n < 2 ^ 64 → AreWhole (decimal n)
whole-decimal n h = let is = decimal_is_IsNumeral n h in record { digits = is.0.1; some = is.0.0; lead = lead } where
  lead : get_or (decimal n) 0 0 ≡ 48 → length (decimal n) ≡ 1
  lead zero = elim (cases_lt 0 n) as (λ _. length (decimal n) ≡ 1) [
    | inl positive ↦ absurd (omega (arith, first_decimal n positive h, zero))
    | inr none ↦ ap length (decimal_digit n (omega arith))
  ]

length_none : (xs : List ℕ) → length xs ≡ 0 → xs ≡ []
length_none [] h = refl
length_none (x ∷ xs) h = absurd (omega (arith, h))

after_whole-digits : (ds rest : List ℕ) → AreWhole ds → Ends rest → after_whole (ds ++ rest) ≡ Some rest
after_whole-digits [] rest w e = absurd (omega (arith, w.some))
after_whole-digits (c ∷ cs) rest w e = go (c == 48) refl where
  go : (b : Bool) → (c == 48) ≡ b → after_whole (c ∷ cs ++ rest) ≡ Some rest
  go true is = rw is (ap (λ xs. Some (xs ++ rest)) (length_none cs (omega (arith, w.lead (eqb-true c 48 is)))))
  go false differs =
      let len : prefix_len is_ascii_digit (c ∷ cs ++ rest) ≡ suc (length cs) = prefix_len-digits (c ∷ cs) rest w.digits e.digits in
      let some : (suc (length cs) == 0) ≡ false = ne_eqb (suc (length cs)) 0 (λ e. omega (arith, e)) in
      rw (differs, len, some) (ap Some (drop-front cs rest))

after_number-whole : (ds rest : List ℕ) → AreWhole ds → Ends rest → after_number (ds ++ rest) ≡ Some rest
unfolding after_number
after_number-whole [] rest w e = absurd (omega (arith, w.some))
after_number-whole (c ∷ cs) rest w e = rw ((is_digit_of c w.digits.0).minus, after_whole-digits (c ∷ cs) rest w e, e.point, e.exponent) refl

after_number-below_zero : (ds rest : List ℕ) → AreWhole ds → Ends rest → after_number (45 ∷ ds ++ rest) ≡ Some rest
unfolding after_number
after_number-below_zero ds rest w e = rw (after_whole-digits ds rest w e, e.point, e.exponent) refl

number_before-rest : (u rest : List ℕ) → Ends rest → number_before (u ++ rest) (Some rest) ≡ Token.number u
number_before-rest u rest e =
    let front : length (u ++ rest) - length rest ≡ length u = omega (arith, length-append u rest) in
    rw (e.word, front) (ap Token.number (take-front u rest))

lex-word : (x : ℕ) (xs rest : List ℕ) → class x ≡ other → ((x == 116) || (x == 102) || (x == 110)) ≡ false → after_number (x ∷ xs ++ rest) ≡ Some rest → lex in_word (xs ++ rest) ≡ lex in_word rest → Ends rest
    → lex between (x ∷ xs ++ rest) ≡ token (Token.number (x ∷ xs)) ∷ lex between rest
unfolding lex word
lex-word x xs rest is differs number passed e =
    let outer = or_parts ((x == 116) || (x == 102)) (x == 110) differs in
    let inside = or_parts (x == 116) (x == 102) outer.0 in
    rw (is, inside.0, inside.1, outer.1, number) (ap₂ (λ t ls. token t ∷ ls) (number_before-rest (x ∷ xs) rest e) (passed ∙ e.lexemes))

lex-whole : (ds rest : List ℕ) → AreWhole ds → Ends rest → lex between (ds ++ rest) ≡ token (Token.number ds) ∷ lex between rest
lex-whole [] rest w e = absurd (omega (arith, w.some))
lex-whole (c ∷ cs) rest w e =
    let d = is_digit_of c w.digits.0 in
    lex-word c cs rest d.class_is (rw (d.t, d.f, d.n) refl) (after_number-whole (c ∷ cs) rest w e) (lex-digits cs rest w.digits.1) e

-- an integer's digits are read as one number
pub lex-decimal : (n : ℕ) (rest : List ℕ) → n < 2 ^ 64 → Ends rest → lex between (decimal n ++ rest) ≡ token (Token.number (decimal n)) ∷ lex between rest
lex-decimal n rest h e = lex-whole (decimal n) rest (whole-decimal n h) e

pub lex-below_zero : (n : ℕ) (rest : List ℕ) → n < 2 ^ 63 → Ends rest → lex between (signed_decimal (negsuc n) ++ rest) ≡ token (Token.number (signed_decimal (negsuc n))) ∷ lex between rest
lex-below_zero n rest h e =
    let w = whole-decimal (suc n) (omega arith) in
    lex-word 45 (decimal (suc n)) rest refl refl (after_number-below_zero (decimal (suc n)) rest w e) (lex-digits (decimal (suc n)) rest w.digits) e

-- ---- the three literals

pub lex-true : (rest : List ℕ) → Ends rest → lex between (116 ∷ 114 ∷ 117 ∷ 101 ∷ rest) ≡ token (Token.boolean true) ∷ lex between rest
unfolding lex word
lex-true rest e = rw e.word (ap (λ ls. token (Token.boolean true) ∷ ls) e.lexemes)

pub lex-false : (rest : List ℕ) → Ends rest → lex between (102 ∷ 97 ∷ 108 ∷ 115 ∷ 101 ∷ rest) ≡ token (Token.boolean false) ∷ lex between rest
unfolding lex word
lex-false rest e = rw e.word (ap (λ ls. token (Token.boolean false) ∷ ls) e.lexemes)

pub lex-null : (rest : List ℕ) → Ends rest → lex between (110 ∷ 117 ∷ 108 ∷ 108 ∷ rest) ≡ token Token.null ∷ lex between rest
unfolding lex word
lex-null rest e = rw e.word (ap (λ ls. token Token.null ∷ ls) e.lexemes)
