-- The lines of a text and the words of a line, one after the other.
use Rattle.std.proofs.Common.{◌≡◌, ◌<◌, ◌≤◌, ◌+◌, ◌-◌, ◌^◌, ◌∙◌, inl, inr, ℕ, suc, List, [], ◌∷◌, ◌++◌, Bool, true, false, length, take, drop, refl, sym, ap, arith, Option, Some, None, append_assoc, length-drop}
use Rattle.std.specs.Prelude.{◌==◌, ◌&&◌, String, map, string_bytes, nat_lt, nat_le, not, option_map, MatchOption, nat_eq as eqb, Result, Ok, Err}
use Rattle.std.specs.Borrow.{Bor}
use Rattle.std.specs.declared.alloc.Global.{Global}
use Rattle.std.specs.Str.{is_utf8, IsUtf8}
use Rattle.std.proofs.lemmas.Str.{IsUtf8-from_is_utf8, is_utf8-from_IsUtf8}
use Rattle.std.specs.List.{position, position_or_len, before_first, after_first, list_all}
use Rattle.std.specs.Char.{digit_value}
use Rattle.std.specs.Str.Parse.{AllDigits, IsNumeral, digits_value, without_leading_plus}
use Rattle.std.proofs.lemmas.Bool.{cases_Bool, and_parts, ltb-true, ltb-false, lt-ltb, le-ltb, leb-true, eqb-true, ne_eqb}
use Rattle.std.proofs.lemmas.List.{take_all, map_push, append-nil}
use Rattle.std.proofs.lemmas.List.Sums.{prefix_len-le-length}
use Rattle.net_model.specs.Words.{is_empty}
use Rattle.doc_tree.specs.declared.limits.TheConstants.{MAX_BYTES}
use Rattle.order_reading.specs.Steps.{moment_of, unless_empty, IsFirstWord, line_steps}
use Rattle.top_model.specs.Orders.{Text}
use Rattle.top_model.specs.Lines.{onto_first, lines_of, words_in, is_digit, begins_well, is_moment, Timed, timed, step_of, is_skipped, and_rest, steps_from, steps_of, timed_of}
use Rattle.top_model.specs.Scripts.{as_steps}
use Rattle.top_model.specs.declared.Step.{Step}
use Rattle.top_model.specs.declared.Cause.TheVariants.{BadLine}

take_more : (n x : ℕ) (xs : Text) → take (1 + n) (x ∷ xs) ≡ x ∷ take n xs
take_more n x xs = let e : 1 + n ≡ suc n = omega arith in rw e refl

drop_more : (n x : ℕ) (xs : Text) → drop ((1 + n) + 1) (x ∷ xs) ≡ drop (n + 1) xs
drop_more n x xs = let e : (1 + n) + 1 ≡ suc (n + 1) = omega arith in rw e refl

-- ---- lines

line_step : (byte : ℕ) (bytes : Text) (n : ℕ) → lines_of bytes ≡ take n bytes ∷ lines_of (drop (n + 1) bytes) → onto_first byte (lines_of bytes) ≡ take (1 + n) (byte ∷ bytes) ∷ lines_of (drop ((1 + n) + 1) (byte ∷ bytes))
line_step byte bytes n h = rw (h, take_more n byte bytes, drop_more n byte bytes) refl

-- a line with its end, and the lines that follow
pub line_before : (bytes : Text) → position_or_len (λ byte. byte == 10) bytes < length bytes
    → lines_of bytes ≡ take (position_or_len (λ byte. byte == 10) bytes) bytes ∷ lines_of (drop (position_or_len (λ byte. byte == 10) bytes + 1) bytes)
line_before [] within = absurd (omega arith)
line_before (byte ∷ bytes) within = elim (cases_Bool (byte == 10)) [
  | inl ends ↦ rw ends refl
  | inr not ↦
      let w = rw not at within in
      rw not (line_step byte bytes (position_or_len (λ byte. byte == 10) bytes) (line_before bytes (omega (arith, w))))
]

-- the last line, where it has no end
pub line_alone : (bytes : Text) → 0 < length bytes → position_or_len (λ byte. byte == 10) bytes ≡ length bytes → lines_of bytes ≡ bytes ∷ []
line_alone [] some all = absurd (omega arith)
line_alone (byte ∷ []) some all = elim (cases_Bool (byte == 10)) [
  | inl ends ↦ let w = rw ends at all in absurd (omega (arith, w))
  | inr not ↦ rw not refl
]
line_alone (byte ∷ next ∷ bytes) some all = elim (cases_Bool (byte == 10)) [
  | inl ends ↦ let w = rw ends at all in absurd (omega (arith, w))
  | inr not ↦
      let w = rw not at all in
      let h : lines_of (next ∷ bytes) ≡ (next ∷ bytes) ∷ [] = line_alone (next ∷ bytes) (omega arith) (omega (arith, w)) in
      rw not (ap (onto_first byte) h)
]

found_at : (bytes : Text) (n : ℕ) → position (λ byte. byte == 10) bytes ≡ Some n → (n ≡ position_or_len (λ byte. byte == 10) bytes) × (position_or_len (λ byte. byte == 10) bytes < length bytes)
found_at bytes n is = elim (cases_Bool (nat_lt (position_or_len (λ byte. byte == 10) bytes) (length bytes))) [
  | inl within ↦ let w = rw within at is in (cc, ltb-true _ _ within)
  | inr past ↦ let w = rw past at is in absurd cc
]

found_nowhere : (bytes : Text) → position (λ byte. byte == 10) bytes ≡ None → position_or_len (λ byte. byte == 10) bytes ≡ length bytes
found_nowhere bytes is = elim (cases_Bool (nat_lt (position_or_len (λ byte. byte == 10) bytes) (length bytes))) [
  | inl within ↦ let w = rw within at is in absurd cc
  | inr past ↦
      let most : position_or_len (λ byte. byte == 10) bytes ≤ length bytes = prefix_len-le-length (λ byte. not (byte == 10)) bytes in
      let least : length bytes ≤ position_or_len (λ byte. byte == 10) bytes = ltb-false _ _ past in
      omega (arith, most, least)
]

-- the first line, and what follows its end as a slice has it
pub line_first : (bytes : Text) (n : ℕ) → position (λ byte. byte == 10) bytes ≡ Some n → lines_of bytes ≡ take n bytes ∷ lines_of (take (length bytes - (n + 1)) (drop (n + 1) bytes))
line_first bytes n is =
    let (same, within) = found_at bytes n is in
    let short : length (drop (n + 1) bytes) ≤ length bytes - (n + 1) = rw length-drop (omega arith) in
    rw (take_all (length bytes - (n + 1)) (drop (n + 1) bytes) short, same) (line_before bytes within)

pub line_last : (bytes : Text) → 0 < length bytes → position (λ byte. byte == 10) bytes ≡ None → lines_of bytes ≡ bytes ∷ []
line_last bytes some is = line_alone bytes some (found_nowhere bytes is)

-- a text that isn't empty has a line
pub some_line : (bytes : Text) → 0 < length bytes → is_empty (lines_of bytes) ≡ false
some_line [] some = absurd (omega arith)
some_line (byte ∷ bytes) some = elim (cases_Bool (byte == 10)) [
  | inl ends ↦ rw ends refl
  | inr not ↦ rw not (onto_some byte (lines_of bytes))
]
  where
    onto_some : (byte : ℕ) (parts : List Text) → is_empty (onto_first byte parts) ≡ false
    onto_some byte [] = refl
    onto_some byte (part ∷ parts) = refl

-- ---- words

word_step : (byte : ℕ) (bytes : Text) (n : ℕ) → words_in bytes ≡ take n bytes ∷ words_in (drop (n + 1) bytes) → onto_first byte (words_in bytes) ≡ take (1 + n) (byte ∷ bytes) ∷ words_in (drop ((1 + n) + 1) (byte ∷ bytes))
word_step byte bytes n h = rw (h, take_more n byte bytes, drop_more n byte bytes) refl

-- a word, and those that follow its space
pub word_before : (bytes : Text) → position_or_len (λ byte. byte == 32) bytes < length bytes → words_in bytes ≡ before_first (λ byte. byte == 32) bytes ∷ words_in (after_first (λ byte. byte == 32) bytes)
word_before [] within = absurd (omega arith)
word_before (byte ∷ bytes) within = elim (cases_Bool (byte == 32)) [
  | inl ends ↦ rw ends refl
  | inr not ↦
      let w = rw not at within in
      rw not (word_step byte bytes (position_or_len (λ byte. byte == 32) bytes) (word_before bytes (omega (arith, w))))
]

-- the last word
pub word_alone : (bytes : Text) → position_or_len (λ byte. byte == 32) bytes ≡ length bytes → words_in bytes ≡ bytes ∷ []
word_alone [] all = refl
word_alone (byte ∷ bytes) all = elim (cases_Bool (byte == 32)) [
  | inl ends ↦ let w = rw ends at all in absurd (omega (arith, w))
  | inr not ↦ let w = rw not at all in let h : words_in bytes ≡ bytes ∷ [] = word_alone bytes (omega (arith, w)) in rw (not, h) refl
]

pub first_word : (text : Text) (r : Option (Bor Text × Bor Text)) → MatchOption r (position_or_len (λ b. eqb b 32) text ≡ length text)
    (λ x. (position_or_len (λ b. eqb b 32) text < length text) × (x.0.now ≡ before_first (λ b. eqb b 32) text) × (x.1.now ≡ after_first (λ b. eqb b 32) text))
    → IsFirstWord text r
first_word text None h = word_alone text h
first_word text (Some (word, more)) h =
    (rw (h.1, h.2) (word_before text h.0), rw (h.2, length-drop) (omega (arith, h.0)))

-- ---- words of which none is empty

pub in_front : List Text → List Text → List Text
in_front done words = done ++ words

pub none_so_far : (words : Option (List Text)) → option_map (in_front []) words ≡ words
unfolding in_front
none_so_far None = refl
none_so_far (Some words) = refl

-- a word more
pub word_more : (done : List Text) (word : Text) (words : List Text) → is_empty word ≡ false
    → option_map (in_front done) (unless_empty (word ∷ words)) ≡ option_map (in_front (done ++ word ∷ [])) (unless_empty words)
unfolding in_front
word_more done word words some = elim (cases_Bool (list_all (λ w. not (is_empty w)) words)) [
  | inl all ↦ rw (some, all) (ap (λ (ws : List Text). Some ws) (sym (append_assoc done (word ∷ []) words)))
  | inr not ↦ rw (some, not) refl
]

-- an empty word
pub word_none : (done : List Text) (words : List Text) → option_map (in_front done) (unless_empty ([] ∷ words)) ≡ None
word_none done words = refl

pub word_last : (done : List Text) (word : Text) → is_empty word ≡ false → option_map (in_front done) (unless_empty (word ∷ [])) ≡ Some (done ++ word ∷ [])
unfolding in_front
word_last done word some = rw some refl

-- what the vector of words has after one more
pub pushed : (words new : List (String Global)) (s : String Global) (word : Text) → new ≡ words ++ s ∷ [] → string_bytes s ≡ word → map string_bytes new ≡ map string_bytes words ++ word ∷ []
pushed words new s word is same = ap (λ (ws : List (String Global)). map string_bytes ws) is ∙ (map_push string_bytes words s ∙ ap (λ (w : Text). map string_bytes words ++ w ∷ []) same)

pub not_empty : (word : Text) → (length word == 0) ≡ false → is_empty word ≡ false
not_empty [] is = cc
not_empty (byte ∷ bytes) is = refl

-- one turn more
pub words_on : (rest word more : Text) (done new : List Text) (all : Option (List Text)) → words_in rest ≡ word ∷ words_in more → is_empty word ≡ false → new ≡ done ++ word ∷ []
    → option_map (in_front done) (unless_empty (words_in rest)) ≡ all → option_map (in_front new) (unless_empty (words_in more)) ≡ all
words_on rest word more done new all is some next so_far =
    rw next (sym (word_more done word (words_in more) some) ∙ (ap (λ (ws : List Text). option_map (in_front done) (unless_empty ws)) (sym is) ∙ so_far))

-- all words
pub words_all : (rest : Text) (done new : List Text) (all : Option (List Text)) → words_in rest ≡ rest ∷ [] → is_empty rest ≡ false → new ≡ done ++ rest ∷ []
    → option_map (in_front done) (unless_empty (words_in rest)) ≡ all → Some new ≡ all
words_all rest done new all is some next so_far =
    rw next (sym (word_last done rest some) ∙ (ap (λ (ws : List Text). option_map (in_front done) (unless_empty ws)) (sym is) ∙ so_far))

-- ---- moments

digit_below : (c : ℕ) → is_digit c ≡ true → digit_value c < 10
digit_below c is =
    let (low, high) = and_parts (nat_le 48 c) (nat_le c 57) is in
    let l : 48 ≤ c = leb-true 48 c low in
    let h : c ≤ 57 = leb-true c 57 high in
    let a : nat_lt c 48 ≡ false = le-ltb c 48 l in
    let b : nat_lt c 58 ≡ true = lt-ltb c 58 (omega (arith, h)) in
    rw (a, b) (omega (arith, l, h))

digits : (text : Text) → list_all is_digit text ≡ true → AllDigits 10 text
digits [] all = tt
digits (c ∷ cs) all = let (first, rest) = and_parts (is_digit c) (list_all is_digit cs) all in (digit_below c first, digits cs rest)

unsigned_is : (text : Text) → list_all is_digit text ≡ true → begins_well text ≡ true → (without_leading_plus text ≡ text) × (0 < length text)
unsigned_is [] all well = cc
unsigned_is (c ∷ cs) all well =
    let (first, rest) = and_parts (is_digit c) (list_all is_digit cs) all in
    let (low, high) = and_parts (nat_le 48 c) (nat_le c 57) first in
    let l : 48 ≤ c = leb-true 48 c low in
    let e : (c == 43) ≡ false = ne_eqb c 43 (omega (arith, l)) in
    (rw e refl, omega arith)

-- a number that is too large, and no other text of digits, isn't read
pub no_moment : (text : Text) → list_all is_digit text ≡ true → begins_well text ≡ true
    → ¬ (IsNumeral 10 (without_leading_plus text) × (digits_value 10 (without_leading_plus text) < 2 ^ 64)) → None ≡ moment_of text
no_moment text all well unread =
    let (same, some) = unsigned_is text all well in
    let u = rw same at unread in
    elim (cases_Bool (nat_lt (digits_value 10 text) (2 ^ 64))) [
      | inl within ↦ absurd (u ((some, digits text all), ltb-true _ _ within))
      | inr past ↦ rw (all, well, past) refl
    ]

-- ---- one line

some_word : (more : Text) → is_empty (words_in more) ≡ false
some_word [] = refl
some_word (byte ∷ bytes) = elim (cases_Bool (byte == 32)) [
  | inl ends ↦ rw ends refl
  | inr not ↦ rw not (onto_some byte (words_in bytes))
]
  where
    onto_some : (byte : ℕ) (parts : List Text) → is_empty (onto_first byte parts) ≡ false
    onto_some byte [] = refl
    onto_some byte (part ∷ parts) = refl

pub step_from : Option ℕ → Option (List Text) → Option Timed
step_from (Some moment) (Some words) = Some (record { at = moment; words = words })
step_from (Some moment) None = None
step_from None words = None

timed_parts : (moment : Text) (parts : List Text) → is_empty parts ≡ false → timed (moment ∷ parts) ≡ step_from (moment_of moment) (unless_empty parts)
unfolding step_from
timed_parts moment [] some = cc
timed_parts moment (word ∷ words) some = elim (cases_Bool (is_moment moment)) [
  | inl is ↦ elim (cases_Bool (list_all (λ w. not (is_empty w)) (word ∷ words))) [
    | inl all ↦ rw (is, all) refl
    | inr one ↦ rw (is, one) refl
  ]
  | inr not ↦ rw not refl
]

-- a moment and the words behind its space
pub timed_is : (line moment more : Text) → words_in line ≡ moment ∷ words_in more → timed (words_in line) ≡ step_from (moment_of moment) (unless_empty (words_in more))
timed_is line moment more is = rw is (timed_parts moment (words_in more) (some_word more))

pub no_moment_there : (line moment more : Text) → words_in line ≡ moment ∷ words_in more → None ≡ moment_of moment → None ≡ timed (words_in line)
unfolding step_from
no_moment_there line moment more is none = rw (timed_is line moment more is, ← none) refl

pub no_words_there : (line moment more : Text) (at : ℕ) → words_in line ≡ moment ∷ words_in more → Some at ≡ moment_of moment → None ≡ unless_empty (words_in more) → None ≡ timed (words_in line)
unfolding step_from
no_words_there line moment more at is some none = rw (timed_is line moment more is, ← some, ← none) refl

pub step_there : (line moment more : Text) (at : ℕ) (words : List Text) → words_in line ≡ moment ∷ words_in more → Some at ≡ moment_of moment → Some words ≡ unless_empty (words_in more)
    → Some (record { at = at; words = words }) ≡ timed (words_in line)
unfolding step_from
step_there line moment more at words is some all = rw (timed_is line moment more is, ← some, ← all) refl

pub one_word : (line : Text) → words_in line ≡ line ∷ [] → None ≡ timed (words_in line)
one_word line is = rw is refl

pub step_line : (bytes : Text) → IsUtf8 bytes → step_of bytes ≡ timed (words_in bytes)
step_line bytes is = rw (is_utf8-from_IsUtf8 bytes is) refl

pub no_step : (bytes : Text) → ¬ (IsUtf8 bytes) → None ≡ step_of bytes
no_step bytes not = elim (cases_Bool (is_utf8 bytes)) [
  | inl is ↦ absurd (not (IsUtf8-from_is_utf8 bytes is))
  | inr other ↦ rw other refl
]

-- ---- all lines

pub steps_before : List Timed → Result (List Timed) ℕ → Result (List Timed) ℕ
steps_before done (Ok steps) = Ok (done ++ steps)
steps_before done (Err n) = Err n

pub before_none : (steps : Result (List Timed) ℕ) → steps_before [] steps ≡ steps
unfolding steps_before
before_none (Ok steps) = refl
before_none (Err n) = refl

pub before_both : (done more : List Timed) (steps : Result (List Timed) ℕ) → steps_before done (steps_before more steps) ≡ steps_before (done ++ more) steps
unfolding steps_before
before_both done more (Ok steps) = ap (λ (s : List Timed). Ok s) (sym (append_assoc done more steps))
before_both done more (Err n) = refl

pub before_bad : (done : List Timed) (n : ℕ) → steps_before done (Err n) ≡ Err n
unfolding steps_before
before_bad done n = refl

and_before : (n : ℕ) (step : Option Timed) (more : List Timed) (steps : Result (List Timed) ℕ) → option_map (λ t. t ∷ []) step ≡ Some more → and_rest n step steps ≡ steps_before more steps
unfolding steps_before
and_before n None more steps is = cc
and_before n (Some t) more (Ok steps) is = let e : t ∷ [] ≡ more = cc in rw (← e) refl
and_before n (Some t) more (Err bad) is = refl

and_bad : (n : ℕ) (step : Option Timed) (steps : Result (List Timed) ℕ) → option_map (λ t. t ∷ []) step ≡ None → and_rest n step steps ≡ Err n
and_bad n None steps is = refl
and_bad n (Some t) steps is = cc

-- the last line of a text that reaches past the limit
pub line_cut : (past : Bool) (n : ℕ) (line : Text) (lines : List Text) → (past && is_empty lines) ≡ true → steps_from past n (line ∷ lines) ≡ Err n
line_cut past n line lines cut = rw cut refl

-- a line that may stand, and those behind it
pub line_stands : (past : Bool) (n : ℕ) (line : Text) (lines : List Text) (more : List Timed) → (past && is_empty lines) ≡ false → line_steps line ≡ Some more
    → steps_from past n (line ∷ lines) ≡ steps_before more (steps_from past (n + 1) lines)
line_stands past n line lines more cut is = elim (cases_Bool (is_skipped line)) [
  | inl skipped ↦ let w = rw skipped at is in let e : [] ≡ more = cc in rw (cut, skipped, ← e) (sym (before_none (steps_from past (n + 1) lines)))
  | inr step ↦ let w = rw step at is in rw (cut, step) (and_before n (step_of line) more (steps_from past (n + 1) lines) w)
]

-- one that is none
pub line_bad : (past : Bool) (n : ℕ) (line : Text) (lines : List Text) → (past && is_empty lines) ≡ false → line_steps line ≡ None → steps_from past n (line ∷ lines) ≡ Err n
line_bad past n line lines cut is = elim (cases_Bool (is_skipped line)) [
  | inl skipped ↦ let w = rw skipped at is in absurd cc
  | inr step ↦ let w = rw step at is in rw (cut, step) (and_bad n (step_of line) (steps_from past (n + 1) lines) w)
]

pub steps_are : (bytes : Text) → steps_of bytes ≡ steps_from (nat_lt MAX_BYTES (length bytes)) 1 (lines_of bytes)
unfolding steps_of
steps_are bytes = refl

pub no_lines : (rest : Text) → (length rest == 0) ≡ is_empty (lines_of rest)
no_lines [] = refl
no_lines (byte ∷ bytes) = ne_eqb (suc (length bytes)) 0 (omega arith) ∙ sym (some_line (byte ∷ bytes) (omega arith))

-- the step of a line behind those so far
pub line_taken : (line : Text) (step : Timed) → is_skipped line ≡ false → Some step ≡ step_of line → line_steps line ≡ Some (step ∷ [])
line_taken line step skipped is = rw (skipped, ← is) refl

pub step_pushed : (steps new : List Step) (step : Step) → new ≡ steps ++ step ∷ [] → map timed_of new ≡ map timed_of steps ++ timed_of step ∷ []
step_pushed steps new step is = ap (λ (ss : List Step). map timed_of ss) is ∙ map_push timed_of steps step

-- a line that is none ends it
pub bad_line : (bytes : Text) (done : List Timed) (left : Result (List Timed) ℕ) (n : ℕ) → steps_before done left ≡ steps_of bytes → left ≡ Err n → as_steps (steps_of bytes) ≡ Err (BadLine n)
unfolding steps_before
bad_line bytes done left n so_far is = let h = rw is at so_far in rw (← h) refl

-- one turn more
pub steps_on : (bytes : Text) (done new more : List Timed) (left next : Result (List Timed) ℕ) → steps_before done left ≡ steps_of bytes → left ≡ steps_before more next → new ≡ done ++ more
    → steps_before new next ≡ steps_of bytes
steps_on bytes done new more left next so_far is grown = rw grown (sym (before_both done more next) ∙ (ap (steps_before done) (sym is) ∙ so_far))

-- all lines
pub steps_all : (bytes rest : Text) (past : Bool) (n : ℕ) (done : List Timed) → steps_before done (steps_from past n (lines_of rest)) ≡ steps_of bytes → (length rest == 0) ≡ true
    → as_steps (steps_of bytes) ≡ Ok done
unfolding steps_before
steps_all bytes [] past n done so_far empty = rw (← so_far) (ap (λ (s : List Timed). Ok s) (append-nil done))
steps_all bytes (byte ∷ rest) past n done so_far empty = let e : suc (length rest) ≡ 0 = eqb-true (suc (length rest)) 0 empty in absurd (omega (arith, e))
