-- References and operands are read as what their texts spell.
use Rattle.std.proofs.Common.{◌≡◌, ◌≢◌, ◌∙◌, ℕ, Bool, true, false, not, ◌||◌, cond, eqb, ◌==◌, List, [], ◌∷◌, ◌++◌, Some, None, option_map, option_and_then, bytes_eq, codes, refl, sym, ap, subst, inl, inr}
use Rattle.std.specs.List.{list_all, list_any}
use Rattle.std.specs.Char.{is_digit}
use Rattle.std.specs.Str.Parse.{signed_digits_value}
use Rattle.std.proofs.lemmas.Bool.{and_parts, and_from, and_left, or_left, or_right, or_parts, or_cases, false≢true}
use Rattle.std.proofs.lemmas.Slice.Eq.{bytes_eq-Decides}
use Rattle.yaml_plain.specs.Bytes.{quote, dash, is_empty, is_same}
use Rattle.yaml_plain.specs.Plain.{is_digits, is_whole, is_integer}
use Rattle.policy_model.specs.Keys.{Text, is_key, dotted, capture_word}
use Rattle.policy_model.specs.Grammar.{IsPath, SpellsReference, SpellsOperand, bar}
use Rattle.policy_model.specs.Reading.{referring, reference_of, ends_here, up_to_quote, operand_of, is_path_byte}
use Rattle.policy_model.specs.declared.expression.Constant.TheVariants as constant
use Rattle.policy_model.specs.declared.expression.Reference.{Reference}
use Rattle.policy_model.specs.declared.expression.Operand.{Operand}
use Rattle.policy_model.specs.declared.expression.Operand.TheVariants.{Constant as Written, Refers}
use Rattle.policy_grammar.proofs.Bytes.{apart, all_wider, same_is}
use Rattle.policy_grammar.proofs.Spaces.{IsBare, ends_behind}
use Rattle.policy_grammar.proofs.Parts.{cons_some}
use Rattle.policy_grammar.proofs.Operands.{reference, chosen}
use Rattle.policy_grammar.proofs.Runs.{Runs, runs_plain, runs_string}
use Rattle.policy_grammar.proofs.Paths.{path_complete, dotted_bytes, bare_from, path_bare}

-- ---- references

pub capture_same : bytes_eq capture_word capture_word ≡ true
capture_same = (bytes_eq-Decides capture_word capture_word).1 refl

refers : (name : Text) (path : List Text) → path ≢ [] → referring (capture_word ∷ name ∷ path) ≡ Some (reference name path)
refers name [] some = absurd (some refl)
refers name (key ∷ keys) some = ap (λ (v : Bool). cond v (Some (reference name (key ∷ keys))) None) capture_same

-- the keys of a reference
abbrev pub keys_of : Reference → List Text
keys_of r = capture_word ∷ r.name ∷ r.path

reference_path : (t : Text) (r : Reference) → SpellsReference t r → IsPath (keys_of r)
reference_path t r h = (cons_some capture_word (r.name ∷ r.path), and_from (is_key r.name) (list_all is_key r.path) h.name h.path.1)

-- a reference is read as the one that its text spells
pub reference_complete : (t : Text) (r : Reference) → SpellsReference t r → reference_of t ≡ Some r
reference_complete t r h =
    ap reference_of h.written
    ∙ ap (option_and_then referring) (path_complete (keys_of r) (reference_path t r h))
    ∙ refers r.name r.path h.path.0

-- ---- strings

string_ends : (s : Text) → list_any (λ b. b == quote) s ≡ false → up_to_quote (s ++ quote ∷ []) ≡ Some s
string_ends [] none = refl
string_ends (b ∷ bs) none =
    let both = or_parts (eqb b quote) (list_any (λ c. c == quote) bs) none in
    ap (λ (v : Bool). cond v (ends_here (bs ++ quote ∷ [])) (option_map (λ (s : Text). b ∷ s) (up_to_quote (bs ++ quote ∷ [])))) both.0
    ∙ ap (option_map (λ (s : Text). b ∷ s)) (string_ends bs both.1)

-- ---- whole numbers

-- a digit or a minus
abbrev is_number_byte : ℕ → Bool
is_number_byte b = is_digit b 10 || (b == dash)

number_byte : (b : ℕ) → is_digit b 10 ≡ true → is_number_byte b ≡ true
number_byte b is = or_left (is_digit b 10) (eqb b dash) is

digits_bytes : (t : Text) → is_digits t ≡ true → list_all is_number_byte t ≡ true
digits_bytes [] is = refl
digits_bytes (b ∷ bs) is =
    all_wider (λ c. is_digit c 10) is_number_byte number_byte (b ∷ bs) (and_parts (list_all (λ c. is_digit c 10) (b ∷ bs)) (not (b == 0x30)) is).0

whole_by : (v : Bool) (b : ℕ) (bs : Text) → eqb b dash ≡ v → cond v (is_digits bs) (is_same (b ∷ bs) (codes "0") || is_digits (b ∷ bs)) ≡ true → list_all is_number_byte (b ∷ bs) ≡ true
whole_by true b bs minus is = and_from (is_number_byte b) (list_all is_number_byte bs) (or_right (is_digit b 10) (eqb b dash) minus) (digits_bytes bs is)
whole_by false b bs minus is = elim (or_cases (is_same (b ∷ bs) (codes "0")) (is_digits (b ∷ bs)) is) [
  | inl same ↦ ap (list_all is_number_byte) (same_is (b ∷ bs) (codes "0") same)
  | inr digits ↦ digits_bytes (b ∷ bs) digits
]

whole_bytes : (t : Text) → is_whole t ≡ true → list_all is_number_byte t ≡ true
whole_bytes [] is = refl
whole_bytes (b ∷ bs) is = whole_by (eqb b dash) b bs refl is

integer_whole : (t : Text) → is_integer t ≡ true → is_whole t ≡ true
unfolding is_integer
integer_whole t is = (and_parts (is_whole t) _ is).0

integer_filled : (t : Text) → is_integer t ≡ true → is_empty t ≡ false
integer_filled [] is = absurd (false≢true (integer_whole [] is))
integer_filled (b ∷ bs) is = refl

-- a whole number is none of the other operands
integer_reads : (t : Text) → is_integer t ≡ true → operand_of t ≡ Some (Written (constant.Int (signed_digits_value 10 t)))
integer_reads [] is = absurd (false≢true (integer_whole [] is))
integer_reads (b ∷ bs) is =
    let first = (and_parts (is_number_byte b) (list_all is_number_byte bs) (whole_bytes (b ∷ bs) (integer_whole (b ∷ bs) is))).0 in
    let no_string : eqb b quote ≡ false = apart is_number_byte b quote first refl in
    let no_word : is_same (b ∷ bs) (codes "true") ≡ false = and_left (eqb b 116) (is_same bs (codes "rue")) (apart is_number_byte b 116 first refl) in
    let no_other : is_same (b ∷ bs) (codes "false") ≡ false = and_left (eqb b 102) (is_same bs (codes "alse")) (apart is_number_byte b 102 first refl) in
    λ k. chosen (b ∷ bs) (no_string k) (no_word k) (no_other k) (is k)

-- ---- operands

no_integer : (name : Text) (path : List Text) → is_integer (dotted (capture_word ∷ name ∷ path)) ≡ false
unfolding is_integer
no_integer name path = refl

reference_reads : (t : Text) (r : Reference) → SpellsReference t r → operand_of t ≡ Some (Refers r)
reference_reads t r h =
    ap operand_of h.written
    ∙ ap (chosen (dotted (keys_of r)) false false false) (no_integer r.name r.path)
    ∙ ap (option_map Refers) (ap reference_of (sym h.written) ∙ reference_complete t r h)

-- an operand is read as the one that its text spells
pub operand_complete : (t : Text) (operand : Operand) → SpellsOperand t operand → operand_of t ≡ Some operand
operand_complete t (Written (constant.Text s)) h = ap operand_of h.0 ∙ ap (option_map (λ (x : Text). Written (constant.Text x))) (string_ends s h.1)
operand_complete t (Written (constant.Int z)) h = integer_reads t h.0 ∙ ap (λ y. Some (Written (constant.Int y))) (sym h.1)
operand_complete t (Written (constant.Bool true)) h = ap operand_of h
operand_complete t (Written (constant.Bool false)) h = ap operand_of h
operand_complete t (Refers r) h = reference_reads t r h

-- it begins and ends with no space
pub operand_bare : (t : Text) (operand : Operand) → SpellsOperand t operand → IsBare t
operand_bare t (Written (constant.Text s)) h = subst IsBare (sym h.0) (refl, (refl, ends_behind (quote ∷ s) quote []))
operand_bare t (Written (constant.Int z)) h = bare_from is_number_byte refl t (integer_filled t h.0) (whole_bytes t (integer_whole t h.0))
operand_bare t (Written (constant.Bool true)) h = subst IsBare (sym h) (refl, (refl, refl))
operand_bare t (Written (constant.Bool false)) h = subst IsBare (sym h) (refl, (refl, refl))
operand_bare t (Refers r) h = subst IsBare (sym h.written) (path_bare (keys_of r) (reference_path t r h))

-- bytes of paths aren't bars
pub path_runs : (keys : List Text) → list_all is_key keys ≡ true → Runs bar false (dotted keys) false
path_runs keys all = runs_plain is_path_byte bar refl refl (dotted keys) (dotted_bytes keys all)

abbrev Unparted : Text → Type 0
Unparted t = Runs bar false t false

-- no bar of an operand parts steps
pub operand_runs : (t : Text) (operand : Operand) → SpellsOperand t operand → Runs bar false t false
operand_runs t (Written (constant.Text s)) h = subst Unparted (sym h.0) (runs_string bar s refl h.1)
operand_runs t (Written (constant.Int z)) h = runs_plain is_number_byte bar refl refl t (whole_bytes t (integer_whole t h.0))
operand_runs t (Written (constant.Bool true)) h = subst Unparted (sym h) (runs_plain is_path_byte bar refl refl (codes "true") refl)
operand_runs t (Written (constant.Bool false)) h = subst Unparted (sym h) (runs_plain is_path_byte bar refl refl (codes "false") refl)
operand_runs t (Refers r) h = subst Unparted (sym h.written) (path_runs (keys_of r) (reference_path t r h).1)
