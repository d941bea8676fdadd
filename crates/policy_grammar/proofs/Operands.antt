-- Paths, references and operands: what a text is read as, it spells.
use Rattle.std.proofs.Common.{◌≡◌, ◌∙◌, ℕ, Bool, true, false, cond, eqb, ◌==◌, ◌&&◌, List, [], ◌∷◌, ◌++◌, Option, Some, option_map, IfSome, bytes_eq, codes, refl, sym, ap}
use Rattle.std.specs.List.{list_all, list_any}
use Rattle.std.specs.Str.Parse.{signed_digits_value}
use Rattle.std.proofs.lemmas.Bool.{eqb-true, and_parts, or_from, false≢true}
use Rattle.std.proofs.lemmas.Slice.Eq.{bytes_eq-Decides}
use Rattle.yaml_plain.specs.Bytes.{quote, begins, tail, is_same}
use Rattle.yaml_plain.specs.Plain.{is_integer}
use Rattle.policy_model.specs.Keys.{Text, is_key, dot, dotted, capture_word}
use Rattle.policy_model.specs.Grammar.{IsPath, SpellsReference, SpellsOperand}
use Rattle.policy_model.specs.Reading.{between, path_of, referring, reference_of, ends_here, up_to_quote, operand_of}
use Rattle.policy_model.specs.declared.expression.Constant.TheVariants as constant
use Rattle.policy_model.specs.declared.expression.Reference.{Reference}
use Rattle.policy_model.specs.declared.expression.Operand.{Operand}
use Rattle.policy_model.specs.declared.expression.Operand.TheVariants.{Constant as Written, Refers}
use Rattle.policy_grammar.proofs.Options.{if_test, if_then, if_mapped}
use Rattle.policy_grammar.proofs.Bytes.{same_is}
use Rattle.policy_grammar.proofs.Parts.{cons_some, parts_some, parts_dotted}

-- ---- paths

-- the text is this path
abbrev pub IsPathOf : Text → List Text → Type 0
IsPathOf t keys = (t ≡ dotted keys) × IsPath keys

-- a text that is read as keys is a path of them
pub path_sound : (t : Text) → IfSome (path_of t) (IsPathOf t)
path_sound t =
    if_test (list_all is_key (between dot false t)) (Some (between dot false t)) (IsPathOf t)
    (λ all. (sym (parts_dotted t), (parts_some dot false t, all)))

-- ---- references

abbrev pub reference : Text → List Text → Reference
reference name path = record { name = name; path = path }

spelled : (t word name key : Text) (keys : List Text) → word ≡ capture_word → IsPathOf t (word ∷ name ∷ key ∷ keys) → SpellsReference t (reference name (key ∷ keys))
spelled t word name key keys is h =
    let all = and_parts (is_key word) (is_key name && (is_key key && list_all is_key keys)) h.1.1 in
    let own = and_parts (is_key name) (is_key key && list_all is_key keys) all.1 in
    record { written = h.0 ∙ ap (λ (w : Text). dotted (w ∷ name ∷ key ∷ keys)) is; name = own.0; path = (cons_some key keys, own.1) }

referring_sound : (t : Text) (keys : List Text) → IsPathOf t keys → IfSome (referring keys) (SpellsReference t)
referring_sound t [] h = tt
referring_sound t (word ∷ []) h = tt
referring_sound t (word ∷ name ∷ []) h = tt
referring_sound t (word ∷ name ∷ key ∷ keys) h =
    if_test (bytes_eq word capture_word) (Some (reference name (key ∷ keys))) (SpellsReference t)
    (λ same. spelled t word name key keys ((bytes_eq-Decides word capture_word).0 same) h)

-- a text that is read as a reference spells it
pub reference_sound : (t : Text) → IfSome (reference_of t) (SpellsReference t)
reference_sound t = if_then referring (path_of t) (IsPathOf t) (SpellsReference t) (path_sound t) (referring_sound t)

-- ---- strings

abbrev is_quote : ℕ → Bool
is_quote b = b == quote

-- the string, and a quote behind it
abbrev IsEnded : Text → Text → Type 0
IsEnded t s = (t ≡ s ++ quote ∷ []) × (list_any is_quote s ≡ false)

quote_ends : (b : ℕ) (bs : Text) → b ≡ quote → IfSome (ends_here bs) (IsEnded (b ∷ bs))
quote_ends b [] is = (ap (λ (c : ℕ). c ∷ []) is, refl)
quote_ends b (c ∷ cs) is = tt

ended_by : (b : ℕ) (bs : Text) (v : Bool) → eqb b quote ≡ v → IfSome (up_to_quote bs) (IsEnded bs) → IfSome (cond v (ends_here bs) (option_map (λ s. b ∷ s) (up_to_quote bs))) (IsEnded (b ∷ bs))
ended_by b bs true is h = quote_ends b bs (eqb-true b quote is)
ended_by b bs false is h =
    if_mapped (λ (s : Text). b ∷ s) (up_to_quote bs) (IsEnded bs) (IsEnded (b ∷ bs)) h
    (λ s e. (ap (λ (x : Text). b ∷ x) e.0, or_from (eqb b quote) (list_any is_quote s) is e.1))

-- the string behind a quote has none in it, and one behind it
up_to_quote_sound : (t : Text) → IfSome (up_to_quote t) (IsEnded t)
up_to_quote_sound [] = tt
up_to_quote_sound (b ∷ bs) = ended_by b bs (eqb b quote) refl (up_to_quote_sound bs)

string_sound : (t : Text) → begins quote t ≡ true → IfSome (option_map (λ s. Written (constant.Text s)) (up_to_quote (tail t))) (SpellsOperand t)
string_sound [] is = absurd (false≢true is)
string_sound (b ∷ bs) is =
    if_mapped (λ (s : Text). Written (constant.Text s)) (up_to_quote bs) (IsEnded bs) (SpellsOperand (b ∷ bs)) (up_to_quote_sound bs)
    (λ s e. (ap (λ (c : ℕ). c ∷ bs) (eqb-true b quote is) ∙ ap (λ (x : Text). quote ∷ x) e.0, e.1))

-- ---- operands

-- the operand by the tests of its text: for a quote, the two words and a number
abbrev pub chosen : Text → Bool → Bool → Bool → Bool → Option Operand
chosen t a b c d =
    cond a (option_map (λ s. Written (constant.Text s)) (up_to_quote (tail t)))
    (cond b (Some (Written (constant.Bool true)))
    (cond c (Some (Written (constant.Bool false)))
    (cond d (Some (Written (constant.Int (signed_digits_value 10 t))))
    (option_map Refers (reference_of t)))))

chosen_sound : (t : Text) (a b c d : Bool) → begins quote t ≡ a → is_same t (codes "true") ≡ b → is_same t (codes "false") ≡ c → is_integer t ≡ d
    → IfSome (chosen t a b c d) (SpellsOperand t)
chosen_sound t true b c d quoted word other number = string_sound t quoted
chosen_sound t false true c d quoted word other number = same_is t (codes "true") word
chosen_sound t false false true d quoted word other number = same_is t (codes "false") other
chosen_sound t false false false true quoted word other number = (number, refl)
chosen_sound t false false false false quoted word other number =
    if_mapped Refers (reference_of t) (SpellsReference t) (SpellsOperand t) (reference_sound t) (λ r h. h)

-- a text that is read as an operand spells it
pub operand_sound : (t : Text) → IfSome (operand_of t) (SpellsOperand t)
operand_sound t = chosen_sound t (begins quote t) (is_same t (codes "true")) (is_same t (codes "false")) (is_integer t) refl refl refl refl
