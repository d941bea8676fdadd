-- What clap's getters give, by the rows that were found.
use Rattle.std.proofs.Common.{◌≡◌, ◌∙◌, ◌^◌, ℕ, List, Bool, true, false, [], ◌∷◌, ap, refl, lt-ltb, ltb-true, codes, Option, Some, None, Result, Ok, Err, length, option_map, String, string_bytes}
use Rattle.std.specs.Prelude.{◌||◌, map, nat_lt, option_and_then, unwrap_or}
use Rattle.std.specs.Option.{option_map_or}
use Rattle.std.specs.List.{list_all, list_any}
use Rattle.std.specs.Str.{bytes_eq}
use Rattle.std.specs.Str.Parse.{AllDigits, ParsesUnsigned, digits_value, without_leading_plus}
use Rattle.std.specs.Char.{digit_value}
use Rattle.std.specs.Borrow.{Bor}
use Rattle.clap.specs.Words.{ReadsOne, Text, first_of, first_value, matched_of, one_text, raw_values, rows_of}
use Rattle.clap.specs.declared.parser.matches.Found.{Found}
use Rattle.clap.proofs.WalkLemmas.{both, first_value-rows, one_text-rows, raw_values-rows}
use Rattle.command_words.specs.Words.{is_number, is_set, nodes_in, nodes_or_one, number_in, number_of}

-- the text that was found
pub text_found : (name : Text) (found : Found) (text : Option (Bor Text)) → option_map (λ s. s.now) text ≡ first_value found name → option_map (λ s. s.now) text ≡ first_of name (rows_of found)
text_found name found text is = is ∙ first_value-rows found name

-- whether some item passes, once each was mapped
pub any_map : {A B : Type 0} (f : A → B) (p : B → Bool) (xs : List A) → list_any (λ x. p (f x)) xs ≡ list_any p (map f xs)
any_map f p [] = refl
any_map f p (x ∷ xs) = ap (λ rest. p (f x) || rest) (any_map f p xs)

-- whether `--` is among words
pub escape_among : {Z : Type 0} (words : List (String Z)) → list_any (λ word. bytes_eq (string_bytes word) (codes "--")) words ≡ list_any (λ word. bytes_eq word (codes "--")) (map string_bytes words)
escape_among = any_map string_bytes (λ word. bytes_eq word (codes "--"))

-- the folders that were found
pub nodes_found : (found : Found) (dirs : Option (List Text)) → dirs ≡ option_map raw_values (matched_of found (codes "DIR")) → nodes_or_one (unwrap_or dirs []) ≡ nodes_in (rows_of found)
nodes_found found dirs is = ap (λ (o : Option (List Text)). nodes_or_one (unwrap_or o [])) (is ∙ raw_values-rows found (codes "DIR"))

-- whether it is `true`
pub set_found : (name : Text) (found : Found) (text : Option (Bor Text)) → option_map (λ s. s.now) text ≡ first_value found name
    → option_map_or (λ s. bytes_eq s.now (codes "true")) text false ≡ is_set name (rows_of found)
set_found name found text is = over text ∙ ap (λ (o : Option Text). option_map_or (λ t. bytes_eq t (codes "true")) o false) (text_found name found text is)
  where
    over : (o : Option (Bor Text)) → option_map_or (λ s. bytes_eq s.now (codes "true")) o false ≡ option_map_or (λ t. bytes_eq t (codes "true")) (option_map (λ s. s.now) o) false
    over None = refl
    over (Some s) = refl

-- ---- numbers

digits_pass : (ds : Text) → AllDigits 10 ds → list_all (λ d. nat_lt (digit_value d) 10) ds ≡ true
digits_pass [] h = refl
digits_pass (d ∷ ds) h = rw (lt-ltb (digit_value d) 10 h.0) (digits_pass ds h.1)

digits_from : (ds : Text) → list_all (λ d. nat_lt (digit_value d) 10) ds ≡ true → AllDigits 10 ds
digits_from [] e = tt
digits_from (d ∷ ds) e =
    let parts = both _ _ e in
    (ltb-true _ _ parts.0, digits_from ds parts.1)

-- what std reads as a `u32` is the number of the text
number_read : {E : Type 0} (G : Text → Result ℕ E → Type 0) → ((t : Text) (r : Result ℕ E) → G t r → ParsesUnsigned 32 10 t r) → (text : Text) (number : Option ℕ) → ReadsOne G text number → number ≡ number_of text
number_read G parses text (Some n) read =
    let ds = without_leading_plus text in
    let h = parses text (Ok n) read in
    rw (lt-ltb 0 (length ds) h.0.0.0, digits_pass ds h.0.0.1, lt-ltb (digits_value 10 ds) (2 ^ 32) h.0.1) (ap (λ (v : ℕ). Some v) h.1)
number_read G parses text None read = go (is_number (without_leading_plus text)) refl
  where
    go : (b : Bool) → is_number (without_leading_plus text) ≡ b → None ≡ number_of text
    go false isnt = rw isnt refl
    go true holds =
        let outer = both _ _ holds in
        let inner = both _ _ outer.0 in
        absurd (parses text (Err read.0) read.1 ((ltb-true _ _ inner.0, digits_from (without_leading_plus text) inner.1), ltb-true _ _ outer.1))

-- the number of an argument
pub number_found : {E : Type 0} (G : Text → Result ℕ E → Type 0) → ((t : Text) (r : Result ℕ E) → G t r → ParsesUnsigned 32 10 t r) → (name : Text) (found : Found) (number : Option ℕ)
    → (one_text found name ≡ None → number ≡ None) → ((t : Text) → one_text found name ≡ Some t → ReadsOne G t number)
    → number ≡ number_in name (rows_of found)
number_found G parses name found number none value =
    go (one_text found name) refl ∙ ap (λ (o : Option Text). option_and_then number_of o) (one_text-rows found name)
  where
    go : (text : Option Text) → one_text found name ≡ text → number ≡ option_and_then number_of (one_text found name)
    go None is = rw is (none is)
    go (Some t) is = rw is (number_read G parses t number (value t is))
