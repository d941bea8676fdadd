-- What stands in quotes is read again.
use Rattle.std.proofs.Common.{◌≡◌, ◌∙◌, ◌++◌, ◌/◌, ◌%◌, ◌<◌, ◌≤◌, ℕ, suc, zero, List, [], ◌∷◌, Bool, true, false, not, cond, eqb, ltb, refl, sym, ap, subst, arith, Option, Some, None, length, flat_map, append_assoc, length-append, inl, inr}
use Rattle.std.specs.Prelude.{◌||◌, ◌&&◌, option_map}
use Rattle.std.proofs.lemmas.Bool.{eqb-true, lt-ltb, le-ltb, agree_below_at, or_parts, or_cases, and_parts, not-true, ltb-true, false≢true}
use Rattle.std.proofs.lemmas.Str.{encode_ascii}
use Rattle.yaml_plain.specs.Bytes.{is_empty}
use Rattle.yaml_plain.specs.Plain.{with_front}
use Rattle.yaml_read.specs.Quoted.{single_quoted, double_quoted, hex_value, char_of, hex_escape, escape, piece, unescaped_within, unescaped, quoted}
use Rattle.yaml_text.specs.Scalars.{is_control, hex_digit, escaped, doubled}

-- ---- single quotes
single_step : (t : Bool) (b : ℕ) (x : List ℕ) → eqb b 39 ≡ t → single_quoted false ((cond t (39 ∷ 39 ∷ []) (b ∷ [])) ++ x) ≡ option_map (with_front b) (single_quoted false x)
single_step true b x is = ap (λ (k : ℕ). option_map (with_front k) (single_quoted false x)) (sym (eqb-true b 39 is))
single_step false b x is = rw is refl

pub single_reads : (s rest : List ℕ) → single_quoted true rest ≡ Some ([], rest) → single_quoted false (flat_map doubled s ++ (39 ∷ rest)) ≡ Some (s, rest)
single_reads [] rest ends = ends
single_reads (b ∷ bs) rest ends =
    ap (single_quoted false) (append_assoc (doubled b) (flat_map doubled bs) (39 ∷ rest))
    ∙ (single_step (eqb b 39) b (flat_map doubled bs ++ (39 ∷ rest)) refl ∙ ap (option_map (with_front b)) (single_reads bs rest ends))

-- ---- double quotes: the hexadecimal digits of a control byte
abbrev code : ℕ → List ℕ
code b = hex_digit (b / 16) ∷ hex_digit (b % 16) ∷ []

abbrev gives : ℕ → Option ℕ → Bool
gives b None = false
gives b (Some n) = eqb n b

abbrev code_fits : ℕ → Bool
code_fits b = gives b (hex_value (code b)) && ((not (eqb (hex_digit (b / 16)) 34) && not (eqb (hex_digit (b / 16)) 92)) && (not (eqb (hex_digit (b % 16)) 34) && not (eqb (hex_digit (b % 16)) 92)))

codes_fit : (b : ℕ) → b < 128 → code_fits b ≡ true
codes_fit b low = agree_below_at code_fits (λ _. true) 128 b refl low

gives_is : (b : ℕ) (o : Option ℕ) → gives b o ≡ true → o ≡ Some b
gives_is b None is = absurd (false≢true is)
gives_is b (Some n) is = ap (λ (k : ℕ). Some k) (eqb-true n b is)

abbrev with_fronts : List ℕ → List ℕ × List ℕ → List ℕ × List ℕ
with_fronts front p = (front ++ p.0, p.1)

four_fronts : (a b c d : ℕ) (o : Option (List ℕ × List ℕ)) → option_map (with_front a) (option_map (with_front b) (option_map (with_front c) (option_map (with_front d) o))) ≡ option_map (with_fronts (a ∷ b ∷ c ∷ d ∷ [])) o
four_fronts a b c d None = refl
four_fronts a b c d (Some p) = refl

two_fronts : (a b : ℕ) (o : Option (List ℕ × List ℕ)) → option_map (with_front a) (option_map (with_front b) o) ≡ option_map (with_fronts (a ∷ b ∷ [])) o
two_fronts a b None = refl
two_fronts a b (Some p) = refl

one_front : (a : ℕ) (o : Option (List ℕ × List ℕ)) → option_map (with_front a) o ≡ option_map (with_fronts (a ∷ [])) o
one_front a None = refl
one_front a (Some p) = refl

-- what stands for a byte between double quotes
record IsPiece (b : ℕ) (front : List ℕ) : Type 0 where
  pub scanned : (x : List ℕ) → double_quoted false (front ++ x) ≡ option_map (with_fronts front) (double_quoted false x)
  pub read : (x : List ℕ) → piece (front ++ x) ≡ Some (b ∷ [], x)
  pub filled : (x : List ℕ) → is_empty (front ++ x) ≡ false
  pub some : 1 ≤ length front

hex_scanned : (c d : ℕ) (x : List ℕ) → eqb c 34 ≡ false → eqb c 92 ≡ false → eqb d 34 ≡ false → eqb d 92 ≡ false
    → double_quoted false (92 ∷ 120 ∷ c ∷ d ∷ x) ≡ option_map (with_fronts (92 ∷ 120 ∷ c ∷ d ∷ [])) (double_quoted false x)
hex_scanned c d x c34 c92 d34 d92 = rw (c34, c92, d34, d92) (four_fronts 92 120 c d (double_quoted false x))

hex_read : (b c d : ℕ) (x : List ℕ) → b < 128 → hex_value (c ∷ d ∷ []) ≡ Some b → piece (92 ∷ 120 ∷ c ∷ d ∷ x) ≡ Some (b ∷ [], x)
unfolding piece escape hex_escape
hex_read b c d x low is =
    let long : ltb (length (c ∷ d ∷ x)) 2 ≡ false = le-ltb (length (c ∷ d ∷ x)) 2 (omega arith) in
    let char : char_of b ≡ Some b = rw (lt-ltb b 0xD800 (omega arith)) refl in
    rw (long, is, char, encode_ascii b low) refl

sign_read : (b : ℕ) (x : List ℕ) → (eqb b 34 || eqb b 92) ≡ true → piece (92 ∷ b ∷ x) ≡ Some (b ∷ [], x)
unfolding piece escape
sign_read b x is = elim (or_cases (eqb b 34) (eqb b 92) is) as (λ _. piece (92 ∷ b ∷ x) ≡ Some (b ∷ [], x)) [
  | inl e ↦ subst (λ (k : ℕ). piece (92 ∷ k ∷ x) ≡ Some (k ∷ [], x)) (sym (eqb-true b 34 e)) (ap (λ (bs : List ℕ). Some (bs, x)) (encode_ascii 34 (omega arith)))
  | inr e ↦ subst (λ (k : ℕ). piece (92 ∷ k ∷ x) ≡ Some (k ∷ [], x)) (sym (eqb-true b 92 e)) (ap (λ (bs : List ℕ). Some (bs, x)) (encode_ascii 92 (omega arith)))
]

bare_read : (b : ℕ) (x : List ℕ) → eqb b 92 ≡ false → piece (b ∷ x) ≡ Some (b ∷ [], x)
unfolding piece
bare_read b x is = rw is refl

pub control_low : (b : ℕ) → is_control b ≡ true → b < 128
control_low b is = elim (or_cases (ltb b 32) (eqb b 127) is) as (λ _. b < 128) [
  | inl e ↦ omega (arith, ltb-true b 32 e)
  | inr e ↦ omega (arith, eqb-true b 127 e)
]

piece_by : (t q : Bool) (b : ℕ) → is_control b ≡ t → (eqb b 34 || eqb b 92) ≡ q → IsPiece b (cond t (92 ∷ 120 ∷ code b) (cond q (92 ∷ b ∷ []) (b ∷ [])))
piece_by true q b is sign =
    let low = control_low b is in
    let fits = and_parts (gives b (hex_value (code b))) _ (codes_fit b low) in
    let digits = and_parts (not (eqb (hex_digit (b / 16)) 34) && not (eqb (hex_digit (b / 16)) 92)) (not (eqb (hex_digit (b % 16)) 34) && not (eqb (hex_digit (b % 16)) 92)) fits.1 in
    let first = and_parts (not (eqb (hex_digit (b / 16)) 34)) (not (eqb (hex_digit (b / 16)) 92)) digits.0 in
    let second = and_parts (not (eqb (hex_digit (b % 16)) 34)) (not (eqb (hex_digit (b % 16)) 92)) digits.1 in
    record {
      scanned = λ x. hex_scanned (hex_digit (b / 16)) (hex_digit (b % 16)) x (not-true _ first.0) (not-true _ first.1) (not-true _ second.0) (not-true _ second.1);
      read = λ x. hex_read b (hex_digit (b / 16)) (hex_digit (b % 16)) x low (gives_is b (hex_value (code b)) fits.0);
      filled = λ x. refl;
      some = omega arith;
    }
piece_by false true b is sign = record {
  scanned = λ x. two_fronts 92 b (double_quoted false x);
  read = λ x. sign_read b x sign;
  filled = λ x. refl;
  some = omega arith;
}
piece_by false false b is sign =
    let none = or_parts (eqb b 34) (eqb b 92) sign in
    record {
      scanned = λ x. bare_scanned b x none.0 none.1;
      read = λ x. bare_read b x none.1;
      filled = λ x. refl;
      some = omega arith;
    }
  where
    bare_scanned : (b : ℕ) (x : List ℕ) → eqb b 34 ≡ false → eqb b 92 ≡ false → double_quoted false (b ∷ x) ≡ option_map (with_fronts (b ∷ [])) (double_quoted false x)
    bare_scanned b x b34 b92 = rw (b34, b92) (one_front b (double_quoted false x))

is_piece : (b : ℕ) → IsPiece b (escaped b)
is_piece b = piece_by (is_control b) (eqb b 34 || eqb b 92) b refl refl

double_scanned : (s rest : List ℕ) → double_quoted false (flat_map escaped s ++ (34 ∷ rest)) ≡ Some (flat_map escaped s, rest)
double_scanned [] rest = refl
double_scanned (b ∷ bs) rest =
    ap (double_quoted false) (append_assoc (escaped b) (flat_map escaped bs) (34 ∷ rest))
    ∙ ((is_piece b).scanned (flat_map escaped bs ++ (34 ∷ rest)) ∙ ap (option_map (with_fronts (escaped b))) (double_scanned bs rest))

read_within : (n : ℕ) (s : List ℕ) → length (flat_map escaped s) ≤ n → unescaped_within n (flat_map escaped s) ≡ Some s
unfolding unescaped_within
read_within zero [] le = refl
read_within zero (b ∷ bs) le = absurd (omega (arith, (is_piece b).some, length-append (escaped b) (flat_map escaped bs)))
read_within (suc n) [] le = refl
read_within (suc n) (b ∷ bs) le =
    let p = is_piece b in
    let more : unescaped_within n (flat_map escaped bs) ≡ Some bs = read_within n bs (omega (arith, p.some, length-append (escaped b) (flat_map escaped bs))) in
    rw (p.filled (flat_map escaped bs), p.read (flat_map escaped bs), more) refl

pub double_reads : (s rest : List ℕ) → quoted (34 ∷ (flat_map escaped s ++ (34 ∷ rest))) ≡ Some (s, rest)
unfolding quoted unescaped
double_reads s rest = rw (double_scanned s rest, read_within (length (flat_map escaped s)) s (omega arith)) refl

pub single_reads_quoted : (s rest : List ℕ) → single_quoted true rest ≡ Some ([], rest) → quoted (39 ∷ (flat_map doubled s ++ (39 ∷ rest))) ≡ Some (s, rest)
unfolding quoted
single_reads_quoted s rest ends = single_reads s rest ends
