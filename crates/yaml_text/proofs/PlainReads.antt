-- What stands without quotes is read again.
use Rattle.std.proofs.Common.{◌≡◌, ◌∙◌, ◌++◌, ℕ, ℤ, List, [], ◌∷◌, Bool, true, false, not, cond, eqb, refl, ap, subst, Some, None, Ok}
use Rattle.std.specs.Prelude.{◌||◌, ◌&&◌}
use Rattle.std.specs.List.{list_all}
use Rattle.std.specs.Char.{is_ascii_alphanumeric}
use Rattle.std.specs.Str.Parse.{signed_digits_value}
use Rattle.std.proofs.lemmas.Bool.{and_parts, not-true, false≢true}
use Rattle.std.proofs.lemmas.List.{append-nil}
use Rattle.doc_tree.specs.Shape.{nothing, truth, whole, text}
use Rattle.yaml_plain.specs.Bytes.{at_gap, at_break, trim_end, push_unless_blank}
use Rattle.yaml_plain.specs.Plain.{is_text, plain_value, plain_split, with_front, ends_plain, begins_plain}
use Rattle.yaml_read.specs.Quoted.{begins_quoted}
use Rattle.yaml_read.specs.Keys.{key, scalar}
use Rattle.yaml_text.specs.Scalars.{is_plain_byte, begins_with_letter_or_digit, ends_with_colon, is_plain}
use Rattle.yaml_text.proofs.ByteLaws.{apart, begins_plainly, no_quote}
use Rattle.yaml_plain.specs.declared.style.Style.TheVariants.{Block}

pub record PlainParts (s : List ℕ) : Type 0 where
  pub first : begins_with_letter_or_digit s ≡ true
  pub all : list_all is_plain_byte s ≡ true
  pub last : ends_with_colon s ≡ false
  pub is_text : is_text (plain_value s) ≡ true

pub plain_parts : (s : List ℕ) → is_plain s ≡ true → PlainParts s
unfolding is_plain
plain_parts s is =
    let both = and_parts (begins_with_letter_or_digit s && list_all is_plain_byte s) (not (ends_with_colon s) && is_text (plain_value s)) is in
    let front = and_parts (begins_with_letter_or_digit s) (list_all is_plain_byte s) both.0 in
    let back = and_parts (not (ends_with_colon s)) (is_text (plain_value s)) both.1 in
    record { first = front.0; all = front.1; last = not-true (ends_with_colon s) back.0; is_text = back.1 }

no_space : (b : ℕ) → is_plain_byte b ≡ true → eqb b 32 ≡ false
no_space b is = apart is_plain_byte b 32 is refl

split_step : (b : ℕ) (bs : List ℕ) → ends_plain Block false b bs ≡ false → eqb b 32 ≡ false → plain_split Block false (b ∷ bs) ≡ with_front b (plain_split Block false bs)
split_step b bs ends no_space =
    ap (λ (t : Bool). cond t ([], b ∷ bs) (with_front b (plain_split Block (eqb b 32) bs))) ends
    ∙ ap (λ (t : Bool). with_front b (plain_split Block t bs)) no_space

neither : (x : Bool) → ((x && false) || false) ≡ false
neither true = refl
neither false = refl

-- a plain byte ends no scalar, where another follows or it is no colon
no_end : (b c : ℕ) (cs : List ℕ) → eqb c 32 ≡ false → ends_plain Block false b (c ∷ cs) ≡ false
no_end b c cs is = rw is (neither (eqb b 58))

no_end_last : (b : ℕ) (bs : List ℕ) → eqb b 58 ≡ false → ends_plain Block false b bs ≡ false
no_end_last b bs is = rw is refl

-- up to a rest that ends it
pub plain_splits : (s rest : List ℕ) → list_all is_plain_byte s ≡ true → ends_with_colon s ≡ false → plain_split Block false rest ≡ ([], rest) → plain_split Block false (s ++ rest) ≡ (s, rest)
plain_splits [] rest all last ends = ends
plain_splits (b ∷ []) rest all last ends =
    split_step b rest (no_end_last b rest last) (no_space b (and_parts (is_plain_byte b) true all).0) ∙ ap (with_front b) ends
plain_splits (b ∷ c ∷ bs) rest all last ends =
    let here = and_parts (is_plain_byte b) (list_all is_plain_byte (c ∷ bs)) all in
    let next = and_parts (is_plain_byte c) (list_all is_plain_byte bs) here.1 in
    split_step b (c ∷ (bs ++ rest)) (no_end b c (bs ++ rest) (no_space c next.0)) (no_space b here.0) ∙ ap (with_front b) (plain_splits (c ∷ bs) rest here.1 last ends)

pub plain_trim : (s : List ℕ) → list_all is_plain_byte s ≡ true → trim_end s ≡ s
plain_trim [] all = refl
plain_trim (b ∷ []) all = rw (no_space b (and_parts (is_plain_byte b) true all).0) refl
plain_trim (b ∷ c ∷ cs) all = ap (push_unless_blank b) (plain_trim (c ∷ cs) (and_parts (is_plain_byte b) (list_all is_plain_byte (c ∷ cs)) all).1)

gap_breaks : (g : List ℕ) → at_gap g ≡ true → at_break Block g ≡ true
gap_breaks [] is = refl
gap_breaks (b ∷ bs) is = rw is refl

-- a key ends at its colon
pub colon_ends : (g : List ℕ) → at_gap g ≡ true → plain_split Block false (58 ∷ g) ≡ ([], 58 ∷ g)
colon_ends g is = rw (gap_breaks g is) refl

key_front : (s g : List ℕ) (b : ℕ) (bs : List ℕ) → s ≡ b ∷ bs → begins_quoted (b ∷ bs ++ 58 ∷ g) ≡ false → begins_plain Block (b ∷ bs ++ 58 ∷ g) ≡ true
    → plain_split Block false (s ++ (58 ∷ g)) ≡ (s, 58 ∷ g) → trim_end s ≡ s → at_gap g ≡ true → key Block (s ++ (58 ∷ g)) ≡ Some (s, g)
unfolding key
key_front s g b bs is bare plain split trim gap =
    let bare_s : begins_quoted (s ++ (58 ∷ g)) ≡ false = rw is bare in
    let plain_s : begins_plain Block (s ++ (58 ∷ g)) ≡ true = rw is plain in
    rw (bare_s, plain_s, split, trim, gap) refl

pub plain_key : (s g : List ℕ) → is_plain s ≡ true → at_gap g ≡ true → key Block (s ++ (58 ∷ g)) ≡ Some (s, g)
plain_key [] g is gap = let parts = plain_parts [] is in absurd (false≢true parts.first)
plain_key (b ∷ bs) g is gap =
    let parts = plain_parts (b ∷ bs) is in
    key_front (b ∷ bs) g b bs refl (no_quote is_ascii_alphanumeric b (bs ++ 58 ∷ g) parts.first refl refl) (begins_plainly is_ascii_alphanumeric b (bs ++ 58 ∷ g) parts.first refl refl refl refl)
    (plain_splits (b ∷ bs) (58 ∷ g) parts.all parts.last (colon_ends g gap)) (plain_trim (b ∷ bs) parts.all) gap

-- what is read as a text is read as itself
only_text : (a b c d : Bool) (z : ℤ) (s : List ℕ) → is_text (cond a (whole z) (cond b (truth true) (cond c (truth false) (cond d nothing (text s))))) ≡ true
    → cond a (whole z) (cond b (truth true) (cond c (truth false) (cond d nothing (text s)))) ≡ text s
only_text true b c d z s is = absurd (false≢true is)
only_text false true c d z s is = absurd (false≢true is)
only_text false false true d z s is = absurd (false≢true is)
only_text false false false true z s is = absurd (false≢true is)
only_text false false false false z s is = refl

pub text_value : (s : List ℕ) → is_text (plain_value s) ≡ true → plain_value s ≡ text s
unfolding plain_value
text_value s is = only_text _ _ _ _ (signed_digits_value 10 s) s is

-- the whole text is one scalar, and no key
pub split_whole : (s : List ℕ) → list_all is_plain_byte s ≡ true → ends_with_colon s ≡ false → plain_split Block false s ≡ (s, [])
split_whole s all last = subst (λ (x : List ℕ). plain_split Block false x ≡ (s, [])) (append-nil s) (plain_splits s [] all last refl)

pub plain_scalar : (b : ℕ) (bs : List ℕ) → begins_quoted (b ∷ bs) ≡ false → begins_plain Block (b ∷ bs) ≡ true → list_all is_plain_byte (b ∷ bs) ≡ true → ends_with_colon (b ∷ bs) ≡ false
    → scalar Block (b ∷ bs) ≡ Ok (plain_value (b ∷ bs), [])
unfolding scalar
plain_scalar b bs bare plain all last = rw (bare, plain, split_whole (b ∷ bs) all last, plain_trim (b ∷ bs) all) refl

pub plain_no_key : (b : ℕ) (bs : List ℕ) → begins_quoted (b ∷ bs) ≡ false → begins_plain Block (b ∷ bs) ≡ true → list_all is_plain_byte (b ∷ bs) ≡ true → ends_with_colon (b ∷ bs) ≡ false
    → key Block (b ∷ bs) ≡ None
unfolding key
plain_no_key b bs bare plain all last = rw (bare, plain, split_whole (b ∷ bs) all last) refl
