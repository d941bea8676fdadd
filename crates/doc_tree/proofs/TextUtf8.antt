-- The JSON text of a tree is UTF-8, where its strings and keys are.
use Rattle.std.proofs.Common.{◌≡◌, ◌∙◌, ◌++◌, ◌∷◌, [], ◌<◌, ◌≤◌, ◌^◌, ◌/◌, ◌%◌, ◌+◌, ℕ, ℤ, pos, negsuc, List, Bool, true, false, Some, None, refl, sym, ap, subst, ⊎_elim, arith, append_assoc, append-nil, cond, decimal, ltb-true, le-ltb}
use Rattle.std.specs.Prelude.{unwrap_or, nat_lt, if◌then◌else◌}
use Rattle.std.specs.Char.{encode_utf8, IsScalar}
use Rattle.std.specs.Fmt.{signed_decimal}
use Rattle.std.specs.Str.{IsUtf8, is_utf8, chars, encode_utf8_all, all_scalars}
use Rattle.std.proofs.lemmas.Bool.{and_parts, agree_below_at, cases_lt}
use Rattle.std.proofs.lemmas.Fmt.{IsAscii-decimal, IsAscii-signed}
use Rattle.std.proofs.lemmas.Str.{IsUtf8-append, IsUtf8-encode, IsUtf8-from_ascii, IsUtf8-from_is_utf8, IsUtf8-nil, encode_ascii}
use Rattle.json.specs.Print.{escape, escape_byte, quoted}
use Rattle.serde_json.specs.Data.{null, number, unsigned, negative}
use Rattle.serde_json.specs.Written.{compact_text, items_text, members_text, comma_if}
use Rattle.doc_tree.specs.Shape.{Shape, nothing, truth, whole, text, list, mapping, Shapes, no_shapes, more, Pairs, no_pairs, pair}
use Rattle.doc_tree.specs.Order.{comes_before, insert, in_order, shapes_in_order, pairs_onto}
use Rattle.doc_tree.specs.JsonText.{number_of, data_of, items_of, members_of, json_text}
use Rattle.doc_tree.specs.Strings.{HasUtf8, ShapesHaveUtf8, PairsHaveUtf8}
use Rattle.doc_tree.proofs.Spelled.{escaped}

-- ---- strings in quotes

low_byte : (c : ℕ) → c < 128 → IsUtf8 (escape_byte c)
unfolding is_utf8 chars encode_utf8 escape_byte
low_byte c h = IsUtf8-from_is_utf8 (escape_byte c) (agree_below_at (λ k. is_utf8 (escape_byte k)) (λ k. true) 128 c refl h)

-- a byte of a longer character stays as it is
high_byte : (b : ℕ) → 128 ≤ b → escape_byte b ≡ b ∷ []
unfolding escape_byte
high_byte =
    escaped (λ b. 128 ≤ b → escape_byte b ≡ b ∷ []) (λ h. absurd (omega (arith, h))) (λ h. absurd (omega (arith, h))) (λ h. absurd (omega (arith, h))) (λ h. absurd (omega (arith, h)))
    (λ h. absurd (omega (arith, h))) (λ h. absurd (omega (arith, h))) (λ h. absurd (omega (arith, h))) (λ b none differs h. rw (none, le-ltb b 32 (omega (arith, h))) refl)

two_bytes : (a b : ℕ) → 128 ≤ a → 128 ≤ b → escape (a ∷ b ∷ []) ≡ a ∷ b ∷ []
two_bytes a b p q = rw (high_byte a p, high_byte b q) refl

three_bytes : (a b c : ℕ) → 128 ≤ a → 128 ≤ b → 128 ≤ c → escape (a ∷ b ∷ c ∷ []) ≡ a ∷ b ∷ c ∷ []
three_bytes a b c p q r = rw (high_byte a p, high_byte b q, high_byte c r) refl

four_bytes : (a b c d : ℕ) → 128 ≤ a → 128 ≤ b → 128 ≤ c → 128 ≤ d → escape (a ∷ b ∷ c ∷ d ∷ []) ≡ a ∷ b ∷ c ∷ d ∷ []
four_bytes a b c d p q r s = rw (high_byte a p, high_byte b q, high_byte c r, high_byte d s) refl

abbrev long_bytes : ℕ → Bool → Bool → List ℕ
long_bytes c x y =
    cond x ((192 + c / 64) ∷ (128 + c % 64) ∷ [])
    (cond y ((224 + c / 4096) ∷ (128 + c / 64 % 64) ∷ (128 + c % 64) ∷ []) ((240 + c / 262144) ∷ (128 + c / 4096 % 64) ∷ (128 + c / 64 % 64) ∷ (128 + c % 64) ∷ []))

long_kept : (c : ℕ) (x y : Bool) → escape (long_bytes c x y) ≡ long_bytes c x y
long_kept c true y = two_bytes (192 + c / 64) (128 + c % 64) (omega arith) (omega arith)
long_kept c false true = three_bytes (224 + c / 4096) (128 + c / 64 % 64) (128 + c % 64) (omega arith) (omega arith) (omega arith)
long_kept c false false = four_bytes (240 + c / 262144) (128 + c / 4096 % 64) (128 + c / 64 % 64) (128 + c % 64) (omega arith) (omega arith) (omega arith) (omega arith)

long_char : (c : ℕ) → 128 ≤ c → escape (encode_utf8 c) ≡ encode_utf8 c
unfolding encode_utf8
long_char c h = rw (le-ltb c 128 h) (long_kept c (nat_lt c 2048) (nat_lt c 65536))

escaped_char : (c : ℕ) → IsScalar c → IsUtf8 (escape (encode_utf8 c))
escaped_char c is =
    ⊎_elim (λ low. subst IsUtf8 (sym (ap escape (encode_ascii c low) ∙ append-nil (escape_byte c))) (low_byte c low)) (λ high. subst IsUtf8 (sym (long_char c high)) (IsUtf8-encode c is)) (cases_lt c 128)

escape_of_both : (xs ys : List ℕ) → escape (xs ++ ys) ≡ escape xs ++ escape ys
escape_of_both [] ys = refl
escape_of_both (x ∷ xs) ys = ap (λ zs. escape_byte x ++ zs) (escape_of_both xs ys) ∙ sym (append_assoc (escape_byte x) (escape xs) (escape ys))

escaped_chars : (cs : List ℕ) → all_scalars cs ≡ true → IsUtf8 (escape (encode_utf8_all cs))
escaped_chars [] h = IsUtf8-nil
escaped_chars (c ∷ cs) h =
    let both = and_parts _ (all_scalars cs) h in
    subst IsUtf8 (sym (escape_of_both (encode_utf8 c) (encode_utf8_all cs))) (IsUtf8-append (escape (encode_utf8 c)) (escape (encode_utf8_all cs)) (escaped_char c both.0) (escaped_chars cs both.1))

byte_utf8 : (b : ℕ) → b < 128 → IsUtf8 (b ∷ [])
unfolding is_utf8 chars encode_utf8
byte_utf8 b h = IsUtf8-from_is_utf8 (b ∷ []) (agree_below_at (λ k. is_utf8 (k ∷ [])) (λ k. true) 128 b refl h)

behind_byte : (b : ℕ) (bs : List ℕ) → b < 128 → IsUtf8 bs → IsUtf8 (b ∷ bs)
behind_byte b bs h is = IsUtf8-append (b ∷ []) bs (byte_utf8 b h) is

quoted_utf8 : (s : List ℕ) → IsUtf8 s → IsUtf8 (quoted s)
quoted_utf8 s is =
    behind_byte 34 (escape s ++ 34 ∷ []) (omega arith)
    (IsUtf8-append (escape s) (34 ∷ []) (subst (λ bs. IsUtf8 (escape bs)) is.1.1 (escaped_chars is.0 is.1.0)) (byte_utf8 34 (omega arith)))

-- ---- the text of a tree

truth_utf8 : (b : Bool) → IsUtf8 (compact_text (data_of (truth b)))
unfolding is_utf8 chars encode_utf8
truth_utf8 true = IsUtf8-from_is_utf8 _ refl
truth_utf8 false = IsUtf8-from_is_utf8 _ refl

null_utf8 : IsUtf8 (compact_text null)
unfolding is_utf8 chars encode_utf8
null_utf8 = IsUtf8-from_is_utf8 _ refl

number_utf8 : (z : ℤ) → IsUtf8 (compact_text (unwrap_or (number_of z) null))
number_utf8 (pos n) = go (nat_lt n (2 ^ 64)) refl where
  go : (b : Bool) → nat_lt n (2 ^ 64) ≡ b → IsUtf8 (compact_text (unwrap_or (if b then Some (number (unsigned n)) else None) null))
  go true h = IsUtf8-from_ascii (decimal n) (IsAscii-decimal n (ltb-true n (2 ^ 64) h))
  go false h = null_utf8
number_utf8 (negsuc n) = go (nat_lt n (2 ^ 63)) refl where
  go : (b : Bool) → nat_lt n (2 ^ 63) ≡ b → IsUtf8 (compact_text (unwrap_or (if b then Some (number (negative (negsuc n))) else None) null))
  go true h = IsUtf8-from_ascii (signed_decimal (negsuc n)) (IsAscii-signed (negsuc n) (ltb-true n (2 ^ 63) h))
  go false h = null_utf8

comma_utf8 : (later : Bool) → IsUtf8 (comma_if later)
comma_utf8 true = byte_utf8 44 (omega arith)
comma_utf8 false = IsUtf8-nil

mutual
  compact_utf8 : (s : Shape) → HasUtf8 s → IsUtf8 (compact_text (data_of s))
  compact_utf8 nothing h = null_utf8
  compact_utf8 (truth b) h = truth_utf8 b
  compact_utf8 (whole z) h = number_utf8 z
  compact_utf8 (text s) h = quoted_utf8 s h
  compact_utf8 (list ss) h = behind_byte 91 _ (omega arith) (items_utf8 false ss h)
  compact_utf8 (mapping ps) h = behind_byte 123 _ (omega arith) (members_utf8 false ps h)

  items_utf8 : (later : Bool) (ss : Shapes) → ShapesHaveUtf8 ss → IsUtf8 (items_text later (items_of ss))
  items_utf8 later no_shapes h = byte_utf8 93 (omega arith)
  items_utf8 later (more s ss) h = IsUtf8-append (comma_if later) _ (comma_utf8 later) (IsUtf8-append (compact_text (data_of s)) _ (compact_utf8 s h.0) (items_utf8 true ss h.1))

  members_utf8 : (later : Bool) (ps : Pairs) → PairsHaveUtf8 ps → IsUtf8 (members_text later (members_of ps))
  members_utf8 later no_pairs h = byte_utf8 125 (omega arith)
  members_utf8 later (pair k s ps) h =
      IsUtf8-append (comma_if later) _ (comma_utf8 later)
      (IsUtf8-append (quoted k) _ (quoted_utf8 k h.0) (behind_byte 58 _ (omega arith) (IsUtf8-append (compact_text (data_of s)) _ (compact_utf8 s h.1) (members_utf8 true ps h.2))))

-- ---- a tree in order has the strings and keys of the tree

utf8-if : (b : Bool) (ps qs : Pairs) → PairsHaveUtf8 ps → PairsHaveUtf8 qs → PairsHaveUtf8 (if b then ps else qs)
utf8-if true ps qs p q = p
utf8-if false ps qs p q = q

utf8-insert : (k : List ℕ) (s : Shape) (ps : Pairs) → IsUtf8 k → HasUtf8 s → PairsHaveUtf8 ps → PairsHaveUtf8 (insert k s ps)
utf8-insert k s no_pairs p q h = (p, q, tt)
utf8-insert k s (pair l t ps) p q h = utf8-if (comes_before k l) (pair k s (pair l t ps)) (pair l t (insert k s ps)) (p, q, h) (h.0, h.1, utf8-insert k s ps p q h.2)

mutual
  utf8-in_order : (s : Shape) → HasUtf8 s → HasUtf8 (in_order s)
  utf8-in_order nothing h = tt
  utf8-in_order (truth b) h = tt
  utf8-in_order (whole z) h = tt
  utf8-in_order (text s) h = h
  utf8-in_order (list ss) h = shapes_utf8-in_order ss h
  utf8-in_order (mapping ps) h = pairs_utf8-onto ps no_pairs h tt

  shapes_utf8-in_order : (ss : Shapes) → ShapesHaveUtf8 ss → ShapesHaveUtf8 (shapes_in_order ss)
  shapes_utf8-in_order no_shapes h = tt
  shapes_utf8-in_order (more s ss) h = (utf8-in_order s h.0, shapes_utf8-in_order ss h.1)

  pairs_utf8-onto : (ps placed : Pairs) → PairsHaveUtf8 ps → PairsHaveUtf8 placed → PairsHaveUtf8 (pairs_onto ps placed)
  pairs_utf8-onto no_pairs placed h p = p
  pairs_utf8-onto (pair k s ps) placed h p = pairs_utf8-onto ps (insert k (in_order s) placed) h.2 (utf8-insert k (in_order s) placed h.0 (utf8-in_order s h.1) p)

-- the text is UTF-8
pub json_text_utf8 : (s : Shape) → HasUtf8 s → IsUtf8 (json_text s)
json_text_utf8 s h = compact_utf8 (in_order s) (utf8-in_order s h)
