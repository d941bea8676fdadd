-- MAC addresses are read exactly by their grammar, and what is written is read again.
use Rattle.std.proofs.Common.{◌≡◌, ℕ, ◌/◌, ◌%◌, ◌<◌, ◌==◌, Bool, true, ◌&&◌, map, List, [], ◌∷◌, Some, None, length, refl, ap, sym, ◌∙◌, subst, arith, suc, eqb-true, slice_index}
use Rattle.std.proofs.lemmas.List.{length-map}
use Rattle.std.proofs.lemmas.Bool.{cond-true, lt-ltb, ltb-true, and_parts}
use Rattle.std.proofs.Math.Nat.{mod-eq_of_lt}
use Rattle.std.specs.Char.{digit_value}
use Rattle.std.specs.Fmt.{digit_glyph}
use Rattle.addr_text.specs.Digits.{is_hex_digit, number}
use Rattle.addr_text.specs.Mac.{IsPair, ArePairs, IsMac, pair_text, mac_text}
use Rattle.addr_text.specs.MacReader.{are_pairs, pair_value, pair_at, mac_of}
use Rattle.addr_text.specs.Parts.{joined}
use Rattle.addr_text.proofs.lemmas.Cases.{kept}
use Rattle.addr_text.proofs.lemmas.Numbers.{digit_value-glyph}

-- two digits never make more than a byte
pair_is : (a b : ℕ) → is_hex_digit a ≡ true → is_hex_digit b ≡ true → pair_value a b ≡ number 16 (a ∷ b ∷ [])
pair_is a b h k =
    let x : digit_value a < 16 = ltb-true (digit_value a) 16 h in
    let y : digit_value b < 16 = ltb-true (digit_value b) 16 k in
    mod-eq_of_lt (omega arith)

-- a pair of digits
pair_of : (a b : ℕ) → is_hex_digit a ≡ true → is_hex_digit b ≡ true → IsPair (a ∷ b ∷ [])
pair_of a b h k = record { two = refl; digits = rw (h, k) refl }

-- a pair and a colon
record Opens (a b c : ℕ) (rest : Bool) : Type 0 where
  first : is_hex_digit a ≡ true
  second : is_hex_digit b ≡ true
  colon : c ≡ 58
  behind : rest ≡ true

opens : (a b c : ℕ) (rest : Bool) → (is_hex_digit a && is_hex_digit b && (c == 58) && rest) ≡ true → Opens a b c rest
opens a b c rest h =
    let x = and_parts (is_hex_digit a && is_hex_digit b && (c == 58)) rest h in
    let y = and_parts (is_hex_digit a && is_hex_digit b) (c == 58) x.0 in
    let z = and_parts (is_hex_digit a) (is_hex_digit b) y.0 in
    record { first = z.0; second = z.1; colon = eqb-true c 58 y.1; behind = x.1 }

mac_parts : (t : List ℕ) (bytes : List ℕ) → length t ≡ 17 → are_pairs t ≡ true → pair_at 0 t ∷ pair_at 3 t ∷ pair_at 6 t ∷ pair_at 9 t ∷ pair_at 12 t ∷ pair_at 15 t ∷ [] ≡ bytes → IsMac t bytes
mac_parts (a ∷ b ∷ c ∷ d ∷ e ∷ f ∷ g ∷ h ∷ i ∷ j ∷ k ∷ l ∷ m ∷ n ∷ o ∷ p ∷ q ∷ []) bytes len passed made =
    let s = opens a b c (are_pairs (d ∷ e ∷ f ∷ g ∷ h ∷ i ∷ j ∷ k ∷ l ∷ m ∷ n ∷ o ∷ p ∷ q ∷ [])) passed in
    let t = opens d e f (are_pairs (g ∷ h ∷ i ∷ j ∷ k ∷ l ∷ m ∷ n ∷ o ∷ p ∷ q ∷ [])) s.behind in
    let u = opens g h i (are_pairs (j ∷ k ∷ l ∷ m ∷ n ∷ o ∷ p ∷ q ∷ [])) t.behind in
    let v = opens j k l (are_pairs (m ∷ n ∷ o ∷ p ∷ q ∷ [])) u.behind in
    let w = opens m n o (are_pairs (p ∷ q ∷ [])) v.behind in
    let x = and_parts (is_hex_digit p) (is_hex_digit q) w.behind in
    record {
      pairs = (a ∷ b ∷ []) ∷ (d ∷ e ∷ []) ∷ (g ∷ h ∷ []) ∷ (j ∷ k ∷ []) ∷ (m ∷ n ∷ []) ∷ (p ∷ q ∷ []) ∷ [];
      six = refl;
      each = (pair_of a b s.first s.second, (pair_of d e t.first t.second, (pair_of g h u.first u.second, (pair_of j k v.first v.second, (pair_of m n w.first w.second, (pair_of p q x.0 x.1, tt))))));
      written = rw (s.colon, t.colon, u.colon, v.colon, w.colon) refl;
      values = sym made ∙ rw (pair_is a b s.first s.second, pair_is d e t.first t.second, pair_is g h u.first u.second, pair_is j k v.first v.second, pair_is m n w.first w.second, pair_is p q x.0 x.1) refl;
    }
mac_parts t bytes len passed made = absurd (omega arith)

-- what a text is read as, it is a text of
pub mac_sound : (t bytes : List ℕ) → mac_of t ≡ Some bytes → IsMac t bytes
mac_sound t bytes h =
    let k = kept ((length t == 17) && are_pairs t) (pair_at 0 t ∷ pair_at 3 t ∷ pair_at 6 t ∷ pair_at 9 t ∷ pair_at 12 t ∷ pair_at 15 t ∷ []) bytes h in
    let b = and_parts (length t == 17) (are_pairs t) k.0 in
    mac_parts t bytes (eqb-true (length t) 17 b.0) b.1 k.1

-- the digits of a pair
pair_digits : (a b : ℕ) → IsPair (a ∷ b ∷ []) → (is_hex_digit a ≡ true) × (is_hex_digit b ≡ true)
pair_digits a b p =
    let x = and_parts (is_hex_digit a) (is_hex_digit b && true) p.digits in
    (x.0, (and_parts (is_hex_digit b) true x.1).0)

six_pairs : (ps : List (List ℕ)) → length ps ≡ 6 → ArePairs ps → mac_of (joined 58 ps) ≡ Some (map (number 16) ps)
six_pairs ((a ∷ b ∷ []) ∷ (d ∷ e ∷ []) ∷ (g ∷ h ∷ []) ∷ (j ∷ k ∷ []) ∷ (m ∷ n ∷ []) ∷ (p ∷ q ∷ []) ∷ []) len each =
    let r = pair_digits a b each.0 in
    let s = pair_digits d e each.1.0 in
    let t = pair_digits g h each.1.1.0 in
    let u = pair_digits j k each.1.1.1.0 in
    let v = pair_digits m n each.1.1.1.1.0 in
    let w = pair_digits p q each.1.1.1.1.1.0 in
    let text = joined 58 ((a ∷ b ∷ []) ∷ (d ∷ e ∷ []) ∷ (g ∷ h ∷ []) ∷ (j ∷ k ∷ []) ∷ (m ∷ n ∷ []) ∷ (p ∷ q ∷ []) ∷ []) in
    let z : are_pairs text ≡ true = rw (r.0, r.1, s.0, s.1, t.0, t.1, u.0, u.1, v.0, v.1, w.0, w.1) refl in
    cond-true (are_pairs text) (Some (pair_at 0 text ∷ pair_at 3 text ∷ pair_at 6 text ∷ pair_at 9 text ∷ pair_at 12 text ∷ pair_at 15 text ∷ [])) None z
    ∙ rw (pair_is a b r.0 r.1, pair_is d e s.0 s.1, pair_is g h t.0 t.1, pair_is j k u.0 u.1, pair_is m n v.0 v.1, pair_is p q w.0 w.1) refl
six_pairs ps len each = absurd (omega arith)

-- a text of six bytes is read as them
pub mac_complete : (t bytes : List ℕ) → IsMac t bytes → mac_of t ≡ Some bytes
mac_complete t bytes m = ap mac_of m.written ∙ six_pairs m.pairs m.six m.each ∙ ap Some (sym m.values)

-- a byte is read from its two digits
glyph_hex : (d : ℕ) → d < 16 → is_hex_digit (digit_glyph true d) ≡ true
glyph_hex d h = lt-ltb (digit_value (digit_glyph true d)) 16 (subst (λ v. v < 16) (sym (digit_value-glyph true d h)) h)

pair_reads : (b : ℕ) → b < 256 → IsPair (pair_text b) × (number 16 (pair_text b) ≡ b)
pair_reads b h =
    let high : b / 16 < 16 = omega arith in
    let low : b % 16 < 16 = omega arith in (
      pair_of (digit_glyph true (b / 16)) (digit_glyph true (b % 16)) (glyph_hex (b / 16) high) (glyph_hex (b % 16) low),
      rw (digit_value-glyph true (b / 16) high, digit_value-glyph true (b % 16) low) (omega arith),
    )

pairs_read : (bytes : List ℕ) → ((k : ℕ) → slice_index bytes k < 256) → ArePairs (map pair_text bytes) × (bytes ≡ map (number 16) (map pair_text bytes))
pairs_read [] h = (tt, refl)
pairs_read (b ∷ bytes) h =
    let r = pair_reads b (h 0) in
    let more = pairs_read bytes (λ k. h (suc k)) in
    ((r.0, more.0), ap (λ x. x ∷ bytes) (sym r.1) ∙ ap (λ u. number 16 (pair_text b) ∷ u) more.1)

-- what is written for six bytes is a text of them
pub mac_text-reads : (bytes : List ℕ) → length bytes ≡ 6 → ((k : ℕ) → slice_index bytes k < 256) → IsMac (mac_text bytes) bytes
mac_text-reads bytes l h =
    let r = pairs_read bytes h in
    record { pairs = map pair_text bytes; six = length-map bytes pair_text ∙ l; each = r.0; written = refl; values = r.1 }
