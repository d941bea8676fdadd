-- Texts cut at the first sign, and lines at their spaces.
use Rattle.std.proofs.Common.{◌≡◌, ◌∙◌, ◌<◌, ◌≤◌, ◌+◌, ◌==◌, ℕ, zero, suc, List, [], ◌∷◌, ◌++◌, Bool, true, false, not, ◌&&◌, Option, Some, None, length, take, drop, get_or, refl, sym, ap, arith, inl, inr}
use Rattle.std.specs.Prelude.{nat_lt}
use Rattle.std.specs.List.{position, position_or_len, before_first, after_first, list_all}
use Rattle.std.proofs.Math.Seq.{take-length}
use Rattle.std.proofs.lemmas.Bool.{cases_Bool, and_parts, ltb-false}
use Rattle.std.proofs.lemmas.List.{drop_all}
use Rattle.std.proofs.lemmas.List.Sums.{prefix_len-le-length}
use Rattle.addr_text.specs.Parts.{joined}
use Rattle.addr_text.proofs.lemmas.Split.{lacks, position-front, position-lacks, take-front, drop-front}
use Rattle.ip_batch.specs.Spelling.{Text, spaced}
use Rattle.ip_batch.specs.Pieces.{first_word, after_word, word, value, onto_first, parts_of, items_in}

-- ---- at the first sign

-- the first place of a sign, where it stands in the text
pub found : (s : ℕ) (t : Text) (n : ℕ) → position (λ b. b == s) t ≡ Some n → position_or_len (λ b. b == s) t ≡ n
found s t n is = elim (cases_Bool (nat_lt (position_or_len (λ b. b == s) t) (length t))) [
  | inl within ↦ let w = rw within at is in cc
  | inr past ↦ let w = rw past at is in absurd cc
]

-- a sign that doesn't stand in the text has the text's end as its place
pub nowhere : (s : ℕ) (t : Text) → position (λ b. b == s) t ≡ None → position_or_len (λ b. b == s) t ≡ length t
nowhere s t is = elim (cases_Bool (nat_lt (position_or_len (λ b. b == s) t) (length t))) [
  | inl within ↦ let w = rw within at is in absurd cc
  | inr past ↦
      let most : position_or_len (λ b. b == s) t ≤ length t = prefix_len-le-length (λ b. not (b == s)) t in
      let least : length t ≤ position_or_len (λ b. b == s) t = ltb-false _ _ past in
      omega (arith, most, least)
]

-- what stands before a sign that it lacks, and what follows
pub before-cut : (s : ℕ) (w r : Text) → lacks s w ≡ true → before_first (λ b. b == s) (w ++ s ∷ r) ≡ w
before-cut s w r h = rw (found s (w ++ s ∷ r) (length w) (position-front s w r h)) (take-front s w r)

pub after-cut : (s : ℕ) (w r : Text) → lacks s w ≡ true → after_first (λ b. b == s) (w ++ s ∷ r) ≡ r
after-cut s w r h = rw (found s (w ++ s ∷ r) (length w) (position-front s w r h)) (drop-front s w r)

-- a text that lacks it
pub before-whole : (s : ℕ) (w : Text) → lacks s w ≡ true → before_first (λ b. b == s) w ≡ w
before-whole s w h = rw (nowhere s w (position-lacks s w h)) (take-length w)

pub after-whole : (s : ℕ) (w : Text) → lacks s w ≡ true → after_first (λ b. b == s) w ≡ []
after-whole s w h = rw (nowhere s w (position-lacks s w h)) (drop_all (length w + 1) w (omega arith))

-- ---- words

no_word : (k : ℕ) → word [] k ≡ []
no_word zero = refl
no_word (suc k) = no_word k

-- words that hold no space are the words of the line that they make
pub word-spaced : (ws : List Text) → list_all (lacks 32) ws ≡ true → (k : ℕ) → word (spaced ws) k ≡ get_or ws k []
word-spaced [] h zero = refl
word-spaced [] h (suc k) = no_word k
word-spaced (w ∷ []) h zero = before-whole 32 w (and_parts (lacks 32 w) true h).0
word-spaced (w ∷ []) h (suc k) = ap (λ (t : Text). word t k) (after-whole 32 w (and_parts (lacks 32 w) true h).0) ∙ no_word k
word-spaced (w ∷ v ∷ ws) h zero = before-cut 32 w (spaced (v ∷ ws)) (and_parts (lacks 32 w) (list_all (lacks 32) (v ∷ ws)) h).0
word-spaced (w ∷ v ∷ ws) h (suc k) =
    let p = and_parts (lacks 32 w) (list_all (lacks 32) (v ∷ ws)) h in
    ap (λ (t : Text). word t k) (after-cut 32 w (spaced (v ∷ ws)) p.0) ∙ word-spaced (v ∷ ws) p.1 k

-- the word of each number
abbrev pub nth : List Text → ℕ → Text
nth ws k = get_or ws k []

-- the same of all of them
pub words-spaced : (ws : List Text) → list_all (lacks 32) ws ≡ true → word (spaced ws) ≡ nth ws
words-spaced ws h = λ i k. word-spaced ws h k i

-- ---- lists with commas

onto-more : (b : ℕ) (p : Text) (ps : List Text) (parts : List Text) → parts ≡ p ∷ ps → onto_first b parts ≡ (b ∷ p) ∷ ps
onto-more b p ps parts e = ap (onto_first b) e

alone : (p : Text) → lacks 44 p ≡ true → parts_of p ≡ p ∷ []
alone [] h = refl
alone (b ∷ p) h =
    let (first, rest) = and_parts (not (b == 44)) (lacks 44 p) h in
    elim (cases_Bool (b == 44)) [
      | inl is ↦ let w = rw is at first in absurd cc
      | inr not ↦ rw not (onto-more b p [] (parts_of p) (alone p rest))
    ]

before_comma : (p r : Text) → lacks 44 p ≡ true → parts_of (p ++ 44 ∷ r) ≡ p ∷ parts_of r
before_comma [] r h = refl
before_comma (b ∷ p) r h =
    let (first, rest) = and_parts (not (b == 44)) (lacks 44 p) h in
    elim (cases_Bool (b == 44)) [
      | inl is ↦ let w = rw is at first in absurd cc
      | inr not ↦ rw not (onto-more b p (parts_of r) (parts_of (p ++ 44 ∷ r)) (before_comma p r rest))
    ]

pub parts-joined : (p : Text) (ps : List Text) → list_all (lacks 44) (p ∷ ps) ≡ true → parts_of (joined 44 (p ∷ ps)) ≡ p ∷ ps
parts-joined p [] h = alone p (and_parts (lacks 44 p) true h).0
parts-joined p (q ∷ ps) h =
    let (first, rest) = and_parts (lacks 44 p) (list_all (lacks 44) (q ∷ ps)) h in
    before_comma p (joined 44 (q ∷ ps)) first ∙ ap (λ (parts : List Text). p ∷ parts) (parts-joined q ps rest)

-- a list of which no item is empty
some_first : (p : Text) (ps : List Text) → (p ≡ [] → ⊥) → items_in (joined 44 (p ∷ ps)) ≡ parts_of (joined 44 (p ∷ ps))
some_first [] ps some = absurd (some refl)
some_first (b ∷ p) [] some = refl
some_first (b ∷ p) (q ∷ ps) some = refl

-- is the list of its items
pub items-joined : (p : Text) (ps : List Text) → (p ≡ [] → ⊥) → list_all (lacks 44) (p ∷ ps) ≡ true → items_in (joined 44 (p ∷ ps)) ≡ p ∷ ps
items-joined p ps some h = some_first p ps some ∙ parts-joined p ps h
