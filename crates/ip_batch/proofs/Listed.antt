-- Lists with commas, read one part after another.
use Rattle.std.proofs.Common.{◌≡◌, ◌∙◌, ◌<◌, ◌≤◌, ◌+◌, ◌-◌, ◌==◌, ℕ, suc, List, [], ◌∷◌, ◌++◌, Bool, true, false, not, Option, Some, None, length, take, drop, refl, sym, ap, arith, inl, inr, append_assoc, eqb-true, length-drop}
use Rattle.std.specs.Prelude.{nat_lt, option_map, MatchOption}
use Rattle.std.specs.Borrow.{Bor}
use Rattle.std.specs.List.{position, position_or_len, before_first, after_first}
use Rattle.std.proofs.lemmas.Bool.{cases_Bool, ne_eqb}
use Rattle.std.proofs.lemmas.List.{take_all}
use Rattle.std.proofs.lemmas.List.Quantifiers.{position-Some}
use Rattle.ip_batch.specs.Spelling.{Text}
use Rattle.ip_batch.specs.Pieces.{onto_first, lines_of, parts_of, items_in, onto_read, each_read}
use Rattle.ip_batch.specs.Seen.{IsFirstPart}
use Rattle.ip_batch.proofs.Cuts.{found, nowhere}

-- ---- the first part

grown : (b : ℕ) (t : Text) (n : ℕ) → parts_of t ≡ take n t ∷ parts_of (drop (n + 1) t) → onto_first b (parts_of t) ≡ take (1 + n) (b ∷ t) ∷ parts_of (drop ((1 + n) + 1) (b ∷ t))
grown b t n h =
    let front : take (1 + n) (b ∷ t) ≡ b ∷ take n t = let e : 1 + n ≡ suc n = omega arith in rw e refl in
    let back : drop ((1 + n) + 1) (b ∷ t) ≡ drop (n + 1) t = let e : (1 + n) + 1 ≡ suc (n + 1) = omega arith in rw e refl in
    rw (h, front, back) refl

part_first : (t : Text) → position_or_len (λ b. b == 44) t < length t → parts_of t ≡ before_first (λ b. b == 44) t ∷ parts_of (after_first (λ b. b == 44) t)
part_first [] within = absurd (omega arith)
part_first (b ∷ t) within = elim (cases_Bool (b == 44)) [
  | inl comma ↦ rw comma refl
  | inr not ↦
      let w = rw not at within in
      rw not (grown b t (position_or_len (λ b. b == 44) t) (part_first t (omega (arith, w))))
]

part_alone : (t : Text) → position_or_len (λ b. b == 44) t ≡ length t → parts_of t ≡ t ∷ []
part_alone [] all = refl
part_alone (b ∷ t) all = elim (cases_Bool (b == 44)) [
  | inl comma ↦ let w = rw comma at all in absurd (omega (arith, w))
  | inr not ↦ let w = rw not at all in let h : parts_of t ≡ t ∷ [] = part_alone t (omega (arith, w)) in rw (not, h) refl
]

-- what `split_once` gives at a comma
pub first_part : (t : Text) (r : Option (Bor Text × Bor Text)) → MatchOption r (position_or_len (λ b. b == 44) t ≡ length t)
    (λ x. (position_or_len (λ b. b == 44) t < length t) × (x.0.now ≡ before_first (λ b. b == 44) t) × (x.1.now ≡ after_first (λ b. b == 44) t)) → IsFirstPart t r
first_part t None h = part_alone t h
first_part t (Some (part, more)) h = (rw (h.1, h.2) (part_first t h.0), rw (h.2, length-drop) (omega (arith, h.0)))

-- ---- the first line

longer : (b : ℕ) (t : Text) (n : ℕ) → lines_of t ≡ take n t ∷ lines_of (drop (n + 1) t) → onto_first b (lines_of t) ≡ take (1 + n) (b ∷ t) ∷ lines_of (drop ((1 + n) + 1) (b ∷ t))
longer b t n h =
    let front : take (1 + n) (b ∷ t) ≡ b ∷ take n t = let e : 1 + n ≡ suc n = omega arith in rw e refl in
    let back : drop ((1 + n) + 1) (b ∷ t) ≡ drop (n + 1) t = let e : (1 + n) + 1 ≡ suc (n + 1) = omega arith in rw e refl in
    rw (h, front, back) refl

line_before : (t : Text) → position_or_len (λ b. b == 10) t < length t → lines_of t ≡ take (position_or_len (λ b. b == 10) t) t ∷ lines_of (drop (position_or_len (λ b. b == 10) t + 1) t)
line_before [] within = absurd (omega arith)
line_before (b ∷ t) within = elim (cases_Bool (b == 10)) [
  | inl end ↦ rw end refl
  | inr not ↦
      let w = rw not at within in
      rw not (longer b t (position_or_len (λ b. b == 10) t) (line_before t (omega (arith, w))))
]

line_alone : (t : Text) → 0 < length t → position_or_len (λ b. b == 10) t ≡ length t → lines_of t ≡ t ∷ []
line_alone [] some all = absurd (omega arith)
line_alone (b ∷ []) some all = elim (cases_Bool (b == 10)) [
  | inl end ↦ let w = rw end at all in absurd (omega (arith, w))
  | inr not ↦ rw not refl
]
line_alone (b ∷ next ∷ t) some all = elim (cases_Bool (b == 10)) [
  | inl end ↦ let w = rw end at all in absurd (omega (arith, w))
  | inr not ↦
      let w = rw not at all in
      let h : lines_of (next ∷ t) ≡ (next ∷ t) ∷ [] = line_alone (next ∷ t) (omega arith) (omega (arith, w)) in
      rw not (ap (onto_first b) h)
]

-- a line with its end, and the lines that follow
pub line_first : (t : Text) (n : ℕ) → position (λ b. b == 10) t ≡ Some n → lines_of t ≡ take n t ∷ lines_of (take (length t - (n + 1)) (drop (n + 1) t))
line_first t n is =
    let at = found 10 t n is in
    let inside : n < length t = (position-Some (λ b. b == 10) t n 0 is).0 in
    let short : length (drop (n + 1) t) ≤ length t - (n + 1) = rw length-drop (omega arith) in
    rw (take_all (length t - (n + 1)) (drop (n + 1) t) short, ← at) (line_before t (rw at inside))

-- the last line, where it has no end
pub line_last : (t : Text) → 0 < length t → position (λ b. b == 10) t ≡ None → lines_of t ≡ t ∷ []
line_last t some is = line_alone t some (nowhere 10 t is)

-- ---- a list that may be empty

pub none_there : (t : Text) → (length t == 0) ≡ true → items_in t ≡ []
none_there [] h = refl
none_there (b ∷ t) h = let e : suc (length t) ≡ 0 = eqb-true (suc (length t)) 0 h in absurd (omega (arith, e))

pub some_there : (t : Text) → (length t == 0) ≡ false → items_in t ≡ parts_of t
some_there [] h = cc
some_there (b ∷ t) h = refl

-- ---- one part after another

module _ {X : Type 0} (read : Text → Option X) where
  -- what was read before these
  pub front : List X → List X → List X
  front done xs = done ++ xs

  -- nothing was read before the first part
  pub none_so_far : (o : Option (List X)) → option_map (front []) o ≡ o
  unfolding front
  none_so_far None = refl
  none_so_far (Some xs) = refl

  one_more : (done : List X) (x : X) (o : Option (List X)) → option_map (front done) (onto_read (Some x) o) ≡ option_map (front (done ++ x ∷ [])) o
  unfolding front
  one_more done x None = refl
  one_more done x (Some xs) = ap (λ (ys : List X). Some ys) (sym (append_assoc done (x ∷ []) xs))

  -- a part more was read
  pub turn : (rest part more : Text) (done new : List X) (x : X) (all : Option (List X)) → parts_of rest ≡ part ∷ parts_of more → read part ≡ Some x → new ≡ done ++ x ∷ []
      → option_map (front done) (each_read read (parts_of rest)) ≡ all → option_map (front new) (each_read read (parts_of more)) ≡ all
  turn rest part more done new x all is found grown so_far =
      let there : each_read read (parts_of rest) ≡ onto_read (Some x) (each_read read (parts_of more)) = rw (is, found) refl in
      rw grown (sym (one_more done x (each_read read (parts_of more))) ∙ ap (option_map (front done)) (sym there) ∙ so_far)

  pub stop : (rest part more : Text) (done : List X) (all : Option (List X)) → parts_of rest ≡ part ∷ parts_of more → read part ≡ None
      → option_map (front done) (each_read read (parts_of rest)) ≡ all → None ≡ all
  stop rest part more done all is none so_far =
      let there : each_read read (parts_of rest) ≡ None = rw (is, none) refl in
      ap (option_map (front done)) (sym there) ∙ so_far

  -- the last part was read
  pub last : (rest : Text) (done new : List X) (x : X) (all : Option (List X)) → parts_of rest ≡ rest ∷ [] → read rest ≡ Some x → new ≡ done ++ x ∷ []
      → option_map (front done) (each_read read (parts_of rest)) ≡ all → Some new ≡ all
  unfolding front
  last rest done new x all is found grown so_far =
      let there : each_read read (parts_of rest) ≡ Some (x ∷ []) = rw (is, found) refl in
      rw grown (ap (option_map (front done)) (sym there) ∙ so_far)

  pub last_none : (rest : Text) (done : List X) (all : Option (List X)) → parts_of rest ≡ rest ∷ [] → read rest ≡ None
      → option_map (front done) (each_read read (parts_of rest)) ≡ all → None ≡ all
  last_none rest done all is none so_far =
      let there : each_read read (parts_of rest) ≡ None = rw (is, none) refl in
      ap (option_map (front done)) (sym there) ∙ so_far
