-- The first row that can't continue a valid document is on the first line that can't.
use Rattle.std.proofs.Common.{◌≡◌, ◌⊎◌, ℕ, ◌+◌, Bool, true, false, cond, List, [], ◌∷◌, ◌++◌, length, Result, Ok, Err, refl, sym, ap, subst, ◌∙◌, append_assoc, arith, inl, inr}
use Rattle.doc_tree.specs.Shape.{Shape, nothing}
use Rattle.yaml_read.specs.declared.fault.YamlFault.{YamlFault}
use Rattle.yaml_plain.specs.Bytes.{is_same}
use Rattle.yaml_read.specs.OnLine.{is_blank}
use Rattle.yaml_read.specs.Rows.{Row, row, lone_dash, behind_dash, begins_compact, rows_of_row, rows_of_line, rows_from, without_start, rows_of_lines}
use Rattle.yaml_read.specs.Reading.{document}
use Rattle.yaml_read.specs.Standing.{StandFor, StopsAt, line_of}
use Rattle.yaml_read.proofs.Sound.{document_sound}
use Rattle.yaml_read.proofs.First.{document_stops}

-- ---- the rows of a line: none, one, or two
abbrev OneOrTwo : ℕ → List Row → Type 0
OneOrTwo k rows = (rows ≡ []) ⊎ (((a : Row) × (rows ≡ a ∷ []) × (a.number ≡ k)) ⊎ ((a : Row) × (b : Row) × (rows ≡ a ∷ b ∷ []) × (a.number ≡ k) × (b.number ≡ k)))

compact_rows : (c : Bool) (k : ℕ) (line : List ℕ) → OneOrTwo k (cond c (lone_dash (row k line) ∷ behind_dash (row k line) ∷ []) (row k line ∷ []))
compact_rows true k line = inr (inr (lone_dash (row k line), behind_dash (row k line), refl, refl, refl))
compact_rows false k line = inr (inl (row k line, refl, refl))

blank_rows : (b : Bool) (k : ℕ) (line : List ℕ) → OneOrTwo k (cond b [] (rows_of_row (row k line)))
blank_rows true k line = inl refl
blank_rows false k line = compact_rows (begins_compact (row k line)) k line

line_rows : (k : ℕ) (line : List ℕ) → OneOrTwo k (rows_of_line k line)
unfolding rows_of_line
line_rows k line = blank_rows (is_blank line) k line

-- ---- where a row stands among the lines
abbrev Place : ℕ → List Row → List ℕ → List Row → Row → Type 0
Place n rows line front r =
    ((tail : List Row) × (front ≡ rows) × (rows_of_line n line ≡ r ∷ tail))
    ⊎ ((d : Row) × (front ≡ rows ++ d ∷ []) × (rows_of_line n line ≡ d ∷ r ∷ []))

abbrev Found : ℕ → List (List ℕ) → List Row → Row → Type 0
Found k ls front r =
    (before : List (List ℕ)) × (line : List ℕ) × (after : List (List ℕ))
    × (ls ≡ before ++ line ∷ after) × (r.number ≡ k + length before) × Place (k + length before) (rows_from k before) line front r

placed : (k : ℕ) (first : List ℕ) (p rows : List Row) (line : List ℕ) (front : List Row) (r : Row) (n : ℕ) → p ≡ rows_of_line k first → Place n rows line front r → Place n (rows_of_line k first ++ rows) line (p ++ front) r
placed k first p rows line front r n is (inl x) = inl (x.0, ap (λ (y : List Row). y ++ front) is ∙ ap (λ (y : List Row). rows_of_line k first ++ y) x.1, x.2)
placed k first p rows line front r n is (inr x) =
    inr (x.0, ap (λ (y : List Row). y ++ front) is ∙ (ap (λ (y : List Row). rows_of_line k first ++ y) x.1 ∙ sym (append_assoc (rows_of_line k first) rows (x.0 ∷ []))), x.2)

later : (k : ℕ) (first : List ℕ) (ls : List (List ℕ)) (p front : List Row) (r : Row) → p ≡ rows_of_line k first → Found (k + 1) ls front r → Found k (first ∷ ls) (p ++ front) r
later k first ls p front r is f =
    let count : (k + 1) + length f.0 ≡ k + length (first ∷ f.0) = omega arith in (
      first ∷ f.0,
      f.1,
      f.2,
      ap (λ (y : List (List ℕ)). first ∷ y) f.3,
      f.4 ∙ count,
      subst (λ (n : ℕ). Place n (rows_of_line k first ++ rows_from (k + 1) f.0) f.1 (p ++ front) r) count (placed k first p (rows_from (k + 1) f.0) f.1 front r ((k + 1) + length f.0) is f.5),
    )

here_one : (k : ℕ) (line : List ℕ) (ls : List (List ℕ)) (a : Row) (tail : List Row) → rows_of_line k line ≡ a ∷ tail → a.number ≡ k → Found k (line ∷ ls) [] a
here_one k line ls a tail is num =
    let count : k ≡ k + 0 = omega arith in
    ([], line, ls, refl, num ∙ count, subst (λ (n : ℕ). Place n [] line [] a) count (inl (tail, refl, is)))

here_two : (k : ℕ) (line : List ℕ) (ls : List (List ℕ)) (a b : Row) → rows_of_line k line ≡ a ∷ b ∷ [] → b.number ≡ k → Found k (line ∷ ls) (a ∷ []) b
here_two k line ls a b is num =
    let count : k ≡ k + 0 = omega arith in
    ([], line, ls, refl, num ∙ count, subst (λ (n : ℕ). Place n [] line (a ∷ []) b) count (inr (a, refl, is)))

first_same : (a b : Row) (xs ys : List Row) → a ∷ xs ≡ b ∷ ys → (a ≡ b) × (xs ≡ ys)
first_same a b xs ys e = (cc, cc)

module _ (k : ℕ) (line : List ℕ) (ls : List (List ℕ)) (r : Row) (rest : List Row) (ih : (front : List Row) → rows_from (k + 1) ls ≡ front ++ r ∷ rest → Found (k + 1) ls front r) where
  one_row : (a : Row) → rows_of_line k line ≡ a ∷ [] → a.number ≡ k → (front : List Row) → a ∷ rows_from (k + 1) ls ≡ front ++ r ∷ rest → Found k (line ∷ ls) front r
  one_row a is num [] e =
      let same = first_same a r (rows_from (k + 1) ls) rest e in
      subst (Found k (line ∷ ls) []) same.0 (here_one k line ls a [] is num)
  one_row a is num (f ∷ fs) e =
      let same = first_same a f (rows_from (k + 1) ls) (fs ++ r ∷ rest) e in
      subst (λ (x : Row). Found k (line ∷ ls) (x ∷ fs) r) same.0 (later k line ls (a ∷ []) fs r (sym is) (ih fs same.1))

  two_rows : (a b : Row) → rows_of_line k line ≡ a ∷ b ∷ [] → a.number ≡ k → b.number ≡ k → (front : List Row) → a ∷ b ∷ rows_from (k + 1) ls ≡ front ++ r ∷ rest → Found k (line ∷ ls) front r
  two_rows a b is num num_b [] e =
      let same = first_same a r (b ∷ rows_from (k + 1) ls) rest e in
      subst (Found k (line ∷ ls) []) same.0 (here_one k line ls a (b ∷ []) is num)
  two_rows a b is num num_b (f ∷ []) e =
      let same = first_same a f (b ∷ rows_from (k + 1) ls) (r ∷ rest) e in
      let next = first_same b r (rows_from (k + 1) ls) rest same.1 in
      subst (λ (x : Row). Found k (line ∷ ls) (x ∷ []) r) same.0 (subst (Found k (line ∷ ls) (a ∷ [])) next.0 (here_two k line ls a b is num_b))
  two_rows a b is num num_b (f ∷ g ∷ gs) e =
      let same = first_same a f (b ∷ rows_from (k + 1) ls) (g ∷ gs ++ r ∷ rest) e in
      let next = first_same b g (rows_from (k + 1) ls) (gs ++ r ∷ rest) same.1 in
      subst (λ (x : Row). Found k (line ∷ ls) (x ∷ g ∷ gs) r) same.0
      (subst (λ (x : Row). Found k (line ∷ ls) (a ∷ x ∷ gs) r) next.0 (later k line ls (a ∷ b ∷ []) gs r (sym is) (ih gs next.1)))

  some_rows : OneOrTwo k (rows_of_line k line) → (front : List Row) → rows_of_line k line ++ rows_from (k + 1) ls ≡ front ++ r ∷ rest → Found k (line ∷ ls) front r
  some_rows (inl none) front e = later k line ls [] front r (sym none) (ih front (sym (ap (λ (x : List Row). x ++ rows_from (k + 1) ls) none) ∙ e))
  some_rows (inr (inl one)) front e = one_row one.0 one.1 one.2 front (sym (ap (λ (x : List Row). x ++ rows_from (k + 1) ls) one.1) ∙ e)
  some_rows (inr (inr two)) front e = two_rows two.0 two.1 two.2 two.3 two.4 front (sym (ap (λ (x : List Row). x ++ rows_from (k + 1) ls) two.2) ∙ e)

no_rows : (front : List Row) (r : Row) (rest : List Row) → [] ≡ front ++ r ∷ rest → ⊥
no_rows [] r rest e = absurd cc
no_rows (f ∷ fs) r rest e = absurd cc

found : (ls : List (List ℕ)) (k : ℕ) (r : Row) (rest front : List Row) → rows_from k ls ≡ front ++ r ∷ rest → Found k ls front r
found [] k r rest front e = absurd (no_rows front r rest e)
found (line ∷ ls) k r rest front e = some_rows k line ls r rest (found ls (k + 1) r rest) (line_rows k line) front e

rows_append : (before : List (List ℕ)) (k : ℕ) (ls : List (List ℕ)) → rows_from k (before ++ ls) ≡ rows_from k before ++ rows_from (k + length before) ls
rows_append [] k ls = ap (λ (n : ℕ). rows_from n ls) (omega arith)
rows_append (line ∷ before) k ls =
    let count : (k + 1) + length before ≡ k + length (line ∷ before) = omega arith in
    ap (λ (x : List Row). rows_of_line k line ++ x) (rows_append before (k + 1) ls ∙ ap (λ (n : ℕ). rows_from (k + 1) before ++ rows_from n ls) count)
    ∙ sym (append_assoc (rows_of_line k line) (rows_from (k + 1) before) (rows_from (k + length (line ∷ before)) ls))

-- ---- the mark of the beginning, where there is one
abbrev Started : List Row → List Row → Row → List Row → Type 0
Started all front r rest =
    (mark : List Row) × (all ≡ (mark ++ front) ++ r ∷ rest)
    × ((xs : List Row) → without_start ((mark ++ front) ++ r ∷ xs) ≡ front ++ r ∷ xs)
    -- what comes before, without its last row or with it
    × (without_start (mark ++ front) ≡ front)
    × ((some : List Row) (d : Row) → mark ++ front ≡ some ++ d ∷ [] → (without_start some ≡ []) ⊎ (front ≡ without_start some ++ d ∷ []))

abbrev is_mark : Row → Bool
is_mark r = is_same r.line (45 ∷ 45 ∷ 45 ∷ [])

kept_start : (a : Row) (rows : List Row) → is_mark a ≡ false → without_start (a ∷ rows) ≡ a ∷ rows
kept_start a rows is = ap (λ b. cond b rows (a ∷ rows)) is

marked : (a : Row) (front : List Row) (r : Row) (rest : List Row) → is_mark a ≡ true → Started (a ∷ front ++ r ∷ rest) front r rest
marked a front r rest is =
    (a ∷ [], refl, λ xs. ap (λ b. cond b (front ++ r ∷ xs) (a ∷ front ++ r ∷ xs)) is, ap (λ b. cond b front (a ∷ front)) is, last) where
      last : (some : List Row) (d : Row) → a ∷ front ≡ some ++ d ∷ [] → (without_start some ≡ []) ⊎ (front ≡ without_start some ++ d ∷ [])
      last [] d e = inl refl
      last (s ∷ some) d e =
          let same = first_same a s front (some ++ d ∷ []) e in
          let begins : is_mark s ≡ true = ap is_mark (sym same.0) ∙ is in
          inr (same.1 ∙ ap (λ b. cond b some (s ∷ some) ++ d ∷ []) (sym begins))

unmarked : (front : List Row) (r : Row) (rest : List Row) (a : Row) (rows : List Row) → is_mark a ≡ false → a ∷ rows ≡ front ++ r ∷ rest → Started (a ∷ rows) front r rest
unmarked [] r rest a rows is e =
    let same = first_same a r rows rest e in
    let plain : is_mark r ≡ false = ap is_mark (sym same.0) ∙ is in
    ([], e, λ xs. kept_start r xs plain, refl, λ some d none. inl (empty some d none)) where
      empty : (some : List Row) (d : Row) → [] ≡ some ++ d ∷ [] → without_start some ≡ []
      empty some d none = absurd (no_rows some d [] none)
unmarked (f ∷ fs) r rest a rows is e =
    let same = first_same a f rows (fs ++ r ∷ rest) e in
    let plain : is_mark f ≡ false = ap is_mark (sym same.0) ∙ is in
    ([], e, λ xs. kept_start f (fs ++ r ∷ xs) plain, kept_start f fs plain, last plain) where
      last : is_mark f ≡ false → (some : List Row) (d : Row) → f ∷ fs ≡ some ++ d ∷ [] → (without_start some ≡ []) ⊎ (f ∷ fs ≡ without_start some ++ d ∷ [])
      last plain [] d e = inl refl
      last plain (s ∷ some) d e =
          let same = first_same f s fs (some ++ d ∷ []) e in
          let begins : is_mark s ≡ false = ap is_mark (sym same.0) ∙ plain in
          inr (e ∙ ap (λ (x : List Row). x ++ d ∷ []) (sym (kept_start s some begins)))

started : (all front : List Row) (r : Row) (rest : List Row) → without_start all ≡ front ++ r ∷ rest → Started all front r rest
started [] front r rest e = absurd (no_rows front r rest e)
started (a ∷ rows) front r rest e = by_mark (is_mark a) refl e where
  by_mark : (b : Bool) → is_mark a ≡ b → cond b rows (a ∷ rows) ≡ front ++ r ∷ rest → Started (a ∷ rows) front r rest
  by_mark true is e = subst (λ (x : List Row). Started (a ∷ x) front r rest) (sym e) (marked a front r rest is)
  by_mark false is e = unmarked front r rest a rows is e

-- ---- what comes before a row that goes on stands for a tree
shorter_stands : (front : List Row) (d : Row) (t : Shape) → StandFor (front ++ d ∷ []) t → (read : Result Shape YamlFault) → document front ≡ read → (u : Shape) × StandFor front u
shorter_stands front d t stands (Ok u) is = (u, document_sound front u is)
shorter_stands front d t stands (Err f) is =
    let s = document_stops front f is in
    let whole : front ++ d ∷ [] ≡ s.0 ++ s.1 ∷ (s.2 ++ d ∷ []) = ap (λ (x : List Row). x ++ d ∷ []) s.3 ∙ append_assoc s.0 (s.1 ∷ s.2) (d ∷ []) in
    absurd (s.6 (s.2 ++ d ∷ []) t (subst (λ (x : List Row). StandFor x t) whole stands))

before_stands : (some front : List Row) (d : Row) (t : Shape) → StandFor front t → (some ≡ []) ⊎ (front ≡ some ++ d ∷ []) → (u : Shape) × StandFor some u
before_stands some front d t stands (inl none) = (nothing, inl (none, refl))
before_stands some front d t stands (inr e) = shorter_stands some d t (subst (λ (x : List Row). StandFor x t) e stands) (document some) refl

module _ (ls : List (List ℕ)) (front : List Row) (r : Row) (rest : List Row) (t : Shape) (stands : StandFor front t) (none : (more : List Row) (u : Shape) → StandFor (front ++ r ∷ more) u → ⊥)
    (st : Started (rows_from 1 ls) front r rest) where
  abbrev all_front : List Row
  all_front = st.0 ++ front

  -- the lines before it stand for a tree
  lines_before : (before : List (List ℕ)) (line : List ℕ) (n : ℕ) → Place n (rows_from 1 before) line all_front r → (u : Shape) × StandFor (rows_of_lines before) u
  lines_before before line n (inl x) = (t, subst (λ (y : List Row). StandFor y t) (sym (ap without_start (sym x.1) ∙ st.3)) stands)
  lines_before before line n (inr x) = before_stands (rows_of_lines before) front x.0 t stands (st.4 (rows_from 1 before) x.0 x.1)

  rows_with : (before : List (List ℕ)) (line : List ℕ) (others : List (List ℕ)) → Place (1 + length before) (rows_from 1 before) line all_front r → (more : List Row) × (rows_of_lines (before ++ line ∷ others) ≡ front ++ r ∷ more)
  rows_with before line others (inl x) =
      let after = rows_from (1 + length before + 1) others in
      let e : rows_from 1 (before ++ line ∷ others) ≡ all_front ++ r ∷ (x.0 ++ after) =
      rows_append before 1 (line ∷ others) ∙ (ap (λ (y : List Row). y ++ (rows_of_line (1 + length before) line ++ after)) (sym x.1) ∙ ap (λ (y : List Row). all_front ++ (y ++ after)) x.2) in
      (x.0 ++ after, ap without_start e ∙ st.2 (x.0 ++ after))
  rows_with before line others (inr x) =
      let after = rows_from (1 + length before + 1) others in
      let e : rows_from 1 (before ++ line ∷ others) ≡ all_front ++ r ∷ after =
      rows_append before 1 (line ∷ others) ∙ (ap (λ (y : List Row). rows_from 1 before ++ (y ++ after)) x.2
      ∙ (sym (append_assoc (rows_from 1 before) (x.0 ∷ []) (r ∷ after)) ∙ ap (λ (y : List Row). y ++ r ∷ after) (sym x.1))) in
      (after, ap without_start e ∙ st.2 after)

  stop_line : (n : ℕ) → r.number ≡ n → Found 1 ls all_front r → StopsAt ls n
  stop_line n num f =
      let count : n ≡ length f.0 + 1 = omega (arith, f.4, num) in (
        f.0,
        f.1,
        f.2,
        f.3,
        count,
        lines_before f.0 f.1 (1 + length f.0) f.5,
        λ others u is. let w = rows_with f.0 f.1 others f.5 in none w.0 u (subst (λ (y : List Row). StandFor y u) w.1 is),
      )

-- the fault of lines is at the first that can't continue a valid document
pub lines_stop : (ls : List (List ℕ)) (f : YamlFault) → document (rows_of_lines ls) ≡ Err f → StopsAt ls (line_of f)
lines_stop ls f fails =
    let s = document_stops (rows_of_lines ls) f fails in
    let st = started (rows_from 1 ls) s.0 s.1 s.2 s.3 in
    stop_line ls s.0 s.1 s.2 s.5.0 s.5.1 s.6 st (line_of f) s.4 (found ls 1 s.1 s.2 (st.0 ++ s.0) st.1)
