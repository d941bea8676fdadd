-- The rows of a printed line.
use Rattle.std.proofs.Common.{◌≡◌, ◌∙◌, ◌++◌, ◌+◌, ℕ, suc, zero, List, [], ◌∷◌, Bool, true, false, cond, eqb, replicate, length, refl, sym, ap, ap₂, subst, arith, append_assoc, Option, Some, None, is_some}
use Rattle.std.specs.Prelude.{◌||◌, ◌&&◌}
use Rattle.std.proofs.lemmas.Bool.{or_from, and_right, and_left, eqb-true}
use Rattle.yaml_plain.specs.Bytes.{leading_spaces, skip_spaces, begins_with, at_gap}
use Rattle.yaml_read.specs.Keys.{key}
use Rattle.yaml_read.specs.OnLine.{is_blank}
use Rattle.yaml_read.specs.Rows.{Row, row, is_dash, lone_dash, behind_dash, begins_compact, rows_of_row, rows_of_line, rows_from}
use Rattle.yaml_read.specs.Outside.{has_tab, begins_mark, byte_order_mark, is_outside}
use Rattle.yaml_text.specs.Layout.{spaces}
use Rattle.yaml_text.proofs.ByteLaws.{apart, starts_key}
use Rattle.yaml_plain.specs.declared.style.Style.TheVariants.{Block}

-- spaces before something else
lead_count : (c b : ℕ) (bs : List ℕ) → eqb b 32 ≡ false → leading_spaces (replicate c 32 ++ (b ∷ bs)) ≡ c
lead_count zero b bs other = rw other refl
lead_count (suc c) b bs other = ap (λ (n : ℕ). n + 1) (lead_count c b bs other) ∙ one_more c where
  one_more : (n : ℕ) → n + 1 ≡ suc n
  one_more n = omega arith

lead_skip : (c b : ℕ) (bs : List ℕ) → eqb b 32 ≡ false → skip_spaces (replicate c 32 ++ (b ∷ bs)) ≡ b ∷ bs
lead_skip zero b bs other = rw other refl
lead_skip (suc c) b bs other = lead_skip c b bs other

lead_tab : (c : ℕ) (x : List ℕ) → has_tab x ≡ false → has_tab (replicate c 32 ++ x) ≡ false
lead_tab zero x none = none
lead_tab (suc c) x none = lead_tab c x none

lead_mark : (c : ℕ) (x : List ℕ) → begins_mark x ≡ false → begins_mark (replicate c 32 ++ x) ≡ false
lead_mark zero x none = none
lead_mark (suc c) x none = refl

lead_order : (c : ℕ) (x : List ℕ) → begins_with byte_order_mark x ≡ false → begins_with byte_order_mark (replicate c 32 ++ x) ≡ false
lead_order zero x none = none
lead_order (suc c) x none = refl

not_outside : (n c column : ℕ) (x text : List ℕ) → has_tab x ≡ false → begins_mark x ≡ false → begins_with byte_order_mark x ≡ false
    → is_outside (record { number = n; column = column; text = text; line = spaces c ++ x }) ≡ false
unfolding is_outside
not_outside n c column x text tab mark order =
    or_from (has_tab (spaces c ++ x) || begins_mark (spaces c ++ x)) (eqb n 1 && begins_with byte_order_mark (spaces c ++ x))
    (or_from (has_tab (spaces c ++ x)) (begins_mark (spaces c ++ x)) (lead_tab c x tab) (lead_mark c x mark))
    (and_right (eqb n 1) (begins_with byte_order_mark (spaces c ++ x)) (lead_order c x order))

not_blank : (c b : ℕ) (bs : List ℕ) → eqb b 32 ≡ false → eqb b 35 ≡ false → is_blank (spaces c ++ (b ∷ bs)) ≡ false
unfolding is_blank
not_blank c b bs other hash = rw (lead_skip c b bs other, hash) refl

-- the row of such a line
abbrev pub row_at : ℕ → ℕ → List ℕ → List ℕ → Row
row_at n c text line = record { number = n; column = c; text = text; line = line }

row_is : (n c b : ℕ) (bs : List ℕ) → eqb b 32 ≡ false → row n (spaces c ++ (b ∷ bs)) ≡ row_at n c (b ∷ bs) (spaces c ++ (b ∷ bs))
row_is n c b bs other =
    ap₂ (λ (column : ℕ) (text : List ℕ). row_at n column text (spaces c ++ (b ∷ bs))) (lead_count c b bs other) (lead_skip c b bs other)

line_rows : (n c b : ℕ) (bs : List ℕ) → eqb b 32 ≡ false → eqb b 35 ≡ false → rows_of_line n (spaces c ++ (b ∷ bs)) ≡ rows_of_row (row_at n c (b ∷ bs) (spaces c ++ (b ∷ bs)))
unfolding rows_of_line
line_rows n c b bs other hash =
    ap (λ (t : Bool). cond t [] (rows_of_row (row n (spaces c ++ (b ∷ bs))))) (not_blank c b bs other hash) ∙ ap rows_of_row (row_is n c b bs other)

one_row : (r : Row) → begins_compact r ≡ false → rows_of_row r ≡ r ∷ []
one_row r is = ap (λ (t : Bool). cond t (lone_dash r ∷ behind_dash r ∷ []) (r ∷ [])) is

two_rows : (r : Row) → begins_compact r ≡ true → rows_of_row r ≡ lone_dash r ∷ behind_dash r ∷ []
two_rows r is = ap (λ (t : Bool). cond t (lone_dash r ∷ behind_dash r ∷ []) (r ∷ [])) is

-- a line that begins with a key
pub key_row : (n c b : ℕ) (bs : List ℕ) → starts_key b ≡ true → rows_of_line n (spaces c ++ (b ∷ bs)) ≡ row_at n c (b ∷ bs) (spaces c ++ (b ∷ bs)) ∷ []
key_row n c b bs start =
    line_rows n c b bs (apart starts_key b 32 start refl) (apart starts_key b 35 start refl)
    ∙ one_row (row_at n c (b ∷ bs) (spaces c ++ (b ∷ bs))) (and_left (is_dash (b ∷ bs)) _ (and_left (eqb b 45) (at_gap bs) (apart starts_key b 45 start refl)))

pub key_inside : (n c column b : ℕ) (bs text : List ℕ) → starts_key b ≡ true → is_outside (row_at n column text (spaces c ++ (b ∷ bs))) ≡ false
key_inside n c column b bs text start =
    not_outside n c column (b ∷ bs) text (rw (apart starts_key b 9 start refl, apart starts_key b 32 start refl) refl)
    (rw (apart starts_key b 45 start refl, apart starts_key b 46 start refl, apart starts_key b 37 start refl) refl)
    (rw (apart starts_key b 0xEF start refl) refl)

-- a line that begins with a dash
gap_tab : (g : List ℕ) → at_gap g ≡ true → begins_mark (45 ∷ g) ≡ false
gap_tab [] gap = refl
gap_tab (b ∷ bs) gap = dash_next b bs gap where
  dash_next : (b : ℕ) (bs : List ℕ) → eqb b 32 ≡ true → begins_mark (45 ∷ b ∷ bs) ≡ false
  dash_next b bs is = subst (λ (k : ℕ). begins_mark (45 ∷ k ∷ bs) ≡ false) (sym (eqb-true b 32 is)) refl

pub dash_inside : (n c column : ℕ) (g text : List ℕ) → at_gap g ≡ true → is_outside (row_at n column text (spaces c ++ (45 ∷ g))) ≡ false
dash_inside n c column g text gap = not_outside n c column (45 ∷ g) text refl (gap_tab g gap) refl

pub dash_row : (n c : ℕ) (g : List ℕ) → key Block (skip_spaces g) ≡ None → rows_of_line n (spaces c ++ (45 ∷ g)) ≡ row_at n c (45 ∷ g) (spaces c ++ (45 ∷ g)) ∷ []
dash_row n c g none =
    line_rows n c 45 g refl refl
    ∙ one_row (row_at n c (45 ∷ g) (spaces c ++ (45 ∷ g))) (and_right (is_dash (45 ∷ g)) (is_some (key Block (skip_spaces g))) (ap (λ (o : Option (List ℕ × List ℕ)). is_some o) none))

-- a line with a dash and a key
pub compact_rows : (n c b : ℕ) (bs : List ℕ) (k : List ℕ × List ℕ) → starts_key b ≡ true → key Block (b ∷ bs) ≡ Some k
    → rows_of_line n (spaces c ++ (45 ∷ 32 ∷ b ∷ bs)) ≡ row_at n c (45 ∷ []) (spaces c ++ (45 ∷ 32 ∷ b ∷ bs)) ∷ row_at n (c + 2) (b ∷ bs) (spaces c ++ (45 ∷ 32 ∷ b ∷ bs)) ∷ []
compact_rows n c b bs k start is =
    let other : eqb b 32 ≡ false = apart starts_key b 32 start refl in
    let skip : skip_spaces (b ∷ bs) ≡ b ∷ bs = lead_skip 0 b bs other in
    let none : leading_spaces (b ∷ bs) ≡ 0 = lead_count 0 b bs other in
    let column : (c + 1) + (leading_spaces (b ∷ bs) + 1) ≡ c + 2 = omega (arith, none) in
    let compact : begins_compact (row_at n c (45 ∷ 32 ∷ b ∷ bs) (spaces c ++ (45 ∷ 32 ∷ b ∷ bs))) ≡ true = ap (λ (x : List ℕ). is_some (key Block x)) skip ∙ ap (λ (o : Option (List ℕ × List ℕ)). is_some o) is in
    line_rows n c 45 (32 ∷ b ∷ bs) refl refl
    ∙ (two_rows (row_at n c (45 ∷ 32 ∷ b ∷ bs) (spaces c ++ (45 ∷ 32 ∷ b ∷ bs))) compact
    ∙ ap₂ (λ (at : ℕ) (text : List ℕ). row_at n c (45 ∷ []) (spaces c ++ (45 ∷ 32 ∷ b ∷ bs)) ∷ row_at n at text (spaces c ++ (45 ∷ 32 ∷ b ∷ bs)) ∷ []) column skip)

-- the rows of lines, and of more behind them
pub rows_append : (n : ℕ) (xs ys : List (List ℕ)) → rows_from n (xs ++ ys) ≡ rows_from n xs ++ rows_from (n + length xs) ys
rows_append n [] ys = let same : n ≡ n + 0 = omega arith in ap (λ (k : ℕ). rows_from k ys) same
rows_append n (x ∷ xs) ys =
    let same : (n + 1) + length xs ≡ n + length (x ∷ xs) = omega arith in
    ap (λ (r : List Row). rows_of_line n x ++ r) (rows_append (n + 1) xs ys ∙ ap (λ (k : ℕ). rows_from (n + 1) xs ++ rows_from k ys) same)
    ∙ sym (append_assoc (rows_of_line n x) (rows_from (n + 1) xs) (rows_from (n + length (x ∷ xs)) ys))
