-- The text of a map that has a pair stands for that map.
use Rattle.std.proofs.Common.{◌≡◌, ◌∙◌, ◌++◌, ◌≤◌, ℕ, List, [], ◌∷◌, Bool, true, false, cond, eqb, refl, sym, ap, subst, inr}
use Rattle.std.specs.Prelude.{codes}
use Rattle.std.proofs.lemmas.Bool.{and_left, false≢true}
use Rattle.doc_tree.specs.Shape.{Shape, nothing, truth, whole, text, list, mapping, Pairs, no_pairs, pair, is_distinct, levels}
use Rattle.yaml_plain.specs.Bytes.{is_same, begins}
use Rattle.yaml_read.specs.Rows.{Row, rows_from, rows_of, rows_of_lines, without_start}
use Rattle.yaml_read.specs.Standing.{IsNode, StandsFor}
use Rattle.yaml_text.specs.Layout.{spaces, pairs_lines, below_key, yaml_text_of, is_filled_map}
use Rattle.doc_tree.specs.Integers.{integers_fit}
use Rattle.yaml_text.proofs.Stands.{row_of_pair, map_stands}
use Rattle.yaml_text.proofs.CleanLines.{clean_map, lines_of_text}
use Rattle.doc_tree.specs.declared.limits.TheConstants.{MAX_LEVELS}

no_start : (line : List ℕ) → begins 45 line ≡ false → is_same line (codes "---") ≡ false
no_start [] is = refl
no_start (b ∷ bs) is = and_left (eqb b 45) (is_same bs (codes "--")) is

kept : (r : Row) (rows : List Row) → begins 45 r.line ≡ false → without_start (r ∷ rows) ≡ r ∷ rows
kept r rows is = ap (λ (t : Bool). cond t rows (r ∷ rows)) (no_start r.line is)

kept_all : (all : List Row) (r : Row) (rows : List Row) → all ≡ r ∷ rows → begins 45 r.line ≡ false → without_start all ≡ all
kept_all all r rows is other = ap without_start is ∙ (kept r rows other ∙ sym is)

rows_are : (k : List ℕ) (t : Shape) (ps : Pairs) → integers_fit (mapping (pair k t ps)) ≡ true → rows_of (yaml_text_of (mapping (pair k t ps))) ≡ rows_from 1 (pairs_lines [] 0 (pair k t ps))
unfolding rows_of yaml_text_of
rows_are k t ps fit =
    let row = row_of_pair 1 0 k t in
    ap rows_of_lines (lines_of_text (pairs_lines [] 0 (pair k t ps)) (clean_map (pair k t ps) fit))
    ∙ kept_all (rows_from 1 (pairs_lines [] 0 (pair k t ps))) row.0 (rows_from 2 (below_key 0 t ++ pairs_lines (spaces 0) 0 ps)) (ap (λ (rows : List Row). rows ++ rows_from 2 (below_key 0 t ++ pairs_lines (spaces 0) 0 ps)) row.1) row.3

pub text_stands : (k : List ℕ) (t : Shape) (ps : Pairs) → is_distinct (mapping (pair k t ps)) ≡ true → integers_fit (mapping (pair k t ps)) ≡ true → levels (mapping (pair k t ps)) ≤ MAX_LEVELS
    → StandsFor (yaml_text_of (mapping (pair k t ps))) (mapping (pair k t ps))
text_stands k t ps distinct fit le = inr (subst (λ (rows : List Row). IsNode MAX_LEVELS rows (mapping (pair k t ps))) (sym (rows_are k t ps fit)) (map_stands k t ps distinct fit le))

pub filled_stands : (t : Shape) → is_filled_map t ≡ true → is_distinct t ≡ true → integers_fit t ≡ true → levels t ≤ MAX_LEVELS → StandsFor (yaml_text_of t) t
filled_stands nothing filled distinct fit le = absurd (false≢true filled)
filled_stands (truth b) filled distinct fit le = absurd (false≢true filled)
filled_stands (whole z) filled distinct fit le = absurd (false≢true filled)
filled_stands (text s) filled distinct fit le = absurd (false≢true filled)
filled_stands (list ts) filled distinct fit le = absurd (false≢true filled)
filled_stands (mapping no_pairs) filled distinct fit le = absurd (false≢true filled)
filled_stands (mapping (pair k t ps)) filled distinct fit le = text_stands k t ps distinct fit le
