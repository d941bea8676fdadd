-- Going over the lines of a text.
use Rattle.std.proofs.Common.{◌≡◌, ℕ, ◌+◌, ◌<◌, ◌≤◌, List, ◌++◌, length, get_or, drop, sym, ap, ◌∙◌, append_assoc}
use Rattle.std.proofs.lemmas.List.{at_drop_more, at_drop_all, append-nil}
use Rattle.yaml_read.specs.Rows.{Row, rows_of_line, rows_from}

pub rows_step : (ls : List (List ℕ)) (k : ℕ) (line : List ℕ) → k < length ls → line ≡ get_or ls k line → (front total : List Row) → front ++ rows_from (k + 1) (drop k ls) ≡ total
    → (front ++ rows_of_line (k + 1) line) ++ rows_from (k + 1 + 1) (drop (k + 1) ls) ≡ total
rows_step ls k line lt is front total so_far =
    append_assoc front (rows_of_line (k + 1) line) (rows_from (k + 1 + 1) (drop (k + 1) ls))
    ∙ (ap (λ (l : List ℕ). front ++ (rows_of_line (k + 1) l ++ rows_from (k + 1 + 1) (drop (k + 1) ls))) is
    ∙ (ap (λ (r : List Row). front ++ r) (sym (at_drop_more (rows_from (k + 1)) ls k line lt)) ∙ so_far))

pub rows_end : (ls : List (List ℕ)) (k : ℕ) (front total : List Row) → length ls ≤ k → front ++ rows_from (k + 1) (drop k ls) ≡ total → front ≡ total
rows_end ls k front total le so_far = sym (append-nil front) ∙ (ap (λ (r : List Row). front ++ r) (sym (at_drop_all (rows_from (k + 1)) ls k le)) ∙ so_far)
