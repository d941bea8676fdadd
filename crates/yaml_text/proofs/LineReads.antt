-- What follows a key's colon or a dash is read again.
use Rattle.std.proofs.Common.{◌≡◌, ◌∙◌, ℕ, suc, List, [], ◌∷◌, Bool, true, false, cond, eqb, refl, sym, ap, subst, arith, Option, Some, None, Result, Ok}
use Rattle.std.specs.Prelude.{◌||◌, codes}
use Rattle.std.specs.List.{list_any}
use Rattle.std.specs.Char.{is_ascii_alphanumeric}
use Rattle.std.specs.Int.{is_in_range}
use Rattle.std.proofs.lemmas.Bool.Decides.{nat_tests}
use Rattle.std.proofs.lemmas.Bool.{false≢true, or_left}
use Rattle.doc_tree.specs.Shape.{Shape, nothing, truth, text, list, mapping, no_shapes, no_pairs}
use Rattle.yaml_read.specs.declared.stop.Why.{Why}
use Rattle.yaml_read.specs.declared.stop.Repeats.TheVariants.{Refused}
use Rattle.yaml_plain.specs.Bytes.{skip_spaces}
use Rattle.yaml_plain.specs.Plain.{plain_value, is_integer}
use Rattle.yaml_read.specs.Quoted.{begins_quoted}
use Rattle.yaml_read.specs.Keys.{◌>>=◌, key, scalar, begins_other}
use Rattle.yaml_read.specs.Flow.{flow, flow_items, flow_pairs}
use Rattle.yaml_read.specs.OnLine.{is_blank, is_over, is_over_plain, alone, on_line, entry_on_line}
use Rattle.yaml_text.specs.Scalars.{is_plain, is_control, printed, in_double_quotes, in_single_quotes}
use Rattle.yaml_text.proofs.ByteLaws.{apart, no_other, starts_key}
use Rattle.yaml_text.proofs.PlainReads.{plain_parts}
use Rattle.yaml_text.proofs.ScalarReads.{printed_text}
use Rattle.yaml_text.proofs.NumberReads.{starts, Shown}
use Rattle.yaml_plain.specs.declared.style.Style.TheVariants.{Block}

-- the first byte of a key
pub record First (x : List ℕ) : Type 0 where
  pub first : ℕ
  pub others : List ℕ
  pub is : x ≡ first ∷ others
  pub start : starts_key first ≡ true

plain_first : (s : List ℕ) → is_plain s ≡ true → First s
plain_first [] is = let parts = plain_parts [] is in absurd (false≢true parts.first)
plain_first (b ∷ bs) is =
    let parts = plain_parts (b ∷ bs) is in
    record { first = b; others = bs; is = refl; start = or_left (is_ascii_alphanumeric b) _ parts.first }

first_by : (t u : Bool) (s : List ℕ) → is_plain s ≡ t → First (cond t s (cond u (in_double_quotes s) (in_single_quotes s)))
first_by true u s is = plain_first s is
first_by false true s is = record { first = 34; others = _; is = refl; start = refl }
first_by false false s is = record { first = 39; others = _; is = refl; start = refl }

pub printed_first : (s : List ℕ) → First (printed s)
unfolding printed
printed_first s = first_by (is_plain s) (list_any is_control s) s refl

-- a key's first byte is one of a scalar too
key_starts : (b : ℕ) → starts_key b ≡ true → starts b ≡ true
key_starts b is = by_parts (is_in_range 48 57 b) (is_in_range 65 90 b) (is_in_range 97 122 b) (eqb 34 b) (eqb 39 b) (eqb b 45) (eqb b 34) (eqb b 39) (flip 34 b) (flip 39 b) is where
  flip : (k b : ℕ) → eqb k b ≡ eqb b k
  flip k b = grind (arith, nat_tests)

  by_parts : (d u l q a m r p : Bool) → q ≡ r → a ≡ p → (((d || u) || l) || (q || (a || false))) ≡ true → (d || (m || (u || (l || (r || p))))) ≡ true
  by_parts true u l q a m r p e f is = refl
  by_parts false u l q a true r p e f is = refl
  by_parts false true l q a false r p e f is = refl
  by_parts false false true q a false r p e f is = refl
  by_parts false false false true a false r p e f is = rw (sym e) refl
  by_parts false false false false true false true p e f is = refl
  by_parts false false false false true false false p e f is = sym f
  by_parts false false false false false false r p e f is = absurd (false≢true is)

pub text_shown : (s : List ℕ) → Shown (printed s) (text s)
text_shown s =
    let f = printed_first s in
    record { first = f.first; others = f.others; is = f.is; start = key_starts f.first f.start; reads = (printed_text s).0; no_key = (printed_text s).1 }

pub null_shown : Shown (codes "null") nothing
unfolding scalar key plain_value is_integer
null_shown = record { first = 110; others = codes "ull"; is = refl; start = refl; reads = refl; no_key = refl }

pub truth_shown : (b : Bool) → Shown (cond b (codes "true") (codes "false")) (truth b)
unfolding scalar key plain_value is_integer
truth_shown true = record { first = 116; others = codes "rue"; is = refl; start = refl; reads = refl; no_key = refl }
truth_shown false = record { first = 102; others = codes "alse"; is = refl; start = refl; reads = refl; no_key = refl }

-- ---- a value on its line
abbrev whole_line : List ℕ → Result (Option Shape) Why
whole_line bs = cond (begins_quoted bs) (scalar Block bs >>= (λ p. alone (is_over p.1) p.0)) (scalar Block bs >>= (λ p. alone (is_over_plain p.1) p.0))

read_whole : (bs : List ℕ) (t : Shape) → scalar Block bs ≡ Ok (t, []) → whole_line bs ≡ Ok (Some t)
unfolding is_over
read_whole bs t is = rw is (same (begins_quoted bs) (Ok (Some t))) where
  same : (q : Bool) (r : Result (Option Shape) Why) → cond q r r ≡ r
  same true r = refl
  same false r = refl

scalar_line : (m b : ℕ) (bs : List ℕ) (t : Shape) → starts b ≡ true → scalar Block (b ∷ bs) ≡ Ok (t, []) → entry_on_line (suc m) (32 ∷ b ∷ bs) ≡ Ok (Some t)
unfolding on_line is_blank
scalar_line m b bs t start is =
    rw (apart starts b 32 start refl, apart starts b 35 start refl, no_other starts b bs start refl refl, apart starts b 91 start refl, apart starts b 123 start refl) (read_whole (b ∷ bs) t is)

pub shown_line : (m : ℕ) (x : List ℕ) (t : Shape) → Shown x t → entry_on_line (suc m) (32 ∷ x) ≡ Ok (Some t)
shown_line m x t s =
    subst (λ (y : List ℕ). entry_on_line (suc m) (32 ∷ y) ≡ Ok (Some t)) (sym s.is) (scalar_line m s.first s.others t s.start (subst (λ (y : List ℕ). scalar Block y ≡ Ok (t, [])) s.is s.reads))

skip_one : (b : ℕ) (bs : List ℕ) → eqb b 32 ≡ false → skip_spaces (32 ∷ b ∷ bs) ≡ b ∷ bs
skip_one b bs is = rw is refl

pub shown_no_key : (x : List ℕ) (t : Shape) → Shown x t → key Block (skip_spaces (32 ∷ x)) ≡ None
shown_no_key x t s =
    subst (λ (y : List ℕ). key Block (skip_spaces (32 ∷ y)) ≡ None) (sym s.is)
    (ap (key Block) (skip_one s.first s.others (apart starts s.first 32 s.start refl)) ∙ subst (λ (y : List ℕ). key Block y ≡ None) s.is s.no_key)

pub no_line : (m : ℕ) → entry_on_line (suc m) [] ≡ Ok None
unfolding on_line is_blank
no_line m = refl

-- the turns of an empty list or map: one
list_turn : (m n : ℕ) → flow_items Refused m (flow Refused m) (suc n) (codes "]") ≡ Ok ([], [])
unfolding flow_items
list_turn m n = refl

map_turn : (m n : ℕ) → flow_pairs Refused m (flow Refused m) (suc n) [] (codes "}") ≡ Ok ([], [])
unfolding flow_pairs
map_turn m n = refl

flow_list : (m : ℕ) → flow Refused (suc m) (codes "[]") ≡ Ok (list no_shapes, [])
unfolding flow begins_other
flow_list m = rw (list_turn m 4194303) refl

flow_map : (m : ℕ) → flow Refused (suc m) (codes "{}") ≡ Ok (mapping no_pairs, [])
unfolding flow begins_other
flow_map m = rw (map_turn m 4194303) refl

pub empty_list_line : (m : ℕ) → entry_on_line (suc m) (32 ∷ codes "[]") ≡ Ok (Some (list no_shapes))
unfolding on_line is_blank begins_other is_over
empty_list_line m = rw (flow_list m) refl

pub empty_map_line : (m : ℕ) → entry_on_line (suc m) (32 ∷ codes "{}") ≡ Ok (Some (mapping no_pairs))
unfolding on_line is_blank begins_other is_over
empty_map_line m = rw (flow_map m) refl

pub empty_list_no_key : key Block (skip_spaces (32 ∷ codes "[]")) ≡ None
unfolding key
empty_list_no_key = refl

pub empty_map_no_key : key Block (skip_spaces (32 ∷ codes "{}")) ≡ None
unfolding key
empty_map_no_key = refl

pub nothing_no_key : key Block (skip_spaces []) ≡ None
unfolding key
nothing_no_key = refl
