-- A printed text is read again, as a key and as a value.
use Rattle.std.proofs.Common.{◌≡◌, ◌∙◌, ◌++◌, ℕ, List, [], ◌∷◌, Bool, true, false, cond, refl, sym, ap, append_assoc, flat_map, Some, None, Ok}
use Rattle.std.specs.List.{list_any}
use Rattle.std.specs.Char.{is_ascii_alphanumeric}
use Rattle.std.proofs.lemmas.Bool.{false≢true}
use Rattle.std.proofs.lemmas.List.{append-nil}
use Rattle.doc_tree.specs.Shape.{Shape, text}
use Rattle.yaml_plain.specs.Bytes.{at_gap}
use Rattle.yaml_read.specs.Quoted.{quoted, begins_quoted, single_quoted}
use Rattle.yaml_read.specs.Keys.{key, scalar}
use Rattle.yaml_text.specs.Scalars.{is_plain, is_control, escaped, doubled, in_double_quotes, in_single_quotes, printed}
use Rattle.yaml_text.proofs.ByteLaws.{begins_plainly, no_quote}
use Rattle.yaml_text.proofs.PlainReads.{plain_parts, plain_key, plain_scalar, plain_no_key, text_value}
use Rattle.yaml_text.proofs.QuoteReads.{double_reads, single_reads_quoted}
use Rattle.yaml_plain.specs.declared.style.Style.TheVariants.{Block}

double_is : (s rest : List ℕ) → quoted (in_double_quotes s ++ rest) ≡ Some (s, rest)
double_is s rest = ap (λ (x : List ℕ). quoted (34 ∷ x)) (append_assoc (flat_map escaped s) (34 ∷ []) rest) ∙ double_reads s rest

single_is : (s rest : List ℕ) → single_quoted true rest ≡ Some ([], rest) → quoted (in_single_quotes s ++ rest) ≡ Some (s, rest)
single_is s rest ends = ap (λ (x : List ℕ). quoted (39 ∷ x)) (append_assoc (flat_map doubled s) (39 ∷ []) rest) ∙ single_reads_quoted s rest ends

-- a quoted key, and a quoted scalar
quoted_key : (front k g : List ℕ) → begins_quoted (front ++ (58 ∷ g)) ≡ true → quoted (front ++ (58 ∷ g)) ≡ Some (k, 58 ∷ g) → at_gap g ≡ true → key Block (front ++ (58 ∷ g)) ≡ Some (k, g)
unfolding key
quoted_key front k g opens is gap = rw (opens, is, gap) refl

quoted_scalar : (front s : List ℕ) → begins_quoted front ≡ true → quoted front ≡ Some (s, []) → scalar Block front ≡ Ok (text s, [])
unfolding scalar
quoted_scalar front s opens is = rw (opens, is) refl

quoted_no_key : (front s : List ℕ) → begins_quoted front ≡ true → quoted front ≡ Some (s, []) → key Block front ≡ None
unfolding key
quoted_no_key front s opens is = rw (opens, is) refl

key_by : (t u : Bool) (k g : List ℕ) → is_plain k ≡ t → at_gap g ≡ true → key Block ((cond t k (cond u (in_double_quotes k) (in_single_quotes k))) ++ (58 ∷ g)) ≡ Some (k, g)
key_by true u k g is gap = plain_key k g is gap
key_by false true k g is gap = quoted_key (in_double_quotes k) k g refl (double_is k (58 ∷ g)) gap
key_by false false k g is gap = quoted_key (in_single_quotes k) k g refl (single_is k (58 ∷ g) refl) gap

-- a printed key is read as that key, up to its colon
pub printed_key : (k g : List ℕ) → at_gap g ≡ true → key Block (printed k ++ (58 ∷ g)) ≡ Some (k, g)
unfolding printed
printed_key k g gap = key_by (is_plain k) (list_any is_control k) k g refl gap

whole_double : (s : List ℕ) → quoted (in_double_quotes s) ≡ Some (s, [])
whole_double s = ap quoted (sym (append-nil (in_double_quotes s))) ∙ double_is s []

whole_single : (s : List ℕ) → quoted (in_single_quotes s) ≡ Some (s, [])
whole_single s = ap quoted (sym (append-nil (in_single_quotes s))) ∙ single_is s [] refl

plain_text : (s : List ℕ) → is_plain s ≡ true → (scalar Block s ≡ Ok (text s, [])) × (key Block s ≡ None)
plain_text [] is = let parts = plain_parts [] is in absurd (false≢true parts.first)
plain_text (b ∷ bs) is =
    let parts = plain_parts (b ∷ bs) is in
    let bare = no_quote is_ascii_alphanumeric b bs parts.first refl refl in
    let plain = begins_plainly is_ascii_alphanumeric b bs parts.first refl refl refl refl in
    (plain_scalar b bs bare plain parts.all parts.last ∙ ap (λ (t : Shape). Ok (t, [])) (text_value (b ∷ bs) parts.is_text), plain_no_key b bs bare plain parts.all parts.last)

text_by : (t u : Bool) (s : List ℕ) → is_plain s ≡ t
    → (scalar Block (cond t s (cond u (in_double_quotes s) (in_single_quotes s))) ≡ Ok (text s, [])) × (key Block (cond t s (cond u (in_double_quotes s) (in_single_quotes s))) ≡ None)
text_by true u s is = plain_text s is
text_by false true s is = (quoted_scalar (in_double_quotes s) s refl (whole_double s), quoted_no_key (in_double_quotes s) s refl (whole_double s))
text_by false false s is = (quoted_scalar (in_single_quotes s) s refl (whole_single s), quoted_no_key (in_single_quotes s) s refl (whole_single s))

-- a printed text is read as that text, and as no key
pub printed_text : (s : List ℕ) → (scalar Block (printed s) ≡ Ok (text s, [])) × (key Block (printed s) ≡ None)
unfolding printed
printed_text s = text_by (is_plain s) (list_any is_control s) s refl
