-- Paths are read as their keys.
use Rattle.std.proofs.Common.{◌≡◌, ◌∙◌, ℕ, Bool, true, false, not, cond, eqb, List, [], ◌∷◌, ◌++◌, Some, None, refl, ap}
use Rattle.std.specs.List.{list_all}
use Rattle.std.proofs.lemmas.Bool.{and_parts, or_left, not-true, true≢false}
use Rattle.yaml_plain.specs.Bytes.{space, is_empty}
use Rattle.policy_model.specs.Keys.{Text, is_key_byte, is_key, dot, dotted}
use Rattle.policy_model.specs.Grammar.{IsPath}
use Rattle.policy_model.specs.Reading.{between, if_keys, path_of, is_path_byte}
use Rattle.policy_grammar.proofs.Bytes.{apart, all_wider, all_append}
use Rattle.policy_grammar.proofs.Spaces.{ends_bare, IsBare}
use Rattle.policy_grammar.proofs.Parts.{cons_some}
use Rattle.policy_grammar.proofs.Runs.{runs_plain, part_ends, part_cut}

key_bytes : (k : Text) → is_key k ≡ true → list_all is_key_byte k ≡ true
key_bytes k is = (and_parts (not (is_empty k)) (list_all is_key_byte k) is).1

key_filled : (k : Text) → is_key k ≡ true → is_empty k ≡ false
key_filled k is = not-true (is_empty k) (and_parts (not (is_empty k)) (list_all is_key_byte k) is).0

-- the keys of a path are its parts
path_parts : (keys : List Text) → IsPath keys → between dot false (dotted keys) ≡ keys
path_parts [] h = absurd (h.0 refl)
path_parts (k ∷ []) h = part_ends dot k (runs_plain is_key_byte dot refl refl k (key_bytes k (and_parts (is_key k) true h.1).0))
path_parts (k ∷ l ∷ ks) h =
    let both = and_parts (is_key k) (list_all is_key (l ∷ ks)) h.1 in
    part_cut dot k (dotted (l ∷ ks)) (runs_plain is_key_byte dot refl refl k (key_bytes k both.0)) ∙ ap (λ (ps : List Text). k ∷ ps) (path_parts (l ∷ ks) (cons_some l ks, both.1))

-- a path is read as its keys
pub path_complete : (keys : List Text) → IsPath keys → path_of (dotted keys) ≡ Some keys
path_complete keys h = ap if_keys (path_parts keys h) ∙ ap (λ (v : Bool). cond v (Some keys) None) h.1

-- ---- the bytes of a path

path_byte : (b : ℕ) → is_key_byte b ≡ true → is_path_byte b ≡ true
path_byte b is = or_left (is_key_byte b) (eqb b dot) is

pub dotted_bytes : (keys : List Text) → list_all is_key keys ≡ true → list_all is_path_byte (dotted keys) ≡ true
dotted_bytes [] all = refl
dotted_bytes (k ∷ []) all = all_wider is_key_byte is_path_byte path_byte k (key_bytes k (and_parts (is_key k) true all).0)
dotted_bytes (k ∷ l ∷ ks) all =
    let both = and_parts (is_key k) (list_all is_key (l ∷ ks)) all in
    all_append is_path_byte k (dot ∷ dotted (l ∷ ks)) (all_wider is_key_byte is_path_byte path_byte k (key_bytes k both.0)) (dotted_bytes (l ∷ ks) both.1)

filled_append : (x y : Text) → is_empty x ≡ false → is_empty (x ++ y) ≡ false
filled_append [] y filled = absurd (true≢false filled)
filled_append (b ∷ bs) y filled = refl

dotted_filled : (keys : List Text) → IsPath keys → is_empty (dotted keys) ≡ false
dotted_filled [] h = absurd (h.0 refl)
dotted_filled (k ∷ []) h = key_filled k (and_parts (is_key k) true h.1).0
dotted_filled (k ∷ l ∷ ks) h = filled_append k (dot ∷ dotted (l ∷ ks)) (key_filled k (and_parts (is_key k) (list_all is_key (l ∷ ks)) h.1).0)

-- ---- texts of bytes that are no spaces

ends_from : (test : ℕ → Bool) → test space ≡ false → (t : Text) → list_all test t ≡ true → ends_bare t ≡ true
ends_from test other [] all = refl
ends_from test other (b ∷ []) all = ap not (apart test b space (and_parts (test b) true all).0 other)
ends_from test other (b ∷ c ∷ cs) all = ends_from test other (c ∷ cs) (and_parts (test b) (list_all test (c ∷ cs)) all).1

-- a text of such bytes neither begins nor ends with one
pub bare_from : (test : ℕ → Bool) → test space ≡ false → (t : Text) → is_empty t ≡ false → list_all test t ≡ true → IsBare t
bare_from test other [] filled all = absurd (true≢false filled)
bare_from test other (b ∷ bs) filled all = (apart test b space (and_parts (test b) (list_all test bs) all).0 other, (refl, ends_from test other (b ∷ bs) all))

pub path_bare : (keys : List Text) → IsPath keys → IsBare (dotted keys)
path_bare keys h = bare_from is_path_byte refl (dotted keys) (dotted_filled keys h) (dotted_bytes keys h.1)
