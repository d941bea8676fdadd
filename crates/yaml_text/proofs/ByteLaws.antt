-- Bytes of one kind are none of another.
use Rattle.std.proofs.Common.{◌≡◌, ◌∙◌, ℕ, List, [], ◌∷◌, Bool, true, false, eqb, refl, sym, ap}
use Rattle.std.specs.Prelude.{◌||◌, codes}
use Rattle.std.specs.List.{list_any}
use Rattle.std.specs.Char.{is_ascii_alphanumeric}
use Rattle.std.proofs.lemmas.Bool.{ne_eqb, both_ways, or_parts, or_from, and_left}
use Rattle.yaml_plain.specs.Bytes.{begins, begins_with}
use Rattle.yaml_plain.specs.Plain.{begins_plain}
use Rattle.yaml_read.specs.Quoted.{begins_quoted}
use Rattle.yaml_read.specs.Keys.{begins_other}
use Rattle.yaml_plain.specs.declared.style.Style.TheVariants.{Block}

-- what a printed key begins with
abbrev pub starts_key : ℕ → Bool
starts_key b = is_ascii_alphanumeric b || list_any (λ c. eqb c b) (codes "\"'")

pub apart : (p : ℕ → Bool) (b k : ℕ) → p b ≡ true → p k ≡ false → eqb b k ≡ false
apart p b k is other = ne_eqb b k (λ e. both_ways (p k) other (sym (ap p e) ∙ is))

pub apart_from : (p : ℕ → Bool) (b k : ℕ) → p b ≡ true → p k ≡ false → eqb k b ≡ false
apart_from p b k is other = ne_eqb k b (λ e. both_ways (p k) other (ap p e ∙ is))

pub none_of : (p : ℕ → Bool) (b : ℕ) (ks : List ℕ) → p b ≡ true → list_any p ks ≡ false → list_any (λ c. eqb c b) ks ≡ false
none_of p b [] is none = refl
none_of p b (k ∷ ks) is none =
    let both = or_parts (p k) (list_any p ks) none in
    or_from (eqb k b) (list_any (λ c. eqb c b) ks) (apart_from p b k is both.0) (none_of p b ks is both.1)

pub none_before : (p : ℕ → Bool) (b : ℕ) (ks : List ℕ) → p b ≡ true → list_any p ks ≡ false → list_any (λ c. eqb b c) ks ≡ false
none_before p b [] is none = refl
none_before p b (k ∷ ks) is none =
    let both = or_parts (p k) (list_any p ks) none in
    or_from (eqb b k) (list_any (λ c. eqb b c) ks) (apart p b k is both.0) (none_before p b ks is both.1)

-- nothing that lies outside the subset begins with such a byte
pub no_other : (p : ℕ → Bool) (b : ℕ) (bs : List ℕ) → p b ≡ true → list_any p (codes "&*!|>") ≡ false → p 63 ≡ false → begins_other (b ∷ bs) ≡ false
unfolding begins_other
no_other p b bs is none question =
    or_from (list_any (λ c. begins c (b ∷ bs)) (codes "&*!|>")) (begins_with (codes "? ") (b ∷ bs)) (none_before p b (codes "&*!|>") is none)
    (and_left (eqb b 63) (begins_with (codes " ") bs) (apart p b 63 is question))

-- a plain scalar begins with such a byte, and no quoted one does
pub begins_plainly : (p : ℕ → Bool) (b : ℕ) (bs : List ℕ) → p b ≡ true → list_any p (codes "[]{},#&*!|>'\"%@`") ≡ false → p 45 ≡ false → p 63 ≡ false → p 58 ≡ false → begins_plain Block (b ∷ bs) ≡ true
begins_plainly p b bs is none dash question colon =
    rw (none_of p b (codes "[]{},#&*!|>'\"%@`") is none, apart p b 45 is dash, apart p b 63 is question, apart p b 58 is colon) refl

pub no_quote : (p : ℕ → Bool) (b : ℕ) (bs : List ℕ) → p b ≡ true → p 34 ≡ false → p 39 ≡ false → begins_quoted (b ∷ bs) ≡ false
no_quote p b bs is double single = rw (apart p b 34 is double, apart p b 39 is single) refl
