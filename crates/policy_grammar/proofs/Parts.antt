-- The parts of a text, joined again.
use Rattle.std.proofs.Common.{◌≡◌, ◌≢◌, ◌∙◌, ℕ, Bool, true, false, not, ◌&&◌, cond, eqb, List, [], ◌∷◌, ◌++◌, refl, sym, ap}
use Rattle.std.specs.List.{join_with_byte}
use Rattle.std.proofs.lemmas.Bool.{eqb-true}
use Rattle.policy_model.specs.Keys.{Text, dot, dotted}
use Rattle.policy_model.specs.Reading.{flips, onto_first, between}

pub cons_some : {X : Type 0} (x : X) (xs : List X) → x ∷ xs ≢ []
cons_some x xs e = absurd cc

onto_some : (b : ℕ) (ps : List Text) → onto_first b ps ≢ []
onto_some b [] = cons_some (b ∷ []) []
onto_some b (p ∷ ps) = cons_some (b ∷ p) ps

cut_some : (v : Bool) (b : ℕ) (ps qs : List Text) → cond v ([] ∷ ps) (onto_first b qs) ≢ []
cut_some true b ps qs = cons_some [] ps
cut_some false b ps qs = onto_some b qs

-- there is a part
pub parts_some : (sign : ℕ) (quoted : Bool) (t : Text) → between sign quoted t ≢ []
parts_some sign quoted [] = cons_some [] []
parts_some sign quoted (b ∷ bs) = cut_some (eqb b sign && not quoted) b (between sign false bs) (between sign (flips b quoted) bs)

joined_on : (sign b : ℕ) (ps : List Text) → join_with_byte sign (onto_first b ps) ≡ b ∷ join_with_byte sign ps
joined_on sign b [] = refl
joined_on sign b (p ∷ []) = refl
joined_on sign b (p ∷ q ∷ qs) = refl

joined_cons : (sign : ℕ) (x : Text) (ps : List Text) → ps ≢ [] → join_with_byte sign (x ∷ ps) ≡ x ++ sign ∷ join_with_byte sign ps
joined_cons sign x [] some = absurd (some refl)
joined_cons sign x (p ∷ ps) some = refl

cut_joins : (sign b : ℕ) (bs : Text) (v quoted : Bool) (ps qs : List Text) → eqb b sign ≡ v → ps ≢ [] → join_with_byte sign ps ≡ bs → join_with_byte sign qs ≡ bs
    → join_with_byte sign (cond (v && not quoted) ([] ∷ ps) (onto_first b qs)) ≡ b ∷ bs
cut_joins sign b bs true true ps qs is some cut uncut = joined_on sign b qs ∙ ap (λ (x : Text). b ∷ x) uncut
cut_joins sign b bs true false ps qs is some cut uncut =
    joined_cons sign [] ps some ∙ ap (λ (x : Text). sign ∷ x) cut ∙ ap (λ (c : ℕ). c ∷ bs) (sym (eqb-true b sign is))
cut_joins sign b bs false quoted ps qs is some cut uncut = joined_on sign b qs ∙ ap (λ (x : Text). b ∷ x) uncut

-- the parts between signs, with the signs between them, are the text
pub parts_join : (sign : ℕ) (quoted : Bool) (t : Text) → join_with_byte sign (between sign quoted t) ≡ t
parts_join sign quoted [] = refl
parts_join sign quoted (b ∷ bs) =
    cut_joins sign b bs (eqb b sign) quoted (between sign false bs) (between sign (flips b quoted) bs) refl
    (parts_some sign false bs) (parts_join sign false bs) (parts_join sign (flips b quoted) bs)

dotted_is : (ks : List Text) → dotted ks ≡ join_with_byte dot ks
dotted_is [] = refl
dotted_is (k ∷ []) = refl
dotted_is (k ∷ l ∷ ks) = ap (λ (x : Text). k ++ dot ∷ x) (dotted_is (l ∷ ks))

-- so it is with dots
pub parts_dotted : (t : Text) → dotted (between dot false t) ≡ t
parts_dotted t = dotted_is (between dot false t) ∙ parts_join dot false t
