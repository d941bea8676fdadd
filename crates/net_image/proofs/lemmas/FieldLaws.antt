-- The forms of fields are exact.
use Rattle.std.proofs.Common.{◌≡◌, ◌⊎◌, inl, inr, ℕ, zero, suc, ◌≤◌, ◌%◌, Bool, true, false, not, cond, eqb, leb, ◌||◌, List, [], ◌∷◌, length, Option, Some, None, refl, sym, ap, ◌∙◌, arith}
use Rattle.std.specs.Option.{option_map_or, is_some}
use Rattle.std.proofs.lemmas.Bool.{and_parts, eqb-true, leb-true, or_cases}
use Rattle.net_model.specs.Address.{Address, Block, address, block, block_size}
use Rattle.net_model.specs.Domain.{is_domain}
use Rattle.net_model.specs.Name.{is_name}
use Rattle.net_model.specs.Words.{bool_eq}
use Rattle.net_model.specs.declared.mac.Mac.{Mac}
use Rattle.net_image.specs.Form.{Form, ◌⨾◌, byte, run, never, such_that, variant, number, some, none}
use Rattle.net_image.specs.Fields.{up_to, flag, text, name, name_in, name_held, maybe_name, domain, mac, table, family_number, family, address_of, address_behind, address_form, gateway_number, gateway, is_prefix, prefix, subnet, maybe_subnet}
use Rattle.net_image.specs.Laws.{IsExact}
use Rattle.net_image.proofs.lemmas.Exact.{byte_exact, run_exact, never_exact, such_that_exact, made_exact, variant_exact, seq_exact, tagged_exact, some_exact, none_exact}
use Rattle.net_image.proofs.lemmas.Numbers.{number_exact}

-- ---- a choice of forms

-- a choice of two exact forms is exact
pub if_exact : {X : Type 0} (b : Bool) (f g : Form X) → IsExact f → IsExact g → IsExact (cond b f g)
if_exact true f g f_exact g_exact = f_exact
if_exact false f g f_exact g_exact = g_exact

-- a value that has bytes has them by the one or by the other
pub fits_either : {X : Type 0} (b : Bool) (f g : Form X) (x : X) → (cond b f g).fits x ≡ true → ((b ≡ true) × (f.fits x ≡ true)) ⊎ ((b ≡ false) × (g.fits x ≡ true))
fits_either true f g x fits = inl (refl, fits)
fits_either false f g x fits = inr (refl, fits)

-- behind a number that was tested
pub told : {X : Type 0} (n m : ℕ) (tag : X → ℕ) (f g : Form X) (x : X) → (cond (eqb n m) f g).fits x ≡ true
    → (f.fits x ≡ true → tag x ≡ m) → (g.fits x ≡ true → tag x ≡ n) → tag x ≡ n
told n m tag f g x fits first others = elim (fits_either (eqb n m) f g x fits) [
  | inl h ↦ first h.1 ∙ sym (eqb-true n m h.0)
  | inr h ↦ others h.1
]

-- behind a number that was tested stands the variant of that number, which what is held tells
pub variant_told : {X Y : Type 0} (n m : ℕ) (tag : X → ℕ) (to : Y → X) (held : X → Option Y) (form : Form Y) (g : Form X) (x : X)
    → ((x : X) (y : Y) → held x ≡ Some y → to y ≡ x) → ((y : Y) → tag (to y) ≡ m)
    → (cond (eqb n m) (variant to held form) g).fits x ≡ true → (g.fits x ≡ true → tag x ≡ n) → tag x ≡ n
variant_told {Y = Y} n m tag to held form g x there numbered fits others = told n m tag (variant to held form) g x fits (λ h. by (held x) refl h) others
  where
    by : (o : Option Y) → held x ≡ o → option_map_or form.fits o false ≡ true → tag x ≡ m
    by None is h = absurd cc
    by (Some y) is h = ap tag (sym (there x y is)) ∙ numbered y

-- ---- numbers and texts

-- a byte up to a bound is exact
pub up_to_exact : (most : ℕ) → IsExact (up_to most)
up_to_exact most = such_that_exact (λ n. leb n most) byte byte_exact

flag_there : (b : Bool) → eqb (cond b 1 0) 1 ≡ b
flag_there true = refl
flag_there false = refl

flag_back : (n : ℕ) → n ≤ 1 → cond (eqb n 1) 1 0 ≡ n
flag_back zero le = refl
flag_back (suc zero) le = refl
flag_back (suc (suc n)) le = absurd (omega arith)

-- the form of a flag is exact
pub flag_exact : IsExact flag
unfolding flag
flag_exact = made_exact (λ n. eqb n 1) (λ b. cond b 1 0) (up_to 1) (up_to_exact 1) (λ b fits. flag_there b) (λ n fits. flag_back n (leb-true n 1 (and_parts _ _ fits).0))

pub text_exact : IsExact text
unfolding text
text_exact = tagged_exact length byte run byte_exact run_exact (λ n bytes fits. eqb-true _ _ (and_parts _ _ fits).0)

-- the form of a name is exact
pub name_exact : IsExact name
unfolding name
name_exact = such_that_exact is_name text text_exact

name_there : (x : Option (List ℕ)) (y : List ℕ) → name_held x ≡ Some y → name_in y ≡ x
name_there None [] is = refl
name_there None (c ∷ y) is = absurd cc
name_there (Some []) y is = absurd cc
name_there (Some (b ∷ bytes)) [] is = absurd cc
name_there (Some (b ∷ bytes)) (c ∷ y) is = sym is

name_back : (y : List ℕ) → name_held (name_in y) ≡ Some y
name_back [] = refl
name_back (b ∷ bytes) = refl

-- the form of a name that may be missing is exact
pub maybe_name_exact : IsExact maybe_name
unfolding maybe_name
maybe_name_exact = such_that_exact (λ n. option_map_or is_name n true) (variant name_in name_held text) (variant_exact name_in name_held text text_exact name_there (λ y fits. name_back y))

-- the form of a domain is exact
pub domain_exact : IsExact domain
unfolding domain
domain_exact = such_that_exact is_domain text text_exact

-- the form of a MAC address is exact
pub mac_exact : IsExact mac
unfolding mac
mac_exact = made_exact (λ bytes. record { bytes = bytes }) (λ (m : Mac). m.bytes) (run 6) (run_exact 6) (λ m fits. refl) (λ bytes fits. refl)

-- the form of a table is exact
pub table_exact : IsExact table
unfolding table
table_exact = such_that_exact (λ n. not (eqb n 0)) (number 4) (number_exact 4)

-- ---- addresses

four_or_six : (n : ℕ) → (eqb n 4 || eqb n 6) ≡ true → family_number (eqb n 6) ≡ n
four_or_six n either = elim (or_cases (eqb n 4) (eqb n 6) either) [
  | inl h ↦ let is = eqb-true n 4 h in rw is refl
  | inr h ↦ let is = eqb-true n 6 h in rw is refl
]

family_there : (v6 : Bool) → eqb (family_number v6) 6 ≡ v6
family_there true = refl
family_there false = refl

-- the form of a family is exact
pub family_exact : IsExact family
unfolding family
family_exact = made_exact (λ n. eqb n 6) family_number (such_that (λ n. eqb n 4 || eqb n 6) byte) (such_that_exact (λ n. eqb n 4 || eqb n 6) byte byte_exact)
    (λ v6 fits. family_there v6) (λ n fits. four_or_six n (and_parts _ _ fits).0)

held_bits : (v6 w : Bool) (bits y : ℕ) → cond (bool_eq w v6) (Some bits) None ≡ Some y → address v6 y ≡ address w bits
held_bits true true bits y is = ap (address true) cc
held_bits true false bits y is = absurd cc
held_bits false true bits y is = absurd cc
held_bits false false bits y is = ap (address false) cc

own_family : (v6 : Bool) (bits : ℕ) → cond (bool_eq v6 v6) (Some bits) None ≡ Some bits
own_family true bits = refl
own_family false bits = refl

pub address_of_exact : (v6 : Bool) → IsExact (address_of v6)
address_of_exact v6 = variant_exact (address v6) (λ a. cond (bool_eq a.v6 v6) (Some a.bits) None) (number (cond v6 16 4)) (number_exact (cond v6 16 4))
    (λ a y is. held_bits v6 a.v6 a.bits y is) (λ y fits. own_family v6 y)

pub address_behind_exact : (n : ℕ) → IsExact (address_behind n)
address_behind_exact n = if_exact (eqb n 4) _ _ (address_of_exact false) (if_exact (eqb n 6) _ _ (address_of_exact true) never_exact)

same_family : (v6 w : Bool) (bits : ℕ) (fits : ℕ → Bool) → option_map_or fits (cond (bool_eq w v6) (Some bits) None) false ≡ true → w ≡ v6
same_family true true bits fits is = refl
same_family true false bits fits is = absurd cc
same_family false true bits fits is = absurd cc
same_family false false bits fits is = refl

pub family_told : (n : ℕ) (a : Address) → (address_behind n).fits a ≡ true → family_number a.v6 ≡ n
family_told n a fits = told n 4 (λ a. family_number a.v6) (address_of false) (cond (eqb n 6) (address_of true) never) a fits
    (λ h. ap family_number (same_family false a.v6 a.bits (number 4).fits h))
    (λ others. told n 6 (λ a. family_number a.v6) (address_of true) never a others (λ h. ap family_number (same_family true a.v6 a.bits (number 16).fits h)) (λ h. absurd cc))

-- the form of an address is exact
pub address_exact : IsExact address_form
unfolding address_form
address_exact = tagged_exact (λ a. family_number a.v6) byte address_behind byte_exact address_behind_exact family_told

gateway_told : (n : ℕ) (g : Option Address) → (cond (eqb n 0) none (some (address_behind n))).fits g ≡ true → gateway_number g ≡ n
gateway_told n None fits = told n 0 gateway_number none (some (address_behind n)) None fits (λ h. refl) (λ h. absurd cc)
gateway_told n (Some a) fits = told n 0 gateway_number none (some (address_behind n)) (Some a) fits (λ h. absurd cc) (λ h. family_told n a h)

-- the form of a gateway is exact
pub gateway_exact : IsExact gateway
unfolding gateway
gateway_exact = tagged_exact gateway_number byte (λ n. cond (eqb n 0) none (some (address_behind n))) byte_exact
    (λ n. if_exact (eqb n 0) _ _ none_exact (some_exact (address_behind n) (address_behind_exact n))) gateway_told

-- ---- prefixes and subnets

-- the form of a prefix is exact
pub prefix_exact : IsExact prefix
unfolding prefix
prefix_exact = such_that_exact is_prefix _ (made_exact (λ p. block p.0 p.1) (λ b. (b.addr, b.len)) (address_form ⨾ byte) (seq_exact address_form byte address_exact byte_exact) (λ b fits. refl) (λ p fits. refl))

-- the form of a subnet is exact
pub subnet_exact : IsExact subnet
unfolding subnet
subnet_exact = such_that_exact (λ b. eqb (b.addr.bits % block_size b) 0) prefix prefix_exact

there_told : (is_there : Bool) (o : Option Block) → (cond is_there (some subnet) none).fits o ≡ true → is_some o ≡ is_there
there_told true None fits = absurd cc
there_told true (Some b) fits = refl
there_told false None fits = refl
there_told false (Some b) fits = absurd cc

-- the form of a subnet that may be missing is exact
pub maybe_subnet_exact : IsExact maybe_subnet
unfolding maybe_subnet
maybe_subnet_exact = tagged_exact is_some flag (λ is_there. cond is_there (some subnet) none) flag_exact (λ is_there. if_exact is_there _ _ (some_exact subnet subnet_exact) none_exact) there_told
