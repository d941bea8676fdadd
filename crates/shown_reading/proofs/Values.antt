-- Values that are read as what they were printed for.
use Rattle.std.proofs.Common.{◌≡◌, ℕ, ◌<◌, ◌≤◌, ◌^◌, Bool, true, List, [], ◌∷◌, Option, Some, Ok, Err, refl, ap, arith}
use Rattle.std.specs.Prelude.{ok_or}
use Rattle.std.proofs.lemmas.Bool.{le-leb}
use Rattle.net_model.specs.Name.{is_name}
use Rattle.net_model.specs.Options.{is_within}
use Rattle.document_model.specs.declared.Claim.TheVariants.{To}
use Rattle.doc_tree.specs.Shape.{Shape, text}
use Rattle.show_core.specs.Fields as show
use Rattle.tree_schema.specs.declared.Reason.{Reason}
use Rattle.tree_schema.specs.declared.Reason.TheVariants.{OutOfRange}
use Rattle.tree_schema.specs.Values.{Looked, formed, name_from, name, passing, number, u32, u32_most, unless_empty, unless_minus_one}
use Rattle.link_schema.specs.Words.{claim_from, claim}

-- a number of the range is read as itself
pub number_reads : (least most n : ℕ) → least ≤ n → n ≤ most → number least most (show.number n) ≡ Ok n
number_reads least most n low high = rw (le-leb least n low, le-leb n most high) refl

-- the same, where a test says that it is of the range
pub number_within : (least most n : ℕ) → is_within least most n ≡ true → number least most (show.number n) ≡ Ok n
number_within least most n h = rw h refl

-- a number below 2 ^ 32
pub u32_reads : (n : ℕ) → n < 2 ^ 32 → u32 (show.number n) ≡ Ok n
u32_reads n h = number_reads 0 u32_most n (omega arith) (omega arith)

-- the same where -1 counts as left out
pub counted_reads : (n : ℕ) → n < 2 ^ 32 → unless_minus_one (show.number n) ≡ Ok (Some n)
counted_reads n h = rw (le-leb 0 n (omega arith), le-leb n u32_most (omega arith)) refl

-- a string of a form is read as what it is the form of
pub formed_reads : {X : Type 0} (form : List ℕ → Option X) (t : List ℕ) (x : X) → form t ≡ Some x → formed form (text t) ≡ Ok x
formed_reads form t x h = ap (λ o. ok_or o OutOfRange) h

-- a value that passes is itself
pub passing_reads : {X : Type 0} (test : X → Bool) (x : X) → test x ≡ true → passing test x ≡ Some x
passing_reads test x h = rw h refl

name_itself : (t : List ℕ) → is_name t ≡ true → name_from t ≡ Some t
name_itself t h = rw h refl

-- the name of a link is read as itself
pub name_reads : (t : List ℕ) → is_name t ≡ true → name (text t) ≡ Ok t
name_reads t h = formed_reads name_from t t (name_itself t h)

claim_itself : (t : List ℕ) → is_name t ≡ true → claim_from t ≡ Some (To t)
claim_itself [] h = absurd cc
claim_itself (b ∷ bs) h = rw (name_itself (b ∷ bs) h) refl

-- as a claim it is read as that of the link
pub claim_reads : (t : List ℕ) → is_name t ≡ true → claim (text t) ≡ Ok (To t)
claim_reads t h = formed_reads claim_from t (To t) (claim_itself t h)

-- a string that is read as a value is read as it also where an empty one, which isn't read as any, counts as left out
pub stated_reads : {X : Type 0} (look : Shape → Looked X) (reason : Reason) (t : List ℕ) (x : X) → look (text []) ≡ Err reason → look (text t) ≡ Ok x → unless_empty look (text t) ≡ Ok (Some x)
stated_reads look reason [] x none h = absurd cc
stated_reads look reason (b ∷ bs) x none h = rw h refl
