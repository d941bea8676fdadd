-- What holds of the value that a reading gives, if it gives one.
use Rattle.std.proofs.Common.{◌≡◌, ℕ, Bool, true, false, List, [], ◌∷◌, Option, Some, None, IfSome, if◌then◌else◌, refl}
use Rattle.std.specs.Prelude.{ℤ, pos, negsuc, Ok, Err, IfOk, ok_or}
use Rattle.std.specs.Option.{option_and_then}
use Rattle.base_model.specs.declared.PathStep.{PathStep}
use Rattle.base_model.specs.declared.PathStep.TheVariants.{Key}
use Rattle.net_model.specs.Options.{is_within}
use Rattle.doc_tree.specs.Shape.{Shape, nothing, truth, whole, text, list, mapping, Pairs, no_pairs, pair}
use Rattle.tree_schema.specs.declared.fault.Reason.{Reason}
use Rattle.tree_schema.specs.declared.fault.Reason.TheVariants.{OutOfRange}
use Rattle.tree_schema.specs.Reading.{Steps, Reading, given, given_over, at_once, below, with_value, after, and_then}
use Rattle.tree_schema.specs.Values.{Looked, and_if, is_null, string_of, formed, passing, integer, in_range, number}
use Rattle.tree_schema.specs.Tables.{Row, Table, read_row, read_other, is_listed, read_key, read_pair, read_pairs, read_map, needed_at, holds_at, read_at}
use Rattle.tree_schema.specs.Faults.{told}

-- this holds of the value, if there is one
abbrev pub OnValue : {X : Type 0} → (X → Type 0) → Reading X → Type 0
OnValue P (Ok (x, notes)) = P x
OnValue P (Err refusal) = Unit {0}

-- ---- values that are looked at as a whole

module _ {X : Type 0} (P : X → Type 0) where
  -- a value that is made of another one
  pub if_some : {A : Type 0} (f : A → Option X) (o : Option A) → ((a : A) → IfSome (f a) P) → IfSome (option_and_then f o) P
  if_some f None goes = tt
  if_some f (Some a) goes = goes a

  -- a value, or a refusal in its place
  pub if_form : (o : Option X) (reason : Reason) → IfSome o P → IfOk (ok_or o reason) P
  if_form None reason p = tt
  if_form (Some x) reason p = p

  -- what is looked at next
  pub if_looked : {A : Type 0} (look : Looked A) (next : A → Looked X) → ((a : A) → IfOk (next a) P) → IfOk (and_if look next) P
  if_looked (Ok a) next goes = goes a
  if_looked (Err reason) next goes = tt

  -- a string of a form
  pub if_formed : (form : List ℕ → Option X) → ((t : List ℕ) → IfSome (form t) P) → (s : Shape) → IfOk (formed form s) P
  if_formed form goes s = if_looked (string_of s) (λ t. ok_or (form t) OutOfRange) (λ t. if_form (form t) OutOfRange (goes t))

-- what passes its test
pub if_passing : {X : Type 0} (test : X → Bool) (x : X) → IfSome (passing test x) (λ y. test y ≡ true)
if_passing test x = by (test x) refl
  where
    by : (b : Bool) → test x ≡ b → IfSome (let o : Option _ = if b then Some x else None in o) (λ y. test y ≡ true)
    by true e = e
    by false e = tt

if_within : (least most : ℕ) (z : ℤ) → IfOk (in_range least most z) (λ n. is_within least most n ≡ true)
if_within least most (pos n) = by (is_within least most n) refl
  where
    by : (b : Bool) → is_within least most n ≡ b → IfOk (let r : Looked ℕ = if b then Ok n else Err OutOfRange in r) (λ m. is_within least most m ≡ true)
    by true e = e
    by false e = tt
if_within least most (negsuc n) = tt

-- a number within its bounds
pub if_number : (least most : ℕ) (s : Shape) → IfOk (number least most s) (λ n. is_within least most n ≡ true)
if_number least most s = if_looked (λ n. is_within least most n ≡ true) (integer s) (in_range least most) (if_within least most)

-- ---- readings

module _ {X : Type 0} (P : X → Type 0) where
  -- a reading after notes
  pub on_after : (notes : List Steps) (reading : Reading X) → OnValue P reading → OnValue P (after notes reading)
  on_after notes (Ok (x, rest)) p = p
  on_after notes (Err refusal) p = tt

  -- a reading one step down
  pub on_below : (step : PathStep) (reading : Reading X) → OnValue P reading → OnValue P (below step reading)
  on_below step (Ok (x, notes)) p = p
  on_below step (Err refusal) p = tt

  -- a value that is looked at as a whole
  pub on_at_once : (look : Looked X) → IfOk look P → OnValue P (at_once look)
  on_at_once (Ok x) p = p
  on_at_once (Err reason) p = tt

  -- what a key has to have
  pub on_needed : (k : List ℕ) (o : Option X) → IfSome o P → OnValue P (needed_at k o)
  on_needed k (Some x) p = p
  on_needed k None p = tt

  -- one of two readings
  pub on_either : (b : Bool) (one other : Reading X) → OnValue P one → OnValue P other → OnValue P (if b then one else other)
  on_either true one other p q = p
  on_either false one other p q = q

  -- what was tested
  pub on_holds : (k : List ℕ) (reason : Reason) (b : Bool) (x : X) → (b ≡ true → P x) → OnValue P (holds_at k reason b x)
  on_holds k reason true x p = p refl
  on_holds k reason false x p = tt

  -- what follows from it
  pub on_weaker : (Q : X → Type 0) → ((x : X) → P x → Q x) → (reading : Reading X) → OnValue P reading → OnValue Q reading
  on_weaker Q less (Ok (x, notes)) p = less x p
  on_weaker Q less (Err refusal) p = tt

  -- under a key that may be left out
  pub on_under : (k : List ℕ) (read : Shape → Reading X) (none : X) → P none → ((s : Shape) → OnValue P (read s)) → (s : Shape) → OnValue P (read_at k read none s)
  on_under k read none p goes s = on_either (is_null s) (given none) (below (Key k) (read s)) p (on_below (Key k) (read s) (goes s))

-- of each value something holds
pub any_value : {X : Type 0} (reading : Reading X) → OnValue (λ x. Unit {0}) reading
any_value (Ok (x, notes)) = tt
any_value (Err refusal) = tt

-- whatever the value
pub on_any : {X Y : Type 0} (Q : Y → Type 0) (f : X → Y) (reading : Reading X) → ((x : X) → Q (f x)) → OnValue Q (with_value f reading)
on_any Q f (Ok (x, notes)) goes = goes x
on_any Q f (Err refusal) goes = tt

module _ {X Y : Type 0} (P : X → Type 0) (Q : Y → Type 0) where
  -- two readings, the second by the value of the first
  pub on_next : (reading : Reading X) (next : X → Reading Y) → OnValue P reading → ((x : X) → P x → OnValue Q (next x)) → OnValue Q (and_then reading next)
  on_next (Ok (x, notes)) next p goes = on_after Q notes (next x) (goes x p)
  on_next (Err refusal) next p goes = tt

  -- a value that is made of the one that was read
  pub on_with : (f : X → Y) (reading : Reading X) → OnValue P reading → ((x : X) → P x → Q (f x)) → OnValue Q (with_value f reading)
  on_with f (Ok (x, notes)) p goes = goes x p
  on_with f (Err refusal) p goes = tt

-- ---- a table whose rows keep what holds of the entry

module _ {E : Type 0} (P : E → Type 0) where
  -- a row keeps it
  abbrev pub Keeps : Row E → Type 0
  Keeps row = (s : Shape) (e : E) → P e → OnValue P (row.read s e)

  -- each row does
  abbrev pub EachKeeps : List (Row E) → Type 0
  EachKeeps [] = Unit {0}
  EachKeeps (row ∷ rows) = Keeps row × EachKeeps rows

  read_keeps : (rows : List (Row E)) (other : Reading E) → EachKeeps rows → OnValue P other → (k : List ℕ) (s : Shape) (e : E) → P e → OnValue P (read_row rows other k s e)
  read_keeps [] other keeps q k s e p = q
  read_keeps (row ∷ rows) other keeps q k s e p = on_either P _ (row.read s e) (read_row rows other k s e) (keeps.0 s e p) (read_keeps rows other keeps.1 q k s e p)

  module _ (t : Table E) (rows : EachKeeps t.keys) (others : (e : E) → P e → OnValue P (t.others e)) where
    other_keeps : (k : List ℕ) (e : E) → P e → OnValue P (read_other t k e)
    other_keeps k e p = on_either P (is_listed t.over k) (given_over e) (t.others e) p (others e p)

    pairs_keep : (e : E) (ps : Pairs) → P e → OnValue P (read_pairs t e ps)
    pairs_keep e no_pairs p = p
    pairs_keep e (pair k s ps) p =
        on_next P P (read_pair t k s e) (λ f. read_pairs t f ps)
        (on_either P (is_null s) (given e) (below (Key k) (read_key t k s e)) p (on_below P (Key k) (read_key t k s e) (read_keeps t.keys (read_other t k e) rows (other_keeps k e p) k s e p)))
        (λ f q. pairs_keep f ps q)

    -- the whole map keeps it
    pub map_keeps : (e : E) (s : Shape) → P e → OnValue P (read_map t e s)
    map_keeps e (mapping ps) p = pairs_keep e ps p
    map_keeps e nothing p = tt
    map_keeps e (truth b) p = tt
    map_keeps e (whole z) p = tt
    map_keeps e (text t) p = tt
    map_keeps e (list ss) p = tt

-- ---- what is answered for it

-- of what is made of the value and its notes, where it holds for each value of which the first holds
pub if_told : {X Y : Type 0} (P : X → Type 0) (Q : Y → Type 0) (make : X → _ → Y) → ((x : X) (notes : _) → P x → Q (make x notes)) → (reading : Reading X) → OnValue P reading → IfOk (told make reading) Q
if_told P Q make goes (Ok (x, notes)) p = goes x _ p
if_told P Q make goes (Err refusal) p = tt
