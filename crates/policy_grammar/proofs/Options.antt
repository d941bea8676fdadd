-- What is said of a value, if there is one.
use Rattle.std.proofs.Common.{◌≡◌, Bool, true, false, cond, refl, subst, Option, Some, None, option_map, option_and_then, IfSome}

-- a test decides whether there is one
pub if_test : {X : Type 0} (b : Bool) (o : Option X) (P : X → Type 0) → (b ≡ true → IfSome o P) → IfSome (cond b o None) P
if_test true o P h = h refl
if_test false o P h = tt

-- the next depends on the first
pub if_then : {X Y : Type 0} (f : X → Option Y) (o : Option X) (P : X → Type 0) (Q : Y → Type 0) → IfSome o P → ((x : X) → P x → IfSome (f x) Q) → IfSome (option_and_then f o) Q
if_then f None P Q h next = tt
if_then f (Some x) P Q h next = next x h

-- something is made of it
pub if_mapped : {X Y : Type 0} (f : X → Y) (o : Option X) (P : X → Type 0) (Q : Y → Type 0) → IfSome o P → ((x : X) → P x → Q (f x)) → IfSome (option_map f o) Q
if_mapped f None P Q h made = tt
if_mapped f (Some x) P Q h made = made x h

-- a wider thing is said of it
pub if_such : {X : Type 0} (o : Option X) (P Q : X → Type 0) → IfSome o P → ((x : X) → P x → Q x) → IfSome o Q
if_such None P Q h made = tt
if_such (Some x) P Q h made = made x h

-- it is this one
pub of_some : {X : Type 0} (o : Option X) (x : X) (P : X → Type 0) → IfSome o P → o ≡ Some x → P x
of_some o x P h e = subst (λ u. IfSome u P) e h

-- there is none, since none is such
pub none_if : {X : Type 0} (o : Option X) (P : X → Type 0) → IfSome o P → ((x : X) → P x → ⊥) → o ≡ None
none_if None P h never = refl
none_if (Some x) P h never = absurd (never x h)
