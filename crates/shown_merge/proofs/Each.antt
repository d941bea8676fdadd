-- What holds of each member of a list.
use Rattle.std.proofs.Common.{◌≡◌, Bool, true, false, cond, List, [], ◌∷◌, map, filter, Some, None, refl, ap, ◌∙◌}
use Rattle.std.specs.List.{list_any, list_all, find}
use Rattle.std.proofs.lemmas.Cmp.{nat_list_eq_equiv}
use Rattle.net_model.specs.Links.{find_link, same_name}
use Rattle.net_model.specs.Valid.{names_differ}
use Rattle.net_model.specs.declared.Link.{Link}
use Rattle.net_model.proofs.lemmas.Truth.{and_left, and_right, or_left_false, or_right_false}
use Rattle.net_model.proofs.lemmas.Found.{itself}
use Rattle.shown_merge.proofs.Searches.{or_false, apart_head, apart_tail}

abbrev pub Each : {X : Type 0} → (X → Type 0) → List X → Type 0
Each P [] = Unit {0}
Each P (x ∷ xs) = P x × Each P xs

pub each_weaker : {X : Type 0} (P Q : X → Type 0) → ((x : X) → P x → Q x) → (xs : List X) → Each P xs → Each Q xs
each_weaker P Q less [] h = tt
each_weaker P Q less (x ∷ xs) h = (less x h.0, each_weaker P Q less xs h.1)

-- two functions that agree on each member map the list alike
pub map_each : {X Y : Type 0} (f g : X → Y) (xs : List X) → Each (λ x. f x ≡ g x) xs → map f xs ≡ map g xs
map_each f g [] h = refl
map_each f g (x ∷ xs) h = ap (λ y. y ∷ map f xs) h.0 ∙ ap (λ ys. g x ∷ ys) (map_each f g xs h.1)

pub map_map : {X Y Z : Type 0} (f : Y → Z) (g : X → Y) (xs : List X) → map f (map g xs) ≡ map (λ x. f (g x)) xs
map_map f g [] = refl
map_map f g (x ∷ xs) = ap (λ ys. f (g x) ∷ ys) (map_map f g xs)

-- and what is the same of each stays the same list
pub map_same : {X : Type 0} (f : X → X) (xs : List X) → Each (λ x. f x ≡ x) xs → map f xs ≡ xs
map_same f [] h = refl
map_same f (x ∷ xs) h = ap (λ y. y ∷ map f xs) h.0 ∙ ap (λ ys. x ∷ ys) (map_same f xs h.1)

pub any_of_none : {X : Type 0} (p : X → Bool) (xs : List X) → Each (λ x. p x ≡ false) xs → list_any p xs ≡ false
any_of_none p [] h = refl
any_of_none p (x ∷ xs) h = or_false (p x) (list_any p xs) h.0 (any_of_none p xs h.1)

pub none_found : {X : Type 0} (p : X → Bool) (xs : List X) → Each (λ x. p x ≡ false) xs → find p xs ≡ None
none_found p [] h = refl
none_found p (x ∷ xs) h = ap (λ b. cond b (Some x) (find p xs)) h.0 ∙ none_found p xs h.1

pub none_left : {X : Type 0} (p : X → Bool) (xs : List X) → Each (λ x. p x ≡ false) xs → filter p xs ≡ []
none_left p [] h = refl
none_left p (x ∷ xs) h = ap (λ b. cond b (x ∷ filter p xs) (filter p xs)) h.0 ∙ none_left p xs h.1

-- what a map makes of each
pub each_map : {X Y : Type 0} (f : X → Y) (P : Y → Type 0) (xs : List X) → Each (λ x. P (f x)) xs → Each P (map f xs)
each_map f P [] h = tt
each_map f P (x ∷ xs) h = (h.0, each_map f P xs h.1)

pub each_of : {X : Type 0} (P : X → Type 0) → ((x : X) → P x) → (xs : List X) → Each P xs
each_of P h [] = tt
each_of P h (x ∷ xs) = (h x, each_of P h xs)

pub each_all : {X : Type 0} (p : X → Bool) (xs : List X) → list_all p xs ≡ true → Each (λ x. p x ≡ true) xs
each_all p [] h = tt
each_all p (x ∷ xs) h = (and_left (p x) (list_all p xs) h, each_all p xs (and_right (p x) (list_all p xs) h))

pub each_two : {X : Type 0} (P Q R : X → Type 0) → ((x : X) → P x → Q x → R x) → (xs : List X) → Each P xs → Each Q xs → Each R xs
each_two P Q R both [] h k = tt
each_two P Q R both (x ∷ xs) h k = (both x h.0 k.0, each_two P Q R both xs h.1 k.1)

-- the link is found by its name
abbrev pub IsFound : List Link → Link → Type 0
IsFound links l = find_link l.name links ≡ Some l

below : (x : Link) (all xs : List Link) → list_any (same_name x) xs ≡ false → Each (IsFound all) xs → Each (IsFound (x ∷ all)) xs
below x all [] h k = tt
below x all (l ∷ ls) h k = (
  ap (λ b. cond b (Some x) (find_link l.name all)) (nat_list_eq_equiv.symm x.name l.name ∙ or_left_false (same_name x l) (list_any (same_name x) ls) h) ∙ k.0,
  below x all ls (or_right_false (same_name x l) (list_any (same_name x) ls) h) k.1,
)

-- where names differ, each is
pub each_found : (links : List Link) → names_differ links ≡ true → Each (IsFound links) links
each_found [] h = tt
each_found (l ∷ ls) h = (
  ap (λ b. cond b (Some l) (find_link l.name ls)) (itself l.name),
  below l ls ls (apart_head same_name l ls h) (each_found ls (apart_tail same_name l ls h)),
)
