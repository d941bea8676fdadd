-- What is found by name among members whose names differ, and among their merged links.
use Rattle.std.proofs.Common.{◌≡◌, ℕ, Bool, true, false, ◌||◌, ◌&&◌, cond, List, [], ◌∷◌, map, Some, refl, sym, ap, ◌∙◌}
use Rattle.std.specs.List.{list_any}
use Rattle.std.specs.Option.{option_map_or}
use Rattle.std.proofs.lemmas.Cmp.{nat_list_eq_equiv}
use Rattle.net_model.specs.Name.{same_bytes}
use Rattle.net_model.specs.Words.{apart}
use Rattle.net_model.specs.Links.{is_named, named_passes}
use Rattle.net_model.specs.declared.Link.{Link}
use Rattle.net_model.proofs.lemmas.Truth.{or_left_false, or_right_false}
use Rattle.net_model.proofs.lemmas.Found.{one_name, itself}
use Rattle.merge_model.specs.Members.{Member, find_member}
use Rattle.merge_laws.proofs.Searches.{any_map, apart_head, apart_tail}
use Rattle.merge_laws.proofs.Each.{Each}
use Rattle.merge_laws.proofs.Members.{same_member}

or_none : (b : Bool) → (b || false) ≡ b
or_none true = refl
or_none false = refl

none_named : (test : Member → Bool) (m : Member) (n : List ℕ) (ms : List Member) → same_bytes m.name n ≡ true → list_any (same_member m) ms ≡ false → list_any (λ q. same_bytes q.name n && test q) ms ≡ false
none_named test m n [] e h = refl
none_named test m n (q ∷ qs) e h =
    let other : same_bytes q.name n ≡ false = ap (same_bytes q.name) (sym (one_name m.name n e)) ∙ nat_list_eq_equiv.symm q.name m.name ∙ or_left_false (same_member m q) (list_any (same_member m) qs) h in
    rw other (none_named test m n qs e (or_right_false (same_member m q) (list_any (same_member m) qs) h))

-- that one of the name passes is that the one found does
pub any_named : (test : Member → Bool) (n : List ℕ) (ms : List Member) → apart same_member ms ≡ true → list_any (λ q. same_bytes q.name n && test q) ms ≡ option_map_or test (find_member n ms) false
any_named test n [] h = refl
any_named test n (m ∷ ms) h = elim (same_bytes m.name n) as (λ v. same_bytes m.name n ≡ v → (v && test m || list_any (λ q. same_bytes q.name n && test q) ms) ≡ option_map_or test (cond v (Some m) (find_member n ms)) false) [
  | true ↦ λ e. rw (none_named test m n ms e (apart_head same_member m ms h)) (or_none (test m))
  | false ↦ λ e. any_named test n ms (apart_tail same_member m ms h)
] refl

-- the same for links made of the members, each with its member's name
pub named_found : (link : Member → Link) → ((m : Member) → (link m).name ≡ m.name) → (test : Link → Bool) (ms : List Member) → apart same_member ms ≡ true → (n : List ℕ) → named_passes test (map link ms) n ≡ option_map_or (λ m. test (link m)) (find_member n ms) false
named_found link named test ms h n =
    any_map link (λ l. is_named n l && test l) ms
    ∙ any_agree ms
    ∙ any_named (λ m. test (link m)) n ms h
  where
    any_agree : (xs : List Member) → list_any (λ m. is_named n (link m) && test (link m)) xs ≡ list_any (λ m. same_bytes m.name n && test (link m)) xs
    any_agree [] = refl
    any_agree (x ∷ xs) = rw (named x, any_agree xs) refl

-- each member is found by its name
found_below : (m : Member) (ms xs : List Member) → list_any (same_member m) xs ≡ false → Each (λ x. find_member x.name ms ≡ Some x) xs → Each (λ x. find_member x.name (m ∷ ms) ≡ Some x) xs
found_below m ms [] h k = tt
found_below m ms (x ∷ xs) h k = (rw (or_left_false (same_member m x) (list_any (same_member m) xs) h) k.0, found_below m ms xs (or_right_false (same_member m x) (list_any (same_member m) xs) h) k.1)

pub each_found : (ms : List Member) → apart same_member ms ≡ true → Each (λ x. find_member x.name ms ≡ Some x) ms
each_found [] h = tt
each_found (m ∷ ms) h = (rw (itself m.name) refl, found_below m ms ms (apart_head same_member m ms h) (each_found ms (apart_tail same_member m ms h)))
