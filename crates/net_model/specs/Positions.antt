-- Where something stands in a strictly sorted list, and where it belongs.
use Rattle.std.specs.Prelude.{◌≡◌, ℕ, ◌<◌, ◌≤◌, Bool, true, false, not, if◌then◌else◌, List, length, map, filter, Option, Some, None, find, slice_index_or, slice_set, insert, remove}
use Rattle.std.specs.List.{list_any}
use Rattle.std.specs.declared.cmp.Ordering.{Ordering}
use Rattle.net_model.specs.Words.{put}
use Rattle.net_model.specs.Order.{link_cmp}
use Rattle.net_model.specs.Links.{is_named, find_link}
use Rattle.net_model.specs.declared.link.Link.{Link}
use Rattle.net_model.specs.declared.position.Position.{Position}
use Rattle.net_model.specs.declared.position.Position.TheVariants.{At, Gap}

-- what is the same as x stands there and nowhere else
pub record Stands {X : Type 0} (E : X → X → Bool) (x : X) (xs : List X) (i : ℕ) : Type 0 where
  pub inside : i < length xs
  pub same : (d : X) → E x (slice_index_or xs i d) ≡ true
  pub found : (d : X) → find (E x) xs ≡ Some (slice_index_or xs i d)
  pub only : (k : ℕ) (d : X) → k < length xs → E x (slice_index_or xs k d) ≡ true → k ≡ i
  pub removes : (p : X → Bool) → ((y : X) → p y ≡ true → E x y ≡ true) → ((d : X) → p (slice_index_or xs i d) ≡ true) → remove xs i ≡ filter (λ y. not (p y)) xs

-- nothing is the same as x, which belongs there
pub record IsGap {X : Type 0} (E : X → X → Bool) (R : X → X → Ordering) (x : X) (xs : List X) (i : ℕ) : Type 0 where
  pub inside : i ≤ length xs
  pub none : list_any (E x) xs ≡ false
  pub puts : insert xs i x ≡ put R x xs

abbrev pub Located : {X : Type 0} → (X → X → Bool) → (X → X → Ordering) → Position → X → List X → Type 0
Located E R (At i) x xs = Stands E x xs i
Located E R (Gap i) x xs = IsGap E R x xs i

-- the link of the name stands there: to change or remove it there changes or removes it by name
pub record IsAt (name : List ℕ) (links : List Link) (i : ℕ) : Type 0 where
  pub inside : i < length links
  pub named : (d : Link) → is_named name (slice_index_or links i d) ≡ true
  pub found : (d : Link) → find_link name links ≡ Some (slice_index_or links i d)
  pub edits : (change : Link → Link) (d : Link) → slice_set links i (change (slice_index_or links i d)) ≡ map (λ l. if is_named name l then change l else l) links
  pub removes : remove links i ≡ filter (λ l. not (is_named name l)) links

-- no link has the name, and one that gets it belongs there
pub record IsLinkGap (name : List ℕ) (links : List Link) (i : ℕ) : Type 0 where
  pub inside : i ≤ length links
  pub none : find_link name links ≡ None
  pub puts : (l : Link) → l.name ≡ name → insert links i l ≡ put link_cmp l links

abbrev pub LinkPosition : Position → List ℕ → List Link → Type 0
LinkPosition (At i) name links = IsAt name links i
LinkPosition (Gap i) name links = IsLinkGap name links i

-- the place of the link of this name, or none where no link has it
abbrev pub Places : Option ℕ → List ℕ → List Link → Type 0
Places (Some i) name links = IsAt name links i
Places None name links = find_link name links ≡ None
