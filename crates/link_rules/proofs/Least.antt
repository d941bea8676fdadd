-- The least name of those that pass, one link more from the end.
use Rattle.std.proofs.Common.{◌≡◌, ℕ, ◌+◌, ◌<◌, Bool, true, false, List, ◌∷◌, length, get_or, drop, filter, Option, Some, None, if◌then◌else◌, refl, ap, ◌∙◌, add-one}
use Rattle.std.specs.Option.{option_map, option_or, option_and_then}
use Rattle.std.specs.Ordering.{is_lt}
use Rattle.std.proofs.Math.Seq.{drop-cons}
use Rattle.net_model.specs.Order.{link_cmp}
use Rattle.net_model.specs.declared.Link.{Link}
use Rattle.document_model.specs.declared.Place.TheVariants.{Link as AtLink}
use Rattle.merge_model.specs.Places.{at_link, lesser, least_name}
use Rattle.link_rules.specs.Rules.{least_of}

least_cons : (x : Link) (o : Option Link) → Some (least_of x.name (option_map (λ (l : Link). l.name) o)) ≡ option_map (λ (l : Link). l.name) (option_or (option_and_then (lesser x) o) (Some x))
least_cons x None = refl
least_cons x (Some m) = elim (is_lt (link_cmp m x)) as (λ v. Some (if v then m.name else x.name) ≡ option_map (λ (l : Link). l.name) (option_or (if v then Some m else None) (Some x))) [
  | true ↦ refl
  | false ↦ refl
]

-- one link more
pub least_step : (p : Link → Bool) (xs : List Link) (i : ℕ) (x : Link) (on : Bool) (name : List ℕ) (least : Option (List ℕ)) → i < length xs → x ≡ get_or xs i x → on ≡ p x → name ≡ x.name → least ≡ option_map (λ (l : Link). l.name) (least_name (filter p (drop (i + 1) xs))) → (if on then Some (least_of name least) else least) ≡ option_map (λ (l : Link). l.name) (least_name (filter p (drop i xs)))
least_step p xs i x on name least lt is here named so =
    rw (here, named, so) (step (drop (i + 1) xs) ∙ ap (λ ys. option_map (λ (l : Link). l.name) (least_name (filter p ys))) dropped)
  where
    dropped : x ∷ drop (i + 1) xs ≡ drop i xs
    dropped = rw (add-one, drop-cons xs i x lt, ← is) refl

    step : (rest : List Link) → (if p x then Some (least_of x.name (option_map (λ (l : Link). l.name) (least_name (filter p rest)))) else option_map (λ (l : Link). l.name) (least_name (filter p rest))) ≡ option_map (λ (l : Link). l.name) (least_name (filter p (x ∷ rest)))
    step rest = elim (p x) as (λ v. p x ≡ v → (if v then Some (least_of x.name (option_map (λ (l : Link). l.name) (least_name (filter p rest)))) else option_map (λ (l : Link). l.name) (least_name (filter p rest))) ≡ option_map (λ (l : Link). l.name) (least_name (filter p (x ∷ rest)))) [
      | true ↦ λ e. rw e (least_cons x (least_name (filter p rest)))
      | false ↦ λ e. rw e refl
    ] refl

-- the place at a link is at its name
pub named : (o : Option Link) → option_map (λ (n : List ℕ). AtLink n) (option_map (λ (l : Link). l.name) o) ≡ at_link o
named None = refl
named (Some l) = refl
