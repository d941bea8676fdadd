-- The first place of what passes, one more at a time, and what stands there.
use Rattle.std.proofs.Common.{◌≡◌, ℕ, ◌+◌, ◌<◌, Bool, true, false, cond, List, [], length, get_or, take, Option, Some, None, if◌then◌else◌, nat_lt, refl, sym, ap, ◌∙◌}
use Rattle.std.specs.List.{find, position, position_or_len}
use Rattle.std.specs.Option.{option_or, option_map_or, unwrap_or}
use Rattle.std.proofs.lemmas.List.Quantifiers.{position-Some}
use Rattle.std.proofs.lemmas.List.Folds.{find_at}
use Rattle.std.proofs.lemmas.Option.{slice_get_past}
use Rattle.net_model.specs.Name.{same_bytes}
use Rattle.net_model.specs.Words.{is_among}
use Rattle.merge_model.specs.Members.{Member}
use Rattle.merge_model.specs.Controllers.{stated_ports, lists}
use Rattle.link_order.proofs.lemmas.More.{take_one, any_more}
use Rattle.link_order.proofs.lemmas.Placed.{find_first, past}
use Rattle.link_order.proofs.lemmas.Positions.{position_more}

-- before any name is noted
pub none_noted : (o : Option ℕ) → o ≡ option_or o None
none_noted None = refl
none_noted (Some n) = refl

joined : (o : Option ℕ) (a b : Bool) (at : ℕ) → option_or (option_or o (if a then Some at else None)) (if b then Some at else None) ≡ option_or o (if cond b true a then Some at else None)
joined None true true at = refl
joined None true false at = refl
joined None false true at = refl
joined None false false at = refl
joined (Some n) a b at = refl

-- one name more
pub one_noted : (names : List (List ℕ)) (i : ℕ) (name : List ℕ) → i < length names → name ≡ get_or names i name → (at : ℕ) (q : List ℕ) (old now : Option ℕ) → now ≡ option_or old (if is_among (take i names) q then Some at else None)
    → option_or now (if same_bytes name q then Some at else None) ≡ option_or old (if is_among (take (i + 1) names) q then Some at else None)
one_noted names i name lt is at q old now e =
    ap (λ o. option_or o (if same_bytes name q then Some at else None)) e
    ∙ joined old (is_among (take i names) q) (same_bytes name q) at
    ∙ ap (λ b. option_or old (if b then Some at else None)) (sym (ap (λ ns. is_among ns q) (take_one names i name lt is) ∙ any_more (λ n. same_bytes n q) (take i names) name))

-- what is stated lists the name
pub listed : (o : Option (List (List ℕ))) (q : List ℕ) → is_among (unwrap_or o []) q ≡ option_map_or (λ ports. is_among ports q) o false
listed None q = refl
listed (Some ports) q = refl

-- one link more
pub one_lister : (ms : List Member) (i : ℕ) (m : Member) → i < length ms → m ≡ get_or ms i m → (ports : List (List ℕ)) → ports ≡ unwrap_or (stated_ports m) [] → (q : List ℕ) (old new : Option ℕ)
    → old ≡ position (λ c. lists c q) (take i ms) → new ≡ option_or old (if is_among ports q then Some i else None) → new ≡ position (λ c. lists c q) (take (i + 1) ms)
one_lister ms i m lt is ports are q old new before more =
    more
    ∙ ap (λ o. option_or o (if is_among ports q then Some i else None)) before
    ∙ ap (λ b. option_or (position (λ c. lists c q) (take i ms)) (if b then Some i else None)) (ap (λ ns. is_among ns q) are ∙ listed (stated_ports m) q)
    ∙ sym (position_more (λ c. lists c q) ms i m lt is)

-- the first that passes stands at its place
pub at_place : {X : Type 0} (p : X → Bool) (xs : List X) (i : ℕ) (x : X) → position p xs ≡ Some i → x ≡ get_or xs i x → Some x ≡ find p xs
at_place p xs i x at is =
    let s = position-Some p xs i x at in
    ap Some is ∙ sym (find_first p xs i x s.0 s.1 s.2)

-- and where none has a place, none passes
pub no_place : {X : Type 0} (p : X → Bool) (xs : List X) → position p xs ≡ None → None ≡ find p xs
no_place p xs = elim (nat_lt (position_or_len p xs) (length xs)) as (λ v. nat_lt (position_or_len p xs) (length xs) ≡ v → cond v (Some (position_or_len p xs)) None ≡ None → None ≡ find p xs) [
  | true ↦ λ e h. absurd cc
  | false ↦ λ e h. sym (find_at p xs ∙ slice_get_past xs (position_or_len p xs) (past (position_or_len p xs) (length xs) e))
] refl
