-- Names that are done, one after the other.
use Rattle.std.proofs.Common.{◌≡◌, ◌∙◌, ℕ, ◌+◌, ◌<◌, ◌≤◌, Bool, true, false, ◌||◌, List, ap, take, get_or, length, refl, sym, subst}
use Rattle.std.specs.Bool.{OnFalse}
use Rattle.std.proofs.lemmas.List.{take_all}
use Rattle.std.proofs.lemmas.List.Folds.{list_any_more}
use Rattle.net_model.specs.Name.{same_bytes}
use Rattle.net_model.specs.Words.{is_among}
use Rattle.net_model.proofs.lemmas.Found.{one_name}
use Rattle.net_model.specs.Links.{find_link}
use Rattle.net_model.specs.Lists.{NetData}
use Rattle.link_planner.specs.Depths.{IsBaseFirst}
use Rattle.link_planner.specs.Growing.{OfBase}
use Rattle.link_planner.specs.Kept.{EachOf}

-- what holds of the first names and of the next holds of one more
pub one_more_done : (P Q : List ℕ → Type 0) (names : List (List ℕ)) (i : ℕ) (name : List ℕ) → i < length names → name ≡ get_or names i name
    → ((n : List ℕ) → P n → Q n) → Q name → EachOf (take i names) P → EachOf (take (i + 1) names) Q
one_more_done P Q names i name within is still here before n among =
    let more : (is_among (take i names) n || same_bytes (get_or names i name) n) ≡ true = sym (list_any_more (λ m. same_bytes m n) names i name within) ∙ among in
    elim (is_among (take i names) n) as (λ b. is_among (take i names) n ≡ b → (b || same_bytes (get_or names i name) n) ≡ true → Q n) [
      | true ↦ λ e _. still n (before n e)
      | false ↦ λ _ e. subst Q (is ∙ one_name (get_or names i name) n e) here
    ] refl more

-- what holds of all the first names holds of all
pub all_done : (P : List ℕ → Type 0) (names : List (List ℕ)) (i : ℕ) → length names ≤ i → EachOf (take i names) P → EachOf names P
all_done P names i end done n among = done n (ap (λ ns. is_among ns n) (take_all i names end) ∙ among)

-- what a test that fails shows, and what follows from that
pub if_off : {A B : Type 0} (b : Bool) → (A → B) → OnFalse b A → OnFalse b B
if_off true then h = tt
if_off false then h = then h

-- where bases come first, what holds of the names before the next holds of its base
pub done_base : (P : List ℕ → Type 0) (target : NetData) (names : List (List ℕ)) (i : ℕ) (name : List ℕ) → IsBaseFirst target.links names → i < length names → name ≡ get_or names i name → EachOf (take i names) P → OfBase target P name
done_base P target names i name order within is done t base id proto at kind =
    done base (order.before i name t base id proto within (ap (λ m. find_link m target.links) (sym is) ∙ at) kind)
