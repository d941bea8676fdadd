-- The ports of each controller, one more at a time.
use Rattle.std.proofs.Common.{◌≡◌, ℕ, true, false, cond, List, [], ◌∷◌, ◌++◌, Option, Some, None, if◌then◌else◌, refl, sym, ap, ◌∙◌}
use Rattle.std.specs.Option.{unwrap_or}
use Rattle.std.specs.Ordering.{is_eq}
use Rattle.std.proofs.lemmas.List.{append-nil}
use Rattle.net_model.specs.Name.{same_bytes}
use Rattle.net_model.specs.Order.{name_cmp}
use Rattle.net_model.proofs.lemmas.Found.{one_name}
use Rattle.link_order.proofs.lemmas.Positions.{same_as}

-- names under a key that are taken out and put back with one more
pub put_last : (old taken new : List ℕ → Option (List (List ℕ))) (key name : List ℕ) (names : List (List ℕ)) → names ≡ unwrap_or (old key) [] ++ name ∷ [] → ((q : List ℕ) → taken q ≡ cond (is_eq (name_cmp key q)) None (old q)) → ((q : List ℕ) → new q ≡ cond (is_eq (name_cmp key q)) (Some names) (taken q)) → (q : List ℕ) → unwrap_or (new q) [] ≡ unwrap_or (old q) [] ++ (if same_bytes key q then name ∷ [] else [])
put_last old taken new key name names are out in_again q = elim (same_bytes key q) as (λ v. same_bytes key q ≡ v → unwrap_or (new q) [] ≡ unwrap_or (old q) [] ++ (if v then name ∷ [] else [])) [
  | true ↦ λ h.
      let same : is_eq (name_cmp key q) ≡ true = sym (same_as key q) ∙ h in
      let there : new q ≡ Some names = in_again q ∙ rw same refl in
      ap (λ o. unwrap_or o []) there ∙ are ∙ ap (λ k. unwrap_or (old k) [] ++ name ∷ []) (one_name key q h)
  | false ↦ λ h.
      let other : is_eq (name_cmp key q) ≡ false = sym (same_as key q) ∙ h in
      let before : new q ≡ old q = in_again q ∙ rw other (out q ∙ rw other refl) in
      ap (λ o. unwrap_or o []) before ∙ sym (append-nil (unwrap_or (old q) []))
] refl
